-- Defined by this project: the activity of connections, which of them a sweep releases or drops, and the effect of a
-- sweep.
use Rattle.std.specs.Prelude.{ℕ, ◌≡◌, take, drop, ◌+◌, ◌-◌, List, [], ◌∷◌, ◌++◌, Option, Some, None, map, nat_eq}
use Rattle.std.specs.Prelude.{nat_lt, nat_le, ◌==◌, ◌&&◌, if◌then◌else◌}
use Rattle.coap_conn.specs.Phases.{is_waiting}
use Rattle.coap_server_engine.specs.Prelude.{ReleaseFault, Released, released_refusal, status_of, ServerValue}
use Rattle.coap_server_engine.specs.Prelude.{server_released, server_dropped}
use Rattle.coap_model.specs.declared.answers.Status.{Status}
use Rattle.coap_serve.specs.declared.door.silence.Activity.{Activity}
use Rattle.coap_serve.specs.declared.door.silence.SilenceAction.{SilenceAction}
use Rattle.coap_serve.specs.declared.door.silence.SilenceAction.TheVariants.{Keep, Release, Drop}
use Rattle.coap_serve.specs.declared.door.peer.Peer.{Peer}
use Rattle.coap_io.specs.streams.DeviceTraces.{Closed, DoorCall}
use Rattle.coap_serve.specs.listener.Histories.{History, IsAccepted, history_then, no_history, one_call, one_drop}
use Rattle.coap_serve.specs.listener.Serving.{LoopState}

-- ---- the rule

-- The action for a connection that the server has not released. The connection is dropped if its peer has sent no CSM
-- for more than 10 seconds after it was opened. It is released if no byte was transferred for more than `idle` seconds,
-- it has no observer, and nothing is pending on it.
abbrev pub quiet_action : (idle now : ℕ) → Status → Activity → SilenceAction
quiet_action idle now s a =
    if is_waiting s.phase && nat_lt 10 (now - a.opened) then Drop
    else (if (s.observers == 0) && (s.pending == 0) && nat_lt idle (now - a.moved) then Release else Keep)

-- The action for a connection, by the time at which the server released it, if it did. A released connection is dropped
-- in the fourth second after that second.
abbrev pub action_for : (idle now : ℕ) → Status → Activity → Option ℕ → SilenceAction
action_for idle now s a None = quiet_action idle now s a
action_for idle now s a (Some since) = if nat_le 4 (now - since) then Drop else Keep

-- The action for a connection with this status and these times.
abbrev pub silence_action : (idle now : ℕ) → Option Status → Activity → SilenceAction
silence_action idle now None a = Keep
silence_action idle now (Some s) a = action_for idle now s a a.released

-- ---- a sweep

-- The effect of a sweep: the server and the entries after it, and its history. The exchanges are the ends of the
-- connections that the sweep drops.
pub record Sweep (W : Type 0) : Type 0 where
  pub server : ServerValue
  pub entries : List (ℕ × Peer W)
  pub history : History W

-- No sweep was made.
abbrev pub unswept : {W : Type 0} → ServerValue → List (ℕ × Peer W) → Sweep W
unswept v es = record { server = v; entries = es; history = no_history }

-- A connection was dropped.
abbrev pub drop_one : {W : Type 0} → ServerValue → ℕ × Peer W → Sweep W
drop_one v e = record { server = server_dropped v e.0; entries = []; history = one_drop e.0 e.1.wire }

-- The call of a listener that gets back this wire, if there is one.
abbrev pub given_back : {W : Type 0} → Option W → List (DoorCall W)
given_back None = []
given_back (Some wire) = Closed wire ∷ []

-- The transport side of a connection that the server releases at this time.
abbrev pub released_at : {W : Type 0} → (now : ℕ) → Peer W → Peer W
released_at now p = record p { activity = record p.activity { released = Some now } }

-- The entries after the connection with this number was released, if it has an entry.
abbrev pub released_on : {W : Type 0} → (now : ℕ) → ℕ → List (ℕ × Peer W) → List (ℕ × Peer W)
released_on now id es = map (λ e. if nat_eq id e.0 then (e.0, released_at now e.1) else e) es

-- A connection was released, and the time was recorded.
abbrev pub release_one : {W : Type 0} (now : ℕ) → ServerValue → ℕ × Peer W → Sweep W
release_one now v e = record {
  server = server_released v e.0;
  entries = (e.0, released_at now e.1) ∷ [];
  history = one_call (Released e.0);
}

-- The effect of an action. If `release` is refused, the connection is dropped.
abbrev pub acted : {W : Type 0} → SilenceAction → Option ReleaseFault → (now : ℕ) → ServerValue → ℕ × Peer W → Sweep W
acted Keep refusal now v e = unswept v (e ∷ [])
acted Release None now v e = release_one now v e
acted Release (Some fault) now v e = drop_one v e
acted Drop refusal now v e = drop_one v e

-- The effect of a sweep on one connection.
abbrev pub swept_one : {W : Type 0} (idle now : ℕ) → ServerValue → ℕ × Peer W → Sweep W
swept_one idle now v e = acted (silence_action idle now (status_of v e.0) e.1.activity) (released_refusal v e.0) now v e

-- One effect after another.
abbrev pub swept_both : {W : Type 0} → Sweep W → Sweep W → Sweep W
swept_both s t =
    record { server = t.server; entries = s.entries ++ t.entries; history = history_then s.history t.history }

-- The effect of a sweep on these connections, in order.
unfoldable pub swept : {W : Type 0} (idle now : ℕ) → ServerValue → List (ℕ × Peer W) → Sweep W
swept idle now v [] = unswept v []
swept idle now v (e ∷ es) = swept_both (swept_one idle now v e) (swept idle now (swept_one idle now v e).server es)

-- The sweep at the time `second`, if there is a limit and the last sweep was at another time.
abbrev pub due_sweep : {W : Type 0} (idle : Option ℕ) (last second : ℕ) → ServerValue → List (ℕ × Peer W) → Sweep W
due_sweep None last second v es = unswept v es
due_sweep (Some idle) last second v es = if second == last then unswept v es else swept idle second v es

-- A sweep had this effect on the server. `Known` holds of its history.
pub record HasSwept {W : Type 0} (Known : History W → Type 0) (s : Sweep W) (v after : ServerValue) : Type 0 where
  pub server : after ≡ s.server
  pub accepted : IsAccepted Known v after s.history

-- The connection at an index was swept, and the sweep continues at the index `at`. The others are unchanged.
pub record HasSweptAt {W : Type 0} (Known : History W → Type 0) (s : Sweep W) (before : LoopState W) (i : ℕ)
    (after : LoopState W) (at : ℕ) : Type 0 where
  pub has : HasSwept Known s before.server after.server
  pub front : take at after.entries ≡ take i before.entries ++ s.entries
  pub back : drop at after.entries ≡ drop (i + 1) before.entries
