-- The history that a server shows after the calls of a script's events.
use Rattle.std.proofs.Common.{[], ◌≡◌, ℕ, false, List, ◌∷◌, ◌++◌, Option, None, Result, Ok, Err, refl, append_assoc}
use Rattle.std.proofs.Common.{zero, suc, drop, arith}
use Rattle.std.proofs.lemmas.List.{append-nil}
use Rattle.std.proofs.lemmas.Bool.{cond_both}
use Rattle.coap_server_engine.specs.Prelude.{IsErr, AllocError, ScriptEventValue, event_ran, replayed, InResult, unfed}
use Rattle.coap_server_engine.specs.Prelude.{fed_more, fed_turns, events_ran, ShowsMore, IsPartlyMade, ShowsPart}
use Rattle.coap_server_engine.specs.Prelude.{ShowsRun, took_turns, ServerValue, session_of, is_there, server_taken}
use Rattle.coap_server_engine.specs.Prelude.{count_taken, AcceptedCall}
use Rattle.coap_server_engine.specs.values.InResults.{goes_on}

-- ---- servers

-- An unchanged server shows nothing more.
pub shows_same : (v after : ServerValue) → after ≡ v → ShowsMore v after []
shows_same v after is before shows = rw (is, append-nil) shows

-- Two changes, one after the other.
pub shows_then : (u v w : ServerValue) (es fs : List AcceptedCall) → ShowsMore u v es → ShowsMore v w fs
    → ShowsMore u w (es ++ fs)
shows_then u v w es fs first second before shows =
    rw (← append_assoc before es fs) (second (before ++ es) (first before shows))

-- A take does not change the configuration.
pub config_stays : (v : ServerValue) (id : ℕ) (piece : List ℕ) → (server_taken v id piece).config ≡ v.config
unfolding server_taken
config_stays v id piece = grind arith

-- ---- one call

-- The connection does not exist.
pub absent_is_none : {A : Type 0} (o : Option A) → is_there o ≡ false → o ≡ None
absent_is_none o there = grind arith

-- ---- events

-- Events after others run on the server after these.
pub events_ran_on : (v : ServerValue) (es fs : List ScriptEventValue)
    → events_ran v (es ++ fs) ≡ events_ran v es ++ events_ran (replayed v es).server fs
unfolding events_ran replayed
events_ran_on v [] fs = refl
events_ran_on v (e ∷ es) fs = rw (events_ran_on (event_ran v e).server es fs, append_assoc)

-- Allocation failed for an event that makes no calls then.
pub nothing_made : (v : ServerValue) (e : ScriptEventValue) (after : ServerValue) → after ≡ v
    → IsPartlyMade v e after [] → ShowsPart v e after
nothing_made v e after is part = record { more = []; part = part; shows = shows_same v after is }

pub run_refused : {T : Type 0} (v : ServerValue) (e : ScriptEventValue) (after : ServerValue) (r : Result T AllocError)
    → IsErr r → ShowsPart v e after → ShowsRun v e after r
run_refused v e after (Ok line) is part = absurd cc
run_refused v e after (Err fault) is part = part

-- ---- consecutive takes

-- A property of the value before all takes holds after each, if each take keeps it.
pub turns_keep : (P : InResult → Type 0) (id : ℕ) (bytes : List ℕ)
    → ((f : InResult) → P f → P (fed_more id (drop f.count bytes) f))
    → (v : ServerValue) → P (unfed v) → (turns : ℕ) → P (fed_turns turns v id bytes)
unfolding fed_turns
turns_keep P id bytes next v first zero = first
turns_keep P id bytes next v first (suc turns) =
    let before = turns_keep P id bytes next v first turns in
    cond_both _ _ _ P (λ goes. next _ before) (λ over. before)

-- No take accepts a byte or changes the server.
pub record IsStuck (v : ServerValue) (id : ℕ) : Type 0 where
  pub none : (bytes : List ℕ) → count_taken v id bytes ≡ 0
  pub stays : (bytes : List ℕ) → server_taken v id bytes ≡ v

pub absent_stuck : (v : ServerValue) (id : ℕ) → session_of id v.sessions ≡ None → IsStuck v id
unfolding count_taken server_taken
absent_stuck v id none = record { none = λ bytes. rw none; stays = λ bytes. rw none }

pub record IsAt (v : ServerValue) (f : InResult) : Type 0 where
  pub server : f.server ≡ v
  pub count : f.count ≡ 0

pub stuck_turns : (v : ServerValue) (id : ℕ) → IsStuck v id → (bytes : List ℕ) (turns : ℕ)
    → IsAt v (fed_turns turns v id bytes)
stuck_turns v id stuck bytes turns =
    turns_keep (IsAt v) id bytes (λ f is. record {
      server = cc (is.server, stuck.stays (drop f.count bytes));
      count = cc (is.server, is.count, stuck.none (drop f.count bytes));
    })
    v (record { server = refl; count = refl }) turns

-- No connection has this id.
pub none_taken_there : (v : ServerValue) (id : ℕ) → is_there (session_of id v.sessions) ≡ false
    → (bytes : List ℕ) (turns : ℕ) → took_turns turns v id bytes ≡ []
unfolding took_turns
none_taken_there v id none bytes zero = refl
none_taken_there v id none bytes (suc turns) =
    let f : InResult = fed_turns turns v id bytes in
    let absent = absent_is_none (session_of id v.sessions) none in
    let same = (stuck_turns v id (absent_stuck v id absent) bytes turns).server in
    rw (none_taken_there v id none bytes turns)
    (cond_both (goes_on bytes f) _ _ (λ es. es ≡ []) (λ goes. rw (same, absent)) (λ over. refl))
