-- Of all calls, a message alone makes changes concern a connection that they did not concern before. It adds an
-- observer at the end of the list, or a pending entry.
use Rattle.std.proofs.Common.{◌≡◌, ◌≢◌, ◌≤◌, ℕ, zero, suc, ◌-◌, Bool, true, false, not, List, [], ◌∷◌, length, filter}
use Rattle.std.proofs.Common.{find, Some, None, refl, arith, map, get_or, ◌<◌, nat_lt, ◌==◌}
use Rattle.std.proofs.lemmas.Bool.{or_parts, cond_both}
use Rattle.std.proofs.lemmas.Grind.{common_steps}
use Rattle.std.proofs.lemmas.List.{length-map}
use Rattle.std.proofs.lemmas.List.Folds.{list_any-append}
use Rattle.std.proofs.lemmas.Option.{gets}
use Rattle.coap_path.specs.ResourceKinds.{kind_of_path, is_dynamic}
use Rattle.coap_conn.specs.Calls.{state_without}
use Rattle.coap_model.proofs.world.SideLaws.{send_pending}
use Rattle.coap_model.proofs.world.RespondedLaws.{request_fewer}
use Rattle.coap_server_session.specs.Prelude.{list_any, Cause, Path, Message, fit, bare_response, LinkValue, limit_in}
use Rattle.coap_server_session.specs.Prelude.{same_bytes, PendingEntryValue, ServerState, with_entry, first_becomes}
use Rattle.coap_server_session.specs.Prelude.{ObserverValue, SessionValue, is_stale, session_with, without_entry}
use Rattle.coap_server_session.specs.Prelude.{new_entry, taking, link_sent, entry_left, notification_on}
use Rattle.coap_server_session.specs.Prelude.{session_notified, session_settled_once, session_settled_within}
use Rattle.coap_server_session.specs.Prelude.{session_settled, settled_pending, session_written, session_ended}
use Rattle.coap_server_session.specs.Prelude.{session_released, session_announced, session_given, path_hash}
use Rattle.coap_server_session.specs.Prelude.{observes_hash, is_time_observer, may_concern, last_hash, AllByRecursion}
use Rattle.coap_server_session.specs.Prelude.{IsTagged, observer_value, IsUnaffected, ConcernsNone, state_in}
use Rattle.coap_server_session.specs.declared.cause.Cause.TheVariants as cause
use Rattle.coap_server_session.specs.declared.observer.Observer.{Observer}
use Rattle.coap_server_session.proofs.values.ChainLemmas.{none_observes}
use Rattle.coap_server_session.proofs.values.EntryLemmas.{read_at}
use Rattle.coap_server_session.proofs.values.TagLemmas.{all_at}
use Rattle.coap_server_session.proofs.values.SettleLemmas.{reply_pending, fewer_pending, once_cases}
use Rattle.coap_server_session.proofs.values.TakenLemmas.{observers_taken}

-- ---- the last observer

pub last_tagged : (xs : List Observer) (x : Observer) (count : ℕ) → count ≡ length xs → 0 < count
    → AllByRecursion IsTagged xs → x ≡ get_or xs (count - 1) x → Some x.hash ≡ last_hash (map observer_value xs)
last_tagged xs x count all some tagged read =
    let within : count - 1 < length xs = omega arith in
    rw (
      length-map xs observer_value,
      ← all,
      read_at observer_value xs (count - 1) x within read,
      (all_at IsTagged xs (count - 1) x tagged within read).hash,
    ) refl

pub none_last : (xs : List Observer) → length xs ≡ 0 → None ≡ last_hash (map observer_value xs)
none_last [] none = refl
none_last (x ∷ xs) none = absurd (omega arith)

-- ---- a change that does not concern a connection

none_pending : (pending : List PendingEntryValue) → nat_lt 0 (length pending) ≡ false → pending ≡ []
none_pending [] none = refl
none_pending (e ∷ pending) none = absurd (grind arith)

pub unconcerned : (why : Cause) (now : ℕ) (s : SessionValue) → may_concern why s ≡ false
    → IsUnaffected why now s × ConcernsNone why s.observers
unconcerned (cause.Path hash) now s none = let each = none_observes hash s.observers none in (each, each)
unconcerned (cause.Moment before) now s none =
    let parts = or_parts (nat_lt 0 (length s.link.pending)) (list_any is_time_observer s.observers) none in
    (rw (none_pending s.link.pending parts.0, parts.1) tt, parts.1)

-- ---- no entry is added

-- A connection has no observer of a path, and no pending entry, unless it had one before.
pub record AddsNone (s t : SessionValue) : Type 0 where
  pub observers : (p : Path → Bool) → list_any (λ o. p o.path) s.observers ≡ false
      → list_any (λ o. p o.path) t.observers ≡ false
  pub pending : length t.link.pending ≤ length s.link.pending

pub still_unconcerned : (why : Cause) (s t : SessionValue) → AddsNone s t → may_concern why s ≡ false
    → may_concern why t ≡ false
still_unconcerned (cause.Path hash) s t adds none = adds.observers (λ path. path_hash path == hash) none
still_unconcerned (cause.Moment before) s t adds none =
    grind (arith, adds.pending, adds.observers (λ path. not (is_dynamic (kind_of_path path))))

pub same_adds : (s : SessionValue) (frame : List ℕ) → AddsNone s (record s { frame = frame })
same_adds s frame = record { observers = λ p none. none; pending = omega arith }

adds_then : (s t u : SessionValue) → AddsNone s t → AddsNone t u → AddsNone s u
adds_then s t u first next = record {
  observers = λ p none. next.observers p (first.observers p none);
  pending = omega (arith, first.pending, next.pending);
}

-- The observers of a connection that is not open are removed.
none_with : (s : SessionValue) (frame : List ℕ) (l : LinkValue) (os : List ObserverValue)
    → ((p : Path → Bool) → list_any (λ o. p o.path) s.observers ≡ false → list_any (λ o. p o.path) os ≡ false)
    → length l.pending ≤ length s.link.pending → AddsNone s (session_with frame l os)
none_with s frame l os none few = record { observers = λ p before. grind (arith, none p before); pending = few }

-- ---- settling

found_none : (p due : ObserverValue → Bool) (os : List ObserverValue) (o : ObserverValue) → find due os ≡ Some o
    → list_any p os ≡ false → p o ≡ false
found_none p due [] o found none = absurd cc
found_none p due (x ∷ os) o found none = grind (arith, found_none p due os o)

none_replaced : (p due : ObserverValue → Bool) (left os : List ObserverValue) → list_any p left ≡ false
    → list_any p os ≡ false → list_any p (first_becomes due left os) ≡ false
unfolding first_becomes
none_replaced p due left [] gone none = refl
none_replaced p due left (o ∷ os) gone none =
    grind (arith, list_any-append p left os, none_replaced p due left os gone)

none_left : (p : ObserverValue → Bool) (shared : ServerState) (o : ObserverValue) (stays : Bool) →
    ((mark : ℕ) → p (record o { mark = mark }) ≡ false) → list_any p (entry_left shared o stays) ≡ false
none_left p shared o stays none = grind (arith, none)

none_notified : (shared : ServerState) (v : SessionValue) (o : ObserverValue) → find (is_stale shared) v.observers
    ≡ Some o
    → AddsNone v (session_notified shared v (Some o))
none_notified shared v o found =
    none_with v v.frame _ _
    (λ p none. none_replaced (λ x. p x.path) (is_stale shared) _ v.observers
    (none_left (λ x. p x.path) shared o _
    (λ mark. found_none (λ x. p x.path) (is_stale shared) v.observers o found none)) none)
    (reply_pending v.link (notification_on shared o))

none_once : (shared : ServerState) (v : SessionValue) → AddsNone v (session_settled_once shared v)
none_once shared v =
    once_cases shared v (AddsNone v)
    (λ e found. let fewer = fewer_pending v.link shared.now e found in
    none_with v v.frame (link_sent v.link shared.now e) v.observers (λ p none. none) (omega (arith, fewer)))
    (none_notified shared v) (λ _. same_adds v v.frame)

none_within : (turns : ℕ) (shared : ServerState) (v : SessionValue) → AddsNone v (session_settled_within turns shared v)
unfolding session_settled_within
none_within zero shared v = same_adds v v.frame
none_within (suc turns) shared v =
    adds_then v (session_settled_once shared v) _ (none_once shared v)
    (none_within turns shared (session_settled_once shared v))

pub settled_adds : (shared : ServerState) (v : SessionValue) → AddsNone v (session_settled shared v)
unfolding session_settled
settled_adds shared v = none_within _ shared v

pub pending_adds : (shared : ServerState) (v : SessionValue) → AddsNone v (settled_pending shared v)
pending_adds shared v =
    cond_both _ v (session_settled shared v) (AddsNone v) (λ _. same_adds v v.frame) (λ _. settled_adds shared v)

-- ---- other calls, after which the connection settles

pub adds_settled : (shared : ServerState) (v t : SessionValue) → AddsNone v t → AddsNone v (session_settled shared t)
adds_settled shared v t adds = adds_then v t _ adds (settled_adds shared t)

pub written_adds : (n : ℕ) (v : SessionValue) → AddsNone v (session_written v n)
written_adds n v = record { observers = λ p none. none; pending = omega arith }

pub ended_adds : (v : SessionValue) → AddsNone v (session_ended v)
ended_adds v = none_with v v.frame _ v.observers (λ p none. none) (grind arith)

pub released_adds : (v : SessionValue) → AddsNone v (session_released v)
released_adds v = none_with v v.frame _ v.observers (λ p none. none) (grind arith)

pub announced_adds : (size : ℕ) (v : SessionValue) → AddsNone v (session_announced v size)
announced_adds size v = none_with v v.frame _ v.observers (λ p none. none) (grind arith)

pub given_adds : (m : Message) (v : SessionValue) → AddsNone v (session_given v m)
given_adds m v =
    none_with v v.frame _ v.observers (λ p none. none) (grind (
      arith,
      send_pending (state_without m.token (state_in v.link)) m (bare_response m)
          (fit (limit_in v.link) m (bare_response m)),
      request_fewer v.link m,
    ))

-- ---- a message

-- A connection has no observer of a path that it did not have before, but the last one.
abbrev pub AddsLast : SessionValue → SessionValue → Type 0
AddsLast s t =
    (hash : ℕ) → list_any (observes_hash hash) s.observers ≡ false → last_hash t.observers ≢ Some hash
    → list_any (observes_hash hash) t.observers ≡ false

none_filtered : (p keeps : ObserverValue → Bool) (os : List ObserverValue) → list_any p os ≡ false
    → list_any p (filter keeps os) ≡ false
none_filtered p keeps [] none = refl
none_filtered p keeps (o ∷ os) none = grind (arith, none_filtered p keeps os)

last_entered : (hash : ℕ) (enters : Bool) (os : List ObserverValue) (o : ObserverValue)
    → list_any (observes_hash hash) os ≡ false → last_hash (with_entry enters os o) ≢ Some hash
    → list_any (observes_hash hash) (with_entry enters os o) ≡ false
last_entered hash false os o none other = none
last_entered hash true os o none other =
    rw (list_any-append, none) (grind (arith, common_steps, gets))

pub taking_adds_last : (shared : ServerState) (v : SessionValue) (piece : List ℕ)
    → AddsLast v (taking shared v piece).session
unfolding without_entry
taking_adds_last shared v piece hash none =
    observers_taken (λ os. last_hash os ≢ Some hash → list_any (observes_hash hash) os ≡ false) shared v (λ _. refl)
    (λ _. none)
    (λ m enters _. last_entered hash enters _ (new_entry shared m)
    (none_filtered (observes_hash hash) (λ o. not (same_bytes o.token m.token)) v.observers none)) piece
