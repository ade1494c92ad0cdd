-- Defined by this project: the connections and observers that a change may affect, and the changed marks after it.
use Rattle.std.specs.Prelude.{◌≡◌, ◌≢◌, ℕ, ◌+◌, ◌-◌, ◌*◌, ◌%◌, Bool, ◌||◌, false, List, [], ◌∷◌, length, map, nat_le}
use Rattle.std.specs.Prelude.{nat_lt, slice_get, Option, Some, None, option_map, ◌==◌, if◌then◌else◌}
use Rattle.std.specs.List.{AllByRecursion, list_any}
use Rattle.coap_path.specs.Paths.{Path}
use Rattle.coap_store.specs.Answer.{Change, Nothing, Put, Delete}
use Rattle.coap_server_session.specs.declared.server_state.ServerState.{ServerState}
use Rattle.coap_server_session.specs.declared.cause.Cause.{Cause}
use Rattle.coap_server_session.specs.declared.cause.Cause.TheVariants as cause
use Rattle.coap_server_session.specs.values.Sessions.{ObserverValue, SessionValue, MarkedSession, changed_mark}
use Rattle.coap_server_session.specs.values.Deadlines.{IsBefore, due_on, is_time_observer}

-- ---- the hash of a path, below 256

-- The hash of bytes appended to bytes with the hash `hash`.
abbrev pub hash_after : ℕ → List ℕ → ℕ
hash_after hash [] = hash
hash_after hash (b ∷ bs) = hash_after ((hash * 31 + b) % 256) bs

-- The hash of segments appended to segments with the hash `hash`.
abbrev pub segments_hash : ℕ → Path → ℕ
segments_hash hash [] = hash
segments_hash hash (s ∷ ss) = segments_hash (hash_after hash s) ss

abbrev pub path_hash : Path → ℕ
path_hash path = segments_hash 0 path

-- The hash of the path at which a change stores or deletes a resource, if it does.
abbrev pub change_hash : Change → Option ℕ
change_hash Nothing = None
change_hash (Put path format bytes) = Some (path_hash path)
change_hash (Delete path) = Some (path_hash path)

-- ---- the effect of a change

-- `true` if an observer observes a path with this hash.
abbrev pub observes_hash : ℕ → ObserverValue → Bool
observes_hash hash o = path_hash o.path == hash

-- Holds if no observer observes a path with this hash.
abbrev pub ObservesNone : ℕ → List ObserverValue → Type 0
ObservesNone hash observers = AllByRecursion (λ o. path_hash o.path ≢ hash) observers

-- `true` if there is a deadline and it is not after `now`.
abbrev pub has_come : ℕ → Option ℕ → Bool
has_come now None = false
has_come now (Some due) = nat_le due now

-- `true` if a change may make something due on a connection at the time `now`. A change of a path may do so if an
-- observer's path has its hash. A change of the time may do so if an observer observes the time, or if something became
-- due after the previous time.
abbrev pub may_touch : Cause → ℕ → SessionValue → Bool
may_touch (cause.Path hash) now s = list_any (observes_hash hash) s.observers
may_touch (cause.Moment before) now s = list_any is_time_observer s.observers || has_come now (due_on before s)

-- `true` if a change may make something due on a connection at some time. A change of the time may do so if an entry is
-- pending or an observer observes the time.
abbrev pub may_concern : Cause → SessionValue → Bool
may_concern (cause.Path hash) s = list_any (observes_hash hash) s.observers
may_concern (cause.Moment before) s = nat_lt 0 (length s.link.pending) || list_any is_time_observer s.observers

-- The hash of the path of the last observer, if there is one.
abbrev pub last_hash : List ObserverValue → Option ℕ
last_hash observers = option_map (λ o. path_hash o.path) (slice_get observers (length observers - 1))

-- Holds if a change cannot affect a connection. For a path, no observer's path has its hash. For the time, nothing
-- became due after the previous time, up to `now`.
abbrev pub IsUnaffected : Cause → ℕ → SessionValue → Type 0
IsUnaffected (cause.Path hash) now s = ObservesNone hash s.observers
IsUnaffected (cause.Moment before) now s = IsBefore now (due_on before s)

-- ---- the marks after a change

-- `true` if a change may have made this observer stale.
abbrev pub is_concerned : Cause → ObserverValue → Bool
is_concerned (cause.Path hash) o = path_hash o.path == hash
is_concerned (cause.Moment before) o = is_time_observer o

-- Holds if a change cannot have made any of the observers stale.
abbrev pub ConcernsNone : Cause → List ObserverValue → Type 0
ConcernsNone (cause.Path hash) observers = ObservesNone hash observers
ConcernsNone (cause.Moment before) observers = list_any is_time_observer observers ≡ false

-- The changed mark of an observer after a change: recomputed if the change may affect it, otherwise `mark`.
abbrev pub mark_anew : Cause → ServerState → ObserverValue → Option ℕ → Option ℕ
mark_anew why shared o mark = if is_concerned why o then changed_mark shared o else mark

-- The changed marks of observers after a change, of which those are recomputed that the change may affect.
unfoldable pub marks_anew : Cause → ServerState → List ObserverValue → List (Option ℕ) → List (Option ℕ)
marks_anew why shared [] marks = marks
marks_anew why shared (o ∷ os) [] = []
marks_anew why shared (o ∷ os) (mark ∷ marks) = mark_anew why shared o mark ∷ marks_anew why shared os marks

-- The changed marks after a change of a path with this hash, or unchanged if there was none.
abbrev pub marks_after : Option ℕ → ServerState → List ObserverValue → List (Option ℕ) → List (Option ℕ)
marks_after None shared observers marks = marks
marks_after (Some hash) shared observers marks = marks_anew (cause.Path hash) shared observers marks

-- Holds if all changed marks are current after those are recomputed that the change may affect.
abbrev pub IsMarkedBut : Cause → ServerState → MarkedSession → Type 0
IsMarkedBut why shared s = marks_anew why shared s.session.observers s.marks
    ≡ map (changed_mark shared) s.session.observers
