-- Defined by this project: the connections of a server that a change cannot affect, and the changed marks of all of
-- them.
use Rattle.std.specs.Prelude.{◌≡◌, ◌≤◌, ◌<◌, slice_get, ℕ, List, Option, Some, None}
use Rattle.std.specs.List.{AllByRecursion}
use Rattle.std.specs.Map.{values_of}
use Rattle.coap_server_session.specs.declared.server_state.ServerState.{ServerState}
use Rattle.coap_server_session.specs.declared.cause.Cause.{Cause}
use Rattle.coap_server_session.specs.declared.cause.Cause.TheVariants as cause
use Rattle.coap_server_session.specs.values.Sessions.{SessionValue, MarkedSession, IsSettled}
use Rattle.coap_server_session.specs.values.Causes.{IsUnaffected, ConcernsNone, IsMarkedBut}
use Rattle.coap_server_engine.specs.values.Servers.{changed_at, AreAllMarked}

-- Holds if every connection that a change cannot affect is settled.
abbrev pub UnaffectedAreSettled : Cause → ServerState → List (ℕ × SessionValue) → Type 0
UnaffectedAreSettled why shared sessions =
    AllByRecursion (λ e. IsUnaffected why shared.now e.1 → IsSettled shared e.1) sessions

-- The same for a change of a path with this hash, if there was any, after the connection at an index is settled too.
abbrev pub AreOthersSettled : Option ℕ → ℕ → ServerState → List (ℕ × SessionValue) → Type 0
AreOthersSettled None at shared sessions = Unit {0}
AreOthersSettled (Some hash) at shared sessions =
    (s : SessionValue) → IsSettled shared s
    → UnaffectedAreSettled (cause.Path hash) shared (changed_at at (λ _. s) sessions)

-- Holds if a change affects no connection from the index `from` up to, but not including, `to`.
abbrev pub AreUntouched : Cause → ℕ → ℕ → ℕ → List (ℕ × MarkedSession) → Type 0
AreUntouched why now from to sessions =
    (i : ℕ) (s : MarkedSession) → from ≤ i → i < to → slice_get (values_of sessions) i ≡ Some s
    → IsUnaffected why now s.session × ConcernsNone why s.session.observers

-- Holds if all changed marks are current after those are recomputed that a change may affect.
abbrev pub AreMarkedBut : Cause → ServerState → List (ℕ × MarkedSession) → Type 0
AreMarkedBut why shared sessions = AllByRecursion (λ e. IsMarkedBut why shared e.1) sessions

-- The same for a change of a path with this hash, or for current marks if there was none.
abbrev pub AreMarkedAfter : Option ℕ → ServerState → List (ℕ × MarkedSession) → Type 0
AreMarkedAfter None shared sessions = AreAllMarked shared sessions
AreMarkedAfter (Some hash) shared sessions = AreMarkedBut (cause.Path hash) shared sessions
