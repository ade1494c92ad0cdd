-- Defined by this project: scripts that differ only in how the input of a connection is divided into `in` events.
use Rattle.std.specs.Prelude.{◌≡◌, ◌<◌, ◌^◌, ℕ, Bool, true, false, not, List, [], ◌∷◌, ◌++◌, filter, ◌==◌}
use Rattle.std.specs.Prelude.{if◌then◌else◌}
use Rattle.std.specs.List.{AllByRecursion}
use Rattle.coap_script.specs.script.Events.{ScriptEventValue, In, Tick}
use Rattle.coap_server_engine.specs.script.Replay.{event_ran}
use Rattle.coap_server_engine.specs.values.Servers.{ServerValue}

-- The events after an `in` is put before others. If the first of these is an `in` of the same connection, the two are
-- joined.
unfoldable pub in_before : ℕ → List ℕ → List ScriptEventValue → List ScriptEventValue
in_before id bytes (In other more ∷ es) =
    if other == id then In id (bytes ++ more) ∷ es else In id bytes ∷ In other more ∷ es
in_before id bytes es = In id bytes ∷ es

-- The events with all consecutive `in`s of a connection joined into one.
unfoldable pub joined : List ScriptEventValue → List ScriptEventValue
joined [] = []
joined (In id bytes ∷ es) = in_before id bytes (joined es)
joined (e ∷ es) = e ∷ joined es

-- Holds if two scripts pass the same bytes to the same connections between the same other events, in the same order.
abbrev pub DifferInCuts : List ScriptEventValue → List ScriptEventValue → Type 0
DifferInCuts es fs = joined es ≡ joined fs

-- `true` if an event is an `in`.
abbrev pub is_in : ScriptEventValue → Bool
is_in (In id bytes) = true
is_in e = false

-- Each event with the line that it writes.
unfoldable pub lines_of : ServerValue → List ScriptEventValue → List (ScriptEventValue × List ℕ)
lines_of v [] = []
lines_of v (e ∷ es) = (e, (event_ran v e).text) ∷ lines_of (event_ran v e).server es

-- The same without the `in` events.
abbrev pub other_lines : ServerValue → List ScriptEventValue → List (ScriptEventValue × List ℕ)
other_lines v es = filter (λ l. not (is_in l.0)) (lines_of v es)

-- Holds if the time of a `tick` fits in 64 bits.
abbrev pub IsInTime : ScriptEventValue → Type 0
IsInTime (Tick moment) = moment < 2 ^ 64
IsInTime e = Unit {0}

-- Holds if the times of all `tick` events do.
abbrev pub AreInTime : List ScriptEventValue → Type 0
AreInTime es = AllByRecursion IsInTime es
