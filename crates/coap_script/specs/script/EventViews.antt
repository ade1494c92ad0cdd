-- Defined by this project: the values that contracts see for the events and errors of the code.
use Rattle.std.specs.Prelude.{◌≡◌, ℕ, Bool, true, false, Vec, List, ◌++◌, map, Option, Some, None, Result, Ok, Err, ⊤}
use Rattle.std.specs.declared.alloc.Global.{Global}
use Rattle.coap_script.specs.script.Events as event
use Rattle.coap_script.specs.script.Events.{ScriptEventValue}
use Rattle.coap_script.specs.script.Script.{script_of}
use Rattle.coap_script.specs.declared.event.Event.{Event}
use Rattle.coap_script.specs.declared.event.Event.TheVariants as events
use Rattle.coap_script.specs.declared.scripts.ScriptFault.{ScriptFault}
use Rattle.coap_script.specs.declared.scripts.ScriptFault.TheVariants.{Line, Memory}

-- The value of an `Event`.
abbrev pub event_value : Event → ScriptEventValue
event_value events.Open = event.Open
event_value (events.In connection bytes) = event.In connection bytes.items
event_value (events.Drain connection most) = event.Drain connection most
event_value (events.Tick moment) = event.Tick moment
event_value (events.Put path format payload) = event.Put path format payload.items
event_value (events.Remove path text) = event.Remove path text.items
event_value (events.End connection) = event.End connection
event_value (events.Release connection) = event.Release connection
event_value (events.Respond connection response) = event.Respond connection response.items
event_value (events.Drop connection) = event.Drop connection
event_value (events.Status connection) = event.Status connection

-- The number of a `ScriptFault`.
abbrev pub fault_number : ScriptFault → ℕ
fault_number (Line number) = 1
fault_number Memory = 2

-- The result of reading a text is the meaning of the text. After a failed allocation, nothing is known.
abbrev pub IsScript : List ℕ → Result (Vec Event Global) ScriptFault → Type 0
IsScript text (Ok events) = script_of text ≡ Ok (map event_value events.items)
IsScript text (Err (Line number)) = script_of text ≡ Err number
IsScript text (Err Memory) = ⊤

-- The event of a line, if any, was appended to the earlier events. If the line is malformed, `is_right` is false.
abbrev pub TakesLine : Bool → List ScriptEventValue → List ScriptEventValue → Option (List ScriptEventValue) → Type 0
TakesLine is_right old new None = is_right ≡ false
TakesLine is_right old new (Some events) = (is_right ≡ true) × (new ≡ old ++ events)
