-- The values that contracts see for an event that was run, and for its line.
use Rattle.std.specs.Prelude.{◌≡◌, ℕ, List, ◌++◌, length, Option, Some, None, Result, Ok, Err}
use Rattle.std.specs.declared.alloc.AllocError.{AllocError}
use Rattle.coap_script.specs.script.Events.{ScriptEventValue}
use Rattle.coap_script.specs.script.Lines.{out_line}
use Rattle.coap_server_engine.specs.script.Replay.{event_ran, drained}
use Rattle.coap_server_engine.specs.script.Replayed.{IsUnrun}
use Rattle.coap_server_session.specs.values.Sessions.{SessionValue}
use Rattle.coap_server_engine.specs.values.Servers.{ServerValue}
use Rattle.coap_server_engine.specs.declared.replay.OutputLine.{OutputLine}
use Rattle.coap_server_engine.specs.declared.replay.OutputLine.TheVariants.{Short, Long, Listed}
use Rattle.coap_server_engine.specs.declared.replay.Drained.{Drained}

abbrev pub line_bytes : OutputLine → List ℕ
line_bytes (Short line) = line.items
line_bytes (Long line) = line.items
line_bytes (Listed line requests) = line.items ++ requests.items

-- States the results that the run of an event may have: its line, or the failure of an allocation.
abbrev pub IsRun : ServerValue → ScriptEventValue → ServerValue → Result OutputLine AllocError → Type 0
IsRun v e after (Ok line) = (after ≡ (event_ran v e).server) × (line_bytes line ≡ (event_ran v e).text)
IsRun v e after (Err fault) = IsUnrun v e after

-- States the result of `drain`: the line with the bytes that are drained, and their number, or `None` if there is no
-- connection.
abbrev pub IsDrainable : ℕ → Option ℕ → Option Drained → Option SessionValue → Type 0
IsDrainable id most None None = Unit {0}
IsDrainable id most None (Some s) = ⊥
IsDrainable id most (Some d) None = ⊥
IsDrainable id most (Some d) (Some s) =
    (d.line.items ≡ out_line id (drained most s.link.waiting)) × (d.count ≡ length (drained most s.link.waiting))
