use Rattle.std.proofs.Common.{length, ◌-◌, ◌≤◌, take}
use Rattle.coap_io.specs.Prelude.{AddsBytes}
use Rattle.coap_log.proofs.WriterLemmas.{Adds}
use Rattle.coap_log.proofs.writer.push.Given as goal

abbrev pub invariant-loop-done : goal.invariant-loop-done
invariant-loop-done g l =
    record {
      within : l.done ≤ length l.bytes;
      written : AddsBytes (g.O.LogOutlet.written l.fn.outlet) (g.O.LogOutlet.written l.outlet) (take l.done l.bytes);
      answered : Adds (g.O.LogOutlet.answers l.fn.outlet) (g.O.LogOutlet.answers l.outlet);
    }

abbrev pub decreases-loop-done : goal.decreases-loop-done
decreases-loop-done g l = length l.bytes - l.done
