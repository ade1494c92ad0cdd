use Rattle.std.proofs.Common.{◌-◌, length}
use Rattle.coap_server_polled.proofs.OutputLemmas.{IsSearched}
use Rattle.coap_server_polled.proofs.polled_server.PolledServer.next_output.Given as goal

abbrev pub invariant-loop-at : goal.invariant-loop-at
invariant-loop-at l = IsSearched l.fn.self l.at l.self

abbrev pub decreases-loop-at : goal.decreases-loop-at
decreases-loop-at l = length l.fn.self.engine.sessions - l.at
