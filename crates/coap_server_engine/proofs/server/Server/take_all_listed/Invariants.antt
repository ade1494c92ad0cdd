use Rattle.std.proofs.Common.{◌-◌, length}
use Rattle.coap_server_engine.specs.Prelude.{LiesAt}
use Rattle.coap_server_engine.proofs.scripting.ReplayLemmas.{Lists}
use Rattle.coap_server_engine.proofs.server.Server.take_all_listed.Given as goal

abbrev pub invariant-loop-taken : goal.invariant-loop-taken
invariant-loop-taken l =
    Lists l.fn.self l.id l.bytes l.self l.taken l.fn.requests.items l.requests.items × LiesAt l.id l.at l.self.sessions

abbrev pub decreases-loop-taken : goal.decreases-loop-taken
decreases-loop-taken l = length l.bytes - l.taken
