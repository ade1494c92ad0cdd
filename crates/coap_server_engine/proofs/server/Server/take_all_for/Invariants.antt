use Rattle.std.proofs.Common.{◌-◌, ◌≤◌, length, vec_capacity}
use Rattle.coap_server_engine.specs.Prelude.{HasResponseRoom, LiesAt}
use Rattle.coap_server_engine.proofs.values.ServingLemmas.{Serves}
use Rattle.coap_server_engine.proofs.values.WorkLemmas.{IsReported}
use Rattle.coap_server_engine.proofs.server.Server.take_all_for.Given as goal

-- Some takes were made, and the connection is at its index. The set has each connection on which the work left changed.
abbrev pub invariant-loop-taken : goal.invariant-loop-taken
invariant-loop-taken g l =
    record {
      serves : Serves l.fn.self l.id l.bytes l.self l.taken (g.M.Monitor.follows l.fn.monitor)
          (g.M.Monitor.follows l.monitor) (g.A.Application.follows l.fn.application)
          (g.A.Application.follows l.application);
      lies : LiesAt l.id l.at l.self.sessions;
      reported : IsReported l.at l.affected.words l.fn.self l.self;
      capacity : vec_capacity l.fn.response ≤ vec_capacity l.response;
      room : HasResponseRoom l.self.config (vec_capacity l.response);
    }

abbrev pub decreases-loop-taken : goal.decreases-loop-taken
decreases-loop-taken g l = length l.bytes - l.taken
