use Rattle.std.proofs.Common.{◌≤◌, vec_capacity}
use Rattle.coap_serve.specs.Prelude.{SleepOn}
use Rattle.coap_serve.proofs.listener.ServingLemmas.{HasGivenLater}
use Rattle.coap_serve.proofs.door.parts.answer_each.Given as goal

-- This number of responses was given, and the connections that sleep may still do so.
abbrev pub invariant-loop-count : goal.invariant-loop-count
invariant-loop-count g l =
    record {
      given : HasGivenLater l.fn.server l.count l.server
          (g.M.Monitor.follows l.fn.monitor) (g.M.Monitor.follows l.monitor)
          (g.A.Application.follows l.fn.application) (g.A.Application.follows l.application);
      capacity : vec_capacity l.fn.response ≤ vec_capacity l.response;
      kept : SleepOn l.fn.awake l.awake l.fn.server l.server;
    }
