use Rattle.std.proofs.Common.{◌≡◌, false, length}
use Rattle.coap_serve.specs.Prelude.{AreTurns, HasRun, Matches, RunTrace, AddsCalls, Turns, config_of, environment}
use Rattle.coap_serve.specs.Prelude.{Continues, journal, known_of_run, new_server, service_of, some_waits, views_of}
use Rattle.coap_serve.proofs.door.run.Given as goal

-- The progress of the run.
abbrev pub invariant-loop-turn : goal.invariant-loop-turn
invariant-loop-turn g l =
    let known =
    Continues (journal (g.M.Monitor.follows l.fn.monitor) (g.A.Application.follows l.fn.application)
    (g.D.Door.calls l.fn.door)) (journal (g.M.Monitor.follows l.monitor) (g.A.Application.follows l.application)
    (g.D.Door.calls l.door)) in
    record {
      ran : HasRun known (new_server (config_of l.fn.setup.config)) l.service.server;
      front : RunTrace _;
      made : AreTurns (environment g.A.Application.follows g.A.Application.idle (some_waits g.A.Application.waits)
          (views_of g.D.Wire.Ready.readable g.D.Wire.Ready.writable g.D.Wire.Wire.given g.D.Wire.Wire.written
          g.D.Wire.Wire.answers g.D.Wire.Wire.rooms)) l.fn.setup.config front
          (service_of l.service.server l.service.peers.entries l.service.second l.service.idle) l.wait;
      counted : length front.times ≡ l.turn;
      matches : Matches (known_of_run (AddsCalls (g.C.Clock.moments l.fn.clock) (g.C.Clock.moments l.clock))
          (AddsCalls (g.U.Clock.moments l.fn.uptime) (g.U.Clock.moments l.uptime))
          known) front;
      ready : l.service.is_spent ≡ false;
      fault : l.fault ≡ Turns;
    }
