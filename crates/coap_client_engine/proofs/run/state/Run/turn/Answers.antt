use Rattle.std.proofs.Common.{◌∙◌, arith}
use Rattle.coap_client_engine.specs.Prelude.{with_outlets, with_wire}
use Rattle.coap_client_engine.proofs.RunLemmas.{leads}
use Rattle.coap_client_engine.proofs.run.state.Run.turn.Goals as goal

pub returns-in-Some-clause-runs : goal.returns-in-Some-clause-runs
returns-in-Some-clause-runs g c = λ start now trace is_at goes fresh.
    leads _ (c.in_ok-status.ensures.runs c.args.plan.now start
    (with_outlets (g.O.Outlet.written c.args.out.now) now.err now) trace is_at goes fresh)
    c.in-Some.is (λ c at ends is. grind arith)

pub returns-clause-runs : goal.returns-clause-runs
returns-clause-runs g c = λ start now trace is_at goes fresh.
    let received = c.in_ok-status.ensures.runs c.args.plan.now start
    (with_outlets (g.O.Outlet.written c.args.out.now) now.err now) trace is_at goes fresh in
    let on = received.ends ∙ c.in_default.is in
    let went = c.in_ok-next.ensures.runs start
    (with_wire (g.W.Wire.given c.read_input.new.wire) (g.W.Wire.written c.read_input.new.wire)
    (g.W.Wire.answers c.read_input.new.wire) now.err now) received.trace received.is_at on (received.holds.looked on) in
    rw (went.holds.turns ∙ received.holds.turns) at (c.flush.ensures.runs c.args.plan.now start
    (with_outlets (g.O.Outlet.written c.process_input.new.out) now.err now) went.trace went.is_at went.ends
    went.holds.writes went.holds.rests)
