use Rattle.std.proofs.Common.{refl}
use Rattle.coap_server_engine.specs.Prelude.{server_value}
use Rattle.coap_server_engine.proofs.values.ConcernedLemmas.{covered_time}
use Rattle.coap_server_engine.proofs.values.WorkLemmas.{waits_for_the_next}
use Rattle.coap_server_engine.proofs.server.Server.next_deadline.Goals as goal

pub earliest_deadline-requires : goal.earliest_deadline-requires
earliest_deadline-requires c = c.self.invariant.covered.time c.self.inside.shared.now

pub invariant_of-self : goal.invariant_of-self
invariant_of-self c = record {
  server = c.self.invariant.server;
  marked = c.self.invariant.marked;
  covered = covered_time _ _ _ refl (λ _. c.earliest_deadline.ensures.covered)
      c.self.invariant.covered;
}

pub returns : goal.returns
returns c =
    let v = server_value c.self.inside in
    rw (← c.self.view_is) (record {
      deadline = c.earliest_deadline.ensures.earliest;
      safe =
          λ later on fits before.
          waits_for_the_next v later c.count.ensures.store c.self.invariant.server.settled on fits
          (rw (← c.earliest_deadline.ensures.earliest) before);
      same = refl;
    })
