use Rattle.coap_server_session.proofs.session.Session.mark_and_settle.Goals as goal

pub invariant_of-self : goal.invariant_of-self
invariant_of-self c = rw c.mark.ensures (assumption c.self.invariant)

pub settle-requires : goal.settle-requires
settle-requires c = rw c.mark.ensures (rw (← c.self.view_is) at c.requires)

pub returns : goal.returns
returns c =
    rw (← c.self.view_is)
    (record {
      after = rw c.mark.ensures at c.settle.ensures.after;
      marked = c.settle.ensures.marked;
      split = c.settle.ensures.split;
    })
