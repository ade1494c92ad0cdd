use Rattle.directory_registry.proofs.offers.offer_all.Goals as goal

pub returns : goal.returns
returns c = rw c.in-None.ensures.steps.0 at c.loop-stored.invariant.so_far
