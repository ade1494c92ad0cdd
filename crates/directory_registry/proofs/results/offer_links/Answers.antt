use Rattle.directory_registry.specs.Prelude.{offered_links}
use Rattle.directory_registry.proofs.results.offer_links.Goals as goal

pub returns : goal.returns
unfolding offered_links
returns c = rw c.in-None.ensures.steps.0 at c.loop-link.invariant.so_far
