use Rattle.directory_registry.proofs.ListingLemmas.{two_parts}
use Rattle.directory_registry.proofs.results.push_resolved_value.Goals as goal

pub returns : goal.returns
returns c =
    simp (c.in-Quoted.is, c.push-2.ensures, c.push_resolved.ensures, c.push.ensures, two_parts)
