use Rattle.std.proofs.Common.{append_assoc}
use Rattle.directory_registry.proofs.ListingLemmas.{two_parts}
use Rattle.directory_registry.proofs.results.push_link.Goals as goal

pub returns : goal.returns
returns c =
    simp (
      c.push_attributes.ensures,
      c.push-2.ensures,
      c.push_resolved.ensures,
      c.push.ensures,
      two_parts,
      append_assoc,
      c.target.ensures,
      c.attributes.ensures,
    )
