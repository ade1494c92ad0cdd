use Rattle.std.proofs.Common.{append_assoc}
use Rattle.directory_registry.proofs.ListingLemmas.{two_parts}
use Rattle.directory_registry.proofs.results.push_endpoint.Goals as goal

pub returns : goal.returns
returns c =
    simp (
      c.push_endpoint_attributes.ensures,
      c.push-3.ensures,
      c.push-2.ensures,
      c.push.ensures,
      two_parts,
      append_assoc,
      c.deref.ensures.0,
      c.decimal_digits.ensures,
    )
