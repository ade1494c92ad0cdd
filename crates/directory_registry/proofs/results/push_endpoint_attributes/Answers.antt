use Rattle.std.proofs.Common.{codes}
use Rattle.directory_registry.specs.Prelude.{QuotedValue}
use Rattle.directory_registry.proofs.ListingLemmas.{one_attribute}
use Rattle.directory_registry.proofs.results.push_endpoint_attributes.Goals as goal

pub returns : goal.returns
returns c =
    rw (c.push_attributes.ensures, c.attributes.ensures.all, c.deref-3.ensures.value)
    (one_attribute _ _ c.args.registration.now.base.items
    (record { name = codes "base"; value = QuotedValue c.args.registration.now.base.items }) _
    (rw (← c.deref.ensures.value) c.push_attribute.ensures))
