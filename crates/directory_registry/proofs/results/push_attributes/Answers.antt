use Rattle.std.proofs.Common.{◌∙◌}
use Rattle.directory_registry.specs.Prelude.{attribute_of}
use Rattle.directory_registry.proofs.ListingLemmas.{one_attribute, no_attribute}
use Rattle.directory_registry.proofs.results.push_attributes.Goals as goal

pub loop-attribute-preserved : goal.loop-attribute-preserved
loop-attribute-preserved c =
    record {
      goes = tt;
      ends = tt;
      so_far =
          one_attribute _ _ c.args.base.now (attribute_of c.in-Some.attribute) c.next.new.self c.push_attribute.ensures
          ∙ rw c.in-Some.ensures.steps at c.loop-attribute.invariant.so_far;
    }

pub returns : goal.returns
returns c =
    no_attribute c.loop-attribute.listing c.args.base.now
    ∙ rw c.in-None.ensures.steps.0 at c.loop-attribute.invariant.so_far
