use Rattle.std.proofs.Common.{sym, ◌∙◌}
use Rattle.directory_registry.specs.Prelude.{attribute_of}
use Rattle.directory_registry.proofs.ListingLemmas.{two_parts, anchor_text, other_text}
use Rattle.directory_registry.proofs.results.push_attribute.Goals as goal

pub returns-then-is_anchor : goal.returns-then-is_anchor
returns-then-is_anchor c =
    simp (
      anchor_text c.args.base.now (attribute_of c.args.attribute) (sym c.is_anchor.ensures ∙ c.if-is_anchor.true),
      c.push_resolved_value.ensures,
      c.push-2.ensures,
      c.push.ensures,
      two_parts,
    )

pub returns-else-is_anchor : goal.returns-else-is_anchor
returns-else-is_anchor c =
    simp (
      other_text c.args.base.now (attribute_of c.args.attribute) (sym c.is_anchor.ensures ∙ c.if-is_anchor.false),
      c.push_value.ensures,
      c.push-2.ensures,
      c.push.ensures,
      two_parts,
    )
