use Rattle.std.proofs.Common.{◌≡◌, List, ◌++◌, ap, sym, subst, ◌∙◌, true, arith}
use Rattle.std.specs.List.{list_all}
use Rattle.std.proofs.lemmas.List.{append-nil, drop_all, length-map}
use Rattle.directory_links.specs.declared.attribute.AttributeRef.{AttributeRef}
use Rattle.directory_core.specs.Prelude.{Attribute, is_attribute, attribute_of, attributes_of, merged, limited}
use Rattle.directory_core.proofs.AttributeLemmas.{few, each_merged}
use Rattle.directory_core.proofs.attributes.merged_attributes.Goals as goal

abbrev all : (c : goal.After-loop-attribute-2)
    → attributes_of c.loop-attribute-2.list.items ≡ merged c.args.old (attributes_of c.args.new.now)
all c =
    sym (append-nil (attributes_of c.loop-attribute-2.list.items))
    ∙ ap (λ (left : List AttributeRef). attributes_of c.loop-attribute-2.list.items ++ attributes_of left)
    (sym (drop_all c.loop-attribute-2.attribute-index c.args.new.now c.loop-attribute-2-test.false))
    ∙ c.loop-attribute-2.invariant.so_far

pub returns-clause-value : goal.returns-clause-value
returns-clause-value c =
    ap limited (sym (all c))
    ∙ few (attributes_of c.loop-attribute-2.list.items)
    (omega (arith, length-map c.loop-attribute-2.list.items attribute_of, c.loop-attribute-2.invariant.few))

pub returns-clause-each : goal.returns-clause-each
returns-clause-each c =
    subst (λ (list : List Attribute). list_all is_attribute list ≡ true) (sym (all c))
    (each_merged c.args.old (attributes_of c.args.new.now) c.requires.old c.requires.new)
