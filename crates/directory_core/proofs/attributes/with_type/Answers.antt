use Rattle.std.proofs.Common.{◌≡◌, List, [], ◌∷◌, ◌++◌, ap, sym, subst, ◌∙◌, true, arith}
use Rattle.std.specs.List.{list_all}
use Rattle.std.proofs.lemmas.List.{map-append, length-map}
use Rattle.directory_core.specs.Prelude.{Attribute, is_attribute, attribute_of, attributes_of, endpoint_type}
use Rattle.directory_core.specs.Prelude.{limited}
use Rattle.directory_core.proofs.AttributeLemmas.{few, each_joined, type_attribute}
use Rattle.directory_core.proofs.attributes.with_type.Goals as goal

abbrev all : (c : goal.In_ok-add)
    → attributes_of c.add.new.list.items ≡ attributes_of c.args.given.items ++ endpoint_type ∷ []
all c = ap attributes_of c.in_ok-add.ensures.ok ∙ map-append attribute_of c.args.given.items _

pub returns-clause-value : goal.returns-clause-value
returns-clause-value c =
    ap limited (sym (all c))
    ∙ few (attributes_of c.add.new.list.items)
    (omega (arith, length-map c.add.new.list.items attribute_of, c.in_ok-add.ensures.few))

pub returns-clause-each : goal.returns-clause-each
returns-clause-each c =
    subst (λ (list : List Attribute). list_all is_attribute list ≡ true) (sym (all c))
    (each_joined (attributes_of c.args.given.items) (endpoint_type ∷ []) c.requires type_attribute)
