use Rattle.std.proofs.Common.{◌≡◌, List, ◌++◌, ap, sym, subst, ◌∙◌, true, arith}
use Rattle.std.specs.List.{list_all}
use Rattle.std.proofs.lemmas.List.{append-nil, length-map}
use Rattle.coap_wire.specs.Message.{CoapOption}
use Rattle.directory_core.specs.Prelude.{Attribute, is_attribute, attribute_of, attributes_of, given}
use Rattle.directory_core.proofs.AttributeLemmas.{all_given, each_given}
use Rattle.directory_core.proofs.attributes.given_attributes.Goals as goal

abbrev all : (c : goal.In-None) → attributes_of c.loop-option.list.items ≡ given c.args.request.now.options
all c =
    sym (append-nil (attributes_of c.loop-option.list.items))
    ∙ ap (λ (os : List CoapOption). attributes_of c.loop-option.list.items ++ given os) (sym c.in-None.ensures.steps.0)
    ∙ c.loop-option.invariant.so_far

pub returns-clause-value : goal.returns-clause-value
returns-clause-value c =
    all_given c.args.request.now.options (attributes_of c.loop-option.list.items)
    (sym c.are_well_formed.ensures ∙ c.if-not-are_well_formed.false)
    (sym c.have_allowed_names.ensures ∙ c.if-not-have_allowed_names.false)
    (all c) (omega (arith, length-map c.loop-option.list.items attribute_of, c.loop-option.invariant.few))

pub returns-clause-each : goal.returns-clause-each
returns-clause-each c =
    subst (λ (list : List Attribute). list_all is_attribute list ≡ true) (sym (all c))
    (each_given c.args.request.now.options (sym c.are_well_formed.ensures ∙ c.if-not-are_well_formed.false)
    (sym c.have_allowed_names.ensures ∙ c.if-not-have_allowed_names.false))
