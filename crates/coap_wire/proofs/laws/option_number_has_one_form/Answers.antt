use Rattle.coap_wire.proofs.FormLaws.{option_form_is, option_form_only}
use Rattle.coap_wire.proofs.laws.option_number_has_one_form.Goals as goal

pub returns-clause-has : goal.returns-clause-has
returns-clause-has c = option_form_is

pub returns-clause-no_other : goal.returns-clause-no_other
returns-clause-no_other c = λ n x e form. option_form_only x e n form
