use Rattle.coap_wire.proofs.FormLaws.{length_form_is, length_form_only}
use Rattle.coap_wire.proofs.laws.length_has_one_form.Goals as goal

pub returns-clause-has : goal.returns-clause-has
returns-clause-has c = length_form_is

pub returns-clause-no_other : goal.returns-clause-no_other
returns-clause-no_other c = λ n x e form. length_form_only x e n form
