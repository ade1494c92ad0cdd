use Rattle.coap_wire.proofs.FormLaws.{token_form_has, token_form_only}
use Rattle.coap_wire.proofs.laws.token_length_has_one_form.Goals as goal

pub returns-clause-has : goal.returns-clause-has
returns-clause-has c = token_form_has

pub returns-clause-no_other : goal.returns-clause-no_other
returns-clause-no_other c = token_form_only
