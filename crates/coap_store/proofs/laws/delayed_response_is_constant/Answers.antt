use Rattle.coap_store.proofs.HoldLaws.{delay_of_answer}
use Rattle.coap_store.proofs.laws.delayed_response_is_constant.Goals as goal

pub returns-clause-delayed : goal.returns-clause-delayed
returns-clause-delayed c s now m seconds e =
    let is = delay_of_answer s now m seconds e in (is.requested, is.response, is.change, is.short)
