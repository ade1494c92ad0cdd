use Rattle.coap_store.proofs.ApplicationLaws.{prompt_without, none_built_in, none_unchecked, deadline_of_entry}
use Rattle.coap_store.proofs.ApplicationLaws.{none_elsewhere, prompt_handed}
use Rattle.coap_model.proofs.laws.application_answers_its_requests.Goals as goal

pub returns-clause-none : goal.returns-clause-none
returns-clause-none c = prompt_without

pub returns-clause-built_in : goal.returns-clause-built_in
returns-clause-built_in c = none_built_in

pub returns-clause-checked : goal.returns-clause-checked
returns-clause-checked c = none_unchecked

pub returns-clause-handed : goal.returns-clause-handed
returns-clause-handed c = deadline_of_entry

pub returns-clause-elsewhere : goal.returns-clause-elsewhere
returns-clause-elsewhere c = none_elsewhere

pub returns-clause-refused : goal.returns-clause-refused
returns-clause-refused c = prompt_handed
