use Rattle.coap_path.proofs.LawLemmas.{longest}
use Rattle.coap_path.proofs.laws.longest_prefix_wins.Goals as goal

pub returns-clause-found : goal.returns-clause-found
returns-clause-found c = longest
