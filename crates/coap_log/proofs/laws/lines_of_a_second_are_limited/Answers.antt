use Rattle.coap_log.proofs.LimitLaws.{limited_at, limited}
use Rattle.coap_log.proofs.laws.lines_of_a_second_are_limited.Goals as goal

pub returns-clause-during : goal.returns-clause-during
returns-clause-during c = limited_at

pub returns-clause-forward : goal.returns-clause-forward
returns-clause-forward c = limited
