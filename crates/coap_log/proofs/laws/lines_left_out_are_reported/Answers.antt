use Rattle.coap_log.proofs.LimitLaws.{counted}
use Rattle.coap_log.proofs.laws.lines_left_out_are_reported.Goals as goal

pub returns : goal.returns
returns c = counted
