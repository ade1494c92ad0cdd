use Rattle.coap_log.proofs.LimitLaws.{last_line}
use Rattle.coap_log.proofs.laws.last_line_is_written.Goals as goal

pub returns : goal.returns
returns c = last_line
