use Rattle.coap_log.proofs.TapLaws.{takes_a_byte}
use Rattle.coap_log.proofs.laws.tap_takes_a_byte.Goals as goal

pub returns : goal.returns
returns c = takes_a_byte
