use Rattle.coap_wire.proofs.SizeLaws.{no_proper_prefix}
use Rattle.coap_wire.proofs.laws.no_spelling_begins_another.Goals as goal

pub returns : goal.returns
returns c = no_proper_prefix
