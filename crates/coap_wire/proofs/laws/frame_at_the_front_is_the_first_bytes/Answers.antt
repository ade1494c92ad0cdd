use Rattle.coap_wire.proofs.StreamSteps.{whole_parts, whole_itself}
use Rattle.coap_wire.proofs.laws.frame_at_the_front_is_the_first_bytes.Goals as goal

pub returns-clause-bytes : goal.returns-clause-bytes
returns-clause-bytes c = λ M s frame rest e. (whole_parts M s frame rest e).bytes

pub returns-clause-at_least : goal.returns-clause-at_least
returns-clause-at_least c = λ M s frame rest e. (whole_parts M s frame rest e).some

pub returns-clause-at_most : goal.returns-clause-at_most
returns-clause-at_most c = λ M s frame rest e. (whole_parts M s frame rest e).small

pub returns-clause-alone : goal.returns-clause-alone
returns-clause-alone c = whole_itself
