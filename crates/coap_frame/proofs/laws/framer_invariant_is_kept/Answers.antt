use Rattle.coap_frame.proofs.FramingLemmas.{framing_is_framer}
use Rattle.coap_frame.proofs.laws.framer_invariant_is_kept.Goals as goal

pub returns : goal.returns
returns c = framing_is_framer
