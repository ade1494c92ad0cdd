use Rattle.coap_frame.proofs.GivenLaws.{given_is}
use Rattle.coap_frame.proofs.laws.framer_yields_stream_frames.Goals as goal

pub returns : goal.returns
returns c = given_is
