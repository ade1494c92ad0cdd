use Rattle.coap_wire.proofs.FramesLaws.{framed_frames}
use Rattle.coap_wire.proofs.laws.frames_are_found_once.Goals as goal

pub returns-clause-no_other : goal.returns-clause-no_other
returns-clause-no_other c = framed_frames
