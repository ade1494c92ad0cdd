use Rattle.coap_wire.proofs.FramesLaws.{whole_frame}
use Rattle.coap_wire.proofs.laws.prefix_kind_finds_first_frame.Goals as goal

pub returns-clause-frame_sound : goal.returns-clause-frame_sound
returns-clause-frame_sound c = whole_frame
