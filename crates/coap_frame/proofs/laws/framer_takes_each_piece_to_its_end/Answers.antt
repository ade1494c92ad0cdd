use Rattle.coap_frame.proofs.GivenLaws.{taken_within, nothing_taken, frame_taken, fault_taken}
use Rattle.coap_frame.proofs.laws.framer_takes_each_piece_to_its_end.Goals as goal

pub returns : goal.returns
returns c = record {
  within = taken_within;
  nothing = nothing_taken;
  frame = frame_taken;
  fault = fault_taken;
}
