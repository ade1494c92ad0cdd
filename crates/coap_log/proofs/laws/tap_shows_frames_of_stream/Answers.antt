use Rattle.coap_log.proofs.TapLaws.{new_tap_shows}
use Rattle.coap_log.proofs.laws.tap_shows_frames_of_stream.Goals as goal

pub returns : goal.returns
returns c = new_tap_shows
