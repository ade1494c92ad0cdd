use Rattle.coap_frame.proofs.CopyingLaws.{are_counted}
use Rattle.coap_frame.proofs.laws.what_is_copied_is_counted.Goals as goal

pub returns : goal.returns
returns c = are_counted
