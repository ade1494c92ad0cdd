use Rattle.coap_frame.proofs.GivenLaws.{unread_allowed, unread_one_less, unread_nothing, unread_again, unread_taken}
use Rattle.coap_frame.proofs.laws.unread_takes_one_byte_back.Goals as goal

pub returns : goal.returns
returns c = record {
  allowed = unread_allowed;
  one_less = unread_one_less;
  nothing = unread_nothing;
  again = unread_again;
  taken = unread_taken;
}
