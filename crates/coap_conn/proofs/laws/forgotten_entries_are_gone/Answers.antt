use Rattle.coap_conn.specs.Prelude.{is_entry_of}
use Rattle.coap_conn.proofs.OutstandingLaws.{none_left}
use Rattle.coap_conn.proofs.ForgetLaws.{forgotten_after, forgotten_nothing, others_left, response_stranger}
use Rattle.coap_conn.proofs.ForgetLaws.{pong_stranger}
use Rattle.coap_conn.proofs.laws.forgotten_entries_are_gone.Goals as goal

pub returns : goal.returns
returns c = record {
  forgotten = forgotten_after;
  absent = forgotten_nothing;
  gone = λ token outstanding. none_left (is_entry_of token) outstanding;
  others = others_left;
  response = response_stranger;
  pong = pong_stranger;
}
