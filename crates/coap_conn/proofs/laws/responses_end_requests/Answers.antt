use Rattle.coap_conn.specs.Prelude.{matches_response}
use Rattle.coap_conn.proofs.OutstandingLaws.{answers_requested, last_ends, none_left, notified_stays, request_ended}
use Rattle.coap_conn.proofs.OutstandingLaws.{pong_ends, stranger_stays, response_reported, pong_is_reported}
use Rattle.coap_conn.proofs.laws.responses_end_requests.Goals as goal

pub returns : goal.returns
returns c = record {
  answer = answers_requested;
  last = last_ends;
  gone = λ token outstanding. none_left (matches_response token) outstanding;
  notified = notified_stays;
  ended = request_ended;
  pong = pong_ends;
  stranger = stranger_stays;
  response_reported = response_reported;
  pong_reported = pong_is_reported;
}
