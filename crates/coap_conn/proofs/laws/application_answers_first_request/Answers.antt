use Rattle.coap_conn.proofs.ApplicationLaws.{first_request, others_stay, responds_fitted, whole_answers, absent_stays}
use Rattle.coap_conn.proofs.ApplicationLaws.{responds_never}
use Rattle.coap_conn.proofs.laws.application_answers_first_request.Goals as goal

pub returns : goal.returns
returns c = record {
  first = first_request;
  others = others_stay;
  sent = responds_fitted;
  answered = whole_answers;
  absent = absent_stays;
  stopped = responds_never;
}
