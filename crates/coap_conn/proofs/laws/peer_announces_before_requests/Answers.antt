use Rattle.coap_conn.proofs.FirstLaws.{no_request_waiting, opened_by_csm}
use Rattle.coap_conn.proofs.laws.peer_announces_before_requests.Goals as goal

pub returns : goal.returns
returns c = record {
  request = no_request_waiting;
  opens_by_code = λ s m waits opens. (opened_by_csm s m waits opens).0;
  opens_whole = λ s m waits opens. (opened_by_csm s m waits opens).1;
}
