use Rattle.coap_conn.proofs.StopLaws.{stopped_over, call_over, stays_stopped}
use Rattle.coap_conn.proofs.laws.nothing_follows_a_stop.Goals as goal

pub returns : goal.returns
returns c = record {
  call = call_over;
  reported = stopped_over;
  sent = λ h m less why stopped. stays_stopped h _ why stopped;
}
