use Rattle.coap_conn.proofs.PendingLaws.{due_answer, due_pong, due_alone, due_nothing, due_fewer}
use Rattle.coap_conn.proofs.laws.due_entry_is_first.Goals as goal

pub returns : goal.returns
returns c = record {
  answer = due_answer;
  pong = due_pong;
  alone = due_alone;
  nothing = due_nothing;
  fewer = due_fewer;
}
