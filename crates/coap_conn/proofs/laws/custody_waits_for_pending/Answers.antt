use Rattle.coap_conn.proofs.PendingLaws.{custody_at_once, pending_few, pending_more, pending_released, pending_given_up}
use Rattle.coap_conn.proofs.laws.custody_waits_for_pending.Goals as goal

pub returns : goal.returns
returns c = record {
  at_once = custody_at_once;
  few = pending_few;
  kept = pending_more;
  released = pending_released;
  given_up = pending_given_up;
}
