use Rattle.coap_conn.proofs.HistoryLaws.{new_fits, reaction_fits, sent_fits, stopped_fits, released_fits, due_fits}
use Rattle.coap_conn.proofs.HistoryLaws.{requested_fits, cancelled_fits}
use Rattle.coap_conn.proofs.AnnounceLaws.{announcement_fits}
use Rattle.coap_conn.proofs.ApplicationLaws.{responded_fits}
use Rattle.coap_conn.proofs.laws.queued_messages_fit_limit.Goals as goal

pub returns : goal.returns
returns c = record {
  new = new_fits;
  message = reaction_fits;
  sent = sent_fits;
  stopped = stopped_fits;
  released = released_fits;
  responded = responded_fits;
  due = due_fits;
  requested = requested_fits;
  announced = announcement_fits;
  cancelled = cancelled_fits;
}
