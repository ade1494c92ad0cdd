use Rattle.coap_model.proofs.world.EntryLemmas.{all_to}
use Rattle.coap_model.proofs.world.LastNotificationLaws.{are_reported}
use Rattle.coap_model.proofs.laws.last_notification_matches_state.Goals as goal

pub returns : goal.returns
returns c = record {
  reported = λ k events id s there. all_to _ _ (λ o is. is.1) s.observers (are_reported k events id s there).1.reported;
  registered = λ k events id s there.
      all_to _ _ (λ o is. is.0) s.observers (are_reported k events id s there).1.reported;
  tokens = λ k events id s there. (are_reported k events id s there).1.own;
}
