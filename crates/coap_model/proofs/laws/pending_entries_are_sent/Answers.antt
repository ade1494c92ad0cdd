use Rattle.std.proofs.Common.{arith}
use Rattle.std.proofs.lemmas.Bool.{cond_both}
use Rattle.std.proofs.lemmas.List.{append-nil}
use Rattle.coap_model.specs.Prelude.{handles, KeepsPendingOver, side_after, side_responded, settled_once, link_of}
use Rattle.coap_conn.proofs.ApplicationLaws.{responds_fitted}
use Rattle.coap_model.proofs.world.WalkLaws.{Fault, End, Release, Announcement}
use Rattle.coap_model.proofs.world.RespondedLaws.{answered_request}
use Rattle.coap_model.proofs.world.CustodyLaws.{responded_keeps, written_same, handled_hears, plain_keeps}
use Rattle.coap_model.proofs.world.CustodyLaws.{notified_keeps}
use Rattle.coap_model.proofs.laws.pending_entries_are_sent.Goals as goal

pub returns : goal.returns
unfolding side_after side_responded settled_once
returns c = record {
  message = λ store now s m. cond_both (handles s) _ s (KeepsPendingOver store.applications m s)
      (λ does. grind (arith, handled_hears store now s m))
      (λ off. grind (arith, append-nil));
  faulted = λ s fault. plain_keeps s _ (Fault fault);
  ended = λ s cut. plain_keeps s _ (End cut);
  released = λ s. plain_keeps s _ Release;
  announced = λ s size. plain_keeps s _ (Announcement size);
  written = written_same;
  responded = λ s m answering none. (
    answered_request (link_of s.history) m none,
    responds_fitted s.history m answering none,
    responded_keeps s m answering none,
  );
  reported = notified_keeps;
  taken = λ store now s e is answering same. grind arith;
  answer = λ store now s by token moment is answering. grind (arith, append-nil);
  pong = λ store now s token is. grind arith;
}
