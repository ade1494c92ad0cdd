use Rattle.coap_model.proofs.world.CustodyLaws.{responded_no_custody, corresponds_keeps, custody_waits}
use Rattle.coap_model.proofs.world.CustodyLaws.{custody_comes_first, request_quiet, plain_queues_no_custody}
use Rattle.coap_model.proofs.world.WalkLaws.{pending_is, Fault, Write, End, Release, Announcement}
use Rattle.std.proofs.Common.{arith, refl, rules}
use Rattle.coap_model.specs.Prelude.{side_after, settled_once}
use Rattle.coap_model.proofs.world.GoingOn.{kept_after}
use Rattle.coap_model.proofs.laws.custody_comes_last.Goals as goal

pub returns : goal.returns
unfolding side_after settled_once
returns c = record {
  order = λ k. search (rules, kept_after, corresponds_keeps);
  at_once = custody_waits;
  later = custody_comes_first;
  pending = λ store now s m d does asks is. grind (arith, request_quiet s m asks, pending_is);
  sent = λ store now s by token moment is. rw is refl;
  faulted = λ s fault. plain_queues_no_custody s _ (Fault fault);
  ended = λ s cut. plain_queues_no_custody s _ (End cut);
  released = λ s. plain_queues_no_custody s _ Release;
  announced = λ s size. plain_queues_no_custody s _ (Announcement size);
  responded = responded_no_custody;
  written = λ s n. plain_queues_no_custody s _ (Write n);
}
