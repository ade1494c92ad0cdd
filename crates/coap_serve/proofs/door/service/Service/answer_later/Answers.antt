use Rattle.coap_serve.proofs.listener.SleepLemmas.{asleep_on, paired_on}
use Rattle.coap_serve.proofs.listener.ConfigLemmas.{keeps_room, later_config}
use Rattle.coap_serve.proofs.door.service.Service.answer_later.Goals as goal

pub invariant_of-self : goal.invariant_of-self
invariant_of-self g c = record {
  paired = paired_on c.args.self.now.paired c.answer_each-count.ensures.kept.keys;
  room = keeps_room (later_config c.answer_each-count.ensures.shows.given) c.answer_each-count.ensures.capacity
      c.args.self.now.room;
  asleep = λ ready. asleep_on c.answer_each-count.ensures.kept
      c.args.self.now.paired (c.args.self.now.asleep ready);
}
