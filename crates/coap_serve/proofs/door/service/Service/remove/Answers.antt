use Rattle.std.proofs.Common.{arith, refl}
use Rattle.coap_serve.proofs.listener.SleepLemmas.{asleep_on, kept_or_not, paired_on, sleep_joined}
use Rattle.coap_serve.proofs.listener.ConfigLemmas.{config_or_not, keeps_room}
use Rattle.coap_serve.proofs.door.service.Service.remove.Goals as goal

pub invariant_of-self : goal.invariant_of-self
invariant_of-self g c =
    let kept = kept_or_not _ _ c.concerned_by.ensures.removed c.remove.ensures.ok c.remove.ensures.err in
    record {
      paired = paired_on c.args.self.now.paired kept.keys;
      room = keeps_room (config_or_not _ _ _ _ refl
          c.remove.ensures.ok c.remove.ensures.err) (omega arith) c.args.self.now.room;
      asleep = λ ready. asleep_on (sleep_joined kept c.join.ensures)
          c.args.self.now.paired (c.args.self.now.asleep ready);
    }
