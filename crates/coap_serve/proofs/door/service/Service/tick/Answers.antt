use Rattle.std.proofs.Common.{◌∙◌, arith, refl}
use Rattle.coap_server_engine.proofs.scripting.FollowLemmas.{followed_none}
use Rattle.coap_serve.proofs.listener.RunLemmas.{none_ticked, same_time}
use Rattle.coap_serve.proofs.listener.SleepLemmas.{asleep_on, kept_or_not, paired_on, sleep_joined}
use Rattle.coap_serve.proofs.listener.ConfigLemmas.{config_or_not, keeps_room}
use Rattle.coap_serve.proofs.door.service.Service.tick.Goals as goal

pub invariant_of-self-2 : goal.invariant_of-self-2
invariant_of-self-2 g c =
    let kept = kept_or_not _ _ (c.concerned_by_time.ensures _) c.tick.ensures.ok c.tick.ensures.err in
    record {
      paired = paired_on c.args.self.now.paired kept.keys;
      room = keeps_room (config_or_not _ _ _ _ refl c.tick.ensures.ok
          c.tick.ensures.err) (omega arith) c.args.self.now.room;
      asleep = λ ready. asleep_on (sleep_joined kept c.join.ensures)
          c.args.self.now.paired (c.args.self.now.asleep ready);
    }

-- The time is that of the server.
pub returns-then-now-moment-clause-moved : goal.returns-then-now-moment-clause-moved
returns-then-now-moment-clause-moved g c =
    same_time c.moment.ensures.settled (c.if-now-moment.true ∙ c.moment.ensures.moment)

pub returns-then-now-moment-clause-reported : goal.returns-then-now-moment-clause-reported
returns-then-now-moment-clause-reported g c =
    rw (none_ticked c.args.self.now.server (c.if-now-moment.true ∙ c.moment.ensures.moment)) (followed_none _)
