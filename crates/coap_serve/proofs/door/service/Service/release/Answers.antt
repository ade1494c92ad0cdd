use Rattle.std.proofs.Common.{arith, ap}
use Rattle.coap_server_engine.proofs.values.WorkLemmas.{keeps_others}
use Rattle.coap_serve.specs.Prelude.{session_released}
use Rattle.coap_serve.proofs.listener.RoundLemmas.{paired_released_on}
use Rattle.coap_serve.proofs.listener.SleepLemmas.{none_asleep}
use Rattle.coap_serve.proofs.listener.ConfigLemmas.{keeps_room}
use Rattle.coap_serve.proofs.door.service.Service.release.Goals as goal

pub invariant_of-self-2 : goal.invariant_of-self-2
invariant_of-self-2 g c =
    let v = c.args.self.now in
    let keys = (keeps_others v.server _ session_released c.release.ensures.settled).keys in
    record {
      paired = paired_released_on v.second _ (rw c.in_ok-release.ensures.ok keys) c.release_on.ensures v.paired;
      room = keeps_room (ap (λ u. u.config) c.in_ok-release.ensures.ok) (omega arith) v.room;
      asleep = λ ready. none_asleep c.wake_all.ensures;
    }
