use Rattle.coap_record.proofs.ReplayLaws.{replays_on_new, drained_alike}
use Rattle.coap_record.proofs.laws.a_record_replays.Goals as goal

pub returns : goal.returns
returns c =
    record { server = λ v cs turns shows can. (replays_on_new v cs turns shows can).0; drained = drained_alike }
