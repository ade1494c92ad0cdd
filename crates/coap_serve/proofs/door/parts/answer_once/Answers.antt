use Rattle.std.proofs.Common.{Some, refl}
use Rattle.coap_server_engine.proofs.values.WorkLemmas.{offered_keeps}
use Rattle.coap_serve.proofs.listener.SleepLemmas.{sleep_none, sleep_woken}
use Rattle.coap_serve.proofs.door.parts.answer_once.Goals as goal

-- No connection has the number.
pub returns-in_default-index_of-clause-kept : goal.returns-in_default-index_of-clause-kept
returns-in_default-index_of-clause-kept g c =
    let requested = c.in-Some.ensures.requested in
    sleep_none c.in-Some.id
    (rw requested.server (offered_keeps c.args.server.now c.in-Some.id requested.bytes c.in-Some.ensures.settled))
    c.wake_all.ensures

pub returns-clause-kept : goal.returns-clause-kept
returns-clause-kept g c =
    let requested = c.in-Some.ensures.requested in
    sleep_woken _ _ (rw requested.server (offered_keeps _ _ requested.bytes c.in-Some.ensures.settled))
    c.in-Some-index_of.ensures.at c.wake.ensures.awake c.wake.ensures.asleep

pub returns-clause-requested : goal.returns-clause-requested
returns-clause-requested g c = (Some _, refl, c.in-Some.ensures.requested)
