use Rattle.std.proofs.Common.{◌≡◌, ◌≢◌, refl, rules}
use Rattle.coap_server_engine.proofs.values.WorkLemmas.{keeps_others}
use Rattle.coap_serve.specs.Prelude.{End, session_ended}
use Rattle.coap_serve.proofs.listener.ServingLemmas.{read_called, none_called}
use Rattle.coap_serve.proofs.door.peer.read_wire.Goals as goal

pub returns-then-not-may_read-clause-accepted : goal.returns-then-not-may_read-clause-accepted
returns-then-not-may_read-clause-accepted g c = none_called refl

pub returns-else-eq-clause-accepted : goal.returns-else-eq-clause-accepted
returns-else-eq-clause-accepted g c =
    let apart : _ ≢ End = search rules in
    read_called _ _ apart refl

pub returns-in-Ok-clause-accepted : goal.returns-in-Ok-clause-accepted
returns-in-Ok-clause-accepted g c =
    let is : c.read-got.result ≡ End = search rules in
    rw is (record { shows = c.in-Ok.ensures.shows; follows = c.accepted.ensures })

pub returns-in-Ok-clause-kept : goal.returns-in-Ok-clause-kept
returns-in-Ok-clause-kept g c = rw c.in-Ok.ensures.ok (keeps_others _ _ session_ended c.ended.ensures.settled)
