use Rattle.std.proofs.Common.{sym, add-zero, refl}
use Rattle.std.proofs.lemmas.List.{length-take-le}
use Rattle.coap_server_engine.proofs.values.WorkLemmas.{keeps_others}
use Rattle.coap_serve.specs.Prelude.{session_written, waiting_at, Bytes, Answered, Later, End, Failed}
use Rattle.coap_serve.proofs.listener.PeerLemmas.{first_written, none_refused}
use Rattle.coap_io.proofs.streams.DeviceLemmas.{part_written}
use Rattle.coap_serve.proofs.listener.ServingLemmas.{none_called}
use Rattle.coap_serve.proofs.door.peer.write_once.Goals as goal

-- The monitor receives the bytes that were written.
pub accepted-requires : goal.accepted-requires
accepted-requires g c =
    first_written (waiting_at c.args.id c.args.server.now) _ _
    (rw c.in-Some.ensures.parts at c.first_part-part.ensures) c.in-Bytes.ensures.within.1

pub unreachable-requires : goal.unreachable-requires
unreachable-requires g c =
    none_refused c.args.server.now _ _ _
    (sym c.in-Some.ensures.there) (rw c.in-Some.ensures.parts at c.first_part-part.ensures) c.in-Bytes.ensures.within.1
    c.in_default-written.ensures.answer

pub returns-in-Ok-clause-wrote : goal.returns-in-Ok-clause-wrote
returns-in-Ok-clause-wrote g c = λ _.
    rw c.if-not-may_write.false (part_written (waiting_at c.args.id c.args.server.now) _ (Bytes _) _ _
    (rw c.in-Some.ensures.parts at c.first_part-part.ensures).front c.in-Bytes.ensures.within c.in-Bytes.ensures.wrote)

pub returns-in-Ok-clause-accepted : goal.returns-in-Ok-clause-accepted
returns-in-Ok-clause-accepted g c =
    record {
      shows = c.in-Ok.ensures.shows;
      follows = rw (
        length-take-le _ _ c.in-Bytes.ensures.within.1,
        add-zero,
      ) at c.accepted.ensures;
    }

-- The wire was written once, and the result of that write is the result of the function.
pub returns-in-Ok-clause-answered : goal.returns-in-Ok-clause-answered
returns-in-Ok-clause-answered g c = λ _. Answered (Bytes _) c.in-Bytes.ensures.answered refl

pub returns-in-Later-clause-answered : goal.returns-in-Later-clause-answered
returns-in-Later-clause-answered g c = λ _. Answered Later c.in-Later.ensures.answered refl

pub returns-in-End-clause-answered : goal.returns-in-End-clause-answered
returns-in-End-clause-answered g c = λ _. Answered End c.in-End.ensures.answered refl

pub returns-in-Failed-clause-answered : goal.returns-in-Failed-clause-answered
returns-in-Failed-clause-answered g c = λ _. Answered Failed c.in-Failed.ensures.answered refl

-- Nothing was written.
pub returns-then-not-may_write-clause-accepted : goal.returns-then-not-may_write-clause-accepted
returns-then-not-may_write-clause-accepted g c = none_called refl

pub returns-in_default-clause-accepted : goal.returns-in_default-clause-accepted
returns-in_default-clause-accepted g c = none_called refl

pub returns-then-is_empty-clause-accepted : goal.returns-then-is_empty-clause-accepted
returns-then-is_empty-clause-accepted g c = none_called refl

pub returns-in-Later-clause-accepted : goal.returns-in-Later-clause-accepted
returns-in-Later-clause-accepted g c = none_called refl

pub returns-in-End-clause-accepted : goal.returns-in-End-clause-accepted
returns-in-End-clause-accepted g c = none_called refl

pub returns-in-Failed-clause-accepted : goal.returns-in-Failed-clause-accepted
returns-in-Failed-clause-accepted g c = none_called refl

pub returns-in-Ok-clause-kept : goal.returns-in-Ok-clause-kept
returns-in-Ok-clause-kept g c =
    rw c.in-Ok.ensures.ok (keeps_others _ _ (λ s. session_written s _) c.written.ensures.settled)
