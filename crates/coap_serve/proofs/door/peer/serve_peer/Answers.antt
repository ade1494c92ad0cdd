use Rattle.std.proofs.Common.{sym, ap, subst, ◌∙◌}
use Rattle.coap_serve.specs.Prelude.{IsOutcomeFor, work_of, peer_outcome, is_over_in, readiness, trace_by}
use Rattle.coap_serve.proofs.listener.PeerLemmas.{failed_read_is_a_part, read_failed, steps_are_a_part, write_reason}
use Rattle.coap_serve.proofs.listener.SleepLemmas.{beside_served}
use Rattle.coap_serve.proofs.listener.ServingLemmas.{both_made, read_served, wrote_served}
use Rattle.coap_serve.proofs.door.peer.serve_peer.Goals as goal

pub returns-in_err-taken-clause-shows : goal.returns-in_err-taken-clause-shows
returns-in_err-taken-clause-shows g c =
    both_made (read_served _ _ c.read_wire-received.ensures.server
    c.read_wire-received.ensures.accepted) c.take_buffered.ensures.shows

pub returns-clause-shows : goal.returns-clause-shows
returns-clause-shows g c =
    both_made (read_served _ _ c.read_wire-received.ensures.server c.read_wire-received.ensures.accepted)
    (both_made c.take_buffered.ensures.shows (wrote_served _ _
    c.write_once-wrote.ensures.server c.write_once-wrote.ensures.accepted))

pub returns-clause-part : goal.returns-clause-part
returns-clause-part g c =
    let trace = trace_by g.W.Wire.given g.W.Wire.written g.W.Wire.answers g.W.Wire.rooms in
    let received = c.read_wire-received.ensures in
    let wrote = c.write_once-wrote.ensures in
    steps_are_a_part (readiness _ _) _ c.may_read-may_read.ensures c.may_write-may_write.ensures
    received.server received.laid (sym c.failed.ensures ∙ c.if-failed.false) c.in_ok-taken.ensures.taken (record {
      idle = λ none. let same = wrote.idle none in (same.1, ap trace same.0);
      busy = λ some. record {
        within = wrote.within;
        took = wrote.wrote some;
        gave = wrote.gave some;
        answered = wrote.answered some;
        no_read = wrote.no_read some;
      };
    }) wrote.server (rw c.work_at-work.ensures c.outcome.ensures) received.accepted wrote.accepted
    (rw (c.has_moved-moved.ensures, received.activity) at c.after-activity.ensures)

pub returns-in_err-taken-clause-keys : goal.returns-in_err-taken-clause-keys
returns-in_err-taken-clause-keys g c = c.take_buffered.ensures.keys ∙ c.read_wire-received.ensures.kept.keys

pub returns-clause-keys : goal.returns-clause-keys
returns-clause-keys g c =
    c.write_once-wrote.ensures.kept.keys ∙ c.take_buffered.ensures.keys ∙ c.read_wire-received.ensures.kept.keys

pub returns-clause-kept : goal.returns-clause-kept
returns-clause-kept g c = beside_served _ c.read_wire-received.ensures.kept
    c.in_ok-taken.ensures.kept c.write_once-wrote.ensures.kept

pub returns-then-failed-clause-part : goal.returns-then-failed-clause-part
returns-then-failed-clause-part g c =
    failed_read_is_a_part (readiness _ _) _ _ c.may_read-may_read.ensures c.may_write-may_write.ensures
    c.read_wire-received.ensures.server c.read_wire-received.ensures.laid (sym c.failed.ensures ∙ c.if-failed.true)
    c.read_wire-received.ensures.accepted c.read_wire-received.ensures.activity

-- The reason of a drop is right: a failed read was due, and a failed write leaves bytes queued.
pub returns-then-failed-clause-reason : goal.returns-then-failed-clause-reason
returns-then-failed-clause-reason g c =
    let trace = trace_by g.W.Wire.given g.W.Wire.written g.W.Wire.answers g.W.Wire.rooms in
    read_failed c.may_read-may_read.result _ _ c.args.peer.now.rest
    c.read_wire-received.new.peer.rest (trace c.args.peer.now.wire) (trace c.read_wire-received.new.peer.wire)
    _ c.read_wire-received.ensures.server c.read_wire-received.ensures.laid (sym c.failed.ensures ∙ c.if-failed.true)

pub returns-clause-reason : goal.returns-clause-reason
returns-clause-reason g c =
    let wrote = c.write_once-wrote.ensures in
    rw c.outcome.ensures
    (subst (λ over. IsOutcomeFor (peer_outcome c.write_once-wrote.result over) (work_of c.write_once-wrote.new.server
    c.args.turn.index.id)) (ap is_over_in c.work_at-work.ensures) (write_reason _ _ _
    _ wrote.server (λ none. (wrote.idle none).1)))
