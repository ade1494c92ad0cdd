use Rattle.coap_server_session.specs.Prelude.{changed_mark}
use Rattle.coap_server_session.proofs.values.CauseLemmas.{marked_after}
use Rattle.coap_server_session.proofs.answering.answer_change.Goals as goal

pub returns-clause-marked : goal.returns-clause-marked
returns-clause-marked c =
    let e = c.remove_token.ensures in
    let shared = c.args.shared.now in
    let change = c.args.planned.change in
    rw (c.mark_changed.ensures, c.in_ok-changed.ensures.hash, c.in_ok-changed.ensures.ok)
    (marked_after shared change c.remove_token.new.self.entries c.remove_token.new.self.marks
    (e.marks (changed_mark shared) c.requires.marked))
