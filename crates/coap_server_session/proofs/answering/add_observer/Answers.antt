use Rattle.coap_server_session.specs.Prelude.{new_entry}
use Rattle.coap_server_session.proofs.values.MarkLemmas.{entered_marked, fresh_unmarked}
use Rattle.coap_server_session.proofs.values.SettleLemmas.{marked_now}
use Rattle.coap_server_session.proofs.answering.add_observer.Goals as goal

pub returns-clause-marked : goal.returns-clause-marked
returns-clause-marked c = λ marked.
    let shared = c.args.shared.now in
    let before = c.args.observers.now in
    let entry = new_entry shared c.args.request.now in
    let fresh =
    fresh_unmarked shared entry (marked_now shared entry c.requires.watched.representation c.requires.watched.there) in
    rw (c.add_observer.ensures, c.entry_for.ensures.entry)
    (entered_marked shared before.entries before.marks entry marked fresh)
