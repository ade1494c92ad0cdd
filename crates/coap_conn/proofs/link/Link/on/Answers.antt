use Rattle.std.proofs.Common.{sym, ◌∙◌}
use Rattle.coap_conn.specs.Calls as call
use Rattle.coap_conn.proofs.LinkLemmas.{shows}
use Rattle.coap_conn.proofs.RequestLemmas.{handled_is, request_left}
use Rattle.coap_conn.proofs.link.Link.on.Goals as goal

pub returns-clause-shows : goal.returns-clause-shows
returns-clause-shows c =
    shows c.args.self.now _ (call.Handle c.args.message.now) tt
    (c.handle.ensures.after ∙ sym (handled_is c.args.self.now c.args.message.now c.requires.live))

pub returns-clause-unchanged : goal.returns-clause-unchanged
returns-clause-unchanged c = λ requested.
    (request_left c.args.self.now _ c.args.message.now _ c.requires.live c.handle.ensures.verdict
    c.handle.ensures.after requested).0

pub returns-clause-requested : goal.returns-clause-requested
returns-clause-requested c = λ requested.
    let left = request_left c.args.self.now _ c.args.message.now _ c.requires.live c.handle.ensures.verdict
    c.handle.ensures.after requested in
    rw left.0 (c.requires.ready, left.1)
