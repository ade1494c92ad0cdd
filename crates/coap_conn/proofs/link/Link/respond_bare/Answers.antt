use Rattle.std.proofs.Common.{◌≡◌, true, remove, ap, ◌∙◌, ◌++◌, rules, tests}
use Rattle.coap_conn.specs.Prelude.{spelling, fits, bare_response, LinkValue, limit_in}
use Rattle.coap_conn.proofs.PendingLemmas.{pending_without}
use Rattle.coap_conn.proofs.ApplicationLemmas.{bare_link}
use Rattle.coap_conn.proofs.link.Link.respond_bare.Goals as goal

pub returns-clause-after : goal.returns-clause-after
returns-clause-after c =
    let small : fits (limit_in c.args.self.now) (bare_response c.args.message.now) ≡ true = search (rules, tests) in
    let bare : c.bare_of-bare.result ≡ bare_response c.args.message.now = search (rules, tests) in
    rw (ap (λ q. q.waiting) c.put_compact.ensures, c.remove-2.ensures.items, pending_without, bare)
    (ap (λ (v : LinkValue). record v {
      waiting = v.waiting ++ spelling (bare_response c.args.message.now);
      pending = remove v.pending c.args.index;
    }) c.self.view_is
    ∙ bare_link c.args.self.now c.args.message.now (bare_response c.args.message.now)
    (remove c.args.self.now.pending c.args.index) c.requires.large small)
