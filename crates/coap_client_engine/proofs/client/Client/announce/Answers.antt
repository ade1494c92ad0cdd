use Rattle.std.proofs.Common.{ap, sym, ◌∙◌, arith}
use Rattle.std.proofs.lemmas.Bool.Decides.{nat_tests}
use Rattle.coap_client_engine.specs.Prelude.{is_open, Announced}
use Rattle.coap_frame.proofs.RaiseLemmas.{raise_allowed}
use Rattle.coap_client_engine.proofs.ClientShown.{call_shown}
use Rattle.coap_client_engine.proofs.TakingLemmas.{announced_is}
use Rattle.coap_client_engine.proofs.client.Client.announce.Goals as goal

pub invariant_of-self-2 : goal.invariant_of-self-2
invariant_of-self-2 c =
    announced_is c.self.inside c.args.size c.raise.new.self c.announce.new.self c.self.invariant
    (ap is_open (sym c.phase.ensures ∙ c.in-Open.is)) (sym c.if-not-takes_announcement.ensures) c.in-Ok.ensures.answer
    c.in-Ok.ensures.after c.announce.ensures.after

pub returns-clause-shows : goal.returns-clause-shows
returns-clause-shows c =
    let allowed = raise_allowed c.self.inside.framer.max c.args.size c.in-Ok.ensures.answer in
    let ready = c.ready.ensures.0 c.if-not-ready.false in
    call_shown c.args.self.now _ (Announced c.args.size) (grind (arith, nat_tests)) (grind arith)
