use Rattle.std.proofs.Common.{refl, arith, ap, ◌∙◌}
use Rattle.coap_client_engine.specs.Prelude.{[], is_open, sizes_of, Released}
use Rattle.coap_frame.proofs.FramingLemmas.{empty_framer}
use Rattle.coap_conn.proofs.LinkLemmas.{stays_so}
use Rattle.coap_client_engine.proofs.ClientShown.{call_shown}
use Rattle.coap_client_engine.proofs.TakingLemmas.{is_still}
use Rattle.coap_client_engine.proofs.client.Client.release.Goals as goal

pub invariant_of-self-2 : goal.invariant_of-self-2
invariant_of-self-2 c =
    let is = c.self.invariant.framer in
    is_still c.self.inside c.clear.new.self c.release.new.self c.self.invariant (rw c.clear.ensures)
    (rw c.clear.ensures (empty_framer _ [] _ is.low is.high is.countable refl))
    (ap sizes_of c.in_ok-release.ensures.after ∙ stays_so sizes_of (is_open c.self.inside.link.phase) _ _ refl)

pub returns-clause-shows : goal.returns-clause-shows
returns-clause-shows c = call_shown c.args.self.now _ Released (grind arith) (grind arith)
