use Rattle.std.proofs.Common.{refl, arith, ap, ◌∙◌}
use Rattle.coap_client_engine.specs.Prelude.{[], nat_lt, sizes_of, Ended}
use Rattle.coap_frame.proofs.FramingLemmas.{empty_framer}
use Rattle.coap_conn.proofs.LinkLemmas.{end_sizes}
use Rattle.coap_client_engine.proofs.ClientShown.{call_shown}
use Rattle.coap_client_engine.proofs.TakingLemmas.{is_still}
use Rattle.coap_client_engine.proofs.client.Client.ended.Goals as goal

pub invariant_of-self : goal.invariant_of-self
invariant_of-self c =
    let is = c.self.invariant.framer in
    is_still c.self.inside c.clear.new.self c.end.new.self c.self.invariant (rw c.clear.ensures)
    (rw c.clear.ensures (empty_framer _ [] _ is.low is.high is.countable refl))
    (ap sizes_of c.end.ensures.after ∙ end_sizes c.self.inside.link (nat_lt 0 c.kept.result))

pub returns-clause-shows : goal.returns-clause-shows
returns-clause-shows c = call_shown c.args.self.now _ Ended tt (grind arith)
