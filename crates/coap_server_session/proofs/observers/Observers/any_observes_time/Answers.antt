use Rattle.std.proofs.Common.{◌∙◌, ap, is_some}
use Rattle.coap_server_session.specs.declared.cause.Cause.TheVariants as cause
use Rattle.coap_server_session.proofs.values.ChainLemmas.{last_concerns}
use Rattle.coap_server_session.proofs.observers.Observers.any_observes_time.Goals as goal

pub returns : goal.returns
returns c =
    rw (← c.self.view_is) (c.is_some.ensures ∙ ap is_some c.last.ensures
    ∙ last_concerns (cause.Moment 0) c.self.inside.chains c.self.inside.entries.items c.self.invariant.chained)
