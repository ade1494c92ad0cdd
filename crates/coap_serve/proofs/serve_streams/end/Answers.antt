use Rattle.std.proofs.Common.{ap, ◌∙◌}
use Rattle.coap_serve.proofs.streams.RunLemmas.{end_stops, end_reported, not_there}
use Rattle.coap_serve.proofs.serve_streams.end.Goals as goal

pub unreachable-requires : goal.unreachable-requires
unreachable-requires g c = not_there _ _ c.requires.is_at.3 c.in_default.ensures.answer

pub returns-clause-reason : goal.returns-clause-reason
returns-clause-reason g c = λ first k bytes goes. c.stop_in.ensures ∙ end_stops goes
    (ap (λ v. v.config) c.in-Ok.ensures.ok) c.in-Ok.ensures.shows

pub returns-clause-reported : goal.returns-clause-reported
returns-clause-reported g c = λ first k bytes goes.
    end_reported _ _ _ goes (ap (λ v. v.config) c.in-Ok.ensures.ok)
    c.in-Ok.ensures.shows c.accepted.ensures
