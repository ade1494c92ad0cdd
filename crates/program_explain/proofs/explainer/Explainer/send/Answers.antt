use Rattle.std.proofs.Common.{refl, ◌∙◌}
use Rattle.coap_server_engine.specs.Prelude.{event_ran}
use Rattle.program_explain.proofs.ExplainLemmas.{sends, there_is_none, drained_server, never_too_many}
use Rattle.program_explain.proofs.explainer.Explainer.send.Goals as goal

pub returns-in_default-clause-explained : goal.returns-in_default-clause-explained
returns-in_default-clause-explained g c = (
  0,
  rw (there_is_none _ c.in_default.ensures.there)
      (record { prints = rw c.refusal_line.ensures at c.in_ok-show_line.ensures.prints; messages = refl }),
)

pub unreachable-requires : goal.unreachable-requires
unreachable-requires g c =
    never_too_many _ _ _ _ _ c.in-Some.ensures.there (rw c.in-Some.ensures.parts at c.at_most.ensures)
    c.in_default-written.ensures.answer

pub returns-clause-server : goal.returns-clause-server
unfolding event_ran
returns-clause-server g c =
    c.in-Ok.ensures.ok
    ∙ drained_server _ _ _ _ _ _ c.in-Some.ensures.there (rw c.in-Some.ensures.parts at c.at_most.ensures)

pub returns-clause-explained : goal.returns-clause-explained
returns-clause-explained g c =
    sends g.O.Outlet.written _ _ _ _ _ _ _ _ c.in-Some.ensures.there
    (rw c.in-Some.ensures.parts at c.at_most.ensures) c.in_ok-show_bytes.ensures.prints
    (rw c.queued_line.ensures at c.in_ok-show_line-2.ensures.prints) c.in_ok-show_bytes.ensures.messages
