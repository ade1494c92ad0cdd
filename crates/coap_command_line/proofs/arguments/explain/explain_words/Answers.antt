use Rattle.std.proofs.Common.{subst}
use Rattle.coap_command_line.specs.ExplainWords.{explain_plan_in, explain_plan_of, GivesExplainPlan}
use Rattle.coap_command_line.proofs.PlanLemmas.{turned_down, accepted}
use Rattle.coap_command_line.proofs.arguments.explain.explain_words.Goals as goal

pub returns-in-Err : goal.returns-in-Err
unfolding explain_plan_of
returns-in-Err g c = turned_down _ _ c.in-Err.fault c.in-Err.ensures.refusal

pub returns : goal.returns
unfolding explain_plan_of
returns g c =
    subst (λ a. GivesExplainPlan a c.explain_plan.result)
    (accepted _ _ _ explain_plan_in c.in-Ok.ensures.kinds c.in-Ok.ensures.rows) c.explain_plan.ensures
