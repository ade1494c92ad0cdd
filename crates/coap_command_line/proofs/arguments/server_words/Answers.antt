use Rattle.std.proofs.Common.{subst}
use Rattle.coap_command_line.specs.PlanViews.{GivesServerPlan}
use Rattle.coap_command_line.specs.ServerWords.{server_plan_in, server_plan_of}
use Rattle.coap_command_line.proofs.PlanLemmas.{turned_down, accepted}
use Rattle.coap_command_line.proofs.arguments.server_words.Goals as goal

pub returns-in-Err-clause-plan : goal.returns-in-Err-clause-plan
unfolding server_plan_of
returns-in-Err-clause-plan g c = turned_down _ _ c.in-Err.fault c.in-Err.ensures.refusal

pub returns-clause-plan : goal.returns-clause-plan
unfolding server_plan_of
returns-clause-plan g c =
    subst (λ a. GivesServerPlan a c.server_plan.result)
    (accepted _ _ _ server_plan_in c.in-Ok.ensures.kinds c.in-Ok.ensures.rows) c.server_plan.ensures.plan
