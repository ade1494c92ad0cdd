use Rattle.std.proofs.Common.{subst}
use Rattle.coap_command_line.specs.PlanViews.{GivesClientPlan}
use Rattle.coap_command_line.specs.ClientWords.{client_plan_in, client_plan_of}
use Rattle.coap_command_line.proofs.PlanLemmas.{turned_down, accepted}
use Rattle.coap_command_line.proofs.arguments.client_words.Goals as goal

pub returns-in-Err : goal.returns-in-Err
unfolding client_plan_of
returns-in-Err g c = turned_down _ _ c.in-Err.fault c.in-Err.ensures.refusal

pub returns : goal.returns
unfolding client_plan_of
returns g c =
    subst (λ a. GivesClientPlan a c.client_plan.result)
    (accepted _ _ _ client_plan_in c.in-Ok.ensures.kinds c.in-Ok.ensures.rows) c.client_plan.ensures
