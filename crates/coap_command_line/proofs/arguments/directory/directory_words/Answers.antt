use Rattle.std.proofs.Common.{subst}
use Rattle.coap_command_line.specs.DirectoryWords.{directory_plan_in, directory_plan_of, GivesDirectoryPlan}
use Rattle.coap_command_line.proofs.PlanLemmas.{turned_down, accepted}
use Rattle.coap_command_line.proofs.arguments.directory.directory_words.Goals as goal

pub returns-in-Err-clause-plan : goal.returns-in-Err-clause-plan
unfolding directory_plan_of
returns-in-Err-clause-plan g c = turned_down _ _ c.in-Err.fault c.in-Err.ensures.refusal

pub returns-clause-plan : goal.returns-clause-plan
unfolding directory_plan_of
returns-clause-plan g c =
    subst (λ a. GivesDirectoryPlan a c.directory_plan.result)
    (accepted _ _ _ directory_plan_in c.in-Ok.ensures.kinds c.in-Ok.ensures.rows) c.directory_plan.ensures.plan
