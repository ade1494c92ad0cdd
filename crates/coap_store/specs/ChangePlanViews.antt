-- Defined by this project: the model value and the invariant of the type `ChangePlan`, which contracts
-- see as an answer.
use Rattle.coap_store.specs.Answer.{Answer, says, only}
use Rattle.coap_store.specs.PlanViews.{planned_value, IsAtPath, IsNamedPath, location_in}
use Rattle.coap_store.specs.declared.plan.ChangePlan.TheInside.{Inside}

abbrev pub change_answer : Inside → Answer
change_answer p =
    record (says (record (only p.code) { location = location_in p.sets_location (planned_value p.change) })) {
      change = planned_value p.change;
    }

-- The invariant: as that of a plan.
abbrev pub is_change_plan : Inside → Type 0
is_change_plan p = IsAtPath p.change × IsNamedPath p.sets_location p.change
