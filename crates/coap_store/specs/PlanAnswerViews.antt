-- Defined by this project: the model value and the invariant of the type `Plan`, which contracts see as an answer.
use Rattle.std.specs.Prelude.{option_map}
use Rattle.coap_wire.specs.Uint.{bytes_of_uint}
use Rattle.coap_store.specs.Answer.{Answer}
use Rattle.coap_store.specs.PlanViews.{bytes_in, IsTextOf, planned_value, IsAtPath, IsNamedPath, location_in}
use Rattle.coap_store.specs.declared.plan.Plan.TheInside.{Inside}

abbrev pub plan_answer : Inside → Answer
plan_answer p = record {
  response = record {
    code = p.code;
    etag = option_map bytes_of_uint p.etag;
    format = p.format;
    max_age = p.max_age;
    location = location_in p.sets_location (planned_value p.change);
    size1 = p.size1;
    payload = bytes_in p.payload;
  };
  change = planned_value p.change;
  watch = p.watch;
  hold = p.hold;
}

-- The invariant of a plan. A resource can have the path of its change, and a path in its response has a segment. The
-- text is that of the payload.
abbrev pub is_plan : Inside → Type 0
is_plan p = IsAtPath p.change × IsNamedPath p.sets_location p.change × IsTextOf p.payload p.text.items
