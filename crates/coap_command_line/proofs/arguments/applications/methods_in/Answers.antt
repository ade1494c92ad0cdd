use Rattle.std.proofs.Common.{[]}
use Rattle.coap_command_line.proofs.ApplicationLemmas.{no_method, next_method, last_method}
use Rattle.coap_command_line.proofs.arguments.applications.methods_in.Goals as goal

pub returns-in_default-method_in : goal.returns-in_default-method_in
returns-in_default-method_in c =
    no_method _ _ _ _ _ c.loop-name.invariant.same c.in-Some.ensures.parts c.in_default-method_in.ensures

pub loop-name-preserved : goal.loop-name-preserved
loop-name-preserved c = record {
  same =
      next_method _ _ _ _ _ c.loop-name.invariant.same c.in-Some.ensures.parts _ _ c.in-Some-method_in.ensures
      c.in_ok-push.ensures.items;
}

-- The last name.
pub returns-in_default-method_in-2 : goal.returns-in_default-method_in-2
returns-in_default-method_in-2 c =
    no_method _ _ _ [] _ c.loop-name.invariant.same c.in_default.ensures.parts c.in_default-method_in-2.ensures

pub returns : goal.returns
returns c =
    last_method _ _ _ _ c.loop-name.invariant.same c.in_default.ensures.parts _ _ c.in-Some-method_in-2.ensures
    c.in_ok-push-2.ensures.items
