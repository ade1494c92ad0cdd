use Rattle.std.proofs.Common.{◌≡◌}
use Rattle.coap_wire.specs.Prelude.{first_critical, first_critical_in}
use Rattle.coap_wire.proofs.recognition.first_unrecognised_critical.Given as goal

-- Each critical option that was passed is recognised.
abbrev pub invariant-loop-checked : goal.invariant-loop-checked
invariant-loop-checked l =
    (goal.iterator-loop-checked).can_next l.checked-iterator
    × (goal.iterator-loop-checked).is_finite l.checked-iterator
    × (first_critical_in l.checked-iterator ≡ first_critical l.fn.options)
