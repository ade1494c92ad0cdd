use Rattle.std.proofs.Common.{◌≡◌, ◌||◌}
use Rattle.coap_store.specs.Prelude.{is_some, known_options, first_critical, nothing, all_noted, options_value}
use Rattle.coap_store.specs.Prelude.{recognised_in}
use Rattle.coap_store.proofs.CheckedLemmas.{has_bad}
use Rattle.coap_store.proofs.request.scan_options.Given as goal

-- The options collected so far, with the remaining ones, are all options. The same holds for the flag.
abbrev pub invariant-loop-checked : goal.invariant-loop-checked
invariant-loop-checked l = record {
  goes : (goal.iterator-loop-checked).can_next l.checked-iterator;
  ends : (goal.iterator-loop-checked).is_finite l.checked-iterator;
  all : all_noted (options_value l.known) (recognised_in l.checked-iterator)
      ≡ all_noted nothing (known_options l.request.options);
  bad : (l.has_bad_option || has_bad l.checked-iterator) ≡ is_some (first_critical l.request.options);
}
