use Rattle.std.proofs.Common.{◌≡◌}
use Rattle.std.specs.List.{flat_map}
use Rattle.coap_print.specs.Descriptions.{option_text}
use Rattle.coap_print.specs.Lines.{appended}
use Rattle.coap_print.specs.declared.line.TheConstants.{LINE_LENGTH}
use Rattle.coap_print.proofs.description.append_options.Given as goal

-- The line so far, with the remaining options, is the line with all options.
abbrev pub invariant-loop-option : goal.invariant-loop-option
invariant-loop-option l = record {
  goes : (goal.iterator-loop-option).can_next l.option-iterator;
  ends : (goal.iterator-loop-option).is_finite l.option-iterator;
  all : appended LINE_LENGTH l.line (flat_map (option_text l.code) l.option-iterator)
      ≡ appended LINE_LENGTH l.fn.line (flat_map (option_text l.code) l.fn.options);
}
