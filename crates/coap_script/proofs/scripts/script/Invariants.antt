use Rattle.std.proofs.Common.{◌≡◌, ◌+◌, ◌≤◌, length, map}
use Rattle.coap_script.specs.Prelude.{parts, newline, script_of, said_after, said_by_parts, event_value}
use Rattle.coap_script.proofs.scripts.script.Given as goal

-- The text means the events so far, then the meaning of the text that is left.
abbrev pub invariant-loop-line : goal.invariant-loop-line
invariant-loop-line l =
    record {
      said : script_of l.text
          ≡ said_after l.lines (map event_value l.events.items) (said_by_parts (parts newline l.left));
      counted : l.lines + length l.left ≤ length l.text;
    }

abbrev pub decreases-loop-line : goal.decreases-loop-line
decreases-loop-line l = length l.left
