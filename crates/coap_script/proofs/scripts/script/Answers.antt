use Rattle.std.proofs.Common.{map, sym, arith}
use Rattle.std.proofs.lemmas.Bool.{eqb-true, eqb-false}
use Rattle.coap_script.specs.Prelude.{event_value}
use Rattle.coap_script.proofs.scripting.ScriptLemmas.{line_taken, line_refused, all_taken, rest_refused}
use Rattle.coap_script.proofs.scripts.script.Goals as goal

pub returns-then-not-is_right : goal.returns-then-not-is_right
returns-then-not-is_right c =
    line_refused c.loop-line.lines (map event_value c.loop-line.events.items)
    (map event_value c.take_line.new.events.items) c.loop-line.left.now c.in-Some.line.now c.in-Some.rest.now _
    c.loop-line.invariant.said c.in-Some.ensures.parts (rw c.if-not-is_right.true at c.in-Ok.ensures)

pub loop-line-preserved : goal.loop-line-preserved
loop-line-preserved c = record {
  said =
      line_taken c.loop-line.lines (map event_value c.loop-line.events.items)
      (map event_value c.take_line.new.events.items) c.loop-line.left.now c.in-Some.line.now c.in-Some.rest.now _
      c.loop-line.invariant.said c.in-Some.ensures.parts (rw c.if-not-is_right.false at c.in-Ok.ensures);
  counted = omega (arith, c.in-Some.ensures.lengths);
}

pub returns-then-not-is_empty : goal.returns-then-not-is_empty
returns-then-not-is_empty c =
    rest_refused c.loop-line.lines (map event_value c.loop-line.events.items) c.loop-line.left.now _
    c.loop-line.invariant.said c.in_default.ensures.parts (eqb-false _ 0 (sym c.if-not-is_empty.ensures))

pub returns : goal.returns
returns c =
    all_taken c.loop-line.lines (map event_value c.loop-line.events.items) c.loop-line.left.now _
    c.loop-line.invariant.said c.in_default.ensures.parts (eqb-true _ 0 (sym c.if-not-is_empty.ensures))
