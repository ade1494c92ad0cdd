use Rattle.std.proofs.Common.{◌∙◌, sym, map}
use Rattle.std.proofs.lemmas.List.{at_drop_all}
use Rattle.coap_command_line.specs.Prelude.{with_texts}
use Rattle.coap_command_line.proofs.ApplicationLemmas.{entry_added, entry_refused}
use Rattle.coap_command_line.proofs.arguments.applications.entries_in.Goals as goal

pub returns-then-not-added : goal.returns-then-not-added
returns-then-not-added c =
    entry_refused _ c.args.texts.now c.loop-text.text-index _ c.loop-text.entries c.add_text.new.entries _
    c.loop-text-test.true c.loop-text.invariant.same (rw c.as_bytes.ensures.value at c.in-Ok-add_text.ensures)
    c.if-not-added.true

pub loop-text-preserved : goal.loop-text-preserved
loop-text-preserved c = record {
  same =
      entry_added _ c.args.texts.now c.loop-text.text-index _ c.loop-text.entries c.add_text.new.entries _
      c.loop-text-test.true c.loop-text.invariant.same (rw c.as_bytes.ensures.value at c.in-Ok-add_text.ensures)
      c.if-not-added.false;
}

pub returns : goal.returns
unfolding with_texts
returns c =
    sym c.loop-text.invariant.same ∙ at_drop_all (λ left. with_texts c.loop-text.entries (map (λ t. t.now) left))
    c.args.texts.now c.loop-text.text-index c.loop-text-test.false
