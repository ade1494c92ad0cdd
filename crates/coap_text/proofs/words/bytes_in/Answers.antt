use Rattle.std.proofs.Common.{sym, inl, inr, ◌∙◌, ap}
use Rattle.std.proofs.lemmas.Bool.{eqb-true, eqb-false}
use Rattle.coap_text.proofs.WordLemmas.{hex_of_some}
use Rattle.coap_text.proofs.words.bytes_in.Goals as goal
use Rattle.coap_text.specs.Words.{hex_value}
use Rattle.std.specs.Result.{result_ok}
use Rattle.std.proofs.lemmas.List.{nil_from_length}

pub returns-then-is_empty : goal.returns-then-is_empty
unfolding hex_value
returns-then-is_empty c = rw (nil_from_length c.args.word.now (eqb-true _ 0 (sym c.if-is_empty.ensures)))

pub returns-in-Ok : goal.returns-in-Ok
returns-in-Ok c =
    sym (hex_of_some c.args.word.now (eqb-false _ 0 (sym c.if-is_empty.ensures)) ∙ ap result_ok c.in-Ok.ensures.ok)

pub returns-in_default : goal.returns-in_default
returns-in_default c = elim c.in-Err.ensures.err [
  | inl memory ↦ absurd (c.in_default.not-OutOfMemory memory)
  | inr is ↦ sym (hex_of_some c.args.word.now (eqb-false _ 0 (sym c.if-is_empty.ensures)) ∙ ap result_ok is)
]
