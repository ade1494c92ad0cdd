use Rattle.std.proofs.Common.{ℕ, ◌+◌, ◌-◌, ◌/◌, ◌%◌, List, [], ◌∷◌, ◌++◌, ap, sym, ◌∙◌, append_assoc}
use Rattle.std.specs.Prelude.{◌==◌, if◌then◌else◌}
use Rattle.std.proofs.lemmas.List.{append-nil}
use Rattle.c_api.specs.PathTexts.{set_bits}
use Rattle.c_api.proofs.PathLemmas.{bits_more, bits_none}
use Rattle.c_api.proofs.paths.methods_in.Goals as goal

pub loop-number-preserved : goal.loop-number-preserved
loop-number-preserved c =
    let more = bits_more c.loop-number.number c.loop-number.rest c.loop-number-test.true in
    let n = c.loop-number.number in
    let r = c.loop-number.rest in
    let old = c.loop-number.methods.items in
    let tail = set_bits (32 - (n + 1)) (r / 2) (n + 1) in
    ap (λ (y : List ℕ). y ++ tail)
    (c.in_ok-push_if.ensures ∙ ap (λ (k : ℕ). old ++ (if r % 2 == 1 then k ∷ [] else [])) c.new.ensures)
    ∙ append_assoc old (if r % 2 == 1 then n ∷ [] else []) tail ∙ ap (λ (y : List ℕ). old ++ y) (sym more)
    ∙ c.loop-number.invariant

pub returns : goal.returns
returns c =
    let none = bits_none c.loop-number.number c.loop-number.rest c.loop-number-test.false in
    let i = c.loop-number.invariant in
    sym (append-nil c.loop-number.methods.items) ∙ ap (λ y. c.loop-number.methods.items ++ y) (sym none) ∙ i
