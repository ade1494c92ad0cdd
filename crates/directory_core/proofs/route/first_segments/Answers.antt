use Rattle.std.proofs.Common.{sym, ◌∙◌, ap, arith}
use Rattle.std.proofs.lemmas.List.{length-map}
use Rattle.directory_core.specs.Prelude.{segments, segment_list}
use Rattle.directory_core.proofs.PathLemmas.{three, all_of}
use Rattle.directory_core.proofs.route.first_segments.Goals as goal

pub returns-then-len-eq-MAX_SEGMENTS : goal.returns-then-len-eq-MAX_SEGMENTS
returns-then-len-eq-MAX_SEGMENTS c =
    three (segment_list c.loop-option.first.items) (segments c.loop-option.option-iterator) _
    (length-map c.loop-option.first.items (λ s. s.now) ∙ sym c.len.ensures.value ∙ c.if-len-eq-MAX_SEGMENTS.true)
    c.loop-option.invariant.so_far

pub returns : goal.returns
returns c =
    all_of (segment_list c.loop-option.first.items) (segments c.loop-option.option-iterator) _
    (omega (arith, length-map c.loop-option.first.items (λ s. s.now), c.loop-option.invariant.few))
    (ap segments c.in-None.ensures.steps.0) c.loop-option.invariant.so_far
