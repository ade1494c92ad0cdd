use Rattle.std.proofs.Common.{◌≡◌, ◌∷◌, [], ◌++◌, length, arith}
use Rattle.std.proofs.lemmas.Grind.{common_steps}
use Rattle.c_api.proofs.ListedLemmas.{goes_on, truncated, too_many_listed, at_end}
use Rattle.c_api.proofs.paths.segments_at.Goals as goal

pub returns-in_err-segment-clause-none : goal.returns-in_err-segment-clause-none
returns-in_err-segment-clause-none c =
    rw c.from_residual.ensures (truncated _ _ _ _ _ _ c.in-Some.ensures.cases.0 c.from.ensures
    c.in_err-segment.ensures.cases c.loop-size.invariant)

pub returns-in_err-ok-clause-none : goal.returns-in_err-ok-clause-none
returns-in_err-ok-clause-none c =
    let full : length c.loop-size.segments.items ≡ 16 =
    grind (arith, common_steps, c.try_push.ensures.full, c.in_err-ok.ensures.variant) in
    rw c.from_residual-in_err-ok.ensures (too_many_listed c.loop-size.segments.items _ _ _ _ _
    c.in-Some.ensures.cases.0 c.from.ensures c.in_ok-segment.ensures.cases.0 full c.loop-size.invariant)

pub loop-size-preserved : goal.loop-size-preserved
loop-size-preserved c =
    let items : c.try_push.new.self.items ≡ c.loop-size.segments.items ++ c.in_ok-segment.segment ∷ [] =
    grind (arith, common_steps, c.try_push.ensures.ok, c.in_ok-ok.ensures.variant) in
    let whole = c.in_ok-segment.ensures.cases in
    rw items (goes_on c.loop-size.segments.items c.in_ok-segment.segment _ _ _ _ _ _ c.in-Some.ensures.cases.0
    c.from.ensures whole.0 whole.1 whole.2 c.loop-size.invariant)

pub returns-clause-some : goal.returns-clause-some
returns-clause-some c =
    at_end _ _ _ c.in_default.ensures.cases c.loop-size.invariant
