use Rattle.std.proofs.Common.{◌≡◌, ◌∙◌, ap, subst, arith, length, get_or, List, ℕ, ◌+◌, ◌-◌, ◌≤◌, ◌<◌, ◌∷◌, Bool, true}
use Rattle.std.proofs.Common.{false, is_some, Some}
use Rattle.std.specs.Option.{IfSome, IsSome}
use Rattle.std.specs.List.{slice_get}
use Rattle.std.specs.Ordering.{nat_cmp, is_gt}
use Rattle.std.specs.Map.{lookup}
use Rattle.directory_registry.specs.Prelude.{packed, is_labelled, is_number}
use Rattle.directory_registry.proofs.LabelLemmas.{not_gt, from_not_gt, packed_from, packed_below, packed_small}
use Rattle.directory_registry.proofs.candidates.next_with.Goals as goal

pub overflow_add-first : goal.overflow_add-first
overflow_add-first c =
    let small = packed_small c.args.label c.requires.small in
    omega (arith, c.pack-first.ensures, c.requires.within)

pub returns-in_default : goal.returns-in_default
returns-in_default c = (
  (λ n h i. ap is_some
      ((c.range.ensures.in_range tt).5 c.in_default.ensures.steps.0 (packed c.args.label n)
      (not_gt _ _ (packed_from c.args.label c.args.from n c.pack-first.result c.pack-first.ensures h), tt))),
  tt,
)

abbrev is_labelled_at : List (ℕ × ℕ) → ℕ → Bool
is_labelled_at ls q = is_some (lookup (is_number q) ls)

-- No label with a number is before the first one that is found.
before_first : (ls : List (ℕ × ℕ)) (l from n first : ℕ) (r rest : List (ℕ × ℕ)) (e : ℕ × ℕ) → first ≡ packed l 0
    → from ≤ n → first + n < e.0 → r ≡ e ∷ rest
    → ((q : ℕ) → first + from ≤ q → IsSome (lookup (is_number q) ls)
    → IfSome (slice_get r 0) (λ x. is_gt (nat_cmp x.0 q) ≡ false)) → is_labelled ls l n ≡ false
before_first ls l from n first r rest e is h less steps least =
    by (is_labelled ls l n) (λ k. least (packed l n) (packed_from l from n first is h) k)
  where
    by : (b : Bool) → (b ≡ true → IfSome (slice_get r 0) (λ x. is_gt (nat_cmp x.0 (packed l n)) ≡ false)) → b ≡ false
    by true k =
        let at : is_gt (nat_cmp e.0 (packed l n)) ≡ false =
        subst (λ (t : List (ℕ × ℕ)). IfSome (slice_get t 0) (λ x. is_gt (nat_cmp x.0 (packed l n)) ≡ false)) steps
        (k (λ i. true)) in
        let below : e.0 ≤ packed l n = from_not_gt e.0 (packed l n) at in
        let place = packed_below l n first is in
        absurd (omega arith)
    by false k = λ i. false

pub returns-then-number-gt18446744073709551615 : goal.returns-then-number-gt18446744073709551615
returns-then-number-gt18446744073709551615 c = (
  (λ n h i. before_first c.args.labels.now.entries c.args.label c.args.from n c.pack-first.result c.range.result _ _
      c.pack-first.ensures h (omega arith) c.in-Some.ensures.steps
      (λ q k s. (c.range.ensures.in_range tt).2 q (not_gt _ _ k, tt) s)),
  tt,
)

pub returns : goal.returns
returns c =
    let steps = c.in-Some.ensures.steps in
    let some : 0 < length c.range.result = omega (arith, ap length steps) in
    let all = (c.range.ensures.in_range tt).0 0 (0, 0) some in
    let head : get_or c.range.result 0 (0, 0) ≡ (c.in-Some.found.now, c.in-Some.field-0-1.now) =
    ap (λ (t : List (ℕ × ℕ)). get_or t 0 (0, 0)) steps in
    let low : is_gt (nat_cmp (c.pack-first.result + c.args.from) c.in-Some.found.now) ≡ false =
    subst (λ (x : ℕ × ℕ). is_gt (nat_cmp (c.pack-first.result + c.args.from) x.0) ≡ false) head all.0.0 in
    let there : lookup (is_number c.in-Some.found.now) c.args.labels.now.entries ≡ Some c.in-Some.field-0-1.now =
    subst (λ (x : ℕ × ℕ). lookup (is_number x.0) c.args.labels.now.entries ≡ Some x.1) head all.1 in
    let least : c.pack-first.result + c.args.from ≤ c.in-Some.found.now =
    from_not_gt (c.pack-first.result + c.args.from) c.in-Some.found.now low in
    let place : packed c.args.label (c.in-Some.found.now - c.pack-first.result) ≡ c.in-Some.found.now =
    omega (
      arith,
      packed_below c.args.label
          (c.in-Some.found.now - c.pack-first.result) c.pack-first.result c.pack-first.ensures,
    ) in (
      (λ n h i. before_first c.args.labels.now.entries c.args.label c.args.from n c.pack-first.result c.range.result _ _
          c.pack-first.ensures h (omega arith) steps (λ q k s. (c.range.ensures.in_range tt).2 q (not_gt _ _ k, tt) s)),
      (omega arith, omega arith, ap (λ (q : ℕ). is_labelled_at c.args.labels.now.entries q) place ∙ ap is_some there),
    )
