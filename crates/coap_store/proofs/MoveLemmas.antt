-- Bytes that are moved.
use Rattle.std.proofs.Common.{◌≡◌, ℕ, ◌+◌, ◌-◌, ◌≤◌, List, [], ◌++◌, length, take, drop, sym, ◌∙◌, append_assoc}
use Rattle.std.proofs.Common.{length-append, arith}
use Rattle.std.proofs.lemmas.List.{append-nil, take-append-drop, take-take, drop-drop, drop-take, drop-append-le}
use Rattle.std.proofs.lemmas.List.{drop_all, length-take-le, length-drop}
use Rattle.std.proofs.lemmas.List.Edits.{drop-paste}
use lib.Seq.{paste}
use borrow.Rule.Slice.PartMut.{put_mid}
use Rattle.std.proofs.lemmas.Grind.{common_steps}

take_sum : (n m : ℕ) (s : List ℕ) → take (n + m) s ≡ take n s ++ take m (drop n s)
take_sum n m s =
    sym (take-append-drop n (take (n + m) s)) ∙ (λ i. take-take n (n + m) s (omega arith) i ++ drop-take n m s i)

pub length_written : (xs new : List ℕ) (a k : ℕ) → length new ≡ k → a + k ≤ length xs
    → length (put_mid a k xs new) ≡ length xs
length_written xs new a k count within =
    omega (arith, length-append {A = ℕ}, length-drop {A = ℕ}, length-take-le a xs (omega arith))

-- ---- a move within a part

module _ (xs : List ℕ) (at n gap k : ℕ) (is : k ≡ n + gap) (within : at + k ≤ length xs) where
  size : length (take k (drop at xs)) ≡ k
  size = length-take-le k (drop at xs) (omega (arith, within, length-drop at xs))

  -- The first bytes of the part are moved to its end.
  pub shifted_up : put_mid at k xs (paste (take k (drop at xs)) gap (take k (drop at xs)) n)
      ≡ paste xs (at + gap) (drop at xs) n
  shifted_up =
      let s = drop at xs in
      let none : drop (gap + n) (take k s) ≡ [] = drop_all (gap + n) (take k s) (omega (arith, size)) in
      let sums : at + k ≡ at + gap + n = omega arith in
      rw (take-take gap k s (omega arith), take-take n k s (omega arith), none, drop-drop k at xs, sums)
      (rw (take_sum at gap xs) (simp (append_assoc, append-nil)))

  -- The last bytes of the part are moved to its front.
  pub shifted_down : put_mid at k xs (paste (take k (drop at xs)) 0 (drop gap (take k (drop at xs))) n)
      ≡ paste xs at (drop (at + gap) xs) n
  shifted_down =
      let s = drop at xs in
      let other : k ≡ gap + n = omega arith in
      let zero_more : 0 + n ≡ n = omega arith in
      let moved : take n (drop gap (take k s)) ≡ take n (drop (at + gap) xs) =
      grind (arith, drop-take, take-take, drop-drop) in
      let rest : drop (0 + n) (take k s) ≡ take gap (drop n s) = rw (zero_more, is, drop-take) in
      let tail : drop k s ≡ drop gap (drop n s) = rw is (sym (drop-drop gap n s)) in
      rw (moved, rest, tail) (simp append_assoc (rw (take-append-drop gap (drop n s), drop-drop n at xs)))

-- ---- bytes after a start that is not used

module _ (xs : List ℕ) (s : ℕ) where
  pub front_of : (ys : List ℕ) (at : ℕ) → take (s + at) ys ≡ take (s + at) xs
      → take at (drop s ys) ≡ take at (drop s xs)
  front_of ys at same = rw (← drop-take s at ys, same) (drop-take s at xs)

  drop_front : (at : ℕ) (ys : List ℕ) → s + at ≤ length xs → drop s (take (s + at) xs ++ ys) ≡ take at (drop s xs) ++ ys
  drop_front at ys within =
      rw (drop-append-le s (take (s + at) xs) ys (omega (arith, length-take-le (s + at) xs within)), drop-take)

  -- A gap after the start is removed.
  pub closed_gap : (at gap : ℕ) → s + at ≤ length xs
      → drop s (take (s + at) xs ++ drop (s + at + gap) xs) ≡ take at (drop s xs) ++ drop (at + gap) (drop s xs)
  closed_gap at gap within = grind (arith, drop_front, drop-drop)

  -- The bytes before a gap are moved down.
  pub opened_gap : (ys : List ℕ) (at gap : ℕ) → gap ≤ s → s + at ≤ length xs
      → ys ≡ paste xs (s - gap) (drop (s - gap + gap) xs) (s - gap + at + gap - (s - gap + gap))
      → drop (at + gap) (drop (s - gap) ys) ≡ drop at (drop s xs)
  opened_gap ys at gap few within is =
      let count : s - gap + at + gap - (s - gap + gap) ≡ at = omega (arith, few) in
      let back : s - gap + gap ≡ s = omega (arith, few) in
      let from : s - gap + (at + gap) ≡ s - gap + at + gap = omega arith in
      let to : s - gap + at + gap ≡ s + at = omega (arith, few) in
      let now : ys ≡ paste xs (s - gap) (drop s xs) at = is ∙ (λ i. paste xs (s - gap) (drop (back i) xs) (count i)) in
      rw (drop-drop (at + gap) (s - gap) ys, from, ← drop-drop gap (s - gap + at) ys, now)
      (grind (arith, drop-paste, length-drop, drop-drop))

  -- A part after the start is written.
  pub written_part : (new : List ℕ) (at k : ℕ) → s + at ≤ length xs
      → drop s (put_mid (s + at) k xs new) ≡ take at (drop s xs) ++ (new ++ drop (at + k) (drop s xs))
  written_part new at k within = grind (arith, drop_front, drop-drop)

pub ruleset replace_steps = (written_part, length_written, common_steps)

pub ruleset shift_steps = (shifted_up, shifted_down, length_written, common_steps)
