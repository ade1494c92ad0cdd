-- Comparison of two texts, one after the other, with one.
use Rattle.std.proofs.Common.{◌≡◌, ℕ, ◌<◌, ◌≤◌, Bool, false, ◌&&◌, List, [], ◌∷◌, ◌++◌, length, take, drop}
use Rattle.std.proofs.Common.{nat_eq, refl, ap, arith}
use Rattle.std.specs.List.{starts_with}
use Rattle.std.specs.Cmp.Lexicographic.{pointwise}
use Rattle.std.proofs.lemmas.Bool.Decides.{nat_tests}

-- Both parts are equal if and only if the whole is.
pub equal_parts : (a b o : List ℕ) → length a ≤ length o
    → (pointwise nat_eq a (take (length a) o) && pointwise nat_eq b (drop (length a) o)) ≡ pointwise nat_eq (a ++ b) o
equal_parts [] b o h = refl
equal_parts (x ∷ a) b [] h = absurd (omega arith)
equal_parts (x ∷ a) b (y ∷ o) h = grind (arith, equal_parts a b o (omega arith))

-- No part of a longer text is equal to a shorter one.
pub unequal : (a b o : List ℕ) → length o < length a → false ≡ pointwise nat_eq (a ++ b) o
unequal [] b o h = absurd (omega arith)
unequal (x ∷ a) b [] h = refl
unequal (x ∷ a) b (y ∷ o) h = grind (arith, unequal a b o (omega arith))

-- The beginning of the first text.
pub begins_first : (a b n : List ℕ) → length n ≤ length a → starts_with nat_eq a n ≡ starts_with nat_eq (a ++ b) n
begins_first a b [] h = refl
begins_first [] b (y ∷ n) h = absurd (omega arith)
begins_first (x ∷ a) b (y ∷ n) h = ap (λ (t : Bool). nat_eq y x && t) (begins_first a b n (omega arith))

-- The first text and the beginning of the second one.
pub begins_both : (a b n : List ℕ) → length a ≤ length n
    → (pointwise nat_eq a (take (length a) n) && starts_with nat_eq b (drop (length a) n)) ≡ starts_with nat_eq
    (a ++ b) n
begins_both [] b n h = refl
begins_both (x ∷ a) b [] h = absurd (omega arith)
begins_both (x ∷ a) b (y ∷ n) h = grind (arith, nat_tests, begins_both a b n (omega arith))
