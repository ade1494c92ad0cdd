-- The first segments of a path.
use Rattle.std.proofs.Common.{◌≡◌, ℕ, ◌≤◌, List, [], ◌∷◌, ◌++◌, length, take, refl, ap, sym, ◌∙◌}
use Rattle.std.proofs.lemmas.List.{append-nil, take_all}

take_front : (xs ys : List (List ℕ)) → take (length xs) (xs ++ ys) ≡ xs
take_front [] ys = refl
take_front (x ∷ xs) ys = ap (λ (t : List (List ℕ)). x ∷ t) (take_front xs ys)

-- Three segments are enough.
pub three : (xs ys : List (List ℕ)) (total : List (List ℕ)) → length xs ≡ 3 → take 3 (xs ++ ys) ≡ total → xs ≡ total
three xs ys total h e = sym (take_front xs ys) ∙ ap (λ (n : ℕ). take n (xs ++ ys)) h ∙ e

-- No segment is left.
pub all_of : (xs ys : List (List ℕ)) (total : List (List ℕ)) → length xs ≤ 3 → ys ≡ [] → take 3 (xs ++ ys) ≡ total
    → xs ≡ total
all_of xs ys total h none e =
    sym (take_all 3 xs h) ∙ ap (take 3) (sym (append-nil xs) ∙ ap (λ (t : List (List ℕ)). xs ++ t) (sym none)) ∙ e
