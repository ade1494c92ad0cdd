-- Reading attributes one after the other.
use Rattle.std.proofs.Common.{◌≡◌, ℕ, zero, suc, ◌<◌, ◌≤◌, cond, eqb, List, [], ◌∷◌, length, Result, Ok, refl, ap}
use Rattle.std.proofs.Common.{arith}
use Rattle.std.proofs.lemmas.List.{length-append}
use Rattle.std.proofs.lemmas.Result.{IfOk-at_ok}
use Rattle.directory_links.specs.Prelude.{Attribute, ◌>>=◌, is_attribute, attribute_text, attribute_at}
use Rattle.directory_links.specs.Prelude.{attributes_within, attributes_at}
use Rattle.directory_links.proofs.ReadingSteps.{IsRead, bind_same}
use Rattle.directory_links.proofs.SoundLaws.{attribute_read}

-- The bytes after an attribute are at most as many as before.
pub attribute_shorter : (s : List ℕ) (x : Attribute × List ℕ) → attribute_at s ≡ Ok x → length x.1 ≤ length s
attribute_shorter s x e =
    let h = IfOk-at_ok (IsRead is_attribute attribute_text s) e (attribute_read s) in
    omega (arith, length-append (attribute_text x.0) x.1, ap length h.1)

-- One attribute, followed by the result for the bytes after it.
abbrev pub attribute_then : Attribute → Result (List Attribute × List ℕ) ℕ → Result (List Attribute × List ℕ) ℕ
attribute_then a read = read >>= λ x. Ok (a ∷ x.0, x.1)

-- The attributes at the front, of which `read` reads those after the first one.
abbrev pub attributes_turn : (List ℕ → Result (List Attribute × List ℕ) ℕ) → List ℕ
    → Result (List Attribute × List ℕ) ℕ
attributes_turn read [] = Ok ([], [])
attributes_turn read (b ∷ s) =
    cond (eqb b 59) (attribute_at s >>= λ x. attribute_then x.0 (read x.1)) (Ok ([], b ∷ s))

turn_same : (read other : List ℕ → Result (List Attribute × List ℕ) ℕ) (s : List ℕ)
    → ((t : List ℕ) → length t < length s → read t ≡ other t) → attributes_turn read s ≡ attributes_turn other s
turn_same read other [] h = refl
turn_same read other (b ∷ s) h =
    ap (λ r. cond (eqb b 59) r (Ok ([], b ∷ s))) (bind_same (attribute_at s) _ _ (λ x e.
    let less = attribute_shorter s x e in ap (attribute_then x.0) (h x.1 (omega arith))))

-- More turns than bytes give the same result.
within_same : (m n : ℕ) (s : List ℕ) → length s ≤ m → length s ≤ n → attributes_within m s ≡ attributes_within n s
unfolding attributes_within
within_same m n [] p q = refl
within_same zero n (b ∷ s) p q = absurd (omega arith)
within_same (suc m) zero (b ∷ s) p q = absurd (omega arith)
within_same (suc m) (suc n) (b ∷ s) p q =
    turn_same (attributes_within m) (attributes_within n) (b ∷ s) (λ t h. within_same m n t (omega arith) (omega arith))

pub attributes_is : (s : List ℕ) → attributes_at s ≡ attributes_turn (λ t. attributes_at t) s
unfolding attributes_at attributes_within
attributes_is [] = refl
attributes_is (b ∷ s) =
    turn_same (attributes_within (length s)) (λ t. attributes_at t) (b ∷ s)
    (λ t h. within_same (length s) (length t) t (omega arith) (omega arith))
