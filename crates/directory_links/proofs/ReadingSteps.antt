-- Two steps of a reader, one after the other.
use Rattle.std.proofs.Common.{◌≡◌, ℕ, Bool, true, cond, eqb, List, ◌∷◌, ◌++◌, Result, Ok, Err, IfOk, refl}
use Rattle.std.proofs.lemmas.Bool.{cond_both, eqb-true}
use Rattle.directory_links.specs.Prelude.{◌>>=◌}

-- The value passes the test, and its text and the bytes that are left are the bytes that were read.
abbrev pub IsRead : {X : Type 0} → (X → Bool) → (X → List ℕ) → List ℕ → X × List ℕ → Type 0
IsRead is text s x = (is x.0 ≡ true) × (text x.0 ++ x.1 ≡ s)

-- `Q` holds of the value of both steps if `P` holds of that of the first one.
pub bind_holds : {A B : Type 0} (P : A → Type 0) (Q : B → Type 0) (r : Result A ℕ) (f : A → Result B ℕ) → IfOk r P
    → ((x : A) → P x → IfOk (f x) Q) → IfOk (r >>= f) Q
bind_holds P Q (Ok x) f h k = k x h
bind_holds P Q (Err e) f h k = tt

-- Two continuations give the same result if they agree on the value of the first step.
pub bind_same : {A B : Type 0} (r : Result A ℕ) (f g : A → Result B ℕ) → ((x : A) → r ≡ Ok x → f x ≡ g x)
    → (r >>= f) ≡ (r >>= g)
bind_same (Ok x) f g h = h x refl
bind_same (Err e) f g h = refl

-- A reader that goes on in another way after the byte `c`.
pub byte_holds : {A : Type 0} (Q : List ℕ → A → Type 0) (c b : ℕ) (s : List ℕ) (r t : Result A ℕ) → IfOk r (Q (c ∷ s))
    → IfOk t (Q (b ∷ s)) → IfOk (cond (eqb b c) r t) (Q (b ∷ s))
byte_holds Q c b s r t h k =
    cond_both (eqb b c) r t (λ u. IfOk u (Q (b ∷ s))) (λ e. rw (eqb-true b c e) h) (λ e. k)
