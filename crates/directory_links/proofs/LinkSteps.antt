-- Reading links one after the other.
use Rattle.std.proofs.Common.{◌≡◌, ℕ, zero, suc, ◌+◌, ◌<◌, cond, eqb, List, [], ◌∷◌, length, Option, Some, None, Result}
use Rattle.std.proofs.Common.{Ok, Err, refl, ap, ◌∙◌, arith, add-one}
use Rattle.std.proofs.lemmas.Bool.{ne_eqb}
use Rattle.std.proofs.lemmas.List.{length-append}
use Rattle.std.proofs.lemmas.Result.{IfOk-at_ok}
use Rattle.directory_links.specs.Prelude.{Link, ◌>>=◌, is_link, link_text, target_at, link_at, next_link_at}
use Rattle.directory_links.specs.Prelude.{links_after, links_within, some_links, links_of}
use Rattle.directory_links.proofs.ReadingSteps.{IsRead, bind_same}
use Rattle.directory_links.proofs.SoundLaws.{IsNext, link_read, next_read}

-- The bytes after a link and a comma are fewer than before.
pub link_shorter : (s : List ℕ) (l : Link) (rest t : List ℕ) → link_at s ≡ Ok (l, rest)
    → next_link_at rest ≡ Ok (Some t) → length t < length s
link_shorter s l rest t e next =
    let text = IfOk-at_ok (IsRead is_link link_text s) e (link_read s) in
    let more = IfOk-at_ok (IsNext rest) next (next_read rest) in
    omega (arith, length-append (link_text l) rest, ap length text.1, ap length more)

-- One link, followed by the others.
abbrev pub link_then : Link → Result (List Link) ℕ → Result (List Link) ℕ
link_then l read = read >>= λ ls. Ok (l ∷ ls)

-- The links of a text, of which `read` reads those after the first one.
abbrev pub links_turn : (List ℕ → Result (List Link) ℕ) → List ℕ → Result (List Link) ℕ
links_turn read s = link_at s >>= λ x. next_link_at x.1 >>= λ o. link_then x.0 (links_after read o)

links_after_same : (read other : List ℕ → Result (List Link) ℕ) (o : Option (List ℕ))
    → ((t : List ℕ) → o ≡ Some t → read t ≡ other t) → links_after read o ≡ links_after other o
links_after_same read other None h = refl
links_after_same read other (Some t) h = h t refl

turn_same : (read other : List ℕ → Result (List Link) ℕ) (s : List ℕ)
    → ((t : List ℕ) → length t < length s → read t ≡ other t) → links_turn read s ≡ links_turn other s
turn_same read other s h =
    bind_same (link_at s) _ _ (λ x e. bind_same (next_link_at x.1) _ _ (λ o f.
    ap (link_then x.0) (links_after_same read other o (λ t g. h t (link_shorter s x.0 x.1 t e (f ∙ ap Ok g))))))

-- More turns than bytes give the same result.
within_same : (m n : ℕ) (s : List ℕ) → length s < m → length s < n → links_within m s ≡ links_within n s
unfolding links_within
within_same zero n s p q = absurd (omega arith)
within_same (suc m) zero s p q = absurd (omega arith)
within_same (suc m) (suc n) s p q =
    turn_same (links_within m) (links_within n) s (λ t h. within_same m n t (omega arith) (omega arith))

pub links_is : (s : List ℕ) → some_links s ≡ links_turn (λ t. some_links t) s
unfolding some_links links_within
links_is s =
    rw (add-one (length s)) (turn_same (links_within (length s)) (λ t. some_links t) s
    (λ t h. within_same (length s) (length t + 1) t (omega arith) (omega arith)))

pub links_of_is : (s : List ℕ) → links_of s ≡ cond (eqb (length s) 0) (Ok []) (some_links s)
unfolding links_of
links_of_is [] = refl
links_of_is (b ∷ s) = rw (ne_eqb (suc (length s)) 0 (λ e. absurd (omega arith))) refl

pub no_link : (s : List ℕ) → length s ≡ 0 → some_links s ≡ Err 0
unfolding some_links links_within link_at target_at
no_link [] h = refl
no_link (b ∷ s) h = absurd (omega arith)

-- The results for a text by those for the text after its first link.
pub ruleset link_steps = (links_is, links_of_is, no_link)
