-- Decoding the options of a body one after the other, as a loop does.
use Rattle.std.proofs.Common.{◌≡◌, ◌≢◌, ℕ, List, [], ◌∷◌, ◌++◌, length, Ok, Err, refl, sym, ap, ◌∙◌, arith}
use Rattle.std.proofs.Common.{append_assoc}
use Rattle.std.proofs.lemmas.Bool.Decides.{nat_tests}
use Rattle.coap_wire.specs.Prelude.{IsOk, CoapOption, ◌>>=◌, option_at, body_at, options_in, options_read}
use Rattle.coap_wire.proofs.BodySteps.{Body, option_then, body_is, body_end, body_option}

-- The options read before, followed by the result for the bytes that are left.
abbrev pub with_front : List CoapOption → Body → Body
with_front front read = read >>= λ x. Ok (front ++ x.0, x.1)

pub body_empty : (base : ℕ) (rest : List ℕ) → length rest ≡ 0 → body_at base rest ≡ Ok ([], rest)
body_empty base [] none = body_end base
body_empty base (b ∷ s) none = absurd (omega arith)

regroup : (front : List CoapOption) (o : CoapOption) (read : Body)
    → with_front front (option_then o read) ≡ with_front (front ++ o ∷ []) read
regroup front o (Ok x) = ap (λ os. Ok (os, x.1)) (simp append_assoc)
regroup front o (Err e) = refl

pub goes_on : (front : List CoapOption) (base b : ℕ) (rest after : List ℕ) (x : CoapOption × List ℕ) (total : Body)
    → rest ≡ b ∷ after → b ≢ 255 → option_at base b after ≡ Ok x → with_front front (body_at base rest) ≡ total
    → with_front (front ++ x.0 ∷ []) (body_at x.0.number x.1) ≡ total
goes_on front base b rest after x total rest_is other read so_far =
    sym (regroup front x.0 (body_at x.0.number x.1))
    ∙ ap (with_front front) (sym (ap (body_at base) rest_is ∙ body_option base b after x other read)) ∙ so_far

-- ---- the iterator over options

next_then : (o : CoapOption) (read : Body) → IsOk (option_then o read)
    → IsOk read × (options_read (option_then o read) ≡ o ∷ options_read read)
next_then o (Ok x) ok = (refl, refl)
next_then o (Err e) ok = cc

-- One option, followed by those of the bytes after it.
pub next_option : (base b : ℕ) (rest after : List ℕ) (x : CoapOption × List ℕ) → rest ≡ b ∷ after → b ≢ 255
    → option_at base b after ≡ Ok x → IsOk (body_at base rest)
    → IsOk (body_at x.0.number x.1) × (options_in base rest ≡ x.0 ∷ options_in x.0.number x.1)
next_option base b rest after x rest_is other read ok =
    let step = ap (body_at base) rest_is ∙ body_option base b after x other read in
    rw step (next_then x.0 (body_at x.0.number x.1) (rw step at ok))

pub ruleset body_turns = (nat_tests, body_is, body_empty)
