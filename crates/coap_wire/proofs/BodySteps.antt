-- Decoding an option and a body step by step.
use Rattle.std.proofs.Common.{◌≡◌, ◌≢◌, ℕ, zero, suc, ◌+◌, ◌/◌, ◌%◌, ◌<◌, ◌≤◌, cond, eqb, List, [], ◌∷◌, length}
use Rattle.std.proofs.Common.{Some, Result, Ok, Err, ◌⊎◌, inl, inr, refl, ap, arith}
use Rattle.std.proofs.lemmas.Bool.{eq-eqb, ne_eqb, cases_eq}
use Rattle.std.proofs.lemmas.Bool.Decides.{nat_tests}
use Rattle.std.proofs.lemmas.List.{length-drop}
use Rattle.coap_wire.specs.Prelude.{CoapOption, FormatFault, OptionDelta, OptionLength, OptionCut}
use Rattle.coap_wire.specs.Prelude.{EmptyPayload, ◌>>=◌, option_extension, option_number_at, option_head_at, option_at}
use Rattle.coap_wire.specs.Prelude.{value_at, body_within, body_at}
use Rattle.coap_wire.proofs.NumberLaws.{option_cases, option_number_rest, option_number_short}

-- The values of two equal `Ok` are equal.
pub ok_is : {A : Type 0} (x y : A) → ◌≡◌ {A = Result A FormatFault} (Ok x) (Ok y) → x ≡ y
ok_is x y e = cc

-- A step returns a value or an error.
pub result_cases : {A : Type 0} (r : Result A FormatFault) → ((x : A) × (r ≡ Ok x)) ⊎ ((e : FormatFault) × (r ≡ Err e))
result_cases (Ok x) = inl (x, refl)
result_cases (Err e) = inr (e, refl)

-- ---- an option

-- The results of decoding an option. The delta or the length has nibble 15, the extensions are incomplete, or the
-- delta y.0 and the length z.0 are decoded, with z.1 left.
pub data OptionKind (base b : ℕ) (s : List ℕ) : Type 0 where
  BadDelta : b / 16 ≡ 15 → option_at base b s ≡ Err OptionDelta → OptionKind base b s
  BadLength : b / 16 ≢ 15 → b % 16 ≡ 15 → option_at base b s ≡ Err OptionLength → OptionKind base b s
  HeadCut : b / 16 ≢ 15 → b % 16 ≢ 15 → length s < option_extension (b / 16) + option_extension (b % 16)
      → option_at base b s ≡ Err OptionCut → OptionKind base b s
  Head : b / 16 ≢ 15 → b % 16 ≢ 15 → (y z : ℕ × List ℕ) → option_number_at (b / 16) s ≡ Some y
      → option_number_at (b % 16) y.1 ≡ Some z
      → option_extension (b / 16) + option_extension (b % 16) + length z.1 ≡ length s
      → option_at base b s ≡ value_at (base + y.0) z.0 z.1 → OptionKind base b s

pub option_kind : (base b : ℕ) (s : List ℕ) → OptionKind base b s
unfolding option_at option_head_at
option_kind base b s =
    elim (cases_eq (b / 16) 15) [
      | inl same ↦ BadDelta same (rw (eq-eqb (b / 16) 15 same) refl)
      | inr delta ↦ elim (cases_eq (b % 16) 15) [
        | inl same ↦ BadLength delta same (rw (ne_eqb (b / 16) 15 delta, eq-eqb (b % 16) 15 same) refl)
        | inr len ↦
            let d = ne_eqb (b / 16) 15 delta in
            let l = ne_eqb (b % 16) 15 len in
            elim (option_cases (option_number_at (b / 16) s)) [
              | inr none ↦
                  HeadCut delta len (omega (arith, option_number_short (b / 16) s none)) (rw (d, l, none) refl)
              | inl y ↦
                  let k = option_number_rest (b / 16) s y.0 y.1 in
                  let first = length-drop (option_extension (b / 16)) s in
                  elim (option_cases (option_number_at (b % 16) y.0.1)) [
                    | inr none ↦
                        HeadCut delta len (omega (
                          arith,
                          k.0,
                          ap length k.1,
                          first,
                          option_number_short (b % 16) y.0.1
                              none,
                        )) (rw (d, l, y.1, none) refl)
                    | inl z ↦
                        let j = option_number_rest (b % 16) y.0.1 z.0 z.1 in
                        let second = length-drop (option_extension (b % 16)) y.0.1 in
                        Head delta len y.0 z.0 y.1 z.1
                        (omega (arith, k.0, ap length k.1, first, j.0, ap length j.1, second))
                        (rw (d, l, y.1, z.1) refl)
                  ]
            ]
      ]
    ]

-- The bytes after an option are at most as many as before.
pub option_shorter : (base b : ℕ) (s : List ℕ) (x : CoapOption × List ℕ)
    → option_at base b s ≡ Ok x → length x.1 ≤ length s
option_shorter base b s x e =
    elim (option_kind base b s) [
      | BadDelta delta is ↦ cc
      | BadLength delta len is ↦ cc
      | HeadCut delta len cut is ↦ cc
      | Head delta len y z first second width is ↦ grind (arith, nat_tests, length-drop z.0 z.1)
    ]

-- ---- a body

abbrev pub Body : Type 0
Body = Result (List CoapOption × List ℕ) FormatFault

-- One option, followed by the result for the bytes after it.
abbrev pub option_then : CoapOption → Body → Body
option_then o r = r >>= λ others. Ok (o ∷ others.0, others.1)

-- The body that begins with the byte b, of which `read` decodes the bytes after the first option.
abbrev pub body_turn : (ℕ → List ℕ → Body) → ℕ → ℕ → List ℕ → Body
body_turn read base b s =
    cond (eqb b 255) (cond (eqb (length s) 0) (Err EmptyPayload) (Ok ([], s)))
    (option_at base b s >>= λ x. option_then x.0 (read x.0.number x.1))

turn_same : (read other : ℕ → List ℕ → Body) (base b : ℕ) (s : List ℕ)
    → ((n : ℕ) (t : List ℕ) → length t ≤ length s → read n t ≡ other n t)
    → body_turn read base b s ≡ body_turn other base b s
turn_same read other base b s h =
    ap (cond (eqb b 255) (cond (eqb (length s) 0) (Err EmptyPayload) (Ok ([], s))))
    (elim (result_cases (option_at base b s)) [
      | inl x ↦ rw (x.1) (ap (option_then x.0.0) (h x.0.0.number x.0.1 (option_shorter base b s x.0 x.1)))
      | inr bad ↦ rw (bad.1) refl
    ])

-- More turns than bytes give the same result.
within_same : (m n base : ℕ) (s : List ℕ) → length s ≤ m → length s ≤ n → body_within m base s ≡ body_within n base s
unfolding body_within
within_same m n base [] p q = refl
within_same zero n base (b ∷ s) p q = absurd (omega arith)
within_same (suc m) zero base (b ∷ s) p q = absurd (omega arith)
within_same (suc m) (suc n) base (b ∷ s) p q =
    turn_same (body_within m) (body_within n) base b s (λ k t h. within_same m n k t (omega arith) (omega arith))

pub body_is : (base b : ℕ) (s : List ℕ) → body_at base (b ∷ s) ≡ body_turn (λ n t. body_at n t) base b s
unfolding body_at body_within
body_is base b s =
    turn_same (body_within (length s)) (λ n t. body_within (length t) n t) base b s
    (λ n t h. within_same (length s) (length t) n t h (omega arith))

-- ---- the steps

-- An empty body has no option and no payload.
pub body_end : (base : ℕ) → body_at base [] ≡ Ok ([], [])
unfolding body_at body_within
body_end base = refl

-- The payload follows the marker.
pub body_marker : (base b : ℕ) (s : List ℕ) → body_at base (255 ∷ b ∷ s) ≡ Ok ([], b ∷ s)
body_marker base b s = rw (body_is base 255 (b ∷ s)) (grind (arith, nat_tests))

-- One option, followed by the others.
pub body_option : (base b : ℕ) (s : List ℕ) (x : CoapOption × List ℕ) → b ≢ 255 → option_at base b s ≡ Ok x
    → body_at base (b ∷ s) ≡ option_then x.0 (body_at x.0.number x.1)
body_option base b s x other e = rw (body_is, ne_eqb b 255 other, e) refl

-- A malformed option.
pub body_fault : (base b : ℕ) (s : List ℕ) (e : FormatFault) → b ≢ 255 → option_at base b s ≡ Err e
    → body_at base (b ∷ s) ≡ Err e
body_fault base b s e other is = rw (body_is, ne_eqb b 255 other, is) refl

-- ---- induction

-- The results of decoding a body.
pub data ReadsBody : ℕ → List ℕ → Body → Type 0 where
  AtEnd : (base : ℕ) → ReadsBody base [] (Ok ([], []))
  NoPayload : (base : ℕ) → ReadsBody base (255 ∷ []) (Err EmptyPayload)
  Payload : (base b : ℕ) (s : List ℕ) → ReadsBody base (255 ∷ b ∷ s) (Ok ([], b ∷ s))
  Wrong : (base b : ℕ) (s : List ℕ) (e : FormatFault) → b ≢ 255 → option_at base b s ≡ Err e
      → ReadsBody base (b ∷ s) (Err e)
  One : (base b : ℕ) (s : List ℕ) (x : CoapOption × List ℕ) (r : List CoapOption × List ℕ) → b ≢ 255
      → option_at base b s ≡ Ok x → ReadsBody x.0.number x.1 (Ok r) → ReadsBody base (b ∷ s) (Ok (x.0 ∷ r.0, r.1))
  WrongLater : (base b : ℕ) (s : List ℕ) (x : CoapOption × List ℕ) (e : FormatFault) → b ≢ 255
      → option_at base b s ≡ Ok x → ReadsBody x.0.number x.1 (Err e) → ReadsBody base (b ∷ s) (Err e)

reads_then : (base b : ℕ) (s : List ℕ) (x : CoapOption × List ℕ) → b ≢ 255 → option_at base b s ≡ Ok x
    → (r : Body) → ReadsBody x.0.number x.1 r → ReadsBody base (b ∷ s) (option_then x.0 r)
reads_then base b s x other e (Ok r) k = One base b s x r other e k
reads_then base b s x other e (Err d) k = WrongLater base b s x d other e k

reads_marker : (base : ℕ) (s : List ℕ) → ReadsBody base (255 ∷ s) (body_at base (255 ∷ s))
reads_marker base [] = rw body_is (NoPayload base)
reads_marker base (b ∷ s) = rw body_marker (Payload base b s)

reads_upto : (n base : ℕ) (s : List ℕ) → length s ≤ n → ReadsBody base s (body_at base s)
reads_upto n base [] h = rw body_end (AtEnd base)
reads_upto zero base (b ∷ s) h = absurd (omega arith)
reads_upto (suc n) base (b ∷ s) h =
    elim (cases_eq b 255) [
      | inl marker ↦ rw marker (reads_marker base s)
      | inr other ↦ elim (result_cases (option_at base b s)) [
        | inr bad ↦ rw (body_fault base b s bad.0 other bad.1) (Wrong base b s bad.0 other bad.1)
        | inl x ↦
            let shorter = option_shorter base b s x.0 x.1 in
            rw (body_option base b s x.0 other x.1)
            (reads_then base b s x.0 other x.1 (body_at x.0.0.number x.0.1)
            (reads_upto n x.0.0.number x.0.1 (omega arith)))
      ]
    ]

pub reads_body : (base : ℕ) (s : List ℕ) → ReadsBody base s (body_at base s)
reads_body base s = reads_upto (length s) base s (omega arith)
