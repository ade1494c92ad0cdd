-- The first bytes of a frame.
use Rattle.std.proofs.Common.{◌≡◌, ℕ, ◌+◌, ◌-◌, ◌≤◌, ◌<◌, min, List, ◌++◌, length, take, drop, sym, ap, ◌∙◌, arith, inl}
use Rattle.std.proofs.Common.{inr, refl}
use Rattle.std.proofs.lemmas.Bool.{cases_lt}
use Rattle.std.proofs.lemmas.List.{take-append-drop, take_all, take-take, take-append-le, length-take, length-append}
use Rattle.std.proofs.Math.Seq.{take-append-add}
use Rattle.coap_wire.specs.Reading.{declared_of}
use Rattle.coap_wire.specs.declared.declaration.Declared.{Declared}
use Rattle.coap_wire.specs.declared.declaration.Declared.TheVariants.{Unknown, Size, BadToken}
use Rattle.coap_wire.proofs.StreamSteps.{unknown_small, declared_more, bad_token_more}

-- Bytes fill the space after others.
pub filled : (n : ℕ) (xs ys : List ℕ) → length xs ≤ n → take n (xs ++ ys) ≡ xs ++ take (n - length xs) ys
filled n xs ys fits =
    let e : n ≡ length xs + (n - length xs) = omega arith in
    ap (λ (m : ℕ). take m (xs ++ ys)) e ∙ take-append-add xs ys (n - length xs)

-- The same by the number of bytes.
take_count : (k count : ℕ) (ys : List ℕ) → count ≡ min (length ys) k → take count ys ≡ take k ys
take_count k count ys e =
    elim (cases_lt k (length ys)) [
      | inl less ↦ let same : count ≡ k = omega (arith, e) in ap (λ (m : ℕ). take m ys) same
      | inr all ↦ take_all count ys (omega (arith, e)) ∙ sym (take_all k ys all)
    ]

pub filled_count : (n count : ℕ) (xs ys : List ℕ) → length xs ≤ n → count ≡ min (length ys) (n - length xs)
    → xs ++ take count ys ≡ take n (xs ++ ys)
filled_count n count xs ys fits e =
    ap (λ (l : List ℕ). xs ++ l) (take_count (n - length xs) count ys e) ∙ sym (filled n xs ys fits)

-- Bytes are cut before and after others are appended.
pub cut_twice : (n : ℕ) (xs ys : List ℕ) → take n (take n xs ++ ys) ≡ take n (xs ++ ys)
cut_twice n xs ys =
    elim (cases_lt n (length xs)) [
      | inl more ↦
          let all : length (take n xs) ≡ n = omega (arith, length-take n xs) in
          take-append-le n (take n xs) ys (omega arith) ∙ take-take n n xs (omega arith)
          ∙ sym (take-append-le n xs ys (omega arith))
      | inr fits ↦ ap (λ (l : List ℕ). take n (l ++ ys)) (take_all n xs fits)
    ]

-- The first eight bytes declare the size of a frame.
by_head : (n : ℕ) (s : List ℕ) (d : Declared) → 8 ≤ n → declared_of (take n s) ≡ d
    → declared_of (take n s) ≡ declared_of s
by_head n s Unknown long e =
    let few = unknown_small (take n s) e in
    ap declared_of (take_all n s (omega (arith, few, length-take n s)))
by_head n s (Size size) long e =
    e ∙ sym (ap declared_of (sym (take-append-drop n s)) ∙ declared_more (take n s) (drop n s) size e)
by_head n s BadToken long e =
    e ∙ sym (ap declared_of (sym (take-append-drop n s)) ∙ bad_token_more (take n s) (drop n s) e)

pub declared_by_head : (n : ℕ) (s : List ℕ) → 8 ≤ n → declared_of (take n s) ≡ declared_of s
declared_by_head n s long = by_head n s (declared_of (take n s)) long refl

-- The bytes that are kept declare the same as all bytes.
pub declared_kept : (n : ℕ) (r s : List ℕ) → 8 ≤ n → declared_of (take n r ++ s) ≡ declared_of (r ++ s)
declared_kept n r s long =
    sym (declared_by_head n (take n r ++ s) long) ∙ ap declared_of (cut_twice n r s) ∙ declared_by_head n (r ++ s) long

-- If no size is declared yet, all bytes of the frame are kept, and there are fewer than eight.
pub unknown_few : (room passed : ℕ) (kept piece : List ℕ) → 8 ≤ room → length kept ≡ min room passed
    → declared_of (kept ++ piece) ≡ Unknown → passed + length piece < 8
unknown_few room passed kept piece long len e =
    omega (arith, unknown_small (kept ++ piece) e, length-append kept piece, len)
