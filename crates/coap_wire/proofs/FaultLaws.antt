-- The error that decoding returns is the first one, and decoding returns the first error.
use Rattle.std.proofs.Common.{◌≡◌, ◌≢◌, ℕ, ◌+◌, ◌/◌, ◌%◌, ◌<◌, List, [], ◌∷◌, length, Err, IfErr, inl}
use Rattle.std.proofs.Common.{inr}
use Rattle.std.proofs.Common.{refl, ◌∙◌, arith}
use Rattle.std.proofs.lemmas.Bool.{cases_lt, eq-eqb, ne_eqb}
use Rattle.std.proofs.lemmas.Bool.Decides.{nat_tests}
use Rattle.std.proofs.lemmas.Result.{IfErr-at_err}
use Rattle.coap_wire.specs.Prelude.{CoapOption, last_number, AreBytes, IsOptionHead, IsOptionBytes, IsOptionFault}
use Rattle.coap_wire.specs.Prelude.{FormatFault, TokenLength, OptionDelta, OptionLength, OptionCut, OptionNumber}
use Rattle.coap_wire.specs.Prelude.{EmptyPayload, NotOneFrame, option_head_at, value_at, option_at, body_at}
use Rattle.coap_wire.proofs.BodySteps.{BadDelta, BadLength, HeadCut, Head, option_kind, Body, body_is, body_fault}
use Rattle.coap_wire.proofs.BodySteps.{ReadsBody, AtEnd, NoPayload, Payload, Wrong, One, WrongLater, reads_body}
use Rattle.coap_wire.proofs.BodyLaws.{option_head_takes, option_takes, option_head_again, option_again}

-- ---- the error of an option

-- If decoding an option fails, the option has the error returned.
pub option_fault : (base b : ℕ) (s : List ℕ) (e : FormatFault) → AreBytes (b ∷ s) → b ≢ 255 → option_at base b s ≡ Err e
    → IsOptionFault base (b ∷ s) e
option_fault base b s e fits other h =
    let byte : b < 256 = fits 0 in
    elim (option_kind base b s) [
      | BadDelta delta is ↦ let same : e ≡ OptionDelta = cc in rw same (b, s, refl, other, delta)
      | BadLength delta len is ↦
          let same : e ≡ OptionLength = cc in
          let small : b / 16 < 15 = omega arith in
          rw same (b, s, refl, small, len)
      | HeadCut delta len cut is ↦
          let same : e ≡ OptionCut = cc in
          rw same (inl (record {
            first = b;
            after = s;
            bytes = refl;
            delta = omega arith;
            len = omega arith;
            cut = cut;
          }))
      | Head delta len y z first second width is ↦
          let head = (option_head_takes b s y z fits delta len first second).0 in
          elim (cases_lt 65535 (base + y.0)) [
            | inl great ↦
                let same : e ≡ OptionNumber = grind (arith, nat_tests) in
                rw same (record { delta = y.0; len = z.0; after = z.1; head = head; number = great })
            | inr fit ↦
                let same : e ≡ OptionCut = grind (arith, nat_tests) in
                let cut : length z.1 < z.0 = grind (arith, nat_tests) in
                rw same (inr (record { delta = y.0; len = z.0; after = z.1; head = head; number = fit; cut = cut }))
          ]
    ]

-- If the value after the head of an option is wrong, decoding returns that error.
value_fault_again : (base : ℕ) (s : List ℕ) (delta len : ℕ) (after : List ℕ) (e : FormatFault)
    → IsOptionHead s delta len after → value_at (base + delta) len after ≡ Err e → body_at base s ≡ Err e
value_fault_again base s delta len after e head h =
    let r = option_head_again base s delta len after head in
    rw (r.bytes, body_fault base r.first r.later e r.no_marker (r.is ∙ h)) refl

-- If an option is malformed or the payload is empty, decoding a body returns that error.
pub option_fault_again : (base : ℕ) (s : List ℕ) (e : FormatFault) → IsOptionFault base s e → body_at base s ≡ Err e
unfolding option_at option_head_at
option_fault_again base s EmptyPayload w = rw (w, body_is) refl
option_fault_again base s OptionDelta w =
    rw (w.2, body_fault base w.0 w.1 OptionDelta w.3 (rw (eq-eqb (w.0 / 16) 15 w.4) refl)) refl
option_fault_again base s OptionLength w =
    let small : w.0 / 16 < 15 = w.3 in
    rw (
      w.2,
      body_fault base w.0 w.1 OptionLength (omega arith)
          (rw (ne_eqb (w.0 / 16) 15 (omega arith), eq-eqb (w.0 % 16) 15 w.4) refl),
    ) refl
option_fault_again base s OptionCut (inl c) =
    elim (option_kind base c.first c.after) [
      | BadDelta delta is ↦ absurd (omega (arith, c.delta))
      | BadLength delta len is ↦ absurd (omega (arith, c.len))
      | HeadCut delta len cut is ↦
          rw (c.bytes, body_fault base c.first c.after OptionCut (omega (arith, c.delta)) is) refl
      | Head delta len y z first second width is ↦ absurd (omega (arith, c.cut))
    ]
option_fault_again base s OptionCut (inr v) =
    value_fault_again base s v.delta v.len v.after OptionCut v.head (grind (arith, nat_tests, v.number, v.cut))
option_fault_again base s OptionNumber w =
    value_fault_again base s w.delta w.len w.after OptionNumber w.head (grind (arith, nat_tests, w.number))
option_fault_again base s TokenLength w = absurd w
option_fault_again base s NotOneFrame w = absurd w

-- ---- the error of a body

-- Well-formed options, followed by an error.
pub record HasBodyFault (base : ℕ) (s : List ℕ) (fault : FormatFault) : Type 0 where
  pub options : List CoapOption
  pub rest : List ℕ
  pub bytes : IsOptionBytes base options s rest
  pub wrong : IsOptionFault (last_number base options) rest fault

fault_taken : (base : ℕ) (s : List ℕ) (r : Body) → ReadsBody base s r → AreBytes s → IfErr r (HasBodyFault base s)
fault_taken _ _ _ (AtEnd base) fits = tt
fault_taken _ _ _ (NoPayload base) fits = record { options = []; rest = 255 ∷ []; bytes = refl; wrong = refl }
fault_taken _ _ _ (Payload base b s) fits = tt
fault_taken _ _ _ (Wrong base b s e other is) fits =
    record { options = []; rest = b ∷ s; bytes = refl; wrong = option_fault base b s e fits other is }
fault_taken _ _ _ (One base b s x r other is k) fits = tt
fault_taken _ _ _ (WrongLater base b s x e other is k) fits =
    let t = option_takes base b s x fits is in
    let w = fault_taken _ _ _ k t.1 in
    record { options = x.0 ∷ w.options; rest = w.rest; bytes = (x.1, t.0, w.bytes); wrong = w.wrong }

-- If decoding a body fails, the body has the error returned.
pub body_fault_takes : (base : ℕ) (s : List ℕ) (e : FormatFault) → AreBytes s
    → body_at base s ≡ Err e → HasBodyFault base s e
body_fault_takes base s e fits h =
    IfErr-at_err (HasBodyFault base s) h (fault_taken base s (body_at base s) (reads_body base s) fits)

-- If a body has an error after well-formed options, decoding returns that error.
pub body_fault_again : (base : ℕ) (os : List CoapOption) (s rest : List ℕ) (e : FormatFault)
    → IsOptionBytes base os s rest → IsOptionFault (last_number base os) rest e → body_at base s ≡ Err e
body_fault_again base [] s rest e bytes wrong = rw bytes (option_fault_again base rest e wrong)
body_fault_again base (o ∷ os) s rest e bytes wrong =
    option_again base o s bytes.0 _ bytes.1 (body_fault_again o.number os bytes.0 rest e bytes.2 wrong)
