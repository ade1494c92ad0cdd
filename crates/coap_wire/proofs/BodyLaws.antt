-- Decoding a body returns options and payload if and only if the bytes encode them.
use Rattle.std.proofs.Common.{◌≡◌, ◌≢◌, ℕ, ◌+◌, ◌*◌, ◌/◌, ◌%◌, ◌<◌, ◌≤◌, List, [], ◌∷◌, ◌++◌, length, take, drop, Some}
use Rattle.std.proofs.Common.{Ok}
use Rattle.std.proofs.Common.{IfOk, refl, ◌∙◌, arith}
use Rattle.std.proofs.lemmas.Bool.{ne_eqb, le-ltb}
use Rattle.std.proofs.lemmas.Bool.Decides.{nat_tests}
use Rattle.std.proofs.lemmas.List.{length-take-le, length-append, take-append-drop, take_at, drop_at}
use Rattle.std.proofs.lemmas.Result.{IfOk-at_ok}
use Rattle.coap_wire.specs.Prelude.{CoapOption, AreOrdered, AreBytes, IsOptionHead, IsOneOption, IsOptionBytes}
use Rattle.coap_wire.specs.Prelude.{payload_bytes, option_number_at, option_head_at, value_at, option_at, body_at}
use Rattle.coap_wire.specs.Prelude.{options_in, options_read}
use Rattle.coap_wire.proofs.FormLaws.{option_form_bound}
use Rattle.coap_wire.proofs.NumberLaws.{AreBytes-tail, AreBytes-drop, option_number_again, option_number_takes}
use Rattle.coap_wire.proofs.BodySteps.{BadDelta, BadLength, HeadCut, Head, option_kind, Body, body_end, body_marker}
use Rattle.coap_wire.proofs.BodySteps.{option_then}
use Rattle.coap_wire.proofs.BodySteps.{body_option, ReadsBody, AtEnd, NoPayload, Payload, Wrong, One, WrongLater}
use Rattle.coap_wire.proofs.BodySteps.{reads_body}

-- ---- an option

-- The bytes of the decoded extensions encode the delta and the length.
pub option_head_takes : (b : ℕ) (s : List ℕ) (y z : ℕ × List ℕ) → AreBytes (b ∷ s) → b / 16 ≢ 15 → b % 16 ≢ 15
    → option_number_at (b / 16) s ≡ Some y → option_number_at (b % 16) y.1 ≡ Some z
    → IsOptionHead (b ∷ s) y.0 z.0 z.1 × AreBytes z.1
option_head_takes b s y z fits delta len first second =
    let byte : b < 256 = fits 0 in
    let split : b ≡ 16 * (b / 16) + b % 16 = omega arith in
    let later = AreBytes-tail (b ∷ []) s fits in
    let d = option_number_takes (b / 16) s y later (omega arith) first in
    let middle = AreBytes-tail d.extension y.1 (rw d.parts at later) in
    let l = option_number_takes (b % 16) y.1 z middle (omega arith) second in (
      record {
        delta_nibble = b / 16;
        delta_extension = d.extension;
        length_nibble = b % 16;
        length_extension = l.extension;
        delta_form = d.form;
        length_form = l.form;
        bytes = cc (d.parts, l.parts);
      },
      AreBytes-tail l.extension z.1 (rw l.parts at middle),
    )

-- The bytes of a decoded option encode it.
pub option_takes : (base b : ℕ) (s : List ℕ) (x : CoapOption × List ℕ) → AreBytes (b ∷ s) → option_at base b s ≡ Ok x
    → IsOneOption base x.0 (b ∷ s) x.1 × AreBytes x.1
option_takes base b s x fits e =
    elim (option_kind base b s) [
      | BadDelta delta is ↦ cc
      | BadLength delta len is ↦ cc
      | HeadCut delta len cut is ↦ cc
      | Head delta len y z first second width is ↦
          let made : x ≡ (record { number = base + y.0; value = take z.0 z.1 }, drop z.0 z.1) =
          grind (arith, nat_tests) in
          let enough : z.0 ≤ length z.1 = grind (arith, nat_tests) in
          let k = option_head_takes b s y z fits delta len first second in
          rw made (
            record {
              delta = y.0;
              number = refl;
              number_fits = grind (arith, nat_tests);
              head = rw (length-take-le z.0 z.1 enough, take-append-drop z.0 z.1) k.0;
            },
            AreBytes-drop z.0 z.1 k.1,
          )
    ]

-- The first byte, which is no marker, and the result of decoding the option at it.
pub record ReadsHead (base : ℕ) (s : List ℕ) (delta len : ℕ) (after : List ℕ) : Type 0 where
  pub first : ℕ
  pub later : List ℕ
  pub bytes : s ≡ first ∷ later
  pub no_marker : first ≢ 255
  pub is : option_at base first later ≡ value_at (base + delta) len after

-- The encoding of an option head is decoded to it.
pub option_head_again : (base : ℕ) (s : List ℕ) (delta len : ℕ) (after : List ℕ) → IsOptionHead s delta len after
    → ReadsHead base s delta len after
unfolding option_at option_head_at
option_head_again base s delta len after h =
    let x = h.delta_nibble in
    let y = h.length_nibble in
    let small : x < 15 = (option_form_bound x h.delta_extension delta h.delta_form).0 in
    let small_too : y < 15 = (option_form_bound y h.length_extension len h.length_form).0 in
    let above : (16 * x + y) / 16 ≡ x = omega arith in
    let below : (16 * x + y) % 16 ≡ y = omega arith in
    record {
      first = 16 * x + y;
      later = h.delta_extension ++ (h.length_extension ++ after);
      bytes = h.bytes;
      no_marker = omega arith;
      is = rw (
        above,
        below,
        ne_eqb x 15 (omega arith),
        ne_eqb y 15 (omega arith),
        option_number_again x h.delta_extension delta (h.length_extension ++ after) h.delta_form,
        option_number_again y h.length_extension len after h.length_form,
      ) refl;
    }

-- ---- a body

bytes_taken : (base : ℕ) (s : List ℕ) (r : Body) → ReadsBody base s r → AreBytes s
    → IfOk r (λ x. IsOptionBytes base x.0 s (payload_bytes x.1))
bytes_taken _ _ _ (AtEnd base) fits = refl
bytes_taken _ _ _ (NoPayload base) fits = tt
bytes_taken _ _ _ (Payload base b s) fits = refl
bytes_taken _ _ _ (Wrong base b s e other is) fits = tt
bytes_taken _ _ _ (One base b s x r other is k) fits =
    let t = option_takes base b s x fits is in
    (x.1, t.0, bytes_taken _ _ _ k t.1)
bytes_taken _ _ _ (WrongLater base b s x e other is k) fits = tt

-- The bytes of a decoded body encode it.
pub body_takes : (base : ℕ) (s : List ℕ) (x : List CoapOption × List ℕ) → AreBytes s → body_at base s ≡ Ok x
    → IsOptionBytes base x.0 s (payload_bytes x.1)
body_takes base s x fits e =
    IfOk-at_ok (λ r. IsOptionBytes base r.0 s (payload_bytes r.1)) e (bytes_taken base s _ (reads_body base s) fits)

-- The number of an option is not below base.
option_number_from : (base b : ℕ) (s : List ℕ) (x : CoapOption × List ℕ)
    → option_at base b s ≡ Ok x → base ≤ x.0.number
option_number_from base b s x e =
    elim (option_kind base b s) [
      | BadDelta delta is ↦ cc
      | BadLength delta len is ↦ cc
      | HeadCut delta len cut is ↦ cc
      | Head delta len y z first second width is ↦ grind (arith, nat_tests)
    ]

read_in_order : (base : ℕ) (s : List ℕ) (r : Body) → ReadsBody base s r → AreOrdered base (options_read r)
read_in_order _ _ _ (AtEnd base) = tt
read_in_order _ _ _ (NoPayload base) = tt
read_in_order _ _ _ (Payload base b s) = tt
read_in_order _ _ _ (Wrong base b s e other is) = tt
read_in_order _ _ _ (One base b s x r other is k) = (option_number_from base b s x is, read_in_order _ _ _ k)
read_in_order _ _ _ (WrongLater base b s x e other is k) = tt

-- The options of a decoded body are in order.
pub options_in_order : (base : ℕ) (s : List ℕ) → AreOrdered base (options_in base s)
options_in_order base s = read_in_order base s (body_at base s) (reads_body base s)

-- The encoding of an option before others.
pub option_again : (base : ℕ) (o : CoapOption) (s tail : List ℕ) (r : Body) → IsOneOption base o s tail
    → body_at o.number tail ≡ r → body_at base s ≡ option_then o r
option_again base o s tail r one is =
    let h = option_head_again base s one.delta (length o.value) (o.value ++ tail) one.head in
    let value : value_at (base + one.delta) (length o.value) (o.value ++ tail) ≡ Ok (o, tail) =
    rw (
      ← one.number,
      le-ltb 65535 o.number one.number_fits,
      le-ltb (length (o.value ++ tail)) (length o.value) (omega (arith, length-append o.value tail)),
      take_at o.value tail (length o.value) refl,
      drop_at o.value tail (length o.value) refl,
    ) refl in
    rw (h.bytes, body_option base h.first h.later (o, tail) h.no_marker (h.is ∙ value), is) refl

-- The encoding of a body is decoded to it.
pub body_again : (base : ℕ) (os : List CoapOption) (s payload : List ℕ)
    → IsOptionBytes base os s (payload_bytes payload) → body_at base s ≡ Ok (os, payload)
body_again base [] s [] bytes = rw bytes (body_end base)
body_again base [] s (b ∷ payload) bytes = rw bytes (body_marker base b payload)
body_again base (o ∷ os) s payload bytes =
    option_again base o s bytes.0 _ bytes.1 (body_again o.number os bytes.0 payload bytes.2)
