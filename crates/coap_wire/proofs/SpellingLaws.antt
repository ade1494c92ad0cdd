-- A message in range has exactly one encoding; any other message has none.
use Rattle.std.proofs.Common.{◌≡◌, ℕ, ◌-◌, ◌≤◌, List, [], ◌∷◌, ◌++◌, length, refl, append_assoc, arith}
use Rattle.coap_wire.specs.Prelude.{AllByRecursion, CoapOption, Message, AreOrdered, length_form, greatest_token}
use Rattle.coap_wire.specs.Prelude.{token_form, greatest_length, option_form, IsOneOption, IsOptionBytes, payload_bytes}
use Rattle.coap_wire.specs.Prelude.{IsHeadAndBody, Spells, option_spelling, options_spelling, body_spelling}
use Rattle.coap_wire.specs.Prelude.{head_spelling, spelling, HasOptionForm, HasSpelling}
use Rattle.coap_wire.proofs.FormLaws.{length_form_is, length_form_only, length_form_bound, option_form_is}
use Rattle.coap_wire.proofs.FormLaws.{option_form_only, option_form_bound, token_form_has, token_form_only}

-- ---- one option

-- Bytes that begin with an option begin with `option_spelling`.
pub option_spelled_as : (base : ℕ) (o : CoapOption) (s tail : List ℕ) → IsOneOption base o s tail
    → s ≡ option_spelling base o ++ tail
option_spelled_as base o s tail one =
    let h = one.head in
    let delta : one.delta ≡ o.number - base = omega (arith, one.number) in
    let d = option_form_only h.delta_nibble h.delta_extension (o.number - base) (rw delta at h.delta_form) in
    let l = option_form_only h.length_nibble h.length_extension (length o.value) h.length_form in
    let e = (option_form (length o.value)).1 in
    cc (
      h.bytes,
      d.0,
      d.1,
      l.0,
      l.1,
      append_assoc (option_form (o.number - base)).1 (e ++ o.value) tail,
      append_assoc e o.value tail,
    )

-- `option_spelling` encodes an option in range whose number is not below base.
option_is_spelled : (base : ℕ) (o : CoapOption) (tail : List ℕ) → base ≤ o.number → HasOptionForm o
    → IsOneOption base o (option_spelling base o ++ tail) tail
option_is_spelled base o tail le has = record {
  delta = o.number - base;
  number = omega arith;
  number_fits = has.0;
  head = record {
    delta_nibble = (option_form (o.number - base)).0;
    delta_extension = (option_form (o.number - base)).1;
    length_nibble = (option_form (length o.value)).0;
    length_extension = (option_form (length o.value)).1;
    delta_form = option_form_is (o.number - base) (omega (arith, has.0));
    length_form = option_form_is (length o.value) has.1;
    bytes = simp append_assoc;
  };
}

-- ---- the options

-- Bytes that begin with options begin with `options_spelling`.
pub options_spelled_as : (base : ℕ) (os : List CoapOption) (s tail : List ℕ) → IsOptionBytes base os s tail
    → s ≡ options_spelling base os ++ tail
options_spelled_as base [] s tail bytes = bytes
options_spelled_as base (o ∷ os) s tail bytes =
    cc (
      option_spelled_as base o s bytes.0 bytes.1,
      options_spelled_as o.number os bytes.0 tail bytes.2,
      append_assoc (option_spelling base o) (options_spelling o.number os) tail,
    )

-- Encoded options are in order, and each one is in range.
spelled_options : (base : ℕ) (os : List CoapOption) (s tail : List ℕ)
    → IsOptionBytes base os s tail → AreOrdered base os × AllByRecursion HasOptionForm os
spelled_options base [] s tail bytes = (tt, tt)
spelled_options base (o ∷ os) s tail bytes =
    let one = bytes.1 in
    let k = option_form_bound one.head.length_nibble one.head.length_extension (length o.value) one.head.length_form in
    let others = spelled_options o.number os bytes.0 tail bytes.2 in
    ((omega (arith, one.number), others.0), ((one.number_fits, k.1), others.1))

-- `options_spelling` encodes options that are in order and in range.
pub options_are_spelled : (base : ℕ) (os : List CoapOption) (tail : List ℕ) → AreOrdered base os
    → AllByRecursion HasOptionForm os → IsOptionBytes base os (options_spelling base os ++ tail) tail
options_are_spelled base [] tail ordered has = refl
options_are_spelled base (o ∷ os) tail ordered has =
    let others = options_spelling o.number os in (
      others ++ tail,
      rw (append_assoc (option_spelling base o) others tail)
          (option_is_spelled base o (others ++ tail) ordered.0 has.0),
      options_are_spelled o.number os tail ordered.1 has.1,
    )

-- ---- the message

-- A head and a body are `head_spelling`, followed by the body.
head_spelled_as : (s : List ℕ) (code : ℕ) (token body : List ℕ) → IsHeadAndBody s code token body
    → s ≡ head_spelling code token (length body) ++ body
head_spelled_as s code token body head =
    let l = length_form_only head.length_nibble head.extension (length body) head.length_form in
    let t = token_form_only (length token) head.token_nibble head.token_extension head.token_form in
    let e = (token_form (length token)).1 in
    cc (
      head.bytes,
      l.0,
      l.1,
      t.0,
      t.1,
      append_assoc (length_form (length body)).1 (code ∷ (e ++ token)) body,
      append_assoc e token body,
    )

-- `head_spelling`, followed by the body, is a head and a body.
head_is_spelled : (code : ℕ) (token body : List ℕ) → length token ≤ greatest_token → length body ≤ greatest_length
    → IsHeadAndBody (head_spelling code token (length body) ++ body) code token body
head_is_spelled code token body short fits = record {
  length_nibble = (length_form (length body)).0;
  extension = (length_form (length body)).1;
  token_nibble = (token_form (length token)).0;
  token_extension = (token_form (length token)).1;
  length_form = length_form_is (length body) fits;
  token_form = token_form_has (length token) short;
  bytes = simp append_assoc;
}

body_spelled_as : (s : List ℕ) (m : Message) → (spelled : Spells s m) → spelled.body ≡ body_spelling m
body_spelled_as s m spelled = options_spelled_as 0 m.options spelled.body (payload_bytes m.payload) spelled.options

-- The bytes that encode a message are its `spelling`.
pub spelled_as : (s : List ℕ) (m : Message) → Spells s m → s ≡ spelling m
unfolding spelling
spelled_as s m spelled =
    rw (← body_spelled_as s m spelled) (head_spelled_as s m.code m.token spelled.body spelled.head)

-- A message that bytes encode is in range.
pub has_spelling : (s : List ℕ) (m : Message) → Spells s m → HasSpelling m
has_spelling s m spelled =
    let k = spelled_options 0 m.options spelled.body (payload_bytes m.payload) spelled.options in
    let h = spelled.head in
    record {
      token = h.token_form.1;
      ordered = k.0;
      each = k.1;
      body = rw (← body_spelled_as s m spelled)
          (length_form_bound h.length_nibble h.extension (length spelled.body) h.length_form).1;
    }

-- The `spelling` of a message in range encodes it.
pub spelling_spells : (m : Message) → HasSpelling m → Spells (spelling m) m
unfolding spelling
spelling_spells m has = record {
  body = body_spelling m;
  head = head_is_spelled m.code m.token (body_spelling m) has.token has.body;
  options = options_are_spelled 0 m.options (payload_bytes m.payload) has.ordered has.each;
}

-- A message has at most one encoding.
pub one_spelling : (s t : List ℕ) (m : Message) → Spells s m → Spells t m → s ≡ t
one_spelling s t m left right = cc (spelled_as s m left, spelled_as t m right)
