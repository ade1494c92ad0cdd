-- The places of the parts of a message in its frame, and of the values of options.
use Rattle.std.proofs.Common.{◌≡◌, ℕ, ◌+◌, ◌-◌, ◌*◌, ◌≤◌, List, [], ◌∷◌, ◌++◌, length, take, drop, Ok, Some, inl, inr}
use Rattle.std.proofs.Common.{refl, sym, ap, ◌∙◌, append_assoc, arith}
use Rattle.std.proofs.lemmas.Bool.{cases_eq}
use Rattle.std.proofs.lemmas.Bool.Decides.{nat_tests}
use Rattle.std.proofs.lemmas.List.{length-append, length-take, length-drop, take-append-drop, drop-drop, take_at}
use Rattle.std.proofs.lemmas.List.{take_all, drop_at, drop_all}
use Rattle.c_api.specs.Messages.{first_option}
use Rattle.coap_wire.proofs.BodyLaws.{option_takes}
use Rattle.coap_wire.specs.declared.layout.Outline.TheVariants.{Unknown, BadToken, Known}
use Rattle.coap_wire.specs.Prelude.{AreBytes, CoapOption, Message, IsLaidOut, outline_of, Head, message_of, head_at}
use Rattle.coap_wire.specs.Prelude.{option_at, option_spelling, options_spelling, payload_bytes, payload_marker}
use Rattle.coap_wire.specs.Prelude.{option_form}
use Rattle.coap_wire.specs.declared.layout.FrameLayout.{FrameLayout}
use Rattle.coap_wire.specs.declared.layout.Outline.{Outline}
use Rattle.coap_wire.proofs.BodySteps.{ok_is}
use Rattle.coap_wire.proofs.BuiltLemmas.{marker_then_payload}
use Rattle.coap_wire.proofs.HeadLaws.{head_again}
use Rattle.coap_wire.proofs.LayoutLaws.{laid_out_parts, head_unknown, head_bad_token, head_other_size}
use Rattle.coap_wire.proofs.NumberLaws.{AreBytes-drop}
use Rattle.coap_wire.proofs.ReadingLaws.{message_spelled}
use Rattle.coap_wire.proofs.SpellingLaws.{option_spelled_as, options_spelled_as}

-- The message of a frame `f`, at the positions of its layout.
pub record IsPlaced (f : List ℕ) (l : FrameLayout) (m : Message) : Type 0 where
  pub within : l.token_at + l.token_length ≤ length f
  pub token_length : l.token_length ≡ length m.token
  pub token : take (length m.token) (drop l.token_at f) ≡ m.token
  pub body : drop (l.token_at + l.token_length) f ≡ options_spelling 0 m.options ++ payload_bytes m.payload
  pub count : length f ≡ l.token_at + l.token_length
      + (length (options_spelling 0 m.options) + (length (payload_marker m.payload) + length m.payload))

pub placed : (f : List ℕ) (l : FrameLayout) (m : Message) → AreBytes f → IsLaidOut f l
    → message_of f ≡ Ok m → IsPlaced f l m
placed f l m fits laid is =
    let p = laid_out_parts f l fits laid in
    let s = message_spelled f m fits is in
    let same = ok_is _ _ (sym p.head ∙ head_again f m.code m.token s.body s.head) in
    let token : take l.token_length (drop l.token_at f) ≡ m.token = ap (λ (h : Head). h.token) same in
    let count : l.token_length ≡ length m.token = grind (arith, p.token_within, length-take, length-drop, token) in
    let body = sym (drop-drop l.token_length l.token_at f) ∙ ap (λ (h : Head). h.body) same
    ∙ options_spelled_as 0 m.options s.body (payload_bytes m.payload) s.options in
    record {
      within = p.token_within;
      token_length = count;
      token = rw (← count) token;
      body = body;
      count =
          omega (
            arith,
            ap length body,
            p.token_within,
            length-drop {A = ℕ},
            length-append {A = ℕ},
            ap length (marker_then_payload m.payload),
          );
    }

-- The options at their place.
pub options_placed : (f : List ℕ) (l : FrameLayout) (m : Message) → IsPlaced f l m
    → take (length (options_spelling 0 m.options)) (drop (l.token_at + l.token_length) f) ≡ options_spelling 0 m.options
options_placed f l m p = rw p.body (take_at _ (payload_bytes m.payload) _ refl)

payload_at_end : (o p : List ℕ) → drop (length o + length (payload_marker p)) (o ++ payload_bytes p) ≡ p
payload_at_end o [] = drop_all _ (o ++ []) (omega (arith, length-append o []))
payload_at_end o (b ∷ bs) =
    rw (← append_assoc o (255 ∷ []) (b ∷ bs)) (drop_at (o ++ 255 ∷ []) (b ∷ bs) _ (length-append o (255 ∷ [])))

-- The payload at its place.
pub payload_placed : (f : List ℕ) (l : FrameLayout) (m : Message) (at : ℕ) → IsPlaced f l m
    → at + length m.payload ≡ length f → take (length m.payload) (drop at f) ≡ m.payload
payload_placed f l m at p is =
    let n = l.token_at + l.token_length in
    let k = length (options_spelling 0 m.options) + length (payload_marker m.payload) in
    let here : at ≡ n + k = omega (arith, is, p.count) in
    rw (here, ← drop-drop k n f, p.body, payload_at_end (options_spelling 0 m.options) m.payload)
    (take_all (length m.payload) m.payload (omega arith))

outlined_as : (f : List ℕ) (h : Head) (o : Outline) → head_at f ≡ Ok h → outline_of f ≡ o
    → (l : FrameLayout) × (o ≡ Known (length f) l)
outlined_as f h Unknown is out = absurd (cc (head_unknown f out))
outlined_as f h BadToken is out = absurd (cc (head_bad_token f out))
outlined_as f h (Known n l) is out = elim (cases_eq n (length f)) [
  | inl same ↦ (l, rw same)
  | inr other ↦ absurd (cc (head_other_size f n l out other))
]

-- The outline of the frame of a message has the size of the frame.
pub outlined : (f : List ℕ) (m : Message) → AreBytes f → message_of f ≡ Ok m
    → (l : FrameLayout) × (outline_of f ≡ Known (length f) l)
outlined f m fits is =
    let s = message_spelled f m fits is in
    outlined_as f _ (outline_of f) (head_again f m.code m.token s.body s.head) refl

-- So the frame has any layout that is its outline's.
pub laid_out_so : (f : List ℕ) (m : Message) (n : ℕ) (l : FrameLayout) → AreBytes f → message_of f ≡ Ok m
    → outline_of f ≡ Known n l → IsLaidOut f l
laid_out_so f m n l fits is out = cc ((outlined f m fits is).1)

-- ---- options

-- The part between a front and a rest.
pub part_at : (xs front v rest : List ℕ) (k : ℕ) → xs ≡ front ++ (v ++ rest) → k + (length v + length rest) ≡ length xs
    → take (length v) (drop k xs) ≡ v
part_at xs front v rest k is count =
    let at : k ≡ length front = omega (arith, count, ap length is, length-append {A = ℕ}) in
    rw (at, is, drop_at front (v ++ rest) _ refl) (take_at v rest _ refl)

-- The value of the option that begins at a position, between a front and the rest.
pub record HasValue (xs : List ℕ) (o : CoapOption) (rest : List ℕ) : Type 0 where
  pub front : List ℕ
  pub is : xs ≡ front ++ (o.value ++ rest)
  pub count : length o.value + length rest ≤ length xs

pub option_value : (xs : List ℕ) (at base b : ℕ) (s rest : List ℕ) (o : CoapOption) → AreBytes xs → drop at xs ≡ b ∷ s
    → option_at base b s ≡ Ok (o, rest) → HasValue xs o rest
option_value xs at base b s rest o fits here is =
    let bytes = rw here at (AreBytes-drop at xs fits) in
    let spelled : b ∷ s ≡ option_spelling base o ++ rest =
    option_spelled_as base o (b ∷ s) rest (option_takes base b s (o, rest) bytes is).0 in
    let one = option_form (o.number - base) in
    let two = option_form (length o.value) in
    let front = take at xs ++ ((16 * one.0 + two.0) ∷ (one.1 ++ two.1)) in
    let is : xs ≡ front ++ (o.value ++ rest) =
    simp append_assoc
    (sym (take-append-drop at xs) ∙ ap (λ (y : List ℕ). take at xs ++ y) (here ∙ simp append_assoc at spelled)) in
    record { front = front; is = is; count = omega (arith, ap length is, length-append {A = ℕ}) }

-- An option is read if the first byte is no marker and the number fits.
pub first_some : (base b : ℕ) (s : List ℕ) → (b ≡ 255 → ⊥) → base ≤ 65535
    → first_option base (b ∷ s) ≡ Some (option_at base b s)
first_some base b s other fits = grind (arith, nat_tests)
