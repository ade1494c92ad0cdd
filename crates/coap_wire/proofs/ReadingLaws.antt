-- The theorems on decoding: `message_of` returns a message if and only if the bytes encode it, and otherwise the first
-- error.
use Rattle.std.proofs.Common.{◌≡◌, ℕ, List, Result, Ok, Err, IfOk, IfErr, inl, inr, refl, sym}
use Rattle.coap_wire.specs.Prelude.{Message, AreBytes, Spells, IsFrame, HasBadToken, HasOptionFault, IsFirstFault}
use Rattle.coap_wire.specs.Prelude.{FormatFault, TokenLength, NotOneFrame, body_at, head_at, message_of}
use Rattle.coap_wire.proofs.BodySteps.{result_cases}
use Rattle.coap_wire.proofs.BodyLaws.{body_takes, body_again}
use Rattle.coap_wire.proofs.HeadLaws.{head_takes, head_again, head_is_wrong, bad_token_read, head_frame}
use Rattle.coap_wire.proofs.FaultLaws.{body_fault_takes, body_fault_again}

-- ---- the message

-- If `message_of` returns a message, the bytes encode it.
pub message_spelled : (s : List ℕ) (m : Message) → AreBytes s → message_of s ≡ Ok m → Spells s m
unfolding message_of
message_spelled s m fits e =
    elim (result_cases (head_at s)) [
      | inr bad ↦ cc (rw bad.1 at e)
      | inl h ↦ elim (result_cases (body_at 0 h.0.body)) [
        | inr bad ↦ cc (rw (h.1, bad.1) at e)
        | inl b ↦
            let k = head_takes s h.0 fits h.1 in
            let made : m ≡ record { code = h.0.code; token = h.0.token; options = b.0.0; payload = b.0.1 } =
            cc (rw (h.1, b.1) at e) in
            rw made (record { body = h.0.body; head = k.0; options = body_takes 0 h.0.body b.0 k.1 b.1 })
      ]
    ]

-- If the bytes encode a message, `message_of` returns it.
pub message_again : (s : List ℕ) (m : Message) → Spells s m → message_of s ≡ Ok m
unfolding message_of
message_again s m h =
    rw (head_again s m.code m.token h.body h.head, body_again 0 m.options h.body m.payload h.options) refl

-- Bytes encode at most one message.
pub one_message : (s : List ℕ) (m n : Message) → Spells s m → Spells s n → m ≡ n
one_message s m n p q = cc (message_again s m p, message_again s n q)

-- ---- the first error

first_of_option : (s : List ℕ) (e : FormatFault) → HasOptionFault s e → IsFirstFault s e
first_of_option s TokenLength w = absurd w.wrong
first_of_option s NotOneFrame w = absurd w.wrong
first_of_option s _ w = w

-- An error that `message_of` returns is the first one.
pub fault_is_first : (s : List ℕ) (f : FormatFault) → AreBytes s → message_of s ≡ Err f → IsFirstFault s f
unfolding message_of
fault_is_first s f fits e =
    elim (result_cases (head_at s)) [
      | inr bad ↦
          let same : f ≡ bad.0 = cc (rw bad.1 at e) in
          rw same (head_is_wrong s bad.0 fits bad.1)
      | inl h ↦ elim (result_cases (body_at 0 h.0.body)) [
        | inl b ↦ cc (rw (h.1, b.1) at e)
        | inr bad ↦
            let k = head_takes s h.0 fits h.1 in
            let same : f ≡ bad.0 = cc (rw (h.1, bad.1) at e) in
            let w = body_fault_takes 0 h.0.body bad.0 k.1 bad.1 in
            rw same (first_of_option s bad.0 (record {
              code = h.0.code;
              token = h.0.token;
              body = h.0.body;
              head = k.0;
              options = w.options;
              rest = w.rest;
              bytes = w.bytes;
              wrong = w.wrong;
            }))
      ]
    ]

option_fault_read : (s : List ℕ) (f : FormatFault) → HasOptionFault s f → message_of s ≡ Err f
unfolding message_of
option_fault_read s f w =
    rw (head_again s w.code w.token w.body w.head, body_fault_again 0 w.options w.body w.rest f w.bytes w.wrong) refl

no_frame_from : (s : List ℕ) (e : FormatFault) → (HasBadToken s → ⊥) → (IsFrame s → ⊥) → head_at s ≡ Err e
    → IsFirstFault s e → head_at s ≡ Err NotOneFrame
no_frame_from s NotOneFrame p q h w = h
no_frame_from s TokenLength p q h w = absurd (p w)
no_frame_from s _ p q h w = absurd (q (head_frame s w.code w.token w.body w.head))

-- `message_of` returns the first error.
pub first_fault_again : (s : List ℕ) (f : FormatFault) → AreBytes s → IsFirstFault s f → message_of s ≡ Err f
unfolding message_of
first_fault_again s TokenLength fits w = rw (bad_token_read s w) refl
first_fault_again s NotOneFrame fits w =
    elim (result_cases (head_at s)) [
      | inl h ↦ absurd (w.1 (head_frame s h.0.code h.0.token h.0.body (head_takes s h.0 fits h.1).0))
      | inr bad ↦ rw (no_frame_from s bad.0 w.0 w.1 bad.1 (head_is_wrong s bad.0 fits bad.1)) refl
    ]
first_fault_again s f fits w = option_fault_read s f w

-- ---- the result of decoding

pub found_is_spelled : (s : List ℕ) (r : Result Message FormatFault) → AreBytes s → r ≡ message_of s
    → IfOk r (λ m. Spells s m)
found_is_spelled s (Ok m) fits e = message_spelled s m fits (sym e)
found_is_spelled s (Err f) fits e = tt

pub fault_is_the_first : (s : List ℕ) (r : Result Message FormatFault) → AreBytes s → r ≡ message_of s
    → IfErr r (IsFirstFault s)
fault_is_the_first s (Ok m) fits e = tt
fault_is_the_first s (Err f) fits e = fault_is_first s f fits (sym e)

pub one_first_fault : (s : List ℕ) (f g : FormatFault) → AreBytes s → IsFirstFault s f → IsFirstFault s g → f ≡ g
one_first_fault s f g fits first other = cc (first_fault_again s f fits first, first_fault_again s g fits other)

pub no_fault_of_spelling : (s : List ℕ) (m : Message) (f : FormatFault) → AreBytes s → Spells s m → IsFirstFault s f → ⊥
no_fault_of_spelling s m f fits spelled fault = cc (message_again s m spelled, first_fault_again s f fits fault)

pub has_first_fault : (s : List ℕ) → AreBytes s → ((m : Message) → Spells s m → ⊥)
    → (f : FormatFault) × IsFirstFault s f
has_first_fault s fits none =
    elim (result_cases (message_of s)) [
      | inl good ↦ absurd (none good.0 (message_spelled s good.0 fits good.1))
      | inr bad ↦ (bad.0, fault_is_first s bad.0 fits bad.1)
    ]
