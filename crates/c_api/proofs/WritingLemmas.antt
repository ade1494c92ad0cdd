-- The bytes of a buffer after parts are copied into it one after the other, and the numbers of refused calls.
use Rattle.std.proofs.Common.{◌≡◌, ℕ, ◌+◌, ◌≤◌, ◌<◌, List, [], ◌∷◌, ◌++◌, length, take, drop, true, Result, Ok, Err}
use Rattle.std.proofs.Common.{Option, Some, None, refl, sym, ap, ◌∙◌, append_assoc, arith}
use Rattle.std.specs.Prelude.{is_some, nat_lt, if◌then◌else◌}
use Rattle.std.proofs.lemmas.Bool.Decides.{nat_tests}
use Rattle.std.proofs.lemmas.List.{append-nil, length-append, length-take-le, take-append-drop, drop-drop, take_at}
use Rattle.std.proofs.lemmas.List.{drop_at}
use Rattle.coap_wire.specs.Prelude.{AreBytes, CoapOption, Message, greatest_token, body_at, options_in, options_read}
use Rattle.coap_wire.specs.Prelude.{options_spelling, payload_marker, body_spelling, head_spelling, spelling}
use Rattle.coap_wire.specs.Prelude.{front_spelling, option_head_spelling}
use Rattle.coap_wire.specs.declared.fault.FormatFault.{FormatFault}
use Rattle.coap_wire.specs.declared.sizes.TheConstants.{MAX_EXTENDED_LENGTH, LARGEST_MESSAGE}
use Rattle.coap_wire.proofs.BodyLaws.{body_takes}
use Rattle.coap_wire.proofs.BuiltLemmas.{front_then_payload, length-body}
use Rattle.coap_wire.proofs.HeadSizes.{option_head_then_value}
use Rattle.coap_wire.proofs.SpellingLaws.{options_spelled_as}
use Rattle.c_api.specs.Messages.{append_refusal, option_bytes, coded_options, options_alone, message_with}
use Rattle.c_api.specs.Messages.{write_refusal, IsWritten}

-- The first `at` bytes of a buffer are `front`, and the others are as before.
pub record Holds (whole front : List ℕ) (at : ℕ) (buffer : List ℕ) : Type 0 where
  pub end : at ≡ length front
  pub is : buffer ≡ front ++ drop at whole

pub holds_nothing : (whole : List ℕ) → Holds whole [] 0 whole
holds_nothing whole = record { end = refl; is = refl }

pub holds_front : (whole : List ℕ) (at : ℕ) → at ≤ length whole → Holds whole (take at whole) at whole
holds_front whole at within = record {
  end = sym (length-take-le at whole within);
  is = sym (take-append-drop at whole);
}

-- A part is copied to the end of a front.
pub holds_more : {whole front old new : List ℕ} {at at' : ℕ} (bytes : List ℕ) → Holds whole front at old
    → at' ≡ at + length bytes → new ≡ take at old ++ (bytes ++ drop (at + length bytes) old)
    → Holds whole (front ++ bytes) at' new
holds_more {whole = whole} {front = front} {old = old} {at = at} bytes h later put =
    let n = length bytes in
    let before : take at old ≡ front = rw h.is (take_at front (drop at whole) at (sym h.end)) in
    let after : drop (at + n) old ≡ drop (at + n) whole =
    rw (← drop-drop n at old, h.is, drop_at front (drop at whole) at (sym h.end)) (drop-drop n at whole) in
    record {
      end = omega (arith, later, h.end, length-append front bytes);
      is = rw (put, later, before, after) (sym (append_assoc front bytes (drop (at + n) whole)));
    }

-- ---- an option

-- A value after its head.
pub head_then_value : (last next number : ℕ) (value old head : List ℕ) → old ≡ []
    → head ≡ old ++ option_head_spelling last next (length value) → next ≡ number
    → head ++ value ≡ option_bytes last number value
head_then_value last next number value old head empty is same =
    rw (is, empty, ← same) (option_head_then_value last next value)

pub append_none : (room count last number : ℕ) (value : List ℕ) → number < 65536 → last ≤ number
    → length value ≤ MAX_EXTENDED_LENGTH
    → count + length (option_bytes last number value) ≤ room → append_refusal room count last number value ≡ None
append_none room count last number value fits order short space = grind (arith, nat_tests)

pub append_full : (room count last number : ℕ) (value : List ℕ) → number < 65536 → last ≤ number
    → length value ≤ MAX_EXTENDED_LENGTH
    → room < count + length (option_bytes last number value) → append_refusal room count last number value ≡ Some 7
append_full room count last number value fits order short space = grind (arith, nat_tests)

-- A head and a value were copied after `count` bytes.
pub appended : (bytes head value spelled new : List ℕ) (count end : ℕ) → count ≤ length bytes → head ++ value ≡ spelled
    → Holds bytes ((take count bytes ++ head) ++ value) end new
    → (end ≡ count + length spelled) × (new ≡ take count bytes ++ (spelled ++ drop end bytes))
appended bytes head value spelled new count end within is h =
    let front = take count bytes in
    let all : (front ++ head) ++ value ≡ front ++ spelled = rw (append_assoc front head value, is) in (
      omega (arith, h.end, ap length all, length-append front spelled, length-take-le count bytes within),
      rw (h.is, all) (append_assoc front spelled (drop end bytes)),
    )

-- ---- a message

alone_parts : (r : Result (List CoapOption × List ℕ) FormatFault) → is_some (options_alone r) ≡ true
    → (os : List CoapOption) × (r ≡ Ok (os, []))
alone_parts (Ok (os, [])) is = (os, refl)
alone_parts (Ok (os, b ∷ bs)) is = absurd cc
alone_parts (Err f) is = absurd cc

-- Encoded options are the encodings of the options.
options_spelled : (bytes : List ℕ) → AreBytes bytes → is_some (coded_options bytes) ≡ true
    → bytes ≡ options_spelling 0 (options_in 0 bytes)
options_spelled bytes fits is =
    let p = alone_parts (body_at 0 bytes) is in
    options_spelled_as 0 p.0 bytes [] (body_takes 0 bytes (p.0, []) fits p.1) ∙ append-nil (options_spelling 0 p.0)
    ∙ ap (options_spelling 0) (sym (ap options_read p.1))

whole_spelled : (m : Message) (head options marker : List ℕ)
    → head ≡ head_spelling m.code m.token (length (body_spelling m)) → options ≡ options_spelling 0 m.options
    → marker ≡ payload_marker m.payload → ((head ++ options) ++ marker) ++ m.payload ≡ spelling m
unfolding front_spelling
whole_spelled m head options marker head_is options_are marker_is =
    rw (head_is, options_are, marker_is)
    (ap (λ (y : List ℕ). y ++ m.payload) (append_assoc (head_spelling m.code m.token (length (body_spelling m)))
    (options_spelling 0 m.options) (payload_marker m.payload)) ∙ sym (front_then_payload m))

length-spelling : (m : Message)
    → length (spelling m) ≡ length (head_spelling m.code m.token (length (body_spelling m))) + length (body_spelling m)
unfolding spelling
length-spelling m = length-append (head_spelling m.code m.token (length (body_spelling m))) (body_spelling m)

-- The refusals of a message whose code, token and options are in range.
size_refusal : (m : Message) (coded : Option (List CoapOption)) (room : ℕ) → m.code < 256
    → length m.token ≤ greatest_token → is_some coded ≡ true → write_refusal m coded room
    ≡ (if nat_lt LARGEST_MESSAGE (length (body_spelling m)) then Some 135
    else (if nat_lt room (length (spelling m)) then Some 7 else None))
size_refusal m coded room code token is = grind (arith, nat_tests)

-- A message with encoded options, whose code and token are in range. Its body has `body` bytes.
module _ (code : ℕ) (token options payload : List ℕ) (body : ℕ) (fits : AreBytes options)
    (some : is_some (coded_options options) ≡ true) (code_fits : code < 256) (short : length token ≤ greatest_token)
    (body_is : body ≡ length options + (length (payload_marker payload) + length payload)) where
  abbrev message : Message
  message = message_with code token options payload

  spelled : options ≡ options_spelling 0 message.options
  spelled = options_spelled options fits some

  count : body ≡ length (body_spelling message)
  count = omega (arith, body_is, ap length spelled, length-body message)

  size : length (spelling message) ≡ length (head_spelling code token body) + body
  size = rw (length-spelling message, ← count)

  refusal : (room : ℕ) → write_refusal message (coded_options options) room
      ≡ (if nat_lt LARGEST_MESSAGE body then Some 135
      else (if nat_lt room (length (head_spelling code token body) + body) then Some 7 else None))
  refusal room =
      rw (size, ← count) at (size_refusal message (coded_options options) room code_fits short some)

  pub refused_large : (room : ℕ) → LARGEST_MESSAGE < body
      → write_refusal message (coded_options options) room ≡ Some 135
  refused_large room large = refusal room ∙ grind (arith, nat_tests)

  pub refused_full : (room : ℕ) → body ≤ LARGEST_MESSAGE → room < length (head_spelling code token body) + body
      → write_refusal message (coded_options options) room ≡ Some 7
  refused_full room small full = refusal room ∙ grind (arith, nat_tests)

  pub written : (whole head marker buffer : List ℕ) (at old : ℕ) → body ≤ LARGEST_MESSAGE
      → length (head_spelling code token body) + body ≤ length whole → head ≡ head_spelling code token body
      → marker ≡ payload_marker payload → Holds whole (((head ++ options) ++ marker) ++ payload) at buffer
      → IsWritten (write_refusal message (coded_options options) (length whole)) message whole buffer old at 0
  written whole head marker buffer at old small space head_is marker_is h =
      let same = whole_spelled message head options marker (rw (← count) head_is) spelled marker_is in
      let none : write_refusal message (coded_options options) (length whole) ≡ None =
      refusal (length whole) ∙ grind (arith, nat_tests) in
      rw none (refl, (h.end ∙ ap length same, rw same at h.is))
