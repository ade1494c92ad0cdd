-- The parts of the encoding of a message.
use Rattle.std.proofs.Common.{◌≡◌, ℕ, ◌+◌, List, [], ◌∷◌, ◌++◌, length, refl, ap, append_assoc, arith}
use Rattle.std.proofs.lemmas.List.{length-append}
use Rattle.coap_wire.specs.Prelude.{Message, options_spelling, payload_bytes, body_spelling, payload_marker}
use Rattle.coap_wire.specs.Prelude.{head_spelling, spelling, front_spelling}

-- The marker, followed by the payload.
pub marker_then_payload : (payload : List ℕ) → payload_bytes payload ≡ payload_marker payload ++ payload
marker_then_payload [] = refl
marker_then_payload (b ∷ bs) = refl

-- The encoding without the payload: the head, the options and the marker.
pub front_parts : (m : Message) → front_spelling m ≡ head_spelling m.code m.token (length (body_spelling m))
    ++ (options_spelling 0 m.options ++ payload_marker m.payload)
unfolding front_spelling
front_parts m = refl

-- The encoding without the payload, followed by the payload.
pub front_then_payload : (m : Message) → spelling m ≡ front_spelling m ++ m.payload
unfolding spelling front_spelling
front_then_payload m =
    let head = head_spelling m.code m.token (length (body_spelling m)) in
    let options = options_spelling 0 m.options in
    let marker = payload_marker m.payload in
    cc (
      marker_then_payload m.payload,
      append_assoc options marker m.payload,
      append_assoc head (options ++ marker) m.payload,
    )

pub length-whole : (m : Message) → length (spelling m) ≡ length (front_spelling m) + length m.payload
length-whole m = omega (arith, ap length (front_then_payload m), length-append (front_spelling m) m.payload)

pub length-front : (m : Message)
    → length (front_spelling m) ≡ length (head_spelling m.code m.token (length (body_spelling m)))
    + (length (options_spelling 0 m.options) + length (payload_marker m.payload))
length-front m =
    let options = options_spelling 0 m.options in
    let marker = payload_marker m.payload in
    let head = head_spelling m.code m.token (length (body_spelling m)) in
    omega (
      arith,
      ap length (front_parts m),
      length-append head (options ++ marker),
      length-append options marker,
    )

pub length-body : (m : Message) → length (body_spelling m)
    ≡ length (options_spelling 0 m.options) + (length (payload_marker m.payload) + length m.payload)
length-body m =
    omega (
      arith,
      ap length (marker_then_payload m.payload),
      length-append (options_spelling 0 m.options) (payload_bytes m.payload),
      length-append (payload_marker m.payload) m.payload,
    )

pub ruleset whole = (front_then_payload, length-whole)

pub ruleset front = (length-whole, length-front)
