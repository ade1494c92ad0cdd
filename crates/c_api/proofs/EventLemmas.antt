-- The numbers of tokens, and the frames of events.
use Rattle.std.proofs.Common.{◌≡◌, ℕ, ◌+◌, ◌-◌, ◌*◌, ◌≤◌, List, [], ◌∷◌, ◌++◌, length, Some}
use Rattle.std.proofs.Common.{Result, Ok, ◌∙◌, arith}
use Rattle.std.specs.Prelude.{fold}
use Rattle.std.proofs.lemmas.Bool.Decides.{nat_tests}
use Rattle.std.proofs.lemmas.List.Sums.{fold-append}
use Rattle.coap_client_engine.specs.Prelude.{Message, FormatFault, received_event}
use Rattle.coap_client_engine.specs.declared.client.Received.{Received}
use Rattle.coap_wire.specs.Uint.{uint_of}
use Rattle.coap_client_engine.specs.ClientValues.{Response, Notification}
use Rattle.c_api.specs.ClientEvents.{token_number}

-- ---- tokens

shifted : (k : ℕ) (low : List ℕ) → length low ≡ 4 → fold (λ n b. 256 * n + b) k low ≡ k * 4294967296 + uint_of low
shifted k (a ∷ b ∷ c ∷ d ∷ []) is = omega arith
shifted k low is = grind arith

-- A number in two parts, of which the second has 4 bytes unless the first is empty.
pub uint_in_two : (high low : List ℕ) → length high ≡ length high + length low - 4
    → uint_of (high ++ low) ≡ uint_of high * 4294967296 + uint_of low
uint_in_two [] low is = omega arith
uint_in_two (x ∷ xs) low is =
    fold-append (λ n b. 256 * n + b) 0 (x ∷ xs) low ∙ shifted (uint_of (x ∷ xs)) low (omega (arith, is))

pub token_short : (bytes : List ℕ) → length bytes ≤ 8 → token_number bytes ≡ uint_of bytes
token_short bytes short = grind (arith, nat_tests)

-- ---- the frames of responses

-- The frame of a response has its message.
pub received_response : (h : Received) (read : Result Message FormatFault) (m : Message)
    → Some (Response m) ≡ received_event h read → read ≡ Ok m
received_response h read m is = grind arith

-- So does that of a notification.
pub received_notification : (h : Received) (read : Result Message FormatFault) (m : Message)
    → Some (Notification m) ≡ received_event h read → read ≡ Ok m
received_notification h read m is = grind arith
