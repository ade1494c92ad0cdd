-- The options of a response, in the order in which they are added.
use Rattle.std.proofs.Common.{◌≡◌, ℕ, List}
use Rattle.coap_server_session.specs.Prelude.{Message, last_number, with_option}
use Rattle.coap_wire.proofs.OptionLists.{last_number-push}

-- After an option was added, the last number of the list is its number.
pub last_added : (m new : Message) (number : ℕ) (value : List ℕ) → new ≡ with_option m number value
    → last_number 0 new.options ≡ number
last_added m new number value is =
    rw is (last_number-push 0 m.options (record { number = number; value = value }))
