-- Defined by this project: the values that contracts see for the types of this crate, and the errors of a builder.
use Rattle.std.specs.Prelude.{◌≡◌, ℕ, ◌≤◌, List, [], ◌∷◌, ◌++◌, length, map, Option, Some, None, Result, Ok, Err}
use Rattle.std.specs.Prelude.{nat_lt, if◌then◌else◌}
use Rattle.std.specs.List.{AllByRecursion}
use Rattle.std.specs.Borrow.{Bor}
use Rattle.coap_wire.specs.Message.{CoapOption, Message, AreOrdered, last_number}
use Rattle.coap_wire.specs.Forms.{greatest_token}
use Rattle.coap_wire.specs.Spelling.{HasOptionForm}
use Rattle.coap_wire.specs.Reading.{options_read}
use Rattle.coap_wire.specs.Recognition.{CheckedOptionValue}
use Rattle.coap_wire.specs.declared.fault.FormatFault.{FormatFault}
use Rattle.coap_wire.specs.declared.fault.BuildFault.{BuildFault}
use Rattle.coap_wire.specs.declared.fault.BuildFault.TheVariants.{Order, TooLong, Full}
use Rattle.coap_wire.specs.declared.option.OptionRef.{OptionRef}
use Rattle.coap_wire.specs.declared.recognition.CheckedOption.{CheckedOption}
use Rattle.coap_wire.specs.declared.sizes.TheConstants.{MAX_EXTENDED_LENGTH, LARGEST_MESSAGE}

-- The option that contracts see for a borrowed one.
abbrev pub coap_option : OptionRef → CoapOption
coap_option o = record { number = o.number; value = o.value.now }

-- The same for an option that was checked.
abbrev pub checked_option : CheckedOption → CheckedOptionValue
checked_option o = record { option = coap_option o.option; recognised = o.is_recognised }

-- The same for a list of options.
abbrev pub coap_options : List OptionRef → List CoapOption
coap_options os = map coap_option os

-- A call returns the value or the error of `read`, if `view` gives what contracts see for the value.
abbrev pub Gives : {X Y : Type 0} → (X → Y) → Result X FormatFault → Result Y FormatFault → Type 0
Gives view (Ok x) read = read ≡ Ok (view x)
Gives view (Err e) read = read ≡ Err e

-- A call returns the payload or the error of `read`, which is a result of `body_at`.
abbrev pub GivesPayload : Result (Bor (List ℕ)) FormatFault → Result (List CoapOption × List ℕ) FormatFault → Type 0
GivesPayload (Ok payload) read = read ≡ Ok (options_read read, payload.now)
GivesPayload (Err e) read = read ≡ Err e

-- The maximum number of options of a `MessageBuilder`.
abbrev pub most_options : ℕ
most_options = 40

-- A builder can contain the message `m`.
pub record CanBeBuilt (m : Message) : Type 0 where
  pub token : length m.token ≤ greatest_token
  pub ordered : AreOrdered 0 m.options
  pub each : AllByRecursion HasOptionForm m.options
  pub few : length m.options ≤ most_options
  pub payload : length m.payload ≤ LARGEST_MESSAGE

-- The error of a builder with space for `room` options, if an option is added to the message `m`. `None` if the option
-- can be added.
abbrev pub option_refusal : ℕ → Message → ℕ → List ℕ → Option BuildFault
option_refusal room m number value =
    if nat_lt number (last_number 0 m.options) then Some Order
    else (if nat_lt MAX_EXTENDED_LENGTH (length value) then Some TooLong
    else (if nat_lt (length m.options) room
    then (if nat_lt (length m.options) most_options then None else Some Full) else Some Full))

-- The error of a builder if this payload is set. `None` if it can be set.
abbrev pub payload_refusal : List ℕ → Option BuildFault
payload_refusal payload = if nat_lt LARGEST_MESSAGE (length payload) then Some TooLong else None

-- The message `m` with one more option at the end.
abbrev pub with_option : Message → ℕ → List ℕ → Message
with_option m number value = record m { options = m.options ++ record { number = number; value = value } ∷ [] }
