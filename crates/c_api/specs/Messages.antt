-- Defined by this project: the results of the calls on messages. `r` is the number that the call returns.
use Rattle.std.specs.Prelude.{◌≡◌, ℕ, ◌+◌, ◌≤◌, List, [], ◌∷◌, ◌++◌, length, take, drop, Option, Some, None, Result, Ok}
use Rattle.std.specs.Prelude.{Err, nat_lt, ◌==◌, if◌then◌else◌}
use denote.Ref.{Bor}
use Rattle.c_handle.specs.Spans.{span_at}
use Rattle.c_handle.specs.declared.span.Span.{Span}
use Rattle.coap_wire.specs.Message.{CoapOption, Message}
use Rattle.coap_wire.specs.Forms.{greatest_token}
use Rattle.coap_wire.specs.Reading.{option_at, body_at, options_in}
use Rattle.coap_wire.specs.Spelling.{option_spelling, options_spelling, body_spelling, spelling}
use Rattle.coap_wire.specs.declared.sizes.TheConstants.{MAX_EXTENDED_LENGTH, LARGEST_MESSAGE}
use Rattle.coap_wire.specs.declared.fault.FormatFault.{FormatFault}
use Rattle.coap_wire.specs.declared.fault.FormatFault.TheVariants as format
use Rattle.coap_server_engine.specs.values.ChangedRequests.{request_key}
use Rattle.c_api.specs.Numbers.{format_code}
use Rattle.c_api.specs.PathTexts.{IsPathWritten}
use Rattle.c_api.specs.declared.messages.MessageSpans.{MessageSpans}

-- The span is a place in the slice, also if it has no bytes, and has these bytes there.
abbrev pub IsPart : Bor (List ℕ) → Span → List ℕ → Type 0
IsPart whole s part = (at : ℕ) × ((at + length part ≤ length whole.now)
    × ((s ≡ span_at whole at (length part)) × (take (length part) (drop at whole.now) ≡ part)))

-- ---- read a message

-- The parts of a message, as places in its frame.
abbrev pub ShowsMessage : Bor (List ℕ) → MessageSpans → Message → Type 0
ShowsMessage frame s m = (s.code ≡ m.code) × (IsPart frame s.token m.token
    × (IsPart frame s.options (options_spelling 0 m.options) × IsPart frame s.payload m.payload))

abbrev pub GivesMessage : Bor (List ℕ) → Result MessageSpans FormatFault → Result Message FormatFault → Type 0
GivesMessage frame (Ok s) (Ok m) = ShowsMessage frame s m
GivesMessage frame (Ok s) (Err e) = ⊥
GivesMessage frame (Err f) (Ok m) = ⊥
GivesMessage frame (Err f) (Err e) = f ≡ e

abbrev pub IsRead : Bor (List ℕ) → (s s' : MessageSpans) → Result Message FormatFault → ℕ → Type 0
IsRead frame s s' (Ok m) r = (r ≡ 0) × ShowsMessage frame s' m
IsRead frame s s' (Err e) r = (r ≡ format_code e) × (s' ≡ s)

-- ---- the path of a request

-- The path of the message that a frame encodes, or the number of the first error of the frame.
abbrev pub IsPathOf : Result Message FormatFault → (buffer buffer' : List ℕ) → (count count' : ℕ) → ℕ → Type 0
IsPathOf (Ok m) buffer buffer' count count' r = IsPathWritten (request_key m) buffer buffer' count count' r
IsPathOf (Err e) buffer buffer' count count' r = (r ≡ format_code e) × ((buffer' ≡ buffer) × (count' ≡ count))

-- ---- read an option

-- The first one of encoded options, and the bytes after it: `None` at the end or at a payload marker. The delta of the
-- option counts from `base`.
abbrev pub first_option : ℕ → List ℕ → Option (Result (CoapOption × List ℕ) FormatFault)
first_option base [] = None
first_option base (b ∷ s) =
    if b == 255 then None else Some (if nat_lt 65535 base then Err format.OptionNumber else option_at base b s)

-- The place of an iteration over options.
pub record OptionPlace : Type 0 where
  pub at : ℕ
  pub number : ℕ
  pub value : Span

-- The option `o` was read, and the bytes `rest` follow it.
pub record IsAfter (options : Bor (List ℕ)) (o : CoapOption) (rest : List ℕ) (p : OptionPlace) : Type 0 where
  pub at_is : p.at + length rest ≡ length options.now
  pub number_is : p.number ≡ o.number
  pub value_is : IsPart options p.value o.value

abbrev pub IsNext : Bor (List ℕ) → (p p' : OptionPlace) → Option (Result (CoapOption × List ℕ) FormatFault) → ℕ → Type 0
IsNext options p p' None r = (r ≡ 10) × (p' ≡ p)
IsNext options p p' (Some (Err e)) r = (r ≡ 128) × (p' ≡ p)
IsNext options p p' (Some (Ok x)) r = (r ≡ 0) × IsAfter options x.0 x.1 p'

-- ---- write an option

-- A buffer whose first `count` bytes are encoded options, the last one with the number `last`.
pub record OptionBuffer : Type 0 where
  pub bytes : List ℕ
  pub count : ℕ
  pub last : ℕ

-- The encoding of an option after one with the number `last`.
abbrev pub option_bytes : (last number : ℕ) → List ℕ → List ℕ
option_bytes last number value = option_spelling last (record { number = number; value = value })

-- The number of the first error.
abbrev pub append_refusal : (room count last number : ℕ) → List ℕ → Option ℕ
append_refusal room count last number value =
    if nat_lt 65535 number then Some 131
    else (if nat_lt number last then Some 129
    else (if nat_lt MAX_EXTENDED_LENGTH (length value) then Some 130
    else (if nat_lt room (count + length (option_bytes last number value)) then Some 7 else None)))

abbrev pub IsAppended : Option ℕ → List ℕ → ℕ → (b b' : OptionBuffer) → ℕ → Type 0
IsAppended (Some refusal) value number b b' r = (r ≡ refusal) × (b' ≡ b)
IsAppended None value number b b' r =
    (r ≡ 0) × ((b'.count ≡ b.count + length (option_bytes b.last number value)) × ((b'.last ≡ number)
    × (b'.bytes ≡ take b.count b.bytes ++ (option_bytes b.last number value ++ drop b'.count b.bytes))))

-- ---- write a message

-- The options in a result of `body_at`, if no payload follows them.
abbrev pub only_options : List CoapOption → List ℕ → Option (List CoapOption)
only_options os [] = Some os
only_options os (b ∷ bs) = None

abbrev pub options_alone : Result (List CoapOption × List ℕ) FormatFault → Option (List CoapOption)
options_alone (Ok x) = only_options x.0 x.1
options_alone (Err e) = None

-- The options that the bytes encode, if they encode options and nothing else.
abbrev pub coded_options : List ℕ → Option (List CoapOption)
coded_options bytes = options_alone (body_at 0 bytes)

-- The message with these encoded options.
abbrev pub message_with : ℕ → List ℕ → List ℕ → List ℕ → Message
message_with code token options payload =
    record { code = code; token = token; options = options_in 0 options; payload = payload }

abbrev pub write_refusal_for : Option (List CoapOption) → Message → ℕ → Option ℕ
write_refusal_for None m room = Some 134
write_refusal_for (Some os) m room =
    if nat_lt LARGEST_MESSAGE (length (body_spelling m)) then Some 135
    else (if nat_lt room (length (spelling m)) then Some 7 else None)

-- The number of the first error, for a buffer of `room` bytes.
abbrev pub write_refusal : Message → Option (List CoapOption) → ℕ → Option ℕ
write_refusal m coded room =
    if nat_lt 255 m.code then Some 132
    else (if nat_lt greatest_token (length m.token) then Some 133 else write_refusal_for coded m room)

-- The buffer begins with the encoding, and its other bytes are the same.
abbrev pub IsWritten : Option ℕ → Message → (buffer buffer' : List ℕ) → (count count' : ℕ) → ℕ → Type 0
IsWritten (Some refusal) m buffer buffer' count count' r = (r ≡ refusal) × ((buffer' ≡ buffer) × (count' ≡ count))
IsWritten None m buffer buffer' count count' r =
    (r ≡ 0) × ((count' ≡ length (spelling m)) × (buffer' ≡ spelling m ++ drop count' buffer))
