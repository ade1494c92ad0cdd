-- RFC 7252 sections 5.4, 5.10: the recognised options of a message.
use Rattle.std.specs.Prelude.{◌≡◌, ◌≢◌, ℕ, ◌%◌, ◌≤◌, List, [], ◌∷◌, ◌++◌, length, map, filter, find, Option, Some, None}
use Rattle.std.specs.Prelude.{option_map, Bool, true, false, not, ◌&&◌, ◌||◌, ◌==◌, nat_le, All}
use Rattle.std.specs.List.{list_all}
use Rattle.coap_wire.specs.Message.{CoapOption}
use Rattle.coap_wire.specs.OptionNumbers as numbers
use Rattle.coap_wire.specs.declared.option_table.OptionKind.{OptionKind}

-- ---- the table

-- The properties of an option that is not repeatable, with a value of `least` to `greatest` bytes.
abbrev pub once : ℕ → ℕ → OptionKind
once least greatest = record { min = least; max = greatest; repeatable = false }

-- The properties of a repeatable option, with a value of `least` to `greatest` bytes.
abbrev pub repeated : ℕ → ℕ → OptionKind
repeated least greatest = record { min = least; max = greatest; repeatable = true }

-- The properties of options by number (RFC 7252 section 5.10; Observe: RFC 7641 section 2).
abbrev pub option_kinds : List (ℕ × OptionKind)
option_kinds =
    (numbers.if_match, repeated 0 8)
    ∷ (numbers.uri_host, once 1 255)
    ∷ (numbers.etag, repeated 1 8)
    ∷ (numbers.if_none_match, once 0 0)
    ∷ (numbers.observe, once 0 3)
    ∷ (numbers.uri_port, once 0 2)
    ∷ (numbers.location_path, repeated 0 255)
    ∷ (numbers.uri_path, repeated 0 255)
    ∷ (numbers.content_format, once 0 2)
    ∷ (numbers.max_age, once 0 4)
    ∷ (numbers.uri_query, repeated 0 255)
    ∷ (numbers.accept, once 0 2)
    ∷ (numbers.location_query, repeated 0 255)
    ∷ (numbers.proxy_uri, once 1 1034)
    ∷ (numbers.proxy_scheme, once 1 255)
    ∷ (numbers.size1, once 0 4)
    ∷ []

-- The properties of the options with this number, or `None` if the table does not have it.
unfoldable pub kind_of : ℕ → Option OptionKind
kind_of number = option_map (λ row. row.1) (find (λ row. row.0 == number) option_kinds)

-- ---- recognised options

-- The option `o` is the first with its number: no option in `before` has it.
abbrev pub IsFirstWithNumber : List CoapOption → CoapOption → Type 0
IsFirstWithNumber before o = All (λ p. p.number ≢ o.number) before

-- The option `o` is recognised, if `before` are the options before it in its message. Its number is in the table, and
-- the length of its value is in the range (RFC 7252 section 5.4.3). If it is not repeatable, it is the first with its
-- number (section 5.4.5).
pub record IsRecognised (before : List CoapOption) (o : CoapOption) : Type 0 where
  pub kind : OptionKind
  pub is_in_table : kind_of o.number ≡ Some kind
  pub at_least : kind.min ≤ length o.value
  pub at_most : length o.value ≤ kind.max
  pub first : kind.repeatable ≡ false → IsFirstWithNumber before o

-- ---- the same as functions

-- The option `o` is the first with its number: no option in `before` has it.
abbrev pub is_first_with_number : List CoapOption → CoapOption → Bool
is_first_with_number before o = list_all (λ p. not (p.number == o.number)) before

-- The option `o` is recognised, if these are its properties. The length of its value is in the range. If it is not
-- repeatable, it is the first with its number. Without properties it is not recognised.
abbrev pub has_kind : List CoapOption → CoapOption → Option OptionKind → Bool
has_kind before o None = false
has_kind before o (Some kind) =
    (nat_le kind.min (length o.value) && nat_le (length o.value) kind.max)
    && (kind.repeatable || is_first_with_number before o)

-- The option `o` is recognised, if `before` are the options before it in its message.
unfoldable pub is_recognised : List CoapOption → CoapOption → Bool
is_recognised before o = has_kind before o (kind_of o.number)

-- ---- the options of a message

-- An option, and whether it is recognised.
pub record CheckedOptionValue : Type 0 where
  pub option : CoapOption
  pub recognised : Bool

-- Each option of `os`, in order, and whether it is recognised, if the options in `earlier` come before them.
unfoldable pub checked_given : List CoapOption → List CoapOption → List CheckedOptionValue
checked_given earlier [] = []
checked_given earlier (o ∷ os) =
    record { option = o; recognised = is_recognised earlier o } ∷ checked_given (earlier ++ o ∷ []) os

-- Each option of a message, in order, and whether it is recognised.
abbrev pub checked_options : List CoapOption → List CheckedOptionValue
checked_options os = checked_given [] os

-- The recognised ones of these options, in order.
unfoldable pub recognised_in : List CheckedOptionValue → List CoapOption
recognised_in cs = map (λ c. c.option) (filter (λ c. c.recognised) cs)

-- The recognised options of a message, in order.
abbrev pub known_options : List CoapOption → List CoapOption
known_options os = recognised_in (checked_options os)

-- An option with an odd number is critical (RFC 7252 sections 5.4.1, 5.4.6).
abbrev pub is_critical : CoapOption → Bool
is_critical o = o.number % 2 == 1

-- The number of the first of these options that is critical and not recognised. `None` if there is none.
unfoldable pub first_critical_in : List CheckedOptionValue → Option ℕ
first_critical_in cs =
    option_map (λ c. c.option.number) (find (λ c. is_critical c.option && not c.recognised) cs)

-- The number of the first option of a message that is critical and not recognised. `None` if there is none.
abbrev pub first_critical : List CoapOption → Option ℕ
first_critical os = first_critical_in (checked_options os)

-- ---- one option after the other

-- One option with this number and an empty value, or no option for `None`. To recognise the next option of an ordered
-- list, this is enough.
abbrev pub option_before : Option ℕ → List CoapOption
option_before None = []
option_before (Some n) = record { number = n; value = [] } ∷ []
