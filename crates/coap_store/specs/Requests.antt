-- RFC 7252 sections 5.8 and 5.10, RFC 7641 section 2: the meaning of the recognised options of a request.
use Rattle.std.specs.Prelude.{ℕ, ◌+◌, ◌*◌, ◌-◌, Bool, true, false, not, ◌&&◌, ◌||◌, List, [], ◌∷◌, length, map, filter}
use Rattle.std.specs.Prelude.{fold, Option, Some, None, option_map, nat_le, ◌==◌}
use Rattle.std.specs.List.{list_any, list_all}
use Rattle.coap_wire.specs.Message.{Message}
use Rattle.coap_wire.specs.Uint.{uint_of, bytes_of_uint}
use Rattle.coap_wire.specs.Codes as code
use Rattle.coap_wire.specs.OptionNumbers as numbers
use Rattle.coap_wire.specs.Recognition.{known_options}
use Rattle.coap_path.specs.Paths.{Path, same_bytes}
use Rattle.coap_store.specs.Store.{Representation}

-- The values of the recognised options with this number, in order.
unfoldable pub values_of : ℕ → Message → List (List ℕ)
values_of number m = map (λ o. o.value) (filter (λ o. o.number == number) (known_options m.options))

-- There is a value.
abbrev pub is_given : List (List ℕ) → Bool
is_given [] = false
is_given (v ∷ vs) = true

-- The request has a recognised option with this number.
unfoldable pub has_option : ℕ → Message → Bool
has_option number m = is_given (values_of number m)

-- The first value, if any.
abbrev pub first_or_none : List (List ℕ) → Option (List ℕ)
first_or_none [] = None
first_or_none (v ∷ vs) = Some v

-- The value of the first recognised option with this number, if any.
unfoldable pub value_of : ℕ → Message → Option (List ℕ)
value_of number m = first_or_none (values_of number m)

-- The same as a number, for Observe, Content-Format and Accept.
unfoldable pub number_of : ℕ → Message → Option ℕ
number_of number m = option_map uint_of (value_of number m)

-- The path of a request. Each Uri-Path option is a segment.
abbrev pub path_of : Message → Path
path_of m = values_of numbers.uri_path m

abbrev pub is_get : Message → Bool
is_get m = m.code == code.get

abbrev pub is_post : Message → Bool
is_post m = m.code == code.post

abbrev pub is_put : Message → Bool
is_put m = m.code == code.put

abbrev pub is_delete : Message → Bool
is_delete m = m.code == code.delete

abbrev pub is_method : Message → Bool
is_method m = is_get m || is_post m || is_put m || is_delete m

-- ---- preconditions

-- The ETag of a stored representation: its version.
abbrev pub etag_of : Representation → List ℕ
etag_of r = bytes_of_uint r.version

-- A value of If-Match holds for a representation: the value is empty, or the ETag of the representation.
abbrev pub matches : Representation → List ℕ → Bool
matches r value = length value == 0 || same_bytes value (etag_of r)

-- The resource exists, and one of the values of If-Match holds for it.
abbrev pub any_matches : Option Representation → List (List ℕ) → Bool
any_matches None values = false
any_matches (Some r) values = list_any (matches r) values

-- The request has no If-Match, or one of its values holds (RFC 7252 section 5.10.8.1).
unfoldable pub match_holds : Option Representation → Message → Bool
match_holds state m = not (has_option numbers.if_match m) || any_matches state (values_of numbers.if_match m)

-- The resource exists.
abbrev pub is_present : Option Representation → Bool
is_present None = false
is_present (Some r) = true

-- The request has no If-None-Match, or the resource does not exist (RFC 7252 section 5.10.8.2).
abbrev pub none_match_holds : Option Representation → Message → Bool
none_match_holds state m = not (has_option numbers.if_none_match m && is_present state)

abbrev pub preconditions_hold : Option Representation → Message → Bool
preconditions_hold state m = match_holds state m && none_match_holds state m

-- ---- the query of `/async`

-- The byte is a decimal digit.
abbrev pub is_digit : ℕ → Bool
is_digit b = nat_le 48 b && nat_le b 57

-- The number with these decimal digits.
abbrev pub digits_mean : List ℕ → ℕ
digits_mean bytes = fold (λ n b. 10 * n + (b - 48)) 0 bytes

-- The bytes are 1 to 4 decimal digits of a number up to 3,600.
unfoldable pub is_seconds : List ℕ → Bool
is_seconds bytes =
    nat_le 1 (length bytes) && nat_le (length bytes) 4 && list_all is_digit bytes && nat_le (digits_mean bytes) 3600

-- There is no query, or it is a number of seconds.
abbrev pub is_good_query : Option (List ℕ) → Bool
is_good_query None = true
is_good_query (Some bytes) = is_seconds bytes

-- The delay of the response in seconds, which is 5 without a query.
abbrev pub seconds_of : Option (List ℕ) → ℕ
seconds_of None = 5
seconds_of (Some bytes) = digits_mean bytes
