-- RFC 8323 section 5.3 and RFC 8974 section 2.2.1: the largest message and the longest token that the peer accepts, as
-- its CSMs announce them.
use Rattle.std.specs.Prelude.{ℕ, Bool, false, ◌&&◌, ◌||◌, List, [], ◌∷◌, length, Option, Some, None, option_map, nat_le}
use Rattle.std.specs.Prelude.{nat_lt, ◌==◌, if◌then◌else◌, find, min}
use Rattle.std.specs.List.{list_any, filter_map}
use Rattle.coap_wire.specs.Message.{CoapOption, Message}
use Rattle.coap_wire.specs.Recognition.{is_critical}
use Rattle.coap_wire.specs.Uint.{uint_of}
use Rattle.coap_wire.specs.Codes as code
use Rattle.coap_conn.specs.SignalOptions as option
use Rattle.coap_wire.specs.declared.sizes.TheConstants.{BASE_MESSAGE_SIZE, MAX_EXTENDED_LENGTH}

-- True if a Signalling Message has a critical option: as in any message, one with an odd number (RFC 8323 section 5.2).
abbrev pub has_critical_option : Message → Bool
has_critical_option m = list_any is_critical m.options

-- True if an option of a CSM is Max-Message-Size (RFC 8323 section 5.3.1).
abbrev pub is_size : CoapOption → Bool
is_size o = o.number == option.max_message_size

-- The first Max-Message-Size of a message, if there is one.
abbrev pub first_size : Message → Option CoapOption
first_size m = find is_size m.options

-- True if a Max-Message-Size is present and has more than the 4 bytes allowed.
abbrev pub is_long : Option CoapOption → Bool
is_long None = false
is_long (Some o) = nat_lt 4 (length o.value)

-- True if a CSM must not have the option: the option is critical, or it is a Max-Message-Size and `long` is true.
-- `long` is true if the first Max-Message-Size is longer than 4 bytes.
abbrev pub is_bad : Bool → CoapOption → Bool
is_bad long o = is_critical o || (is_size o && long)

-- The number of the first option that a CSM must not have, if there is one.
abbrev pub bad_csm_option : Message → Option ℕ
bad_csm_option m = option_map (λ o. o.number) (find (is_bad (is_long (first_size m))) m.options)

-- The size in bytes that a CSM announces: the value of its first Max-Message-Size. None is announced if the first
-- argument is the number of an option that stops the connection.
abbrev pub size_unless : Option ℕ → Message → Option ℕ
size_unless (Some bad) m = None
size_unless None m = option_map (λ o. uint_of o.value) (first_size m)

-- The size in bytes that a CSM announces, if it announces one and does not stop the connection.
abbrev pub csm_size : Message → Option ℕ
csm_size m = size_unless (bad_csm_option m) m

-- The size in bytes that a message announces, if any. Only a CSM announces one.
abbrev pub announcement : Message → Option ℕ
announcement m = if m.code == code.csm then csm_size m else None

-- The last number of a list, or the first argument if the list is empty.
abbrev pub last_or : ℕ → List ℕ → ℕ
last_or n [] = n
last_or n (x ∷ xs) = last_or x xs

-- The last of the numbers that `reports` gives for these messages, or `base` if it gives none.
abbrev pub last_reported : (Message → Option ℕ) → ℕ → List Message → ℕ
last_reported reports base ms = last_or base (filter_map reports ms)

-- The Max-Message-Size of the peer after these messages: the last one announced, or `BASE_MESSAGE_SIZE` if there is
-- none.
unfoldable pub announced : List Message → ℕ
announced ms = last_reported announcement BASE_MESSAGE_SIZE ms

-- ---- tokens (RFC 8974 section 2.2.1)

-- True if an option of a CSM is Extended-Token-Length.
abbrev pub is_token_length : CoapOption → Bool
is_token_length o = o.number == option.extended_token_length

-- The first Extended-Token-Length of a message, if there is one.
abbrev pub first_token_length : Message → Option CoapOption
first_token_length m = find is_token_length m.options

-- The length of the longest token that a peer accepts if it has announced none.
abbrev pub base_token : ℕ
base_token = 8

-- The length that a value of Extended-Token-Length announces, at most `MAX_EXTENDED_LENGTH`. A value of more than 3
-- bytes or below `base_token` announces none.
abbrev pub token_length : List ℕ → Option ℕ
token_length value =
    if nat_le (length value) 3 && nat_le base_token (uint_of value)
    then Some (min (uint_of value) MAX_EXTENDED_LENGTH) else None

-- The length that an Extended-Token-Length announces, if the option is present and its value announces one.
abbrev pub token_length_in : Option CoapOption → Option ℕ
token_length_in None = None
token_length_in (Some o) = token_length o.value

-- The length that a CSM announces by its first Extended-Token-Length. None is announced if the first argument is the
-- number of an option that stops the connection.
abbrev pub token_unless : Option ℕ → Message → Option ℕ
token_unless (Some bad) m = None
token_unless None m = token_length_in (first_token_length m)

-- The token length that a CSM announces, if it announces one and does not stop the connection.
abbrev pub csm_token : Message → Option ℕ
csm_token m = token_unless (bad_csm_option m) m

-- The token length that a message announces, if any. Only a CSM announces one.
abbrev pub token_announcement : Message → Option ℕ
token_announcement m = if m.code == code.csm then csm_token m else None

-- The length of the longest token that the peer accepts after these messages: the last one announced, or `base_token`
-- if there is none.
unfoldable pub announced_token : List Message → ℕ
announced_token ms = last_reported token_announcement base_token ms

-- The size of the largest message that may be sent: the smaller of the local limit and the peer's Max-Message-Size.
abbrev pub size_limit : ℕ → ℕ → ℕ
size_limit max_sent peer_max = min max_sent peer_max
