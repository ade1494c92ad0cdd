-- RFC 7252 sections 5.10.3, 5.10.4 and 5.10.8: the formats that a request names, and its conditions. Only recognised
-- options count. A resource of a directory has no ETag.
use Rattle.std.specs.Prelude.{ℕ, Bool, not, ◌&&◌, ◌||◌, List, length, nat_le, ◌==◌}
use Rattle.std.specs.List.{list_all, list_any}
use Rattle.coap_wire.specs.Message.{CoapOption}
use Rattle.coap_wire.specs.OptionNumbers as numbers
use Rattle.coap_wire.specs.Recognition.{known_options}
use Rattle.coap_wire.specs.Uint.{uint_of}

-- The bytes are the number of `application/link-format` (RFC 7252 section 12.3). They are at most two, and can have
-- leading zeros (RFC 7252 section 3.2).
abbrev pub means_link_format : List ℕ → Bool
means_link_format value = nat_le (length value) 2 && uint_of value == 40

-- The option does not have this number, or its value is that of `application/link-format`.
abbrev pub names_link_format : ℕ → CoapOption → Bool
names_link_format number o = not (o.number == number) || means_link_format o.value

-- The payload is in link format by its Content-Format, or has none.
abbrev pub has_link_format : List CoapOption → Bool
has_link_format os = list_all (names_link_format numbers.content_format) (known_options os)

-- Accept names link format, or is absent.
abbrev pub accepts_link_format : List CoapOption → Bool
accepts_link_format os = list_all (names_link_format numbers.accept) (known_options os)

-- If-Match is absent, or it holds: the resource exists, and a value is empty (RFC 7252 section 5.10.8.1).
abbrev pub match_holds : Bool → List CoapOption → Bool
match_holds exists os =
    not (list_any (λ o. o.number == numbers.if_match) (known_options os))
    || (exists && list_any (λ o. o.number == numbers.if_match && length o.value == 0) (known_options os))

-- If-None-Match is absent, or the resource does not exist (RFC 7252 section 5.10.8.2).
abbrev pub none_match_holds : Bool → List CoapOption → Bool
none_match_holds exists os = not (exists && list_any (λ o. o.number == numbers.if_none_match) (known_options os))

-- The conditions of a request hold.
unfoldable pub conditions_hold : Bool → List CoapOption → Bool
conditions_hold exists os = match_holds exists os && none_match_holds exists os
