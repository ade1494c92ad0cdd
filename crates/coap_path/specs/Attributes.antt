-- RFC 6690 section 2: the attributes of a link, `link-param *( ";" link-param )`, where each `link-param` has the form
-- of a `link-extension`. The forms of single parameters, such as the number of `sz`, are not checked.
--     link-extension = ( parmname [ "=" ( ptoken / quoted-string ) ] ) / ( ext-name-star "=" ext-value )
--     ext-name-star  = parmname "*"
--     ptoken         = 1*ptokenchar
-- RFC 5987 section 3.2.1 has `parmname` and `ext-value`. Each character of the latter is a `ptokenchar`, and no more is
-- checked. RFC 2616 section 2.2 has `quoted-string`.
use Rattle.std.specs.Prelude.{ℕ, Bool, true, false, not, ◌&&◌, ◌||◌, List, [], ◌∷◌, length, nat_le, ◌==◌, codes}
use Rattle.std.specs.Prelude.{if◌then◌else◌}
use Rattle.std.specs.List.{list_any}
use Rattle.coap_path.specs.declared.attributes.AttributeScan.{AttributeScan}
use Rattle.coap_path.specs.declared.attributes.AttributeScan.TheVariants.{Start, AtName, InName, AfterStar, AtExtended}
use Rattle.coap_path.specs.declared.attributes.AttributeScan.TheVariants.{AtValue, InToken, InQuotes, Escaped}
use Rattle.coap_path.specs.declared.attributes.AttributeScan.TheVariants.{AfterQuotes, Rejected}

-- The byte is a digit or a letter.
abbrev pub is_alphanumeric : ℕ → Bool
is_alphanumeric b = (nat_le 48 b && nat_le b 57) || ((nat_le 65 b && nat_le b 90) || (nat_le 97 b && nat_le b 122))

-- RFC 5987 section 3.2.1: `attr-char`, of which a `parmname` has one or more.
unfoldable pub is_name_char : ℕ → Bool
is_name_char b = is_alphanumeric b || list_any (λ c. c == b) (codes "!#$&+-.^_`|~")

-- RFC 6690 section 2: `ptokenchar`.
unfoldable pub is_token_char : ℕ → Bool
is_token_char b = is_alphanumeric b || list_any (λ c. c == b) (codes "!#$%&'()*+-./:<=>?@[]^_`{|}~")

-- RFC 2616 section 2.2: the byte is no control character.
abbrev pub is_quoted_char : ℕ → Bool
is_quoted_char b = nat_le 32 b && not (b == 127)

-- The state after a byte, by the state before.
abbrev pub after_name_start : ℕ → AttributeScan
after_name_start b = if is_name_char b then InName else Rejected

abbrev pub after_name : ℕ → AttributeScan
after_name b =
    if is_name_char b then InName
    else (if b == 42 then AfterStar
    else (if b == 61 then AtValue
    else (if b == 59 then AtName
    else Rejected)))

abbrev pub after_token : ℕ → AttributeScan
after_token b = if is_token_char b then InToken else (if b == 59 then AtName else Rejected)

abbrev pub after_value_start : ℕ → AttributeScan
after_value_start b = if b == 34 then InQuotes else (if is_token_char b then InToken else Rejected)

abbrev pub after_quoted : ℕ → AttributeScan
after_quoted b =
    if b == 34 then AfterQuotes
    else (if b == 92 then Escaped
    else (if is_quoted_char b then InQuotes
    else Rejected))

abbrev pub scan_with : AttributeScan → ℕ → AttributeScan
scan_with Start b = after_name_start b
scan_with AtName b = after_name_start b
scan_with InName b = after_name b
scan_with AfterStar b = if b == 61 then AtExtended else Rejected
scan_with AtExtended b = if is_token_char b then InToken else Rejected
scan_with AtValue b = after_value_start b
scan_with InToken b = after_token b
scan_with InQuotes b = after_quoted b
scan_with Escaped b = if is_quoted_char b then InQuotes else Rejected
scan_with AfterQuotes b = if b == 59 then AtName else Rejected
scan_with Rejected b = Rejected

-- The state after these bytes, one after the other.
abbrev pub scan_after : AttributeScan → List ℕ → AttributeScan
scan_after scan [] = scan
scan_after scan (b ∷ bs) = scan_after (scan_with scan b) bs

-- The attributes may end in this state.
abbrev pub may_end : AttributeScan → Bool
may_end Start = true
may_end AtName = false
may_end InName = true
may_end AfterStar = false
may_end AtExtended = false
may_end AtValue = false
may_end InToken = true
may_end InQuotes = false
may_end Escaped = false
may_end AfterQuotes = true
may_end Rejected = false

-- A link can have these attributes, perhaps none. Defined by this project: at most 255 bytes.
unfoldable pub are_attributes : List ℕ → Bool
are_attributes bytes = nat_le (length bytes) 255 && may_end (scan_after Start bytes)
