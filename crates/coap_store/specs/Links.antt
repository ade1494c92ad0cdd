-- RFC 6690: the links of `/.well-known/core`.
use Rattle.std.specs.Prelude.{ℕ, ◌+◌, ◌/◌, ◌%◌, Bool, ◌&&◌, ◌||◌, List, [], ◌∷◌, ◌++◌, Option, Some, None, nat_le}
use Rattle.std.specs.Prelude.{nat_lt, ◌==◌, codes, if◌then◌else◌}
use Rattle.std.specs.List.{flat_map}
use Rattle.std.specs.Fmt.{decimal}
use Rattle.coap_path.specs.Paths.{Path}
use Rattle.coap_path.specs.Applications.{ApplicationEntryValue, ApplicationsValue}

-- Characters of ASCII.
abbrev pub percent : ℕ
percent = 37

abbrev pub hyphen : ℕ
hyphen = 45

abbrev pub dot : ℕ
dot = 46

abbrev pub slash : ℕ
slash = 47

abbrev pub low_line : ℕ
low_line = 95

abbrev pub tilde : ℕ
tilde = 126

abbrev pub is_between : ℕ → ℕ → ℕ → Bool
is_between low b high = nat_le low b && nat_le b high

abbrev pub is_letter : ℕ → Bool
is_letter b = is_between 65 b 90 || is_between 97 b 122

abbrev pub is_digit : ℕ → Bool
is_digit b = is_between 48 b 57

abbrev pub is_mark : ℕ → Bool
is_mark b = b == hyphen || b == dot || b == low_line || b == tilde

-- The byte is not escaped (RFC 3986 section 2.3).
abbrev pub is_unreserved : ℕ → Bool
is_unreserved b = is_letter b || is_digit b || is_mark b

-- An upper-case hexadecimal digit.
abbrev pub hex_digit : ℕ → ℕ
hex_digit n = if nat_lt n 10 then 48 + n else 55 + n

-- A byte, which is percent-encoded if it must be escaped (RFC 3986 section 2.1).
unfoldable pub encoded_byte : ℕ → List ℕ
encoded_byte b = if is_unreserved b then b ∷ [] else percent ∷ hex_digit (b / 16) ∷ hex_digit (b % 16) ∷ []

-- A slash and the encoded bytes of each segment.
unfoldable pub path_bytes : Path → List ℕ
path_bytes p = flat_map (λ s. slash ∷ flat_map encoded_byte s) p

-- The attribute with the Content-Format, if any (RFC 7252 section 7.2.1).
abbrev pub format_bytes : Option ℕ → List ℕ
format_bytes None = []
format_bytes (Some format) = codes ";ct=" ++ decimal format

-- The text of a created resource in the listing after its path.
abbrev pub end_bytes : Option ℕ → List ℕ
end_bytes format = format_bytes format ++ codes ";obs"

-- The text of a created resource in the listing. Each is observable (RFC 7641 section 6).
unfoldable pub entry_bytes : Path → Option ℕ → List ℕ
entry_bytes path format = codes ",<" ++ (path_bytes path ++ (codes ">" ++ (format_bytes format ++ codes ";obs")))

-- The text of the built-in resources in the listing.
abbrev pub built_in_bytes : List ℕ
built_in_bytes = codes "</>;ct=0,</time>;ct=0;obs,</async>;ct=0"

-- The attributes of a link after its target, if there are any (RFC 6690 section 2).
abbrev pub attribute_bytes : List ℕ → List ℕ
attribute_bytes [] = []
attribute_bytes (b ∷ bs) = codes ";" ++ b ∷ bs

-- The text of an entry of the application in the listing: a link to the prefix, with the attributes of the entry.
unfoldable pub link_bytes : ApplicationEntryValue → List ℕ
link_bytes e = codes ",<" ++ (path_bytes e.prefix ++ (codes ">" ++ attribute_bytes e.attributes))

-- The text of the application in the listing: that of each entry, in their order.
abbrev pub application_bytes : Option ApplicationsValue → List ℕ
application_bytes None = []
application_bytes (Some a) = flat_map link_bytes a.entries

-- The text of the built-in resources and the application, with which the listing begins.
unfoldable pub first_bytes : Option ApplicationsValue → List ℕ
first_bytes applications = built_in_bytes ++ application_bytes applications
