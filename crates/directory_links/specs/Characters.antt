-- The characters of a text in link format.
use Rattle.std.specs.Prelude.{ℕ, Bool, not, ◌&&◌, ◌||◌, List, nat_le, ◌==◌, codes}
use Rattle.std.specs.List.{list_any}
use Rattle.std.specs.Str.{str_eq_ignore_ascii_case}

-- The byte is a digit or a letter.
abbrev pub is_alphanumeric : ℕ → Bool
is_alphanumeric b = (nat_le 48 b && nat_le b 57) || ((nat_le 65 b && nat_le b 90) || (nat_le 97 b && nat_le b 122))

-- RFC 5987 section 3.2.1: `attr-char`, of which a `parmname` has one or more.
unfoldable pub is_name_char : ℕ → Bool
is_name_char b = is_alphanumeric b || list_any (λ c. c == b) (codes "!#$&+-.^_`|~")

-- RFC 6690 section 2: `ptokenchar`.
unfoldable pub is_token_char : ℕ → Bool
is_token_char b = is_alphanumeric b || list_any (λ c. c == b) (codes "!#$%&'()*+-./:<=>?@[]^_`{|}~")

-- RFC 3986 section 2: a character of a URI: `unreserved`, `gen-delims`, `sub-delims`, or the `%` of `pct-encoded`.
unfoldable pub is_target_char : ℕ → Bool
is_target_char b = is_alphanumeric b || list_any (λ c. c == b) (codes "-._~:/?#[]@!$&'()*+,;=%")

-- RFC 2616 section 2.2: the byte is no control character.
abbrev pub is_quoted_char : ℕ → Bool
is_quoted_char b = nat_le 32 b && not (b == 127)

-- RFC 8288 section 3: the names of attributes are the same if they differ in the case of letters alone.
abbrev pub is_same_name : List ℕ → List ℕ → Bool
is_same_name a b = str_eq_ignore_ascii_case a b
