-- Reading of a text in link format, from left to right. An error is the number of bytes that are left where the text
-- stops to be one.
use Rattle.std.specs.Prelude.{ℕ, zero, suc, ◌+◌, ◌-◌, Bool, false, List, [], ◌∷◌, length, take, drop, Option, Some}
use Rattle.std.specs.Prelude.{None, Result, Ok, Err, ◌==◌, if◌then◌else◌}
use Rattle.std.specs.List.{prefix_len}
use Rattle.directory_links.specs.Characters.{is_name_char, is_token_char, is_target_char, is_quoted_char}
use Rattle.directory_links.specs.Links.{AttributeValue, NoValue, ExtendedValue, TokenValue, QuotedValue, Attribute}
use Rattle.directory_links.specs.Links.{Link}

-- The result of `f` for the value on the left, or the error on the left.
infixl 10 ◌>>=◌
abbrev pub ◌>>=◌ : {A B : Type 0} → Result A ℕ → (A → Result B ℕ) → Result B ℕ
(Ok x) >>= f = f x
(Err e) >>= f = Err e

-- One or more bytes that pass the test, as many as there are, and the bytes after them. There are `n` in the text `s`.
abbrev pub run_of : ℕ → List ℕ → Result (List ℕ × List ℕ) ℕ
run_of n s = if n == 0 then Err (length s) else Ok (take n s, drop n s)

-- A name at the front of the text, and the bytes after it.
unfoldable pub name_at : List ℕ → Result (List ℕ × List ℕ) ℕ
name_at s = run_of (prefix_len is_name_char s) s

-- A token at the front of the text, and the bytes after it.
unfoldable pub token_at : List ℕ → Result (List ℕ × List ℕ) ℕ
token_at s = run_of (prefix_len is_token_char s) s

-- `k` more, or the error.
abbrev pub plus : ℕ → Result ℕ ℕ → Result ℕ ℕ
plus k (Ok n) = Ok (k + n)
plus k (Err e) = Err e

-- The number of bytes before the quote that ends a quoted string. The first argument says whether a backslash precedes
-- the bytes.
unfoldable pub quoted_length : Bool → List ℕ → Result ℕ ℕ
quoted_length escaped [] = Err 0
quoted_length escaped (b ∷ s) =
    if is_quoted_char b
    then (if escaped then plus 1 (quoted_length false s) else
    (if b == 34 then Ok 0 else plus 1 (quoted_length (b == 92) s)))
    else Err (length s + 1)

-- The value of a quoted string after its first quote, and the bytes after its last one.
unfoldable pub quoted_at : List ℕ → Result (AttributeValue × List ℕ) ℕ
quoted_at s = do
  n ← quoted_length false s
  Ok (QuotedValue (take n s), drop (n + 1) s)

-- The value after `=`, and the bytes after it.
unfoldable pub given_at : List ℕ → Result (AttributeValue × List ℕ) ℕ
given_at [] = Err 0
given_at (b ∷ s) = if b == 34 then quoted_at s else (token_at (b ∷ s) >>= λ t. Ok (TokenValue t.0, t.1))

-- The value after `*`, and the bytes after it.
unfoldable pub extended_at : List ℕ → Result (AttributeValue × List ℕ) ℕ
extended_at [] = Err 0
extended_at (b ∷ s) = if b == 61 then (token_at s >>= λ t. Ok (ExtendedValue t.0, t.1)) else Err (length s + 1)

-- The value after a name, and the bytes after it.
unfoldable pub value_at : List ℕ → Result (AttributeValue × List ℕ) ℕ
value_at [] = Ok (NoValue, [])
value_at (b ∷ s) = if b == 42 then extended_at s else (if b == 61 then given_at s else Ok (NoValue, b ∷ s))

-- The attribute at the front of the text, and the bytes after it.
unfoldable pub attribute_at : List ℕ → Result (Attribute × List ℕ) ℕ
attribute_at s = do
  name ← name_at s
  value ← value_at name.1
  Ok (record { name = name.0; value = value.0 }, value.1)

-- The attributes at the front of the text, each after `;`, and the bytes after them. The argument `turns` limits the
-- recursion: each attribute has a byte, so the number of bytes is enough.
unfoldable pub attributes_within : ℕ → List ℕ → Result (List Attribute × List ℕ) ℕ
attributes_within turns [] = Ok ([], [])
attributes_within zero (b ∷ s) = Ok ([], b ∷ s)
attributes_within (suc turns) (b ∷ s) =
    if b == 59
    then (attribute_at s >>= λ first. attributes_within turns first.1 >>= λ others. Ok (first.0 ∷ others.0, others.1))
    else Ok ([], b ∷ s)

unfoldable pub attributes_at : List ℕ → Result (List Attribute × List ℕ) ℕ
attributes_at s = attributes_within (length s) s

-- The bytes after the `>` of a target.
unfoldable pub after_target : List ℕ → Result (List ℕ) ℕ
after_target [] = Err 0
after_target (b ∷ s) = if b == 62 then Ok s else Err (length s + 1)

-- The target at the front of the text, between `<` and `>`, and the bytes after it.
unfoldable pub target_at : List ℕ → Result (List ℕ × List ℕ) ℕ
target_at [] = Err 0
target_at (b ∷ s) =
    if b == 60
    then (after_target (drop (prefix_len is_target_char s) s) >>= λ rest.
    Ok (take (prefix_len is_target_char s) s, rest))
    else Err (length s + 1)

-- The link at the front of the text, and the bytes after it.
unfoldable pub link_at : List ℕ → Result (Link × List ℕ) ℕ
link_at s = do
  target ← target_at s
  attributes ← attributes_at target.1
  Ok (record { target = target.0; attributes = attributes.0 }, attributes.1)

-- The text after a link: `None` at the end, or the bytes after `,`.
unfoldable pub next_link_at : List ℕ → Result (Option (List ℕ)) ℕ
next_link_at [] = Ok None
next_link_at (b ∷ s) = if b == 44 then Ok (Some s) else Err (length s + 1)

-- The links that follow, which `read` reads.
abbrev pub links_after : (List ℕ → Result (List Link) ℕ) → Option (List ℕ) → Result (List Link) ℕ
links_after read None = Ok []
links_after read (Some s) = read s

-- One or more links, separated by `,`. The argument `turns` limits the recursion, as above.
unfoldable pub links_within : ℕ → List ℕ → Result (List Link) ℕ
links_within zero s = Err (length s)
links_within (suc turns) s = do
  first ← link_at s
  next ← next_link_at first.1
  others ← links_after (λ rest. links_within turns rest) next
  Ok (first.0 ∷ others)

-- The links of a text that has one or more.
unfoldable pub some_links : List ℕ → Result (List Link) ℕ
some_links s = links_within (length s + 1) s

-- The links of a text, or the number of bytes that are left where it stops to be in link format.
unfoldable pub links_of : List ℕ → Result (List Link) ℕ
links_of [] = Ok []
links_of (b ∷ s) = some_links (b ∷ s)

-- The same result, with another error.
abbrev pub map_err : {A : Type 0} → (ℕ → ℕ) → Result A ℕ → Result A ℕ
map_err f (Ok x) = Ok x
map_err f (Err e) = Err (f e)

-- The attributes in a result of `attributes_at`, or none if it is an error.
abbrev pub attributes_read : Result (List Attribute × List ℕ) ℕ → List Attribute
attributes_read (Ok x) = x.0
attributes_read (Err e) = []

-- The links in a result of `links_of`, or none if it is an error.
abbrev pub links_read : Result (List Link) ℕ → List Link
links_read (Ok links) = links
links_read (Err e) = []

-- The same as `links_of`, where an error is the number of bytes before that place.
unfoldable pub links_from : List ℕ → Result (List Link) ℕ
links_from s = map_err (λ left. length s - left) (links_of s)
