-- RFC 6690 section 2: links as values, and the text that writes a list of links.
--
--     Link            = link-value-list
--     link-value-list = [ link-value *[ "," link-value ]]
--     link-value      = "<" URI-Reference ">" *( ";" link-param )
-- Each `link-param` has the form of a `link-extension`; the forms of single parameters, such as the number of `sz`, are
-- not checked.
--     link-extension  = ( parmname [ "=" ( ptoken / quoted-string ) ] ) / ( ext-name-star "=" ext-value )
--     ext-name-star   = parmname "*"
--     ptoken          = 1*ptokenchar
-- RFC 5987 section 3.2.1 has `parmname` and `ext-value`. Each character of the latter is a `ptokenchar`, and no more is
-- checked. RFC 2616 section 2.2 has `quoted-string`. Of a `URI-Reference` only the characters are checked.
use Rattle.std.specs.Prelude.{◌≡◌, ℕ, Bool, true, false, not, ◌&&◌, List, [], ◌∷◌, ◌++◌, ◌==◌, if◌then◌else◌}
use Rattle.std.specs.List.{list_all}
use Rattle.directory_links.specs.Characters.{is_name_char, is_token_char, is_target_char, is_quoted_char}

-- The value of an attribute: none, an `ext-value` after a name with `*`, a `ptoken`, or a text in quotes. The text of a
-- `quoted-string` is without its quotes, and with its backslashes.
pub data AttributeValue : Type 0 where
  NoValue : AttributeValue
  ExtendedValue : (text : List ℕ) → AttributeValue
  TokenValue : (text : List ℕ) → AttributeValue
  QuotedValue : (text : List ℕ) → AttributeValue

-- An attribute of a link. The name is without the `*` of an `ext-name-star`.
pub record Attribute : Type 0 where
  pub name : List ℕ
  pub value : AttributeValue

-- A link: its target and its attributes.
pub record Link : Type 0 where
  pub target : List ℕ
  pub attributes : List Attribute

-- The list has a byte, and each of its bytes passes the test: `1*CHARACTER`.
abbrev pub is_run : (ℕ → Bool) → List ℕ → Bool
is_run test [] = false
is_run test (b ∷ s) = test b && list_all test s

-- `parmname`.
abbrev pub is_parmname : List ℕ → Bool
is_parmname name = is_run is_name_char name

-- The bytes can be between the quotes of a `quoted-string`: characters other than `"`, where any character can follow a
-- backslash. The first argument says whether a backslash precedes the bytes.
unfoldable pub is_quoted_text : Bool → List ℕ → Bool
is_quoted_text escaped [] = not escaped
is_quoted_text escaped (b ∷ s) =
    if is_quoted_char b
    then (if escaped then is_quoted_text false s else (if b == 34 then false else is_quoted_text (b == 92) s))
    else false

-- The value can be that of an attribute.
abbrev pub is_value : AttributeValue → Bool
is_value NoValue = true
is_value (ExtendedValue t) = is_run is_token_char t
is_value (TokenValue t) = is_run is_token_char t
is_value (QuotedValue q) = is_quoted_text false q

-- A link can have this attribute.
abbrev pub is_attribute : Attribute → Bool
is_attribute a = is_parmname a.name && is_value a.value

-- A text can write this link.
abbrev pub is_link : Link → Bool
is_link l = list_all is_target_char l.target && list_all is_attribute l.attributes

-- The text after the name of an attribute with this value.
abbrev pub value_text : AttributeValue → List ℕ
value_text NoValue = []
value_text (ExtendedValue t) = 42 ∷ 61 ∷ t
value_text (TokenValue t) = 61 ∷ t
value_text (QuotedValue q) = 61 ∷ 34 ∷ q ++ 34 ∷ []

-- `link-param`.
abbrev pub attribute_text : Attribute → List ℕ
attribute_text a = a.name ++ value_text a.value

-- `*( ";" link-param )`.
unfoldable pub attributes_text : List Attribute → List ℕ
attributes_text [] = []
attributes_text (a ∷ more) = 59 ∷ attribute_text a ++ attributes_text more

-- `link-value`.
abbrev pub link_text : Link → List ℕ
link_text l = 60 ∷ l.target ++ 62 ∷ attributes_text l.attributes

-- `*[ "," link-value ]`.
unfoldable pub more_links_text : List Link → List ℕ
more_links_text [] = []
more_links_text (l ∷ ls) = 44 ∷ link_text l ++ more_links_text ls

-- `link-value-list`.
abbrev pub links_text : List Link → List ℕ
links_text [] = []
links_text (l ∷ ls) = link_text l ++ more_links_text ls

-- The text `s` is that of these links.
pub record Writes (s : List ℕ) (links : List Link) : Type 0 where
  pub each : list_all is_link links ≡ true
  pub text : links_text links ≡ s
