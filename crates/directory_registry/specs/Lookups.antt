-- RFC 9176 section 6: the text of the results of a lookup.
use Rattle.std.specs.Prelude.{ℕ, ◌-◌, Bool, true, false, List, [], ◌∷◌, ◌++◌, length, map, nat_le, codes}
use Rattle.std.specs.Prelude.{Option, Some, None, ◌==◌, if◌then◌else◌}
use Rattle.std.specs.List.{fold}
use Rattle.directory_links.specs.Characters.{is_same_name}
use Rattle.directory_links.specs.Links.{AttributeValue, NoValue, ExtendedValue, TokenValue, QuotedValue, Attribute}
use Rattle.directory_links.specs.Links.{Link}
use Rattle.directory_links.specs.Links.{link_text}
use Rattle.directory_registry.specs.Registrations.{RegistrationValue}
use Rattle.directory_registry.specs.Matching.{CriterionValue, resolved, location, is_selected_link}
use Rattle.directory_registry.specs.Matching.{is_selected_endpoint}

-- The part of the results that a lookup asks for: how many results are before it, and how many it has at most.
pub record PageValue : Type 0 where
  pub skip : ℕ
  pub count : ℕ

-- A text of results. It has the number of results still to be skipped, the number that may still be written, the
-- capacity and the limit. The text is `None` if it is longer than the limit.
pub record ListingValue : Type 0 where
  pub skip : ℕ
  pub left : ℕ
  pub capacity : ℕ
  pub limit : ℕ
  pub text : Option (List ℕ)

-- The text with more bytes, if they are at most as many as the limit leaves.
abbrev pub pushed : ℕ → Option (List ℕ) → List ℕ → Option (List ℕ)
pushed limit None bytes = None
pushed limit (Some s) bytes = if nat_le (length bytes) (limit - length s) then Some (s ++ bytes) else None

-- The listing with more bytes.
unfoldable pub with_bytes : ListingValue → List ℕ → ListingValue
with_bytes v bytes = record v { text = pushed v.limit v.text bytes }

-- An empty listing of this part.
abbrev pub started : ListingValue → PageValue → ℕ → ListingValue
started v page limit = record {
  skip = page.skip;
  left = page.count;
  capacity = v.capacity;
  limit = if nat_le limit v.capacity then limit else v.capacity;
  text = Some [];
}

-- The separator between a text and the next result.
abbrev pub separator : Option (List ℕ) → List ℕ
separator None = []
separator (Some []) = []
separator (Some (b ∷ s)) = codes ","

-- The next result is in the part.
abbrev pub takes_item : ListingValue → Bool
takes_item v = if v.skip == 0 then (if v.left == 0 then false else true) else false

-- The listing after the next result was counted, and after the separator if it is in the part.
unfoldable pub begun : ListingValue → ListingValue
begun v =
    if v.skip == 0
    then (if v.left == 0 then v else with_bytes (record v { left = v.left - 1 }) (separator v.text))
    else record v { skip = v.skip - 1 }

-- The listing after the next result, which has this text.
unfoldable pub offered : ListingValue → List ℕ → ListingValue
offered v text = if takes_item v then with_bytes (begun v) text else begun v

-- An attribute whose relative URI is resolved: that of `anchor`.
abbrev pub resolved_value : List ℕ → AttributeValue → AttributeValue
resolved_value base NoValue = NoValue
resolved_value base (ExtendedValue text) = ExtendedValue text
resolved_value base (TokenValue text) = TokenValue text
resolved_value base (QuotedValue text) = QuotedValue (resolved base text)

abbrev pub resolved_attribute : List ℕ → Attribute → Attribute
resolved_attribute base a =
    if is_same_name a.name (codes "anchor") then record { name = a.name; value = resolved_value base a.value } else a

-- A link whose relative URIs are resolved.
abbrev pub resolved_link : List ℕ → Link → Link
resolved_link base l =
    record { target = resolved base l.target; attributes = map (resolved_attribute base) l.attributes }

-- The link of an endpoint.
abbrev pub endpoint_link : RegistrationValue → Link
endpoint_link r = record {
  target = location r.number;
  attributes = map (resolved_attribute r.base)
      (record { name = codes "base"; value = QuotedValue r.base } ∷ r.attributes);
}

-- The listing after a link of a registration, if the criteria select it.
abbrev pub offered_link : List CriterionValue → RegistrationValue → ListingValue → Link → ListingValue
offered_link criteria r v l =
    if is_selected_link criteria r l then offered v (link_text (resolved_link r.base l)) else v

-- The listing after the links of a registration.
unfoldable pub offered_links : List CriterionValue → ListingValue → RegistrationValue → ListingValue
offered_links criteria v r = fold (offered_link criteria r) v r.links

-- The listing after an endpoint, if the criteria select it.
unfoldable pub offered_endpoint : List CriterionValue → ListingValue → RegistrationValue → ListingValue
offered_endpoint criteria v r = if is_selected_endpoint criteria r then offered v (link_text (endpoint_link r)) else v
