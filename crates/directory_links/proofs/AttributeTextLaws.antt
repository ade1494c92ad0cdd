-- The text of attributes with one more.
use Rattle.std.proofs.Common.{◌≡◌, ℕ, true, List, Err, IfOk, [], ◌∷◌, ◌++◌, Result, Ok, refl, sym, ◌∙◌, append_assoc}
use Rattle.std.proofs.Common.{arith}
use Rattle.std.specs.List.{list_all}
use Rattle.std.proofs.lemmas.List.{append-nil}
use Rattle.std.proofs.lemmas.Result.{IfOk-at_ok}
use Rattle.directory_links.specs.Prelude.{Attribute, AttributeValue, value_text, is_attribute, attribute_text}
use Rattle.directory_links.specs.Prelude.{attributes_text, attributes_at, attributes_read}
use Rattle.directory_links.proofs.SoundLaws.{AreAttributesRead, all_attributes_read}
use Rattle.directory_links.proofs.CompleteLaws.{End, attributes_complete}

joined_text : (as1 : List Attribute) (a : Attribute)
    → attributes_text (as1 ++ a ∷ []) ≡ attributes_text as1 ++ 59 ∷ attribute_text a
unfolding attributes_text
joined_text [] a = rw (append-nil (attribute_text a)) refl
joined_text (b ∷ more) a = rw (joined_text more a, append_assoc (attribute_text b)) refl

each_joined : (as1 : List Attribute) (a : Attribute) → list_all is_attribute as1 ≡ true → is_attribute a ≡ true
    → list_all is_attribute (as1 ++ a ∷ []) ≡ true
each_joined [] a all is = rw is refl
each_joined (b ∷ more) a all is = grind (arith, each_joined more a)

each_of : (s : List ℕ) (r : Result (List Attribute × List ℕ) ℕ) → IfOk r (AreAttributesRead s)
    → list_all is_attribute (attributes_read r) ≡ true
each_of s (Ok x) h = h.0
each_of s (Err d) h = refl

-- A link can have each attribute that was read.
pub each_attribute : (s : List ℕ) → list_all is_attribute (attributes_read (attributes_at s)) ≡ true
each_attribute s = each_of s (attributes_at s) (all_attributes_read s)

-- The attributes that are read after one more was appended.
pub appended : (s n : List ℕ) (v : AttributeValue) → attributes_at s ≡ Ok (attributes_read (attributes_at s), [])
    → is_attribute (record { name = n; value = v }) ≡ true
    → attributes_at ((s ++ 59 ∷ n) ++ value_text v) ≡ Ok
    (attributes_read (attributes_at s) ++ record { name = n; value = v } ∷ [], [])
appended s n v e is =
    let as1 = attributes_read (attributes_at s) in
    let a : Attribute = record { name = n; value = v } in
    let read = IfOk-at_ok (AreAttributesRead s) e (all_attributes_read s) in
    let text : attributes_text as1 ≡ s = sym (append-nil (attributes_text as1)) ∙ read.1 in
    let whole : (s ++ 59 ∷ n) ++ value_text v ≡ attributes_text (as1 ++ a ∷ []) ++ [] =
    rw (append_assoc s, append-nil, joined_text as1 a, text) refl in
    rw whole (attributes_complete (as1 ++ a ∷ []) [] (each_joined as1 a read.0 is) End)
