-- Bytes that are appended in several parts.
use Rattle.std.proofs.Common.{◌≡◌, ℕ, true, false, List, [], ◌∷◌, ◌++◌, map, Option}
use Rattle.std.proofs.Common.{Some, None, refl, ap, sym, arith, append_assoc, codes}
use Rattle.std.proofs.lemmas.List.{length-append, append-nil}
use Rattle.directory_registry.specs.Prelude.{ListingValue, pushed, with_bytes, Attribute, attributes_text}
use Rattle.directory_registry.specs.Prelude.{attribute_text}
use Rattle.directory_registry.specs.Prelude.{resolved_attribute}
use Rattle.directory_registry.specs.Prelude.{resolved_value, value_text}
use Rattle.directory_links.specs.Characters.{is_same_name}

-- One part after the other is both at once.
pub pushed_both : (limit : ℕ) (o : Option (List ℕ)) (a b : List ℕ)
    → pushed limit (pushed limit o a) b ≡ pushed limit o (a ++ b)
pushed_both limit None a b = refl
pushed_both limit (Some s) a b = grind (arith, length-append a b, length-append s a, append_assoc s a b)

pub two_parts : (v : ListingValue) (a b : List ℕ) → with_bytes (with_bytes v a) b ≡ with_bytes v (a ++ b)
unfolding with_bytes
two_parts v a b = ap (λ (t : Option (List ℕ)). record v { text = t }) (pushed_both v.limit v.text a b)

pushed_none : (limit : ℕ) (o : Option (List ℕ)) → pushed limit o [] ≡ o
pushed_none limit None = refl
pushed_none limit (Some s) = grind (arith, append-nil s)

pub no_bytes : (v : ListingValue) → v ≡ with_bytes v []
unfolding with_bytes
no_bytes v = ap (λ (t : Option (List ℕ)). record v { text = t }) (sym (pushed_none v.limit v.text))

-- The attributes that are left, after the first of them.
pub one_attribute : (v w : ListingValue) (base : List ℕ) (a : Attribute) (more : List Attribute)
    → w ≡ with_bytes v (59 ∷ attribute_text (resolved_attribute base a))
    → with_bytes w (attributes_text (map (resolved_attribute base) more)) ≡ with_bytes v
    (attributes_text (map (resolved_attribute base) (a ∷ more)))
unfolding attributes_text
one_attribute v w base a more e = rw (e, two_parts)

pub no_attribute : (v : ListingValue) (base : List ℕ)
    → v ≡ with_bytes v (attributes_text (map (resolved_attribute base) []))
unfolding attributes_text
no_attribute v base = no_bytes v

-- The text of an attribute whose URI is resolved, by its name.
pub anchor_text : (base : List ℕ) (a : Attribute) → is_same_name a.name (codes "anchor") ≡ true
    → attribute_text (resolved_attribute base a) ≡ a.name ++ value_text (resolved_value base a.value)
anchor_text base a h = rw h

pub other_text : (base : List ℕ) (a : Attribute) → is_same_name a.name (codes "anchor") ≡ false
    → attribute_text (resolved_attribute base a) ≡ a.name ++ value_text a.value
other_text base a h = rw h
