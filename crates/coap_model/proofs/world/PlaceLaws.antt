-- The connections of a world by id: the connection with an id after each change of the list.
use Rattle.std.proofs.Common.{List, None, Option, Some, [], arith, filter, inl, inr, map, not, option_map, refl, rules}
use Rattle.std.proofs.Common.{sym, ℕ, ◌++◌, ◌==◌, ◌∙◌, ◌∷◌, ◌≡◌, ◌≢◌, ◌⊎◌}
use Rattle.std.proofs.lemmas.Bool.Decides.{nat_tests}
use Rattle.std.proofs.lemmas.Bool.{cond_both, eq-eqb, ne_eqb}
use Rattle.std.proofs.lemmas.Iterator.Adapters.{option_map_id}
use Rattle.coap_model.specs.Prelude.{AllByRecursion, Connection, ConnectionEntry, side_of}
use Rattle.coap_model.specs.world.World.{changed_at}
use Rattle.coap_wire.proofs.NumberLaws.{none_or_some}
use Rattle.coap_model.proofs.OptionLemmas.{same_there}

-- ---- the first connection, or a later one

pub first_there : (id : ℕ) (p : ConnectionEntry) (ps : List ConnectionEntry) → p.id ≡ id
    → side_of id (p ∷ ps) ≡ Some p.side
unfolding side_of
first_there id p ps e = rw (eq-eqb p.id id e) refl

pub later_there : (id : ℕ) (p : ConnectionEntry) (ps : List ConnectionEntry) → p.id ≢ id
    → side_of id (p ∷ ps) ≡ side_of id ps
unfolding side_of
later_there id p ps e = rw (ne_eqb p.id id e) refl

-- A property of the connection with an id, if it holds in both cases: the first connection has the id, or the others
-- are searched.
by_first : (P : Option Connection → Type 0) (id : ℕ) (p : ConnectionEntry) (ps : List ConnectionEntry)
    → (p.id ≡ id → P (Some p.side)) → (p.id ≢ id → P (side_of id ps)) → P (side_of id (p ∷ ps))
unfolding side_of
by_first P id p ps here apart = search rules

-- A connection that exists is the first or a later one.
pub found : (id : ℕ) (s : Connection) (p : ConnectionEntry) (ps : List ConnectionEntry) → side_of id (p ∷ ps) ≡ Some s
    → ((p.id ≡ id) × (p.side ≡ s)) ⊎ ((p.id ≢ id) × (side_of id ps ≡ Some s))
found id s p ps is =
    by_first (λ there. there ≡ Some s → ((p.id ≡ id) × (p.side ≡ s)) ⊎ ((p.id ≢ id) × (side_of id ps ≡ Some s))) id p ps
    (λ here is. inl (here, same_there p.side s is)) (λ apart is. inr (apart, is)) is

-- At first there is none.
pub nobody : (id : ℕ) → side_of id [] ≡ None
unfolding side_of
nobody id = refl

-- If no connection has an id, the first does not have it and no other does.
none_parts : (id : ℕ) (p : ConnectionEntry) (ps : List ConnectionEntry) → side_of id (p ∷ ps) ≡ None
    → (p.id ≢ id) × (side_of id ps ≡ None)
none_parts id p ps none =
    by_first (λ there. there ≡ None → (p.id ≢ id) × (side_of id ps ≡ None)) id p ps (λ here none. absurd cc)
    (λ apart none. (apart, none)) none

-- ---- a change of each connection that keeps its id

-- The place whose connection g has changed.
abbrev pub with_sides : (Connection → Connection) → ConnectionEntry → ConnectionEntry
with_sides g p = record p { side = g p.side }

-- The connection with an id after f was applied to each place, if f changes this connection as g does.
mapped_there : (id : ℕ) (f : ConnectionEntry → ConnectionEntry) (g : Connection → Connection)
    → ((p : ConnectionEntry) → (f p).id ≡ p.id) → ((p : ConnectionEntry) → p.id ≡ id → (f p).side ≡ g p.side)
    → (ps : List ConnectionEntry) → side_of id (map f ps) ≡ option_map g (side_of id ps)
unfolding side_of
mapped_there id f g ids sides [] = refl
mapped_there id f g ids sides (p ∷ ps) = grind (arith, nat_tests, ids p, sides p, mapped_there id f g ids sides ps)

pub all_there : (id : ℕ) (g : Connection → Connection) (ps : List ConnectionEntry)
    → side_of id (map (with_sides g) ps) ≡ option_map g (side_of id ps)
all_there id g ps = mapped_there id (with_sides g) g (λ p. refl) (λ p here. refl) ps

-- ---- a change of one connection that keeps each id

pub changed_id : (id : ℕ) (f : Connection → Connection) (p : ConnectionEntry) → (changed_at id f p).id ≡ p.id
changed_id id f p = search rules

pub changed_here : (id : ℕ) (f : Connection → Connection) (ps : List ConnectionEntry)
    → side_of id (map (changed_at id f) ps) ≡ option_map f (side_of id ps)
changed_here id f ps = search (rules, mapped_there, changed_id, eq-eqb)

pub changed_elsewhere : (id other : ℕ) (f : Connection → Connection) (ps : List ConnectionEntry) → id ≢ other
    → side_of other (map (changed_at id f) ps) ≡ side_of other ps
changed_elsewhere id other f ps apart =
    mapped_there other (changed_at id f) (λ s. s) (changed_id id f)
    (λ p here. rw (ne_eqb p.id id (λ (e : p.id ≡ id). apart (sym e ∙ here))) refl) ps
    ∙ option_map_id (side_of other ps)

-- ---- one connection more or less

pub still_there : (id : ℕ) (s : Connection) (ps qs : List ConnectionEntry) → side_of id ps ≡ Some s
    → side_of id (ps ++ qs) ≡ Some s
unfolding side_of
still_there id s [] qs e = absurd cc
still_there id s (p ∷ ps) qs e = grind (arith, still_there id s ps qs)

pub new_there : (id : ℕ) (ps qs : List ConnectionEntry) → side_of id ps ≡ None → side_of id (ps ++ qs) ≡ side_of id qs
unfolding side_of
new_there id [] qs none = refl
new_there id (p ∷ ps) qs none = grind (arith, new_there id ps qs)

pub other_more : (id : ℕ) (ps : List ConnectionEntry) (p : ConnectionEntry) → p.id ≢ id
    → side_of id (ps ++ p ∷ []) ≡ side_of id ps
unfolding side_of
other_more id [] p apart = later_there id p [] apart
other_more id (q ∷ ps) p apart = grind (arith, other_more id ps p apart)

-- The connections without the one with this id.
abbrev pub but : ℕ → List ConnectionEntry → List ConnectionEntry
but id ps = filter (λ p. not (p.id == id)) ps

-- A property of the rest of a list, by cases: the first connection has the id, or it does not.
by_but : (P : List ConnectionEntry → Type 0) (id : ℕ) (p : ConnectionEntry) (ps : List ConnectionEntry)
    → (p.id ≡ id → P (but id ps)) → (p.id ≢ id → P (p ∷ but id ps)) → P (but id (p ∷ ps))
by_but P id p ps here apart = search rules

pub dropped_here : (id : ℕ) (ps : List ConnectionEntry) → side_of id (but id ps) ≡ None
unfolding side_of
dropped_here id [] = refl
dropped_here id (p ∷ ps) = grind (arith, nat_tests, dropped_here id ps)

pub dropped_elsewhere : (id other : ℕ) (ps : List ConnectionEntry) → id ≢ other
    → side_of other (but id ps) ≡ side_of other ps
unfolding side_of
dropped_elsewhere id other [] apart = refl
dropped_elsewhere id other (p ∷ ps) apart = grind (arith, nat_tests, dropped_elsewhere id other ps apart)

-- ---- distinct ids

-- No later connection has the id of an earlier one.
abbrev pub AreDistinct : List ConnectionEntry → Type 0
AreDistinct [] = Unit {0}
AreDistinct (p ∷ ps) = (side_of p.id ps ≡ None) × AreDistinct ps

-- A change of each connection that keeps its id.
pub none_mapped : (id : ℕ) (g : ConnectionEntry → ConnectionEntry) → ((p : ConnectionEntry) → (g p).id ≡ p.id)
    → (ps : List ConnectionEntry) → side_of id ps ≡ None → side_of id (map g ps) ≡ None
unfolding side_of
none_mapped id g same [] none = none
none_mapped id g same (p ∷ ps) none = grind (arith, nat_tests, same p, none_mapped id g same ps)

pub distinct_mapped : (g : ConnectionEntry → ConnectionEntry) → ((p : ConnectionEntry) → (g p).id ≡ p.id)
    → (ps : List ConnectionEntry) → AreDistinct ps → AreDistinct (map g ps)
distinct_mapped g same [] distinct = tt
distinct_mapped g same (p ∷ ps) distinct = search (rules, none_mapped, distinct_mapped g same ps distinct.1)

-- A new id.
pub distinct_more : (ps : List ConnectionEntry) (p : ConnectionEntry) → AreDistinct ps → side_of p.id ps ≡ None
    → AreDistinct (ps ++ p ∷ [])
distinct_more [] p distinct none = (nobody p.id, tt)
distinct_more (q ∷ ps) p distinct none = search (rules, none_parts, other_more, distinct_more ps p distinct.1)

pub distinct_but : (id : ℕ) (ps : List ConnectionEntry) → AreDistinct ps → AreDistinct (but id ps)
distinct_but id [] distinct = tt
distinct_but id (p ∷ ps) distinct = search (rules, by_but, dropped_elsewhere, distinct_but id ps distinct.1)

-- ---- properties of each connection

-- A property of each connection holds of the one with an id.
pub of_number : (P : ℕ → Connection → Type 0) (id : ℕ) (s : Connection) (ps : List ConnectionEntry)
    → AllByRecursion (λ p. P p.id p.side) ps → side_of id ps ≡ Some s → P id s
of_number P id s [] each e = absurd (none_or_some s (sym (nobody id) ∙ e))
of_number P id s (p ∷ ps) each e =
    by_first (λ there. there ≡ Some s → P id s) id p ps
    (λ here is. grind (arith, same_there))
    (λ apart is. of_number P id s ps each.1 is) e

-- If ids are distinct, a property of the connection of each id holds of every connection.
pub of_each : (P : ℕ → Connection → Type 0) (ps : List ConnectionEntry) → AreDistinct ps
    → ((id : ℕ) (s : Connection) → side_of id ps ≡ Some s → P id s) → AllByRecursion (λ p. P p.id p.side) ps
of_each P [] distinct holds = tt
of_each P (p ∷ ps) distinct holds = search (rules, first_there, later_there, none_or_some, of_each P ps distinct.1)

-- The identity changes no connection.
pub places_unchanged : (id : ℕ) (ps : List ConnectionEntry) → map (changed_at id (λ s. s)) ps ≡ ps
places_unchanged id [] = refl
places_unchanged id (p ∷ ps) = search (rules, cond_both, places_unchanged id ps)
