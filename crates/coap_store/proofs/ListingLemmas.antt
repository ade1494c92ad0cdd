-- The listing, and the texts of the resources, after a change.
use Rattle.std.proofs.Common.{◌≡◌, ℕ, zero, suc, ◌+◌, ◌*◌, ◌<◌, ◌≤◌, Bool, true, false, List, [], ◌∷◌, ◌++◌, length}
use Rattle.std.proofs.Common.{map, get_or, set, Option, Some, None, refl, sym, ap, ◌∙◌, arith, add-one}
use Rattle.std.specs.Prelude.{slice_get, position}
use Rattle.std.specs.List.{remove}
use Rattle.coap_store.specs.Prelude.{IfSome, option_map, AllByRecursion, flat_map, lookup, insert_entry, set_value_at}
use Rattle.coap_store.specs.Prelude.{joined, Path, same_path, is_path, Representation, found_in, put_at, entry_bytes}
use Rattle.coap_store.specs.Prelude.{listing, representation, resource_at, resources_in, ApplicationsValue, first_bytes}
use Rattle.coap_store.specs.Prelude.{Resource, texts_of, head_of, end_bytes, with_end}
use Rattle.std.specs.Map.{keys_of}
use Rattle.std.proofs.lemmas.List.{length-append, length-map, set-get_or}
use Rattle.std.proofs.lemmas.Option.{same_Some}
use Rattle.std.proofs.lemmas.List.Quantifiers.{position-Some}
use Rattle.coap_store.specs.Store as store
use Rattle.coap_store.proofs.LinkLemmas.{entry_changed, entry_short}

-- The text of a resource in the listing.
abbrev line : store.Resource → List ℕ
line r = entry_bytes r.path r.now.format

abbrev lines : List store.Resource → List ℕ
lines rs = flat_map line rs

-- ---- the text after a change

lines_created : (rs : List store.Resource) (path : Path) (now : Representation) → found_in rs path ≡ None
    → map line (put_at rs path now) ≡ map line rs ++ entry_bytes path now.format ∷ []
unfolding found_in put_at
lines_created [] path now none = refl
lines_created (r ∷ rs) path now none = grind (arith, lines_created rs path now)

-- A new resource is last in the listing.
pub texts_created : (first : List ℕ) (rs : List store.Resource) (path : Path) (now : Representation)
    → found_in rs path ≡ None
    → texts_of first (put_at rs path now) ≡ texts_of first rs ++ entry_bytes path now.format ∷ []
unfolding texts_of
texts_created first rs path now none = rw (lines_created rs path now none)

lines_joined : (rs : List store.Resource) → joined (map line rs) ≡ lines rs
unfolding joined
lines_joined [] = refl
lines_joined (r ∷ rs) = rw (lines_joined rs)

pub texts_joined : (applications : Option ApplicationsValue) (rs : List store.Resource)
    → joined (texts_of (first_bytes applications) rs) ≡ listing applications rs
unfolding joined texts_of first_bytes listing
texts_joined applications rs = rw (lines_joined rs)

-- The length of the texts, by that of the listing without an application.
pub texts_length : (first : List ℕ) (rs : List store.Resource)
    → length (joined (texts_of first rs)) ≤ length first + length (listing None rs)
unfolding joined texts_of listing
texts_length first rs = rw (lines_joined rs) (omega (arith, length-append {A = ℕ}))

-- ---- the length of the text

-- A resource can have the path, and the Content-Format, if any, is a 16-bit number.
abbrev pub CanBeListed : store.Resource → Type 0
CanBeListed r = (is_path r.path ≡ true) × IfSome r.now.format (λ n. n < 65536)

lines_bound : (rs : List store.Resource) → AllByRecursion CanBeListed rs → length (lines rs) ≤ 781 * length rs
lines_bound [] h = omega arith
lines_bound (r ∷ rs) h =
    omega (arith, lines_bound rs h.1, entry_short r.path r.now.format h.0.0 h.0.1, length-append (line r) (lines rs))

-- The listing of 1,000 resources fits in 1,048,576 bytes.
pub listing_bound : (applications : Option ApplicationsValue) (rs : List store.Resource) → AllByRecursion CanBeListed rs
    → length rs ≤ 1000 → length (first_bytes applications) ≤ 16423 → length (listing applications rs) ≤ 1048576
unfolding listing first_bytes
listing_bound applications rs each few short = omega (arith, lines_bound rs each, length-append {A = ℕ})

-- ---- the map and the list of the resources

-- The key at an index is the first that passes the test.
abbrev pub IsFirstAt : (Path → Bool) → List (Path × Resource) → ℕ → Type 0
IsFirstAt test [] i = ⊥
IsFirstAt test (e ∷ es) zero = test e.0 ≡ true
IsFirstAt test (e ∷ es) (suc i) = (test e.0 ≡ false) × IsFirstAt test es i

first_from : (test : Path → Bool) (es : List (Path × Resource)) (i : ℕ) → i < length (keys_of es)
    → test (get_or (keys_of es) i []) ≡ true → ((k : ℕ) → k < i → test (get_or (keys_of es) k []) ≡ false)
    → IsFirstAt test es i
first_from test [] i within is before = absurd (omega arith)
first_from test (e ∷ es) zero within is before = is
first_from test (e ∷ es) (suc i) within is before =
    (before 0 (omega arith), first_from test es i (omega arith) is (λ k less. before (suc k) (omega arith)))

pub first_at : (test : Path → Bool) (es : List (Path × Resource)) (i : ℕ)
    → position test (keys_of es) ≡ Some i → IsFirstAt test es i
first_at test es i at =
    let found = position-Some test (keys_of es) i [] at in
    first_from test es i found.0 found.1 found.2

-- The texts of the entries of the map.
abbrev entry_lines : List (Path × Resource) → List (List ℕ)
entry_lines es = map line (resources_in es)

line_at : (es : List (Path × Resource)) (i : ℕ) (e : Path × Resource) → slice_get es i ≡ Some e
    → get_or (entry_lines es) i [] ≡ entry_bytes e.0 e.1.format
unfolding resources_in
line_at [] i e at = absurd cc
line_at (f ∷ es) zero e at = rw (same_Some f e at)
line_at (f ∷ es) (suc i) e at = line_at es i e at

lines_set : (es : List (Path × Resource)) (i : ℕ) (e : Path × Resource) (r : Resource) → slice_get es i ≡ Some e
    → entry_lines (set_value_at es i r) ≡ set (entry_lines es) i (entry_bytes e.0 r.format)
unfolding resources_in
lines_set [] i e r at = absurd cc
lines_set (f ∷ es) zero e r at = rw (same_Some f e at)
lines_set (f ∷ es) (suc i) e r at = rw (lines_set es i e r at)

lines_removed : (es : List (Path × Resource)) (i : ℕ) → i < length es
    → entry_lines (remove es i) ≡ remove (entry_lines es) i
unfolding resources_in
lines_removed [] i within = absurd (omega arith)
lines_removed (e ∷ es) zero within = refl
lines_removed (e ∷ es) (suc i) within = rw (lines_removed es i (omega arith))

pub text_at : (first : List ℕ) (es : List (Path × Resource)) (i : ℕ) (e : Path × Resource) → slice_get es i ≡ Some e
    → get_or (texts_of first (resources_in es)) (i + 1) [] ≡ entry_bytes e.0 e.1.format
unfolding texts_of
text_at first es i e at = rw add-one (line_at es i e at)

-- The text of a resource is replaced if it is.
pub texts_set : (first : List ℕ) (es : List (Path × Resource)) (i : ℕ) (e : Path × Resource) (r : Resource)
    → slice_get es i ≡ Some e
    → texts_of first (resources_in (set_value_at es i r))
    ≡ set (texts_of first (resources_in es)) (i + 1) (entry_bytes e.0 r.format)
unfolding texts_of
texts_set first es i e r at = rw (add-one, lines_set es i e r at)

-- A resource that keeps its Content-Format keeps its text.
pub texts_kept : (first : List ℕ) (es : List (Path × Resource)) (i : ℕ) (e : Path × Resource) (r : Resource)
    → slice_get es i ≡ Some e → e.1.format ≡ r.format
    → texts_of first (resources_in (set_value_at es i r)) ≡ texts_of first (resources_in es)
texts_kept first es i e r at same =
    rw (texts_set first es i e r at, ← same, ← text_at first es i e at) (set-get_or _ (i + 1) [])

-- The entry at an index, which has this Content-Format.
pub entry_of : (es : List (Path × Resource)) (i : ℕ) (format : Option ℕ)
    → Some format ≡ option_map (λ e. e.1.format) (slice_get es i)
    → (e : Path × Resource) × (slice_get es i ≡ Some e) × (format ≡ e.1.format)
entry_of es i format is = by (slice_get es i) refl is
  where
    by : (found : Option (Path × Resource)) → slice_get es i ≡ found → Some format ≡ option_map (λ e. e.1.format) found
        → (e : Path × Resource) × (slice_get es i ≡ Some e) × (format ≡ e.1.format)
    by None at same = absurd cc
    by (Some e) at same = (e, at, cc)

-- The listing, in which the end of the text of a resource is replaced.
pub texts_changed : (first : List ℕ) (es : List (Path × Resource)) (i : ℕ) (e : Path × Resource) (r : Resource)
    (ts : List (List ℕ)) (at n : ℕ) (end : List ℕ) → slice_get es i ≡ Some e
    → ts ≡ texts_of first (resources_in es) → at ≡ i + 1 → n ≡ length (end_bytes e.1.format) → end ≡ end_bytes r.format
    → set ts at (with_end (get_or ts at []) n end) ≡ texts_of first (resources_in (set_value_at es i r))
texts_changed first es i e r ts at n end found listed place count ends =
    rw (listed, place, count, ends, text_at first es i e found, entry_changed e.0 e.1.format r.format)
    (sym (texts_set first es i e r found))

pub texts_removed : (first : List ℕ) (es : List (Path × Resource)) (i : ℕ) → i < length es
    → texts_of first (resources_in (remove es i)) ≡ remove (texts_of first (resources_in es)) (i + 1)
unfolding texts_of
texts_removed first es i within = rw (add-one, lines_removed es i within)

pub texts_count : (first : List ℕ) (es : List (Path × Resource))
    → length (texts_of first (resources_in es)) ≡ length es + 1
unfolding texts_of resources_in
texts_count first es = omega (arith, length-map (resources_in es) line, length-map es resource_at)

-- The first text is replaced.
pub texts_first : (first new : List ℕ) (rs : List store.Resource) → set (texts_of first rs) 0 new ≡ texts_of new rs
unfolding texts_of
texts_first first new rs = refl

-- The first text is that with which the listing begins.
pub head_is : (first : List ℕ) (rs : List store.Resource) (ts : List (List ℕ))
    → ts ≡ texts_of first rs → head_of ts ≡ first
unfolding texts_of
head_is first rs ts is = ap head_of is

pub by_head : (first : List ℕ) (rs : List store.Resource) (ts : List (List ℕ)) → ts ≡ texts_of first rs
    → ts ≡ texts_of (head_of ts) rs
by_head first rs ts is = is ∙ ap (λ f. texts_of f rs) (sym (head_is first rs ts is))

module _ (eq : Path → Path → Bool) (same : (p q : Path) → eq p q ≡ same_path p q) where
  pub resources_put : (entries : List (Path × Resource)) (path : Path) (r : Resource)
      → resources_in (insert_entry eq entries path r) ≡ put_at (resources_in entries) path (representation r)
  unfolding resources_in put_at
  resources_put [] path r = refl
  resources_put (e ∷ es) path r = grind (arith, same path e.0, resources_put es path r)

  pub resources_found : (entries : List (Path × Resource)) (path : Path)
      → found_in (resources_in entries) path ≡ option_map representation (lookup (eq path) entries)
  unfolding resources_in found_in
  resources_found [] path = refl
  resources_found (e ∷ es) path = grind (arith, same path e.0, resources_found es path)

pub ruleset set_applications_steps = (texts_count, texts_first, texts_length)
