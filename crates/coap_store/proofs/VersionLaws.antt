-- No version is given twice, over all changes.
use Rattle.std.proofs.Common.{◌≡◌, ◌≢◌, ◌⊎◌, inl, inr, ℕ, ◌<◌, ◌≤◌, ◌^◌, List, [], ◌∷◌, Option, Some, sym, ap, ◌∙◌}
use Rattle.std.proofs.Common.{arith}
use Rattle.std.proofs.lemmas.Option.{same_Some, none-some}
use Rattle.coap_wire.proofs.UintLaws.{bytes_are_one}
use Rattle.coap_store.specs.Prelude.{Path, same_path, Representation, StoreValue, found_in, etag_of, Change, Nothing}
use Rattle.coap_store.specs.Prelude.{Put, Delete, changed, TakesChange, changed_by, TakesChanges, AreDistinct, IsStore}
use Rattle.coap_path.proofs.PathLemmas.{same_path_sound}
use Rattle.coap_store.proofs.AnswerLaws.{either}
use Rattle.coap_store.proofs.StoreLemmas.{one_version, found_kept}
use Rattle.coap_store.proofs.ChangeLaws.{put_is_stored, other_is_kept_on_put, other_is_kept_on_delete, deleted_is_gone}
use Rattle.coap_store.proofs.ChangeLaws.{distinct_stays, apart_from}

-- ---- an ETag identifies the version

pub etag_decides : (a b : Representation) → a.version < 2 ^ 64 → b.version < 2 ^ 64
    → etag_of a ≡ etag_of b → a.version ≡ b.version
etag_decides a b fits_a fits_b same = bytes_are_one a.version b.version fits_a fits_b same

-- ---- in one store

pub stored_version_fits : (s : StoreValue) (path : Path) (r : Representation) → IsStore s
    → found_in s.resources path ≡ Some r → r.version < 2 ^ 64
stored_version_fits s path r is found =
    let kept = found_kept s path r is found in omega (arith, kept.given, is.versions)

pub together : (s : StoreValue) (p q : Path) (a b : Representation) → IsStore s → found_in s.resources p ≡ Some a
    → found_in s.resources q ≡ Some b → etag_of a ≡ etag_of b → (p ≡ q) × (a ≡ b)
together s p q a b is at_p at_q same = grind (arith, one_version, is.own_versions, etag_decides, stored_version_fits)

-- ---- over changes

-- Each representation of `t` is one of `s` with the same version, or has a later version than all of `s`.
pub record ComesLater (s t : StoreValue) : Type 0 where
  pub distinct : AreDistinct t.resources
  pub fits : t.versions < 2 ^ 64
  pub given : (q : Path) (b : Representation) → found_in t.resources q ≡ Some b → b.version ≤ t.versions
  pub later : s.versions ≤ t.versions
  pub stays : (q : Path) (b : Representation) → found_in t.resources q ≡ Some b
      → (s.versions < b.version) ⊎ (found_in s.resources q ≡ Some b)

later_than_itself : (s : StoreValue) → IsStore s → ComesLater s s
later_than_itself s is = record {
  distinct = is.paths;
  fits = is.versions;
  given = λ q b found. (found_kept s q b is found).given;
  later = omega arith;
  stays = λ q b found. inr found;
}

-- The path is that of the change, or another one.
pub by_path : {A : Type 0} (q path : Path) → (q ≡ path → A) → (q ≢ path → A) → A
by_path q path same other =
    either (same_path q path) (λ is. same (same_path_sound q path is))
    (λ no. other (λ is. apart_from q path no (sym is)))

change_later : (s t : StoreValue) (c : Change) → ComesLater s t → TakesChange t c → ComesLater s (changed t c)
change_later s t Nothing so takes = so
change_later s t (Put path format bytes) so takes =
    let n : StoreValue = changed t (Put path format bytes) in
    let new = λ (q : Path) (b : Representation) (found : found_in n.resources q ≡ Some b) (is : q ≡ path).
    ap (λ r. r.version) (same_Some _ _ (sym (put_is_stored t path format bytes) ∙ rw is at found)) in
    let old = λ (q : Path) (b : Representation) (found : found_in n.resources q ≡ Some b) (apart : q ≢ path).
    sym (other_is_kept_on_put t path q format bytes apart) ∙ found in
    record {
      distinct = distinct_stays t (Put path format bytes) so.distinct;
      fits = takes.version_left;
      given = λ q b found. by_path q path (λ is. omega (arith, new q b found is))
          (λ apart. omega (arith, so.given q b (old q b found apart)));
      later = omega (arith, so.later);
      stays = λ q b found. by_path q path (λ is. inl (omega (arith, so.later, new q b found is)))
          (λ apart. so.stays q b (old q b found apart));
    }
change_later s t (Delete path) so takes =
    let n : StoreValue = changed t (Delete path) in
    let old : (q : Path) (b : Representation) → found_in n.resources q ≡ Some b → found_in t.resources q ≡ Some b =
    λ q b found. grind (arith, by_path, none-some, deleted_is_gone, other_is_kept_on_delete) in
    record {
      distinct = distinct_stays t (Delete path) so.distinct;
      fits = so.fits;
      given = λ q b found. so.given q b (old q b found);
      later = so.later;
      stays = λ q b found. so.stays q b (old q b found);
    }

changes_later : (s t : StoreValue) (cs : List Change) → ComesLater s t → TakesChanges t cs
    → ComesLater s (changed_by t cs)
changes_later s t [] so takes = so
changes_later s t (c ∷ cs) so takes = changes_later s (changed t c) cs (change_later s t c so takes.0) takes.1

-- Representations stored before and after changes are the same, at the same path, if they have the same ETag.
pub later : (s : StoreValue) (cs : List Change) (p q : Path) (a b : Representation) → IsStore s → TakesChanges s cs
    → found_in s.resources p ≡ Some a → found_in (changed_by s cs).resources q ≡ Some b
    → etag_of a ≡ etag_of b → (p ≡ q) × (a ≡ b)
later s cs p q a b is takes at_p at_q same = grind (
  arith,
  changes_later,
  later_than_itself,
  etag_decides,
  stored_version_fits,
  found_kept,
  one_version,
  is.own_versions,
)

-- A new representation has a larger version than each stored one.
pub newer : (s : StoreValue) (path other : Path) (format : Option ℕ) (bytes : List ℕ) (old new : Representation)
    → IsStore s → found_in s.resources other ≡ Some old
    → found_in (changed s (Put path format bytes)).resources path ≡ Some new → old.version < new.version
newer s path other format bytes old new is before after =
    let now = same_Some _ _ (sym (put_is_stored s path format bytes) ∙ after) in
    omega (arith, (found_kept s other old is before).given, ap (λ r. r.version) now)

pub ruleset versions_come_once_steps = (newer, together, later)
