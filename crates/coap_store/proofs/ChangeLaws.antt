-- The answers that change a store, and the effect of a change.
use Rattle.std.proofs.Common.{◌≡◌, ◌≢◌, ℕ, ◌+◌, true, false, List, [], ◌∷◌, length, Option, Some, None, refl, sym, ap}
use Rattle.std.proofs.Common.{◌∙◌, arith, rules}
use Rattle.std.proofs.lemmas.Bool.{both_ways, cond_both, false_from_ne_true}
use Rattle.std.proofs.lemmas.Bool.Decides.{nat_tests}
use Rattle.coap_store.specs.Prelude.{is_some, Message, Path, same_path, Representation, StoreValue, found_in, put_at}
use Rattle.coap_store.specs.Prelude.{removed_at, state_of, path_of, Change, Nothing, Put, Delete, only, answer_of}
use Rattle.coap_store.specs.Prelude.{changed, immediate_answer, changes, says_change, AreDistinct}
use lib.Pointwise.{pointwise_decides, bytes_decides}
use Rattle.coap_store.specs.Store.{Resource}
use Rattle.coap_store.proofs.AnswerLaws.{is_error, change_without_hold, answer_holds, prompt_holds}
use Rattle.coap_path.proofs.PathLemmas.{same_path_sound}

-- ---- storing and removing

other_path : (p q : Path) → p ≢ q → same_path p q ≡ false
other_path p q apart = false_from_ne_true _ (λ e. apart (same_path_sound p q e))

-- Paths that do not compare equal are different.
pub apart_from : (p q : Path) → same_path p q ≡ false → q ≢ p
apart_from p q e same = both_ways _ e ((pointwise_decides bytes_decides p q).1 (sym same))

found_put : (rs : List Resource) (path : Path) (now : Representation) → found_in (put_at rs path now) path ≡ Some now
unfolding found_in put_at
found_put [] path now = rw ((pointwise_decides bytes_decides path path).1 refl)
found_put (r ∷ rs) path now = grind (arith, found_put rs path now)

pub other_put : (rs : List Resource) (path q : Path) (now : Representation) → q ≢ path
    → found_in (put_at rs path now) q ≡ found_in rs q
unfolding found_in put_at
other_put [] path q now apart = rw (other_path q path apart) refl
other_put (r ∷ rs) path q now apart =
    grind (arith, same_path_sound path r.path, other_path q path apart, other_put rs path q now apart)

pub other_removed : (rs : List Resource) (path q : Path) → q ≢ path → found_in (removed_at rs path) q ≡ found_in rs q
unfolding found_in removed_at
other_removed [] path q apart = refl
other_removed (r ∷ rs) path q apart =
    grind (arith, same_path_sound path r.path, other_path q path apart, other_removed rs path q apart)

-- If no path occurs twice, a removed path is absent.
found_removed : (rs : List Resource) (path : Path) → AreDistinct rs → found_in (removed_at rs path) path ≡ None
unfolding found_in removed_at
found_removed [] path distinct = refl
found_removed (r ∷ rs) path distinct =
    grind (arith, same_path_sound path r.path, distinct.0, found_removed rs path distinct.1)

pub put_distinct : (rs : List Resource) (path : Path) (now : Representation) → AreDistinct rs
    → AreDistinct (put_at rs path now)
unfolding found_in put_at
put_distinct [] path now distinct = (refl, tt)
put_distinct (r ∷ rs) path now distinct =
    grind (arith, cond_both, other_put, apart_from, put_distinct rs path now distinct.1)

pub removed_distinct : (rs : List Resource) (path : Path) → AreDistinct rs → AreDistinct (removed_at rs path)
unfolding removed_at
removed_distinct [] path distinct = tt
removed_distinct (r ∷ rs) path distinct =
    grind (arith, cond_both, other_removed, apart_from, removed_distinct rs path distinct.1)

-- ---- a change

pub put_is_stored : (s : StoreValue) (path : Path) (format : Option ℕ) (bytes : List ℕ)
    → found_in (changed s (Put path format bytes)).resources path
    ≡ Some (record { version = s.versions + 1; format = format; bytes = bytes })
put_is_stored s path format bytes =
    found_put s.resources path (record { version = s.versions + 1; format = format; bytes = bytes })

pub other_is_kept_on_put : (s : StoreValue) (path q : Path) (format : Option ℕ) (bytes : List ℕ) → q ≢ path
    → found_in (changed s (Put path format bytes)).resources q ≡ found_in s.resources q
other_is_kept_on_put s path q format bytes apart =
    other_put s.resources path q (record { version = s.versions + 1; format = format; bytes = bytes }) apart

pub other_is_kept_on_delete : (s : StoreValue) (path q : Path) → q ≢ path
    → found_in (changed s (Delete path)).resources q ≡ found_in s.resources q
other_is_kept_on_delete s path q apart = other_removed s.resources path q apart

pub deleted_is_gone : (s : StoreValue) (path : Path) → AreDistinct s.resources
    → found_in (changed s (Delete path)).resources path ≡ None
deleted_is_gone s path distinct = found_removed s.resources path distinct

pub distinct_stays : (s : StoreValue) (c : Change) → AreDistinct s.resources → AreDistinct (changed s c).resources
distinct_stays s Nothing distinct = distinct
distinct_stays s (Put path format bytes) distinct =
    put_distinct s.resources path (record { version = s.versions + 1; format = format; bytes = bytes }) distinct
distinct_stays s (Delete path) distinct = removed_distinct s.resources path distinct

pub unchanged : (s : StoreValue) (c : Change) → changes c ≡ false → changed s c ≡ s
unchanged s Nothing e = refl
unchanged s (Put path format bytes) e = absurd cc
unchanged s (Delete path) e = absurd cc

-- Removing a path that is found leaves one resource less.
length_removed : (rs : List Resource) (path : Path) → is_some (found_in rs path) ≡ true
    → length (removed_at rs path) + 1 ≡ length rs
unfolding found_in removed_at
length_removed [] path e = absurd cc
length_removed (r ∷ rs) path e = grind (arith, length_removed rs path)

-- A change removes only a resource that exists.
abbrev DeletesStored : StoreValue → Change → Type 0
DeletesStored s Nothing = Unit {0}
DeletesStored s (Put path format bytes) = Unit {0}
DeletesStored s (Delete path) = is_some (found_in s.resources path) ≡ true

-- A change increases the last version or decreases the number of resources.
other_store : (s : StoreValue) (c : Change) → DeletesStored s c → changes c ≡ true → changed s c ≢ s
other_store s Nothing found e same = absurd cc
other_store s (Put path format bytes) found e same = omega (arith, ap (λ v. v.versions) same)
other_store s (Delete path) found e same =
    omega (arith, length_removed s.resources path found, ap (λ v. length v.resources) same)

-- ---- a store changes if and only if the response states it

deletes_stored : (s : StoreValue) (now : ℕ) (m : Message) → DeletesStored s (answer_of s now m).change
deletes_stored s now m = answer_holds (λ a. DeletesStored s a.change) s now m (search rules)

-- No error response states that the store changes.
error_says_none : (c : ℕ) (state : Option Representation) → is_error c ≡ true → false ≡ says_change (only c) state
error_says_none c state e = grind (arith, nat_tests)

pub changes_where : (s : StoreValue) (now : ℕ) (m : Message)
    → changes (answer_of s now m).change ≡ says_change (answer_of s now m).response (state_of s now (path_of m))
changes_where s now m =
    answer_holds (λ a. changes a.change ≡ says_change a.response (state_of s now (path_of m))) s now m
    (search (rules, error_says_none))

delayed_changes_nothing : (s : StoreValue) (now : ℕ) (m : Message) (seconds : ℕ)
    → (answer_of s now m).hold ≡ Some seconds → (answer_of s now m).change ≡ Nothing
delayed_changes_nothing s now m seconds =
    answer_holds (λ a. a.hold ≡ Some seconds → a.change ≡ Nothing) s now m (search rules)

pub prompt_changes_where : (s : StoreValue) (now : ℕ) (m : Message) → changes (immediate_answer s now m).change
    ≡ says_change (immediate_answer s now m).response (state_of s now (path_of m))
unfolding immediate_answer
prompt_changes_where s now m = grind (arith, prompt_holds, changes_where, delayed_changes_nothing)

pub said : (s : StoreValue) (now : ℕ) (m : Message)
    → says_change (answer_of s now m).response (state_of s now (path_of m)) ≡ true
    → changed s (answer_of s now m).change ≢ s
said s now m says = other_store s _ (deletes_stored s now m) (changes_where s now m ∙ says)

pub not_said : (s : StoreValue) (now : ℕ) (m : Message)
    → says_change (answer_of s now m).response (state_of s now (path_of m)) ≡ false
    → changed s (answer_of s now m).change ≡ s
not_said s now m says = unchanged s _ (changes_where s now m ∙ says)

pub said_promptly : (s : StoreValue) (now : ℕ) (m : Message)
    → says_change (immediate_answer s now m).response (state_of s now (path_of m)) ≡ true
    → changed s (immediate_answer s now m).change ≢ s
unfolding immediate_answer
said_promptly s now m says = grind (arith, other_store, change_without_hold, deletes_stored, prompt_changes_where)

pub not_said_promptly : (s : StoreValue) (now : ℕ) (m : Message)
    → says_change (immediate_answer s now m).response (state_of s now (path_of m)) ≡ false
    → changed s (immediate_answer s now m).change ≡ s
not_said_promptly s now m says = unchanged s _ (prompt_changes_where s now m ∙ says)

pub ruleset other_paths_stay_steps = (other_is_kept_on_put, other_is_kept_on_delete)
