-- The entries that the values of `--application` name.
use Rattle.std.proofs.Common.{◌≡◌, ◌∙◌, ◌<◌, ◌+◌, ◌++◌, ℕ, Bool, true, false, List, [], ◌∷◌, length, drop, get_or, map}
use Rattle.std.proofs.Common.{Option, Some, None, option_map, Result, Err, refl, sym, ap, append_assoc, append-nil}
use Rattle.std.proofs.lemmas.List.{at_drop_more}
use Rattle.coap_path.specs.Applications.{ApplicationsValue}
use Rattle.coap_command_line.specs.Prelude.{Bor, Text, GivesEntries, AddsText, codes_of, method_in, with_text}
use Rattle.coap_command_line.specs.Prelude.{with_texts}
use Rattle.coap_command_line.specs.ApplicationWords.{found_entries}
use Rattle.coap_command_line.specs.declared.arguments.applications.EntryFault.{EntryFault}
use Rattle.coap_command_line.specs.declared.arguments.applications.EntryFault.TheVariants as fault

-- ---- methods

module _ (all : Option (List ℕ)) (so_far : List ℕ) (name : Text) (names left : List Text)
    (same : all ≡ option_map (λ others. so_far ++ others) (codes_of left)) (parts : left ≡ name ∷ names) where
  -- The next name is that of no method.
  pub no_method : None ≡ method_in name → None ≡ all
  unfolding codes_of
  no_method none = sym (same ∙ rw (parts, ← none) refl)

  pub next_method : (code : ℕ) (next : List ℕ) → Some code ≡ method_in name → next ≡ so_far ++ code ∷ []
      → all ≡ option_map (λ others. next ++ others) (codes_of names)
  unfolding codes_of
  next_method code next some is =
      same ∙ rw (parts, ← some, is)
      (elim (codes_of names) as (λ o. option_map (λ others. so_far ++ others) (option_map (λ others. code ∷ others) o)
      ≡ option_map (λ others. (so_far ++ code ∷ []) ++ others) o) [
        | None ↦ refl
        | Some others ↦ ap Some (sym (append_assoc so_far (code ∷ []) others))
      ])

-- The last name.
pub last_method : (all : Option (List ℕ)) (so_far : List ℕ) (name : Text) (left : List Text)
    → all ≡ option_map (λ others. so_far ++ others) (codes_of left) → left ≡ name ∷ []
    → (code : ℕ) (next : List ℕ) → Some code ≡ method_in name → next ≡ so_far ++ code ∷ [] → Some next ≡ all
unfolding codes_of
last_method all so_far name left same parts code next some is =
    sym (next_method all so_far name [] left same parts code next some is ∙ ap Some (append-nil next))

-- ---- entries

module _ (v w : ApplicationsValue) (text : Text) (texts : List Text) (added : Bool) where
  goes_on : (o : Option ApplicationsValue) → with_text v text ≡ o → AddsText added v w o → added ≡ true
      → with_texts v (text ∷ texts) ≡ with_texts w texts
  unfolding with_texts
  goes_on None is adds so = absurd cc
  goes_on (Some u) is adds so = rw (is, adds.1) refl

  stops : (o : Option ApplicationsValue) → with_text v text ≡ o → AddsText added v w o → added ≡ false
      → with_texts v (text ∷ texts) ≡ Err text
  unfolding with_texts
  stops None is adds so = rw is refl
  stops (Some u) is adds so = absurd cc

module _ (all : Result ApplicationsValue Text) (texts : List (Bor Text)) (index : ℕ) (other : Bor Text)
    (v w : ApplicationsValue) (added : Bool) (within : index < length texts)
    (same : with_texts v (map (λ t. t.now) (drop index texts)) ≡ all)
    (adds : AddsText added v w (with_text v (get_or texts index other).now)) where
  abbrev text : Text
  text = (get_or texts index other).now

  abbrev later : List Text
  later = map (λ t. t.now) (drop (index + 1) texts)

  here : with_texts v (text ∷ later) ≡ all
  here = sym (at_drop_more (λ left. with_texts v (map (λ t. t.now) left)) texts index other within) ∙ same

  -- An entry was added.
  pub entry_added : added ≡ true → with_texts w later ≡ all
  entry_added so = sym (goes_on v w text later added (with_text v text) refl adds so) ∙ here

  -- A text names no entry.
  pub entry_refused : added ≡ false → all ≡ Err text
  entry_refused so = sym here ∙ stops v w text later added (with_text v text) refl adds so

pub found_refused : (answer : Result ApplicationsValue Text) (why : EntryFault)
    → GivesEntries {A = ApplicationsValue} answer (Err why)
    → GivesEntries {A = Option ApplicationsValue} (found_entries answer) (Err why)
found_refused answer (fault.Refused text) is = ap found_entries is
found_refused answer fault.Memory is = tt
