-- Lists of options, one option after the other.
use Rattle.std.proofs.Common.{◌≡◌, Some, ℕ, zero, suc, ◌+◌, ◌-◌, ◌≤◌, ◌<◌, List, [], ◌∷◌, ◌++◌, length, get_or, take}
use Rattle.std.proofs.Common.{refl, append_assoc, arith}
use Rattle.std.proofs.lemmas.List.{append-nil, map_more, length-append}
use Rattle.coap_wire.specs.Prelude.{slice_get, AllByRecursion, OptionRef, CoapOption, AreOrdered, last_number}
use Rattle.coap_wire.specs.Prelude.{HasOptionForm, option_spelling, options_spelling, coap_option, coap_options}

-- ---- one more option at the end

-- The encoding of a list with one more option is that of the list, followed by that of the option.
pub spelling-push : (base : ℕ) (os : List CoapOption) (o : CoapOption) → options_spelling base (os ++ o ∷ [])
    ≡ options_spelling base os ++ option_spelling (last_number base os) o
spelling-push base [] o = append-nil (option_spelling base o)
spelling-push base (p ∷ os) o =
    cc (
      spelling-push p.number os o,
      append_assoc (option_spelling base p) (options_spelling p.number os)
          (option_spelling (last_number p.number os) o),
    )

pub last_number-push : (base : ℕ) (os : List CoapOption) (o : CoapOption) → last_number base (os ++ o ∷ []) ≡ o.number
last_number-push base [] o = refl
last_number-push base (p ∷ os) o = last_number-push p.number os o

-- A list stays in order with one more option at its end.
pub ordered-push : (base : ℕ) (os : List CoapOption) (o : CoapOption) → AreOrdered base os
    → last_number base os ≤ o.number → AreOrdered base (os ++ o ∷ [])
ordered-push base [] o ordered le = (le, tt)
ordered-push base (p ∷ os) o ordered le = (ordered.0, ordered-push p.number os o ordered.1 le)

pub forms-push : (os : List CoapOption) (o : CoapOption) → AllByRecursion HasOptionForm os → HasOptionForm o
    → AllByRecursion HasOptionForm (os ++ o ∷ [])
forms-push [] o each here = (here, tt)
forms-push (p ∷ os) o each here = (each.0, forms-push os o each.1 here)

-- ---- the first options of a list

-- The number of each option is not below that of the option before it.
pub ordered_at : (base : ℕ) (xs : List OptionRef) (i : ℕ) (x : OptionRef) → AreOrdered base (coap_options xs)
    → i < length xs → last_number base (coap_options (take i xs)) ≤ (get_or xs i x).number
ordered_at base [] i x ordered lt = absurd (omega arith)
ordered_at base (y ∷ ys) zero x ordered lt = ordered.0
ordered_at base (y ∷ ys) (suc i) x ordered lt = ordered_at y.number ys i x ordered.1 (omega arith)

-- Each option is in range.
pub form_at : (xs : List OptionRef) (i : ℕ) (x : OptionRef) → AllByRecursion HasOptionForm (coap_options xs)
    → i < length xs → HasOptionForm (coap_option (get_or xs i x))
form_at [] i x each lt = absurd (omega arith)
form_at (y ∷ ys) zero x each lt = each.0
form_at (y ∷ ys) (suc i) x each lt = form_at ys i x each.1 (omega arith)

pub spelling_more : (base : ℕ) (xs : List OptionRef) (i : ℕ) (x : OptionRef) → i < length xs
    → options_spelling base (coap_options (take (i + 1) xs)) ≡ options_spelling base (coap_options (take i xs))
    ++ option_spelling (last_number base (coap_options (take i xs))) (coap_option (get_or xs i x))
spelling_more base xs i x lt =
    rw (map_more coap_option xs i x lt) (spelling-push base (coap_options (take i xs)) (coap_option (get_or xs i x)))

pub last_number_more : (base : ℕ) (xs : List OptionRef) (i : ℕ) (x : OptionRef) → i < length xs
    → last_number base (coap_options (take (i + 1) xs)) ≡ (get_or xs i x).number
last_number_more base xs i x lt =
    rw (map_more coap_option xs i x lt) (last_number-push base (coap_options (take i xs)) (coap_option (get_or xs i x)))

-- The encoding of the first options is not longer than that of all.
pub spelling_of_front : (base : ℕ) (xs : List OptionRef) (i : ℕ)
    → length (options_spelling base (coap_options (take i xs))) ≤ length (options_spelling base (coap_options xs))
spelling_of_front base xs zero = omega arith
spelling_of_front base [] (suc i) = omega arith
spelling_of_front base (y ∷ ys) (suc i) = grind (arith, length-append, spelling_of_front y.number ys i)

-- The number of the last element is the number of the last option.
last_number_is : (base : ℕ) (x : OptionRef) (xs : List OptionRef) (o : OptionRef)
    → Some o ≡ slice_get (x ∷ xs) (length xs) → o.number ≡ last_number base (coap_options (x ∷ xs))
last_number_is base x [] o e = cc
last_number_is base x (y ∷ ys) o e = last_number_is x.number y ys o e

pub last_found : (xs : List OptionRef) (o : OptionRef) → Some o ≡ slice_get xs (length xs - 1)
    → o.number ≡ last_number 0 (coap_options xs)
last_found [] o e = cc
last_found (x ∷ xs) o e = let k : suc (length xs) - 1 ≡ length xs = omega arith in last_number_is 0 x xs o (rw k at e)

-- ---- writing one more option

spelling_longer : (xs : List OptionRef) (i base : ℕ) (x : OptionRef) → i < length xs
    → base ≡ last_number 0 (coap_options (take i xs))
    → length (options_spelling 0 (coap_options (take (i + 1) xs)))
    ≡ length (options_spelling 0 (coap_options (take i xs)))
    + length (option_spelling base (coap_option (get_or xs i x)))
spelling_longer xs i base x lt base_is =
    rw (base_is, spelling_more 0 xs i x lt) (length-append (options_spelling 0 (coap_options (take i xs))) _)

-- If there is space for all options, there is space for the next one.
pub room_for : (xs : List OptionRef) (i base space total : ℕ) (x : OptionRef) → i < length xs
    → base ≡ last_number 0 (coap_options (take i xs))
    → space + length (options_spelling 0 (coap_options (take i xs))) ≡ total
    → length (options_spelling 0 (coap_options xs)) ≤ total
    → length (option_spelling base (coap_option (get_or xs i x))) ≤ space
room_for xs i base space total x lt base_is so_far room =
    omega (arith, spelling_of_front 0 xs (i + 1), spelling_longer xs i base x lt base_is)

pub appended_more : (xs : List OptionRef) (i base : ℕ) (start old new : List ℕ) (x : OptionRef) → i < length xs
    → base ≡ last_number 0 (coap_options (take i xs)) → old ≡ start ++ options_spelling 0 (coap_options (take i xs))
    → new ≡ old ++ option_spelling base (coap_option (get_or xs i x))
    → new ≡ start ++ options_spelling 0 (coap_options (take (i + 1) xs))
appended_more xs i base start old new x lt base_is old_is new_is =
    rw (new_is, old_is, base_is, spelling_more 0 xs i x lt) (append_assoc start _ _)

pub room_more : (xs : List OptionRef) (i base old new total : ℕ) (x : OptionRef) → i < length xs
    → base ≡ last_number 0 (coap_options (take i xs))
    → old + length (options_spelling 0 (coap_options (take i xs))) ≡ total
    → new + length (option_spelling base (coap_option (get_or xs i x))) ≡ old
    → new + length (options_spelling 0 (coap_options (take (i + 1) xs))) ≡ total
room_more xs i base old new total x lt base_is so_far step = omega (arith, spelling_longer xs i base x lt base_is)
