-- Lists of observers and the values that represent them change in the same way.
use Rattle.std.proofs.Common.{◌≡◌, ℕ, Bool, true, false, List, [], ◌∷◌, ◌++◌, map, refl, ap, ◌∙◌, arith, find, not}
use Rattle.std.proofs.Common.{option_map}
use Rattle.coap_server_session.specs.Prelude.{AllByRecursion, same_bytes, ObserverValue, without_entry, Observer}
use Rattle.coap_server_session.specs.Prelude.{without_token, with_entry, first_becomes, observer_shown}
use Rattle.std.proofs.lemmas.List.{map-append}
use Rattle.coap_model.proofs.world.EntryLemmas.{mapped_filter}

-- ---- the values of observers

pub without_shown : (token : List ℕ) (os : List Observer)
    → map observer_shown (without_token token os) ≡ without_entry token (map observer_shown os)
unfolding without_token without_entry
without_shown token os = mapped_filter observer_shown (λ (v : ObserverValue). not (same_bytes v.token token)) os

pub entered_shown : (enters : Bool) (os : List Observer) (o : Observer) (v : ObserverValue)
    → (enters ≡ true → observer_shown o ≡ v)
    → map observer_shown (with_entry enters os o) ≡ with_entry enters (map observer_shown os) v
entered_shown true os o v same =
    map-append observer_shown os (o ∷ []) ∙ ap (λ w. map observer_shown os ++ w ∷ []) (same refl)
entered_shown false os o v same = refl

-- Holds if a test of observers and a test of their values agree on a list.
abbrev pub TellTheSame : (Observer → Bool) → (ObserverValue → Bool) → List Observer → Type 0
TellTheSame due stale os = AllByRecursion (λ o. due o ≡ stale (observer_shown o)) os

pub found_shown : (due : Observer → Bool) (stale : ObserverValue → Bool) (os : List Observer) → TellTheSame due stale os
    → option_map observer_shown (find due os) ≡ find stale (map observer_shown os)
found_shown due stale [] same = refl
found_shown due stale (o ∷ os) same = grind (arith, same.0, found_shown due stale os same.1)

pub become_shown : (due : Observer → Bool) (stale : ObserverValue → Bool) (after os : List Observer)
    → TellTheSame due stale os → map observer_shown (first_becomes due after os)
    ≡ first_becomes stale (map observer_shown after) (map observer_shown os)
unfolding first_becomes
become_shown due stale after [] same = refl
become_shown due stale after (o ∷ os) same =
    grind (arith, same.0, map-append observer_shown after os, become_shown due stale after os same.1)
