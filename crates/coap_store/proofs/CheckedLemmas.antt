-- The options of a request, each with a flag that states if it is recognised.
use Rattle.std.proofs.Common.{arith, ◌≡◌, Bool, not, ◌&&◌, List, [], ◌∷◌, refl}
use Rattle.coap_store.specs.Prelude.{is_some, list_any, is_critical, first_critical_in, recognised_in}
use Rattle.coap_store.specs.Prelude.{CheckedOptionValue, if◌then◌else◌}

abbrev pub has_bad : List CheckedOptionValue → Bool
has_bad cs = list_any (λ c. is_critical c.option && not c.recognised) cs

-- There is a critical option that is not recognised if and only if a first one is found.
pub bad_is_found : (cs : List CheckedOptionValue) → has_bad cs ≡ is_some (first_critical_in cs)
unfolding first_critical_in
bad_is_found [] = refl
bad_is_found (c ∷ cs) = grind (arith, bad_is_found cs)

pub recognised_turn : (c : CheckedOptionValue) (cs : List CheckedOptionValue)
    → recognised_in (c ∷ cs) ≡ (if c.recognised then c.option ∷ recognised_in cs else recognised_in cs)
unfolding recognised_in
recognised_turn c cs = grind arith

pub recognised_end : recognised_in [] ≡ []
unfolding recognised_in
recognised_end = refl

pub ruleset option_turns = (bad_is_found, recognised_turn, recognised_end)
