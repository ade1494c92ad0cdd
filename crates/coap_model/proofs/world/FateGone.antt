-- A connection that does not exist has no requests, or it was dropped and its requests are those before the drop.
use Rattle.std.proofs.Common.{List, None, Some, [], ap, arith, inl, inr, map, refl, rules, subst, sym, ℕ, ◌++◌, ◌∙◌}
use Rattle.std.proofs.Common.{◌∷◌, ◌≡◌, ◌≢◌}
use Rattle.std.proofs.lemmas.Bool.{cases_eq, ne_eqb}
use Rattle.std.proofs.lemmas.List.{append-nil}
use Rattle.std.proofs.lemmas.Grind.{common_steps}
use Rattle.coap_model.specs.Prelude.{AcceptedCall, AllByRecursion, ApplicationRequest, AreAccepted, ConfigValues}
use Rattle.coap_model.specs.Prelude.{Connection, ConnectionEntry, IsAccepted, IsGone, LimitValues, Step, WasDropped}
use Rattle.coap_model.specs.Prelude.{World, acted, after_steps, given_in, given_on, if_there, later_steps, new_side}
use Rattle.coap_model.specs.Prelude.{requests_acted, requests_by, requests_on, requests_settled, requests_then, settled}
use Rattle.coap_model.specs.Prelude.{side_of, steps_by, steps_of, world_after}
use Rattle.coap_wire.proofs.NumberLaws.{none_or_some}
use Rattle.coap_model.specs.world.Events as event
use Rattle.coap_model.specs.world.World as world
use Rattle.coap_model.proofs.OptionLemmas.{none_made}
use Rattle.coap_model.proofs.world.WalkLaws.{there_or_not}
use Rattle.coap_model.proofs.world.PlaceLaws.{all_there, first_there, later_there, dropped_elsewhere, dropped_here}
use Rattle.coap_model.proofs.world.PlaceLaws.{none_mapped, other_more, still_there}
use Rattle.coap_model.proofs.world.AcrossLaws.{opened_there}
use Rattle.coap_model.proofs.world.StepLaws.{by_events, each_beyond, world_more, world_step}
use Rattle.coap_model.proofs.world.ReachedLaws.{on_one, step_keeps}
use Rattle.coap_model.proofs.world.FateGiven.{given_then}
use Rattle.coap_model.proofs.world.FateWalk.{acted_cases, requests_last}

-- ---- a connection that does not exist

-- The step does not open the connection.
abbrev OpensNot : ℕ → Step → Type 0
OpensNot id (world.Opened other) = other ≢ id
OpensNot id other = Unit {0}

step_gone : (limits : LimitValues) (id : ℕ) (w : World) (st : Step) → OpensNot id st → side_of id w.sides ≡ None
    → side_of id (world.step limits w st).sides ≡ None
step_gone limits id w st apart none = step_keeps (λ v. side_of id v.sides ≡ None) limits w none st (grind (
  arith,
  other_more,
  none_mapped,
  cases_eq,
  dropped_here,
  dropped_elsewhere,
))

acted_gone : (limits : LimitValues) (id : ℕ) (w : World) (st : Step) → OpensNot id st → side_of id w.sides ≡ None
    → side_of id (acted limits w st).sides ≡ None
unfolding world.step
acted_gone limits id w st apart none =
    let did : World = acted limits w st in
    none_made (settled did.store did.now) (side_of id did.sides)
    (sym (all_there id (settled did.store did.now) did.sides) ∙ step_gone limits id w st apart none)

-- It has the same requests after a step.
acted_same : (id : ℕ) (w : World) (st : Step) (rs : List ApplicationRequest) → OpensNot id st
    → side_of id w.sides ≡ None → requests_acted id w st rs ≡ rs
acted_same id w st rs apart none =
    acted_cases (λ qs. qs ≡ rs) id w st rs refl (λ is. absurd ((subst (OpensNot id) is apart) refl))
    (λ m s is there. absurd (none_or_some s (sym none ∙ there)))
    (λ m s is there. absurd (none_or_some s (sym none ∙ there)))

then_same : (id : ℕ) (w : World) (rs : List ApplicationRequest) → side_of id w.sides ≡ None → requests_then id w rs ≡ rs
unfolding requests_then
then_same id w rs none = ap (λ found. if_there found (requests_settled w.store w.now) rs) none

steps_same : (limits : LimitValues) (id : ℕ) (w : World) (ss : List Step) (rs : List ApplicationRequest)
    → AllByRecursion (OpensNot id) ss → side_of id w.sides ≡ None → requests_by limits id w ss rs ≡ rs
unfolding requests_by
steps_same limits id w [] rs apart none = refl
steps_same limits id w (s ∷ ss) rs apart none =
    steps_same limits id (world.step limits w s) ss (requests_then id (acted limits w s) (requests_acted id w s rs))
    apart.1 (step_gone limits id w s apart.0 none)
    ∙ then_same id (acted limits w s) (requests_acted id w s rs) (acted_gone limits id w s apart.0 none)
    ∙ acted_same id w s rs apart.0 none

-- ---- a connection that exists

-- The step does not drop the connection.
abbrev DropsNot : ℕ → Step → Type 0
DropsNot id (world.Dropped other) = other ≢ id
DropsNot id other = Unit {0}

-- The connection exists.
abbrev Exists : ℕ → List ConnectionEntry → Type 0
Exists id sides = (s : Connection) × (side_of id sides ≡ Some s)

some_mapped : (id : ℕ) (g : ConnectionEntry → ConnectionEntry) → ((p : ConnectionEntry) → (g p).id ≡ p.id)
    → (ps : List ConnectionEntry) → Exists id ps → Exists id (map g ps)
unfolding side_of
some_mapped id g keeps [] is = absurd cc
some_mapped id g keeps (p ∷ ps) is = elim (cases_eq p.id id) [
  | inl here ↦ ((g p).side, first_there id (g p) (map g ps) (keeps p ∙ here))
  | inr apart ↦ grind (arith, later_there, some_mapped id g keeps ps)
]

step_exists : (limits : LimitValues) (id : ℕ) (w : World) (st : Step) → DropsNot id st → Exists id w.sides
    → Exists id (world.step limits w st).sides
step_exists limits id w st stays is =
    step_keeps (λ v. Exists id v.sides) limits w is st (grind (arith, still_there, some_mapped, dropped_elsewhere))

steps_exist : (limits : LimitValues) (id : ℕ) (w : World) (ss : List Step) → AllByRecursion (DropsNot id) ss
    → Exists id w.sides → Exists id (after_steps limits w ss).sides
unfolding after_steps
steps_exist limits id w [] stays is = is
steps_exist limits id w (s ∷ ss) stays is =
    steps_exist limits id (world.step limits w s) ss stays.1 (step_exists limits id w s stays.0 is)

-- ---- events

-- The event does not open the connection.
abbrev OpensNotBy : ℕ → AcceptedCall → Type 0
OpensNotBy id (event.Opened other) = other ≢ id
OpensNotBy id other = Unit {0}

not_opened : (id M : ℕ) (es : List AcceptedCall) (e : AcceptedCall) → OpensNotBy id e
    → AllByRecursion (OpensNot id) (steps_by M es e)
unfolding steps_by
not_opened id M es (event.Opened other) apart = (apart, tt)
not_opened id M es (event.Took other bytes) apart = search (rules, each_beyond)
not_opened id M es e apart = (tt, tt)

-- The event does not drop the connection.
abbrev DropsNotBy : ℕ → AcceptedCall → Type 0
DropsNotBy id (event.Dropped other) = other ≢ id
DropsNotBy id other = Unit {0}

not_dropped : (id M : ℕ) (es : List AcceptedCall) (e : AcceptedCall) → DropsNotBy id e
    → AllByRecursion (DropsNot id) (steps_by M es e)
unfolding steps_by
not_dropped id M es (event.Dropped other) apart = (apart, tt)
not_dropped id M es (event.Took other bytes) apart = search (rules, each_beyond)
not_dropped id M es e apart = (tt, tt)

module _ (c : ConfigValues) (id : ℕ) where
  -- If the connection does not exist, it is gone.
  abbrev GoneAfter : List AcceptedCall → Type 0
  GoneAfter es = side_of id (world_after c es).sides ≡ None → IsGone c id es

  first_gone : GoneAfter []
  unfolding requests_on steps_of later_steps requests_by given_on
  first_gone none = inl (refl, refl)

  module _ (es : List AcceptedCall) (accepted : AreAccepted c es) (before : GoneAfter es) where
    abbrev w : World
    w = world_after c es

    abbrev rs : List ApplicationRequest
    rs = requests_on c id es

    -- The connection did not exist before, and does not after the event.
    remains : (e : AcceptedCall) → side_of id w.sides ≡ None → OpensNotBy id e → given_in id e ≡ []
        → IsGone c id (es ++ e ∷ [])
    remains e none apart nothing =
        grind (arith, common_steps, requests_last, steps_same, not_opened, given_then, append-nil)

    -- An event that opens it leaves it there.
    opened_exists : side_of id w.sides ≡ None → Exists id (world_after c (es ++ event.Opened id ∷ [])).sides
    unfolding steps_by
    opened_exists none = (
      settled w.store w.now (new_side c.limits),
      ap (λ (v : World). side_of id v.sides) (world_step c es (event.Opened id) (world.Opened id) refl)
          ∙ opened_there c.limits w id none,
    )

    still_gone : (e : AcceptedCall) → side_of id w.sides ≡ None → IsAccepted c es e
        → side_of id (world_after c (es ++ e ∷ [])).sides ≡ None → IsGone c id (es ++ e ∷ [])
    unfolding IsAccepted
    still_gone (event.Opened other) none own gone = search (rules, cases_eq, opened_exists, none_or_some, remains)
    still_gone (event.Responded other m) none own gone = search (rules, cases_eq, on_one, none_or_some, remains, ne_eqb)
    still_gone e none own gone = remains e none tt refl

    -- It existed before. So the event drops it.
    dropped_requests : requests_on c id (es ++ event.Dropped id ∷ []) ≡ rs
    unfolding steps_by requests_by requests_acted acted
    dropped_requests = search (rules, requests_last, then_same, dropped_here)

    just_dropped : (s : Connection) → side_of id w.sides ≡ Some s → WasDropped c id (es ++ event.Dropped id ∷ [])
    just_dropped s there = search (rules, dropped_requests, given_then, append-nil)

    never_gone : (e : AcceptedCall) (s : Connection) → side_of id w.sides ≡ Some s → DropsNotBy id e
        → side_of id (world_after c (es ++ e ∷ [])).sides ≡ None → ⊥
    never_gone e s there stays gone =
        let found = steps_exist c.limits id w (steps_by c.limits.max_message es e)
        (not_dropped id c.limits.max_message es e stays) (s, there) in
        none_or_some found.0 (sym gone ∙ ap (λ (v : World). side_of id v.sides) (world_more c es e) ∙ found.1)

    now_gone : (e : AcceptedCall) (s : Connection) → side_of id w.sides ≡ Some s
        → side_of id (world_after c (es ++ e ∷ [])).sides ≡ None → IsGone c id (es ++ e ∷ [])
    now_gone (event.Dropped other) s there gone = elim (cases_eq other id) [
      | inl here ↦ grind (arith, just_dropped)
      | inr apart ↦ absurd (never_gone (event.Dropped other) s there apart gone)
    ]
    now_gone e s there gone = absurd (never_gone e s there tt gone)

    event_gone : (e : AcceptedCall) → IsAccepted c es e → GoneAfter (es ++ e ∷ [])
    event_gone e own gone = search (rules, there_or_not, still_gone, now_gone)

-- After accepted events, a connection that does not exist has no requests, or it was dropped.
pub gone_or_dropped : (c : ConfigValues) (es : List AcceptedCall) (id : ℕ) → AreAccepted c es
    → side_of id (world_after c es).sides ≡ None → IsGone c id es
gone_or_dropped c es id accepted =
    by_events c (GoneAfter c id) (first_gone c id)
    (λ fs e before own is. event_gone c id fs before is e own) es accepted
