use Rattle.std.proofs.Common.{◌≡◌, sym, ◌∙◌, ap, subst, Some, refl, arith, ℕ, option_map}
use Rattle.std.specs.Map.{lookup}
use Rattle.directory_registry.specs.Prelude.{registry_of, updated, renewed}
use Rattle.directory_registry.specs.Prelude.{RegistrationValue}
use Rattle.directory_registry.specs.Prelude.{registration_label, is_number, packed}
use Rattle.directory_registry.specs.declared.registration.Stored.{Stored}
use Rattle.directory_registry.proofs.EntryLemmas.{ascends_from, each_lookup, each_set}
use Rattle.directory_registry.proofs.RegistryLemmas.{views, Indexed}
use Rattle.directory_registry.proofs.ChangeLemmas.{location_viewed, changed_view, absent_change, after_change}
use Rattle.directory_registry.proofs.registry.Registry.update.Goals as goal

pub returns-in_default-clause-found : goal.returns-in_default-clause-found
unfolding registry_of
returns-in_default-clause-found c =
    rw (← c.self.view_is, location_viewed _ _ _ c.args.number _ c.self.invariant.indexed, ← c.in_default.ensures.value)

pub returns-in_default-clause-after : goal.returns-in_default-clause-after
unfolding registry_of updated
returns-in_default-clause-after c =
    let same = absent_change (renewed c.args.now c.args.lifetime (option_map (λ b. b.items) c.args.base)) _ _ _
    c.args.number _ c.self.invariant.indexed (sym c.in_default.ensures.value) in
    rw (← c.self.view_is, ap (λ m. views m.entries) c.get_mut.follows.holds-at-none, same)

pub invariant_of-self-2 : goal.invariant_of-self-2
invariant_of-self-2 c =
    let s : Stored = record { key = c.in-Some.stored.now.key; registration = c.change-deadline.new.registration } in
    let there = sym c.in-Some.ensures.value in
    let holds = c.get_mut.follows.holds s in
    let one = each_lookup _ c.args.number _ _ c.self.invariant.indexed there in
    let new : Indexed c.self.inside.next c.self.inside.numbers.entries c.self.inside.labels.entries (c.args.number, s) =
    record {
      number = ap (λ (r : RegistrationValue). r.number) c.change-deadline.ensures.after ∙ one.number;
      below = one.below;
      key = one.key;
      found = record {
        small = one.found.small;
        label = subst (λ (l : ℕ). lookup (is_number (packed l c.args.number)) c.self.inside.labels.entries ≡ Some
            c.args.number) (sym (ap registration_label c.change-deadline.ensures.after)) one.found.label;
      };
    } in
    record {
      ordered = holds.4;
      indexed = rw holds.0
          (each_set _ _ c.args.number s (λ e other i. i) new _ (ascends_from _ c.self.invariant.ordered)
          c.self.invariant.indexed);
      earliest = rw holds.0
          (after_change _ _ c.args.number s _ c.self.invariant.earliest c.earlier-self-inside.ensures.second
          (omega (arith, c.change-deadline.ensures.deadline, c.earlier-self-inside.ensures.first)));
    }

pub returns-clause-found : goal.returns-clause-found
unfolding registry_of
returns-clause-found c =
    rw (← c.self.view_is, location_viewed _ _ _ c.args.number _ c.self.invariant.indexed, ← c.in-Some.ensures.value)

pub returns-clause-after : goal.returns-clause-after
unfolding registry_of updated
returns-clause-after c =
    let s : Stored = record { key = c.in-Some.stored.now.key; registration = c.change-deadline.new.registration } in
    let made = changed_view (renewed c.args.now c.args.lifetime (option_map (λ b. b.items) c.args.base)) _ _ _
    c.args.number s _ refl c.change-deadline.ensures.after _ c.self.invariant.indexed (sym c.in-Some.ensures.value) in
    rw ((c.get_mut.follows.holds s).0, ← c.self.view_is, made)
