use Rattle.std.proofs.Common.{sym, ◌∙◌, arith}
use Rattle.directory_registry.specs.Prelude.{registry_of, removed, packed}
use Rattle.directory_registry.proofs.EntryLemmas.{ascends_from, each_lookup, each_map, each_both, each_remove}
use Rattle.directory_registry.proofs.EntryLemmas.{number_other}
use Rattle.directory_registry.proofs.RegistryLemmas.{packed_same}
use Rattle.directory_registry.proofs.StoreLemmas.{IsOnly, Kept, only_present, others_indexed}
use Rattle.directory_registry.proofs.ChangeLemmas.{location_viewed, removed_view, absent_removal, after_remove}
use Rattle.directory_registry.proofs.registry.Registry.remove.Goals as goal

pub returns-in_default-clause-found : goal.returns-in_default-clause-found
unfolding registry_of
returns-in_default-clause-found c =
    rw (
      ← c.self.view_is,
      location_viewed _ _ _ c.args.number _ c.self.invariant.indexed,
      ← c.remove.ensures.value,
      c.in_default.is,
    )

pub returns-in_default-clause-after : goal.returns-in_default-clause-after
unfolding registry_of removed
returns-in_default-clause-after c =
    let none = sym c.remove.ensures.value ∙ c.in_default.is in
    rw (
      c.in_default.ensures.unchanged,
      ← c.self.view_is,
      absent_removal _ _ _ c.args.number _ c.self.invariant.indexed none,
    )

pub invariant_of-self-2 : goal.invariant_of-self-2
invariant_of-self-2 c =
    let there = sym c.remove.ensures.value ∙ c.in-Some.is in
    let one = each_lookup _ c.args.number _ _ c.self.invariant.indexed there in
    let only = each_map _ (IsOnly c.in-Some.stored.key.items c.args.number)
    (only_present c.in-Some.stored.key.items c.args.number _ _ _ one.key) _ c.self.invariant.indexed in
    let kept : Kept c.in-Some.stored.key.items c.args.number c.self.inside.numbers.entries
    c.swap_remove.new.self.entries c.self.inside.labels.entries c.remove-2.new.self.entries = record {
      numbers = λ k h. c.swap_remove.ensures.updates.2 k h;
      labels = λ l m small other.
          c.remove-2.ensures.updates.2 (packed l m)
          (number_other _ _ (λ i. other (packed_same _ l _ m one.found.small small (sym c.pack.ensures ∙ i))));
    } in
    record {
      ordered = c.remove.ensures.ordered;
      indexed = rw c.in-Some.ensures.entries
          (each_remove _ _ c.args.number
          (others_indexed c.in-Some.stored.key.items c.args.number _ _ _ _ _ _ kept (omega arith)) _
          (ascends_from _ c.self.invariant.ordered) (each_both _ _ _ c.self.invariant.indexed only));
      earliest = rw c.in-Some.ensures.entries (after_remove _ c.args.number _ c.self.invariant.earliest);
    }

pub returns-clause-found : goal.returns-clause-found
unfolding registry_of
returns-clause-found c =
    rw (
      ← c.self.view_is,
      location_viewed _ _ _ c.args.number _ c.self.invariant.indexed,
      ← c.remove.ensures.value,
      c.in-Some.is,
    )

pub returns-clause-after : goal.returns-clause-after
unfolding registry_of removed
returns-clause-after c =
    rw (c.in-Some.ensures.entries, ← c.self.view_is, removed_view _ _ _ c.args.number _ c.self.invariant.indexed)
