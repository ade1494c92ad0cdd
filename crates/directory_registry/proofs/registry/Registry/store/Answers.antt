use Rattle.std.proofs.Common.{◌∙◌, sym, ap, refl, arith, ◌<◌, ◌^◌, option_map}
use Rattle.std.specs.Map.{lookup}
use Rattle.directory_registry.specs.Prelude.{registry_of, registered, registration_of, registration_label}
use Rattle.directory_registry.specs.Prelude.{next_location, packed, is_number}
use Rattle.directory_registry.specs.declared.registration.Stored.{Stored}
use Rattle.directory_registry.proofs.EntryLemmas.{ascends_from, each_map, number_other}
use Rattle.directory_registry.proofs.RegistryLemmas.{any_err, same, Indexed, packed_same}
use Rattle.directory_registry.proofs.RegistryLemmas.{packed_label}
use Rattle.directory_registry.proofs.StoreLemmas.{Kept, placed, next_above, stored_well, stored_view}
use Rattle.directory_registry.proofs.ChangeLemmas.{forgot, after_insert}
use Rattle.directory_registry.proofs.LabelLemmas.{labels_added}
use Rattle.directory_registry.proofs.registry.Registry.store.Goals as goal

pub returns-in_err-reserve-clause-err : goal.returns-in_err-reserve-clause-err
unfolding registry_of
returns-in_err-reserve-clause-err c = any_err c.from_residual.result _ c.self.view_is

pub returns-in_err-insert-clause-err : goal.returns-in_err-insert-clause-err
unfolding registry_of
returns-in_err-insert-clause-err c = any_err c.from_residual-in_err-insert.result _ c.self.view_is

pub invariant_of-self-in_err-old : goal.invariant_of-self-in_err-old
invariant_of-self-in_err-old c =
    let small : c.args.number < 2 ^ 64 = omega (arith, c.ranges.number) in
    let added = labels_added c.label_of-label.result c.args.number c.self.inside.labels.entries
    c.insert.new.self.entries small (λ q. rw (← c.pack.ensures) (c.in_ok-insert.ensures.updates.0 q)) in
    record {
      ordered = c.insert-2.ensures.ordered;
      indexed = rw (c.in_err-old.ensures.err, c.reserve.ensures.entries)
          (each_map _ _
          (λ e i. record { number = i.number; below = i.below; key = i.key; found = added e i.found })
          _ c.self.invariant.indexed);
      earliest = rw c.in_err-old.ensures.err c.self.invariant.earliest;
    }

pub returns-in_err-old-clause-err : goal.returns-in_err-old-clause-err
unfolding registry_of
returns-in_err-old-clause-err c =
    any_err c.from_residual-in_err-old.result _ (rw c.in_err-old.ensures.err c.self.view_is)

pub invariant_of-self-2 : goal.invariant_of-self-2
unfolding registry_of
invariant_of-self-2 c =
    let s : Stored = record { key = c.copy_of-copy.result; registration = c.args.registration } in
    let small : c.args.number < 2 ^ 64 = omega (arith, c.ranges.number) in
    let up = ascends_from _ c.self.invariant.ordered in
    let replaced = option_map (λ (t : Stored). registration_label (registration_of t.registration)) c.in_ok-old.old in
    let place = placed (registry_of c.self.inside) c.args.key.items c.args.number c.self.inside.numbers.entries _
    c.self.inside.entries.entries refl up c.self.invariant.indexed (rw (← c.self.view_is) at c.requires.place) in
    let above = next_above c.args.key.items c.args.number _ _ _ _ c.self.invariant.indexed place in
    let kept : Kept c.args.key.items c.args.number c.self.inside.numbers.entries c.insert-3.new.self.entries
    c.self.inside.labels.entries c.forget_label.new.labels.entries = record {
      numbers = λ k h. c.in-Ok.ensures.updates.2 k h ∙ ap (lookup (same k.items)) c.reserve.ensures.entries;
      labels = λ l m less other.
          ap (lookup (is_number (packed l m))) c.forget_label.ensures
          ∙ forgot replaced _ c.args.number (packed l m) _ (λ old d e. other (packed_same old l _ m small less e))
          ∙ c.in_ok-insert.ensures.updates.2 (packed l m)
          (number_other _ _ (λ i. other (packed_same _ l _ m small less (sym c.pack.ensures ∙ i))));
    } in
    let labelled = forgot replaced c.label_of-label.result c.args.number
    (packed c.label_of-label.result c.args.number) c.insert.new.self.entries
    (λ old d e. d (packed_label old _ c.args.number e)) in
    let new : Indexed (next_location c.self.inside.next c.args.number) c.insert-3.new.self.entries
    c.forget_label.new.labels.entries (c.args.number, s) = record {
      number = c.requires.number;
      below = above.0;
      key = rw c.copy_of-copy.ensures c.in-Ok.ensures.updates.1;
      found = record {
        small = small;
        label = rw (← c.label_of-label.ensures.value, c.forget_label.ensures, labelled, ← c.pack.ensures)
            c.in_ok-insert.ensures.updates.1;
      };
    } in
    record {
      ordered = c.insert-2.ensures.ordered;
      indexed = rw (c.in_ok-old.ensures.entries, c.next_after-next.ensures)
          (stored_well c.args.key.items c.args.number _ _ s _ _ _ _ _ kept above.1 new up c.self.invariant.indexed
          place);
      earliest = rw c.in_ok-old.ensures.entries
          (after_insert _ _ c.args.number s _ c.self.invariant.earliest c.earlier-earliest.ensures.second
          c.earlier-earliest.ensures.first);
    }

pub returns-clause-ok : goal.returns-clause-ok
unfolding registered registry_of
returns-clause-ok c =
    let s : Stored = record { key = c.copy_of-copy.result; registration = c.args.registration } in
    let up = ascends_from _ c.self.invariant.ordered in
    let place = placed (registry_of c.self.inside) c.args.key.items c.args.number c.self.inside.numbers.entries _
    c.self.inside.entries.entries refl up c.self.invariant.indexed (rw (← c.self.view_is) at c.requires.place) in
    rw (
      ← c.self.view_is,
      c.in_ok-old.ensures.entries,
      stored_view c.args.key.items c.args.number _ s _ _ _ c.copy_of-copy.ensures up c.self.invariant.indexed place,
      c.next_after-next.ensures,
      c.requires.number,
    )
