use Rattle.std.proofs.Common.{◌≡◌, sym, ◌∙◌, Some, refl, arith, ◌<◌, ◌^◌}
use Rattle.std.specs.Map.{lookup}
use Rattle.directory_registry.specs.Prelude.{registry_of, attributed, with_attributes}
use Rattle.directory_registry.specs.Prelude.{registration_label, registration_of, is_number, packed}
use Rattle.directory_registry.specs.declared.registration.Stored.{Stored}
use Rattle.directory_registry.proofs.EntryLemmas.{ascends_from, each_lookup, each_set, number_other}
use Rattle.directory_registry.proofs.RegistryLemmas.{any_err, Indexed, packed_same, packed_label}
use Rattle.directory_registry.proofs.ChangeLemmas.{location_viewed, changed_view, absent_change, forgot, after_change}
use Rattle.directory_registry.proofs.ChangeLemmas.{after_there}
use Rattle.directory_registry.proofs.registry.Registry.set_attributes.Goals as goal

pub returns-in_default-clause-found : goal.returns-in_default-clause-found
unfolding registry_of
returns-in_default-clause-found c =
    rw (← c.self.view_is, location_viewed _ _ _ c.args.number _ c.self.invariant.indexed, ← c.in_default.ensures.value)

pub returns-in_default-clause-ok : goal.returns-in_default-clause-ok
unfolding registry_of attributed
returns-in_default-clause-ok c =
    rw (
      ← c.self.view_is,
      absent_change (with_attributes c.args.attributes) _ _ _ c.args.number _ c.self.invariant.indexed
          (sym c.in_default.ensures.value),
    )

pub returns-in_err-insert-clause-err : goal.returns-in_err-insert-clause-err
unfolding registry_of
returns-in_err-insert-clause-err c = any_err c.from_residual.result _ c.self.view_is

pub invariant_of-self-2 : goal.invariant_of-self-2
invariant_of-self-2 c =
    let old : Stored = c.in-Some-get_mut.stored.now in
    let s : Stored = record { key = old.key; registration = record old.registration { attributes = c.args.attributes } }
    in
    let small : c.args.number < 2 ^ 64 = omega (arith, c.ranges.number) in
    let there : lookup (is_number c.args.number) c.self.inside.entries.entries ≡ Some old =
    sym c.in-Some-get_mut.ensures.value in
    let first : lookup (is_number c.args.number) c.self.inside.entries.entries ≡ Some c.in-Some.stored.now =
    sym c.in-Some.ensures.value in
    let same : c.in-Some.stored.now ≡ old = cc (first, there) in
    let holds = c.get_mut.follows.holds s in
    let one = each_lookup _ c.args.number _ old c.self.invariant.indexed there in
    let label : c.label_of_parts-label.result ≡ registration_label (registration_of s.registration) =
    rw same at c.label_of_parts-label.ensures.value in
    let labelled = forgot (Some c.label_of-old.result) c.label_of_parts-label.result c.args.number
    (packed c.label_of_parts-label.result c.args.number) c.insert.new.self.entries
    (λ o d e. d (packed_label o _ c.args.number e)) in
    let new : Indexed c.self.inside.next c.self.inside.numbers.entries c.forget_other.new.labels.entries
    (c.args.number, s) = record {
      number = one.number;
      below = one.below;
      key = one.key;
      found = record {
        small = one.found.small;
        label = rw (← label, c.forget_other.ensures, labelled, ← c.pack.ensures) c.in_ok-insert.ensures.updates.1;
      };
    } in
    record {
      ordered = holds.4;
      indexed = rw holds.0
          (each_set _ _ c.args.number s
          (λ e other i. record {
            number = i.number;
            below = i.below;
            key = i.key;
            found = record {
              small = i.found.small;
              label =
                  let q = packed (registration_label (registration_of e.1.registration)) e.0 in
                  rw c.forget_other.ensures (forgot (Some c.label_of-old.result) c.label_of_parts-label.result
                  c.args.number q c.insert.new.self.entries
                  (λ o d h. other (packed_same o _ _ e.0 small i.found.small h))
                  ∙ c.in_ok-insert.ensures.updates.2 q
                  (number_other _ _ (λ h. other (packed_same _ _ _ e.0 small i.found.small (sym c.pack.ensures ∙ h))))
                  ∙ i.found.label);
            };
          })
          new _ (ascends_from _ c.self.invariant.ordered) c.self.invariant.indexed);
      earliest = rw holds.0
          (after_change c.self.inside.earliest c.self.inside.earliest c.args.number s _ c.self.invariant.earliest
          (omega arith)
          (after_there _ c.args.number old _ c.self.invariant.earliest there));
    }

pub returns-clause-found : goal.returns-clause-found
unfolding registry_of
returns-clause-found c =
    rw (
      ← c.self.view_is,
      location_viewed _ _ _ c.args.number _ c.self.invariant.indexed,
      ← c.in-Some-get_mut.ensures.value,
    )

pub returns-clause-ok : goal.returns-clause-ok
unfolding registry_of attributed
returns-clause-ok c =
    let old : Stored = c.in-Some-get_mut.stored.now in
    let s : Stored = record { key = old.key; registration = record old.registration { attributes = c.args.attributes } }
    in
    let made = changed_view (with_attributes c.args.attributes) _ _ _ c.args.number s old refl refl _
    c.self.invariant.indexed (sym c.in-Some-get_mut.ensures.value) in
    rw ((c.get_mut.follows.holds s).0, ← c.self.view_is, made)
