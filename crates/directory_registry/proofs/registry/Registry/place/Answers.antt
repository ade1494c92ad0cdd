use Rattle.std.proofs.Common.{sym, ◌∙◌, arith}
use Rattle.directory_registry.specs.Prelude.{registry_of}
use Rattle.directory_registry.proofs.EntryLemmas.{ascends_from}
use Rattle.directory_registry.proofs.RegistryLemmas.{place_there, place_absent, number_is, new_full, new_last, new_next}
use Rattle.directory_registry.proofs.RegistryLemmas.{length_view}
use Rattle.directory_registry.proofs.registry.Registry.place.Goals as goal

pub returns-in-Some : goal.returns-in-Some
unfolding registry_of
returns-in-Some c =
    let up = ascends_from _ c.self.invariant.ordered in
    let is = number_is c.args.key.now.items _ _ _ _ up c.self.invariant.indexed in
    rw (← c.self.view_is) (place_there (registry_of c.self.inside) _ _ (is ∙ sym c.number_of.ensures ∙ c.in-Some.is))

pub returns-then-len-self : goal.returns-then-len-self
unfolding registry_of
returns-then-len-self c =
    let up = ascends_from _ c.self.invariant.ordered in
    let is = number_is c.args.key.now.items _ _ _ _ up c.self.invariant.indexed in
    rw (← c.self.view_is) (new_full (registry_of c.self.inside)
    (omega (arith, length_view c.self.inside.entries.entries, c.len.ensures.len, c.if-len-self.true))
    ∙ place_absent (registry_of c.self.inside) _ (is ∙ sym c.number_of.ensures ∙ c.in_default.is))

pub returns-then-self : goal.returns-then-self
unfolding registry_of
returns-then-self c =
    let up = ascends_from _ c.self.invariant.ordered in
    let is = number_is c.args.key.now.items _ _ _ _ up c.self.invariant.indexed in
    rw (← c.self.view_is) (new_last (registry_of c.self.inside)
    (omega (arith, length_view c.self.inside.entries.entries, c.len.ensures.len, c.if-len-self.false)) c.if-self.true
    ∙ place_absent (registry_of c.self.inside) _ (is ∙ sym c.number_of.ensures ∙ c.in_default.is))

pub returns : goal.returns
unfolding registry_of
returns c =
    let up = ascends_from _ c.self.invariant.ordered in
    let is = number_is c.args.key.now.items _ _ _ _ up c.self.invariant.indexed in
    rw (← c.self.view_is) (new_next (registry_of c.self.inside)
    (omega (arith, length_view c.self.inside.entries.entries, c.len.ensures.len, c.if-len-self.false)) c.if-self.false
    ∙ place_absent (registry_of c.self.inside) _ (is ∙ sym c.number_of.ensures ∙ c.in_default.is))
