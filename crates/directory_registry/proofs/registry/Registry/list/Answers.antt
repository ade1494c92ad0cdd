use Rattle.directory_registry.specs.Prelude.{registry_of}
use Rattle.directory_registry.proofs.EntryLemmas.{each_map}
use Rattle.directory_registry.proofs.ChangeLemmas.{fold_view}
use Rattle.directory_registry.proofs.registry.Registry.list.Goals as goal

pub returns-in_default : goal.returns-in_default
unfolding registry_of
returns-in_default c = rw (← c.self.view_is, ← fold_view) c.offer_all.ensures

pub offer_candidates-requires-clause-labelled : goal.offer_candidates-requires-clause-labelled
offer_candidates-requires-clause-labelled c = each_map _ _ (λ e h. h.found) _ c.self.invariant.indexed

pub returns : goal.returns
unfolding registry_of
returns c = rw (← c.self.view_is, ← fold_view) c.offer_candidates.ensures
