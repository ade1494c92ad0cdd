use Rattle.std.proofs.Common.{rules}
use Rattle.indexmap.proofs.CallerLemmas.{filter-RetainsPairs}
use Rattle.directory_registry.specs.Prelude.{registry_of, expired}
use Rattle.directory_registry.proofs.ChangeLemmas.{none_ended, kept_view, kept_indexed, alive}
use Rattle.directory_registry.proofs.registry.Registry.expire.Goals as goal

pub returns-then-now-self : goal.returns-then-now-self
unfolding registry_of expired
returns-then-now-self c =
    rw (← c.self.view_is, ← none_ended c.args.now _ _ c.if-now-self.true c.self.invariant.earliest)

pub invariant_of-self : goal.invariant_of-self
invariant_of-self c =
    let kept = filter-RetainsPairs _ (alive c.args.now) _
    (λ k v b w g call. search rules) _ _ c.retain.ensures.filtered in
    record {
      ordered = c.retain.ensures.ordered;
      indexed = rw (c.keep_numbers.ensures, c.keep_labels.ensures, kept)
          (kept_indexed _ _ _ (alive c.args.now) _ c.self.invariant.indexed);
      earliest = c.earliest_deadline-self-inside.ensures;
    }

pub returns : goal.returns
unfolding registry_of expired
returns c =
    let kept = filter-RetainsPairs _ (alive c.args.now) _
    (λ k v b w g call. search rules) _ _ c.retain.ensures.filtered in
    rw (← c.self.view_is, kept, kept_view)
