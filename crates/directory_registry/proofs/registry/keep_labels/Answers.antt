use Rattle.std.proofs.Common.{rules, is_some}
use Rattle.std.specs.Map.{lookup}
use Rattle.indexmap.proofs.CallerLemmas.{filter-RetainsPairs}
use Rattle.directory_registry.specs.Prelude.{is_number}
use Rattle.directory_registry.proofs.registry.keep_labels.Goals as goal

pub returns : goal.returns
returns c = filter-RetainsPairs _ (λ e. is_some (lookup (is_number e.1) c.args.entries.now.entries)) _
    (λ k v b w g call. search rules) c.args.labels.now.entries c.retain.new.self.entries c.retain.ensures.filtered
