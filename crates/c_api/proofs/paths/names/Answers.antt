use Rattle.std.proofs.Common.{Some, sym, ap, ◌∙◌}
use Rattle.coap_path.specs.Paths.{Path}
use Rattle.coap_path.proofs.PathLemmas.{keys_equal}
use Rattle.c_api.proofs.paths.names.Goals as goal

pub returns-in-Some-clause-yes : goal.returns-in-Some-clause-yes
returns-in-Some-clause-yes c = λ yes. sym c.path_in.ensures ∙ c.in-Some.is
    ∙ ap (λ (p : Path). Some p) ((keys_equal c.in-Some.found c.args.path.now).0 (sym c.eq.ensures ∙ yes))
