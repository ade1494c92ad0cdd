use Rattle.std.proofs.lemmas.Map.{none_passes_from_lookup}
use Rattle.coap_serve.specs.Prelude.{released_at}
use Rattle.coap_serve.proofs.listener.RoundLemmas.{changed_without, changed_found, none_found}
use Rattle.coap_serve.proofs.door.removal.release_on.Goals as goal

pub returns-in_default : goal.returns-in_default
returns-in_default g c =
    changed_without (λ e. released_at c.args.now e.1) _
    (none_passes_from_lookup _ _ (none_found _ _ c.get_index_of.ensures.found c.in_default.is))

pub returns : goal.returns
returns g c =
    changed_found (λ e. released_at c.args.now e.1) _ _ c.in-Some.ensures.unique
    c.in-Some.ensures.index c.in-Some.ensures.within c.release_at.ensures
