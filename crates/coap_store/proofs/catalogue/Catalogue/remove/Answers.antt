use Rattle.std.proofs.Common.{sym, subst, arith}
use Rattle.coap_store.specs.Catalogues.{CatalogueValue}
use Rattle.coap_store.specs.Prelude.{IsFoundAt}
use Rattle.coap_store.proofs.CatalogueLemmas.{found_place, place_within, removed_by_index}
use Rattle.coap_store.proofs.catalogue.Catalogue.remove.Goals as goal

pub remove_at-requires : goal.remove_at-requires
remove_at-requires c =
    place_within _ _ _ (subst (λ (k : CatalogueValue). IsFoundAt k.resources c.args.path.now c.in-Some.index)
    c.self.view_is (found_place c.self.inside.resources.entries c.args.path.now _ (sym c.in-Some.ensures.index)))

pub returns-in-Some : goal.returns-in-Some
returns-in-Some c = grind (
  arith,
  c.self.view_is,
  found_place,
  c.self.inside.resources.entries,
  removed_by_index,
  c.args.self.now.resources,
  c.in-Some.index,
)
