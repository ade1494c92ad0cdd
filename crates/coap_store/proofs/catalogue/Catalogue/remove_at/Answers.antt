use Rattle.std.proofs.Common.{length, sym, ap, ◌∙◌, arith}
use Rattle.std.specs.List.{remove}
use Rattle.coap_store.specs.Catalogues.{CatalogueValue}
use Rattle.coap_store.specs.Prelude.{resources_in, first_bytes, texts_of}
use Rattle.coap_store.proofs.CatalogueLemmas.{count_resources, removed_index}
use Rattle.coap_store.proofs.ListingLemmas.{texts_removed}
use Rattle.coap_store.proofs.catalogue.Catalogue.remove_at.Goals as goal

pub invariant_of-self : goal.invariant_of-self
invariant_of-self c =
    let entries = c.self.inside.resources.entries in
    record {
      short = c.self.invariant.short;
      listed = c.remove.ensures
          ∙ (λ i. remove (c.self.invariant.listed i) (c.text_index.ensures i))
          ∙ sym (texts_removed (first_bytes c.self.inside.applications) entries c.args.index (omega (
            arith,
            c.requires,
            ap (λ (k : CatalogueValue). length k.resources) c.self.view_is,
            count_resources entries,
          )))
          ∙ ap (λ es. texts_of (first_bytes c.self.inside.applications) (resources_in es))
          (sym c.shift_remove_index.ensures.entries);
    }

pub returns : goal.returns
returns c =
    ap (λ es. record { applications = c.self.inside.applications; resources = resources_in es })
    c.shift_remove_index.ensures.entries
    ∙ ap (λ rs. record { applications = c.self.inside.applications; resources = rs })
    (removed_index c.self.inside.resources.entries c.args.index)
    ∙ ap (λ (k : CatalogueValue). record k { resources = remove k.resources c.args.index }) c.self.view_is
