use Rattle.std.proofs.Common.{length, get_or, [], sym, ap, ◌∙◌, arith}
use Rattle.coap_store.specs.Prelude.{resources_in, head_of, texts_of, end_bytes}
use Rattle.coap_store.proofs.CatalogueLemmas.{equal_format}
use Rattle.coap_store.proofs.LinkLemmas.{end_within}
use Rattle.coap_store.proofs.ListingLemmas.{entry_of, text_at, texts_kept}
use Rattle.coap_store.proofs.catalogue.replace.Goals as goal

pub returns-then-eq-clause-listed : goal.returns-then-eq-clause-listed
returns-then-eq-clause-listed c =
    let entries = c.args.resources.now.entries in
    let found = entry_of entries c.args.index c.format_at-old.result c.format_at-old.ensures in
    let same = sym found.2 ∙ equal_format _ _ (sym c.eq.ensures ∙ c.if-eq.true) in
    c.requires.listed
    ∙ sym (grind (arith, texts_kept, c.args.index, c.args.resource))
    ∙ ap (λ es. texts_of (head_of c.args.listing.now) (resources_in es)) (sym c.write_at.ensures)

pub replace_end-requires-clause-within : goal.replace_end-requires-clause-within
replace_end-requires-clause-within c =
    let entries = c.args.resources.now.entries in
    let found = entry_of entries c.args.index c.format_at-old.result c.format_at-old.ensures in
    let text = (λ i. get_or (c.requires.listed i) (c.text_index-text.ensures i) [])
    ∙ text_at (head_of c.args.listing.now) entries c.args.index found.0 found.1 in
    let count = c.len.ensures.value ∙ ap length c.entry_end.ensures ∙ ap (λ f. length (end_bytes f)) found.2 in
    omega (arith, count, ap length text, end_within found.0.0 found.0.1.format)
