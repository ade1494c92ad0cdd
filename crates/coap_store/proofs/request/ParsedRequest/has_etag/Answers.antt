use Rattle.std.proofs.Common.{List, ℕ, ◌&&◌, rules, tests, ap, ◌∙◌}
use Rattle.coap_store.specs.Prelude.{list_any, CoapOption, coap_option, same_bytes, values_of}
use Rattle.std.proofs.lemmas.Iterator.Consumers.{YieldsList-from_first}
use Rattle.std.proofs.lemmas.Iterator.Search.{any_from_yields_List}
use Rattle.coap_wire.specs.OptionNumbers as numbers
use Rattle.coap_store.proofs.RequestLemmas.{has_number, value_passes}
use Rattle.coap_store.proofs.request.ParsedRequest.has_etag.Goals as goal

pub returns : goal.returns
returns c =
    let etag = c.uint_bytes-etag.result.items in
    rw (← c.uint_bytes-etag.ensures.bytes) (
    any_from_yields_List (λ (o : CoapOption). has_number numbers.etag o && same_bytes o.value etag) _ _ _
    c.any.ensures.ran (YieldsList-from_first coap_option (λ os. os) _ c.known.ensures)
    (λ x b q k. search (rules, tests))
    ∙ value_passes (λ (value : List ℕ). same_bytes value etag) numbers.etag c.self.inside.request.now
    ∙ ap (λ m. list_any (λ (value : List ℕ). same_bytes value etag) (values_of numbers.etag m)) c.self.view_is
    )
