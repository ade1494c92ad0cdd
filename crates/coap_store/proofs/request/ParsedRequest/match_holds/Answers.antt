use Rattle.std.proofs.Common.{◌≡◌, true, ◌&&◌, rules, tests, sym, ap, ◌∙◌}
use Rattle.std.proofs.lemmas.Iterator.Consumers.{YieldsList-from_first}
use Rattle.std.proofs.lemmas.Iterator.Search.{any_from_yields_List}
use Rattle.coap_store.specs.Prelude.{CoapOption, coap_option, match_holds}
use Rattle.coap_wire.specs.OptionNumbers as numbers
use Rattle.coap_store.proofs.RequestLemmas.{has_number, is_match, value_passes, match_of_version}
use Rattle.coap_store.proofs.request.ParsedRequest.match_holds.Goals as goal

pub returns : goal.returns
returns c state is =
    let requested : c.self.inside.known.now.has_if_match ≡ true = cc in
    any_from_yields_List
    (λ (o : CoapOption). has_number numbers.if_match o && is_match c.uint_bytes-etag.result.items o.value) _ _ _
    c.any.ensures.ran (YieldsList-from_first coap_option (λ os. os) _ c.known.ensures)
    (λ x b q k. search (rules, tests))
    ∙ value_passes (is_match c.uint_bytes-etag.result.items) numbers.if_match c.self.inside.request.now
    ∙ match_of_version state c.self.inside.request.now c.in-Some.version c.uint_bytes-etag.result.items
    (sym requested ∙ c.self.invariant.known.if_match) (sym c.in-Some.is ∙ is) c.uint_bytes-etag.ensures.bytes
    ∙ ap (match_holds state) c.self.view_is
