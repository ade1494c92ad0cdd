use Rattle.std.proofs.Common.{ltb, arith, rules, tests}
use Rattle.std.proofs.lemmas.Iterator.{YieldsList-from_slice}
use Rattle.std.proofs.lemmas.Iterator.Search.{position_from_yields_List}
use Rattle.coap_client_request.specs.Prelude.{coap_options}
use Rattle.coap_client_request.proofs.RequestLemmas.{place_found, inserted, row_inserted}
use Rattle.coap_client_request.proofs.request.insert.Goals as goal

pub returns-clause-added : goal.returns-clause-added
returns-clause-added c =
    let os = c.args.options.now.items in
    let found = position_from_yields_List (λ o. ltb c.args.number o.number) _ _ c.position.result c.position.ensures.ran
    (YieldsList-from_slice os cc) (λ x b q k. search (rules, tests)) in
    rw c.insert.ensures.items (inserted _ os c.unwrap_or-place.result (place_found c.args.number os _ _ found cc))

pub returns-clause-row : goal.returns-clause-row
returns-clause-row c =
    let row =
    row_inserted 0 (record { number = c.args.number; value = c.args.value.now }) (coap_options c.args.options.now.items)
    (omega (arith, c.ranges.number), omega (arith, c.requires.short)) (omega arith) c.requires.row.ordered
    (omega (arith, c.requires.row.last)) c.requires.row.each in
    rw (returns-clause-added c) (record { ordered = row.0; last = row.1; each = row.2 })
