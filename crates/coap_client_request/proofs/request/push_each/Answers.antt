use Rattle.std.proofs.Common.{ℕ, List, Vec, Global, length, ap, arith}
use Rattle.coap_client_request.proofs.RequestLemmas.{short_part}
use Rattle.coap_client_request.proofs.request.push_each.Goals as goal

pub push-requires-clause-short : goal.push-requires-clause-short
push-requires-clause-short c =
    let short =
    short_part c.args.values.now c.loop-value.value-index c.value-item.result c.requires.short c.loop-value-test.true in
    omega (
      arith,
      short,
      c.as_slice.ensures.len,
      ap (λ (part : Vec ℕ Global). length part.items) c.value-item.is,
      ap (λ (bytes : List ℕ). length bytes) c.as_slice.ensures.value,
    )
