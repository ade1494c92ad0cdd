use Rattle.std.proofs.Common.{refl, arith}
use Rattle.coap_store.specs.Prelude.{once, kind_of}
use Rattle.coap_wire.specs.OptionNumbers as numbers
use Rattle.coap_store.proofs.RequestLemmas.{value_fits}
use Rattle.coap_store.proofs.request.ParsedRequest.content_format.Goals as goal

pub small_value-requires : goal.small_value-requires
unfolding kind_of
small_value-requires c =
    value_fits numbers.content_format (once 0 2) c.self.inside.request.now c.in_ok-value.value.now refl
    (grind arith)
