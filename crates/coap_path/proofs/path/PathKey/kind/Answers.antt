use Rattle.std.proofs.Common.{true, false, rules}
use Rattle.coap_path.specs.Prelude.{written}
use Rattle.coap_path.proofs.PlaceLemmas.{last_kind}
use Rattle.coap_path.proofs.path.PathKey.kind.Goals as goal

pub returns-then-eq-3 : goal.returns-then-eq-3
unfolding written
returns-then-eq-3 c =
    last_kind _ c.written-written.result.now true (search rules) (search rules) (search rules) (search rules)
    (search rules)

pub returns : goal.returns
unfolding written
returns c =
    last_kind _ c.written-written.result.now false (search rules) (search rules) (search rules) (search rules)
    (search rules)
