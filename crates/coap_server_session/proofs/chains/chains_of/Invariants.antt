use Rattle.std.proofs.Common.{◌≡◌}
use Rattle.std.specs.Vec.{vec_capacity}
use Rattle.coap_server_session.proofs.values.ChainLemmas.{IsChaining}
use Rattle.coap_server_session.proofs.chains.chains_of.Given as goal

-- The observers before this one are linked.
abbrev pub invariant-loop-index : goal.invariant-loop-index
invariant-loop-index l =
    IsChaining l.index l.chains l.fn.observers.items l.observers.items
    × (vec_capacity l.observers ≡ vec_capacity l.fn.observers)
