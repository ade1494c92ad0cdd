use Rattle.std.proofs.Common.{◌≡◌}
use Rattle.std.specs.Vec.{vec_capacity}
use Rattle.coap_server_session.specs.Prelude.{next_index}
use Rattle.coap_server_session.proofs.values.ChainLemmas.{IsMarkedFrom}
use Rattle.coap_server_session.proofs.observers.mark_chain.Given as goal

-- The marks of the observers after this one are recomputed.
abbrev pub invariant-loop-at : goal.invariant-loop-at
invariant-loop-at l =
    IsMarkedFrom l.at l.cause l.shared l.fn.observers.items l.observers.items l.marked
    × (vec_capacity l.observers ≡ vec_capacity l.fn.observers)

abbrev pub decreases-loop-at : goal.decreases-loop-at
decreases-loop-at l = next_index l.at
