use Rattle.std.proofs.Common.{map, take}
use Rattle.coap_server_session.specs.Prelude.{AreFlagged, mark_in}
use Rattle.coap_server_session.proofs.observers.flags_of.Given as goal

-- The flags of the observers before this one are set.
abbrev pub invariant-loop-index : goal.invariant-loop-index
invariant-loop-index l = AreFlagged l.flags (map mark_in (take l.index l.observers))
