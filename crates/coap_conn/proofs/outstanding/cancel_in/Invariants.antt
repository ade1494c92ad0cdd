use Rattle.std.proofs.Common.{◌≡◌, length, map, ◌++◌, take, drop}
use Rattle.coap_conn.specs.Prelude.{vec_capacity, with_cancelled, outstanding_value}
use Rattle.coap_conn.proofs.outstanding.cancel_in.Given as goal

abbrev pub invariant-loop-index : goal.invariant-loop-index
invariant-loop-index l =
    (map outstanding_value l.entries.items
    ≡ with_cancelled l.token (take l.index (map outstanding_value l.initial.entries.items))
    ++ drop l.index (map outstanding_value l.initial.entries.items))
    × (length l.entries.items ≡ length l.initial.entries.items)
    × (vec_capacity l.entries ≡ vec_capacity l.initial.entries)
