use Rattle.std.proofs.Common.{◌≡◌, ◌+◌, ◌++◌, take}
use Rattle.coap_wire.proofs.sink.Sink.append.Given as goal

-- The bytes before the index were appended, and the space is smaller by their number.
abbrev pub invariant-loop-byte : goal.invariant-loop-byte
invariant-loop-byte g l =
    (g.Self.Sink.contents l.self ≡ g.Self.Sink.contents l.fn.self ++ take l.byte-index l.bytes)
    × (g.Self.Sink.space l.self + l.byte-index ≡ g.Self.Sink.space l.fn.self)
