use Rattle.std.proofs.Common.{◌≡◌, ◌≤◌, ◌-◌, length}
use Rattle.coap_frame.specs.Prelude.{vec_capacity, IsTakenTo, declared_in, outline_of}
use Rattle.coap_frame.proofs.filling.fill_head.Given as goal

abbrev pub invariant-loop-known : goal.invariant-loop-known
invariant-loop-known l =
    record {
      taken : IsTakenTo l.fn.buffer.items l.piece l.buffer.items l.taken (declared_in l.known);
      outline : l.known ≡ outline_of l.buffer.items;
      room : 5 ≤ vec_capacity l.buffer;
      capacity : vec_capacity l.fn.buffer ≤ vec_capacity l.buffer;
    }

abbrev pub decreases-loop-known : goal.decreases-loop-known
decreases-loop-known l = length l.piece - l.taken
