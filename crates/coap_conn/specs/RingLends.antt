-- Defined by this project: the value of a ring buffer after a loan of all its bytes in one slice.
use Rattle.std.specs.Prelude.{ℕ, List}
use Rattle.std.specs.Borrow.{Fml, MutBor, RattleType, u8}
use Rattle.std.specs.contracts.alloc.Global.{the_row as global_row}
use Rattle.std.specs.contracts.impls.GlobalAllocator.TheImpl.{ghosts}
use Rattle.circular_buffer.specs.Buffer.{Buffer}
use Rattle.circular_buffer.specs.BufferLends.{lends_items}
use Rattle.circular_buffer.specs.contracts.heap.HeapCircularBuffer.{the_row}

-- The type `HeapCircularBuffer<u8>`.
abbrev pub ring_row : RattleType
ring_row = the_row u8 global_row ghosts

-- Holds if the bytes of the ring are those last written through the slice.
abbrev pub lends_bytes : MutBor (Buffer ℕ) → MutBor (List ℕ) → Fml
lends_bytes = lends_items u8 global_row ghosts
