-- Defined by this project: the value of a `ReadBuffer` in contracts, which is the bytes read from a wire and
-- not accepted yet.
use Rattle.std.specs.Prelude.{◌≡◌, ℕ, ◌≤◌, ◌-◌, List, length, take, drop}
use Rattle.coap_io.specs.declared.read_buffer.ReadBuffer.TheInside.{Inside}
use Rattle.coap_io.specs.declared.read_buffer.TheConstants.{READ_SIZE}

-- The value of a `ReadBuffer`: the bytes of its buffer between `from` and `to`.
abbrev pub rest_value : Inside → List ℕ
rest_value r = take (r.to - r.from) (drop r.from r.buffer.items)

-- The invariant of `ReadBuffer`: both positions are within the buffer, which has `READ_SIZE` bytes.
abbrev pub is_rest : Inside → Type 0
is_rest r = (r.from ≤ r.to) × (r.to ≤ length r.buffer.items) × (length r.buffer.items ≡ READ_SIZE)
