-- Defined by this project: the value of an `OutQueue`, a queue of bytes for writing with a fixed capacity.
use Rattle.std.specs.Prelude.{◌≡◌, ℕ, ◌-◌, ◌≤◌, List, [], length, take}

-- The value of an `OutQueue`: its capacity in bytes (`bytes`), and the queued bytes (`waiting`).
pub record QueueValue : Type 0 where
  pub bytes : ℕ
  pub waiting : List ℕ

-- The invariant of `OutQueue`.
pub record IsQueue (q : QueueValue) : Type 0 where
  pub within : length q.waiting ≤ q.bytes

-- The number of bytes that can still be queued.
abbrev pub free_of : QueueValue → ℕ
free_of q = q.bytes - length q.waiting

-- Holds if `part` is a prefix of the queued bytes, with at least one byte if any are queued.
pub record IsNextPart (waiting part : List ℕ) : Type 0 where
  pub front : part ≡ take (length part) waiting
  pub some : part ≡ [] → waiting ≡ []
