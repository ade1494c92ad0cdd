-- Defined by this project: durations of waits and of attempts to connect, in nanoseconds.
use Rattle.std.specs.Prelude.{ℕ, suc, ◌+◌, ◌-◌, ◌*◌, ◌/◌, ◌%◌, ◌==◌, min, max, Option, Some, None, if◌then◌else◌}
use Rattle.std.specs.Prelude.{Bool, false}
use Rattle.std.specs.Duration.{max_nanos}

-- One second.
abbrev pub second : ℕ
second = 1_000_000_000

-- The time until `moment`, in seconds, begins; zero if it has begun.
abbrev pub left_until : (moment now : ℕ) → ℕ
left_until moment now = moment * second - now

-- The part of a duration that is left at `now`, if it started at `began`.
abbrev pub left_of : (time began now : ℕ) → ℕ
left_of time began now = time - (now - began)

-- The time until the next second begins.
abbrev pub to_next_second : ℕ → ℕ
to_next_second now = second - now % second

-- The time for one attempt to connect, with `others` addresses after this one. It is the remaining time divided by the
-- number of remaining addresses, and at least one second if that much remains.
abbrev pub share_of : (left others : ℕ) → ℕ
share_of left others = min (max (left / (others + 1)) second) left

-- The end of the attempt to connect to an address, as time since the start of the first attempt. The attempt gets its
-- share of the remaining time. There is no attempt if no time is left.
abbrev pub end_of_attempt : (passed limit index count : ℕ) → Option ℕ
end_of_attempt passed limit index count =
    if limit - passed == 0 then None else Some (passed + share_of (limit - passed) (count - suc index))

-- The shorter of two durations, where `None` is one without end.
abbrev pub at_most : (limit : ℕ) → Option ℕ → ℕ
at_most limit None = limit
at_most limit (Some time) = min time limit

-- The system's clock can be read, and is in the second of `last`.
abbrev pub is_in_second_of : (last : ℕ) → (wall : Option ℕ) → Bool
is_in_second_of last None = false
is_in_second_of last (Some wall) = wall / second == last / second

-- The time of a clock that returned `last`, after `passed` by the monotonic clock. It is the time of the system's
-- clock, unless that was set back or cannot be read. The clock then continues from its last time.
abbrev pub continued : (last passed : ℕ) → (wall : Option ℕ) → ℕ
continued last passed None = min (last + passed) max_nanos
continued last passed (Some wall) = max wall (min (last + passed) max_nanos)
