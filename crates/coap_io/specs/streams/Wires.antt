-- Defined by this project: the bytes that wires pass on, and the calls that they record.
use Rattle.std.specs.Prelude.{◌≡◌, ℕ, ◌≤◌, Bool, List, [], ◌∷◌, length, take, min, Option, Some, None}
use Rattle.coap_io.specs.declared.wire.Got.{Got}
use Rattle.coap_io.specs.declared.wire.Got.TheVariants.{Bytes, Later, End, Failed}
use Rattle.coap_io.specs.declared.wire.Wait.{Wait}
use Rattle.coap_io.specs.declared.wire.Wait.TheVariants.{No, Until, Forever}
use Rattle.coap_io.specs.streams.Device.{AddsBytes}
use Rattle.coap_io.specs.streams.DeviceTraces.{AddsCalls}

-- Holds if a result passes on no bytes, or at least one and at most `room`.
abbrev pub IsWithin : ℕ → Got → Type 0
IsWithin room (Bytes n) = (1 ≤ n) × (n ≤ room)
IsWithin room Later = Unit {0}
IsWithin room End = Unit {0}
IsWithin room Failed = Unit {0}

-- The bytes that a result passes on: the first ones.
abbrev pub bytes_passed : List ℕ → Got → List ℕ
bytes_passed bytes (Bytes n) = take n bytes
bytes_passed bytes Later = []
bytes_passed bytes End = []
bytes_passed bytes Failed = []

-- The number of bytes that a result passes on.
abbrev pub count_passed : Got → ℕ
count_passed (Bytes n) = n
count_passed Later = 0
count_passed End = 0
count_passed Failed = 0

-- The outcome of a write with this result: `End` counts as `Failed`.
abbrev pub write_outcome : Got → Got
write_outcome (Bytes n) = Bytes n
write_outcome Later = Later
write_outcome End = Failed
write_outcome Failed = Failed

-- Holds if a wire was written once with this outcome, as far as the wire records results.
pub data IsOneWrite (before after : Option (List Got)) (outcome : Got) : Type 0 where
  Answered : (answer : Got) → AddsCalls before after (answer ∷ []) → outcome ≡ write_outcome answer
      → IsOneWrite before after outcome

-- The same wait, but until `moment` at the latest.
abbrev pub wait_at_most : ℕ → Wait → Wait
wait_at_most moment No = No
wait_at_most moment (Until due) = Until (min due moment)
wait_at_most moment Forever = Until moment

-- ---- records of a wire

-- The records of a wire so far: bytes that its reads returned, bytes that its writes accepted, and the results of both.
-- `rooms` are the lengths of the buffers of its reads. A part that the wire does not record is `None`.
pub record WireTrace : Type 0 where
  pub given : Option (List ℕ)
  pub written : Option (List ℕ)
  pub answers : Option (List Got)
  pub rooms : Option (List ℕ)

-- The records of a wire, by the ghost members of its type.
abbrev pub trace_by : {W : Type 0} (given written : W → Option (List ℕ)) (answers : W → Option (List Got))
    (rooms : W → Option (List ℕ)) → W → WireTrace
trace_by given written answers rooms wire =
    record { given = given wire; written = written wire; answers = answers wire; rooms = rooms wire }

-- Holds if a wire was read once, into a buffer of `room` bytes, with this result and these bytes.
pub record IsReadOnce (room : ℕ) (before after : WireTrace) (received : Got) (bytes : List ℕ) : Type 0 where
  pub gave : AddsBytes before.given after.given bytes
  pub count : length bytes ≡ count_passed received
  pub wrote : AddsBytes before.written after.written []
  pub answered : AddsCalls before.answers after.answers (received ∷ [])
  pub had_room : AddsCalls before.rooms after.rooms (room ∷ [])

-- Holds if a wire was written once, with a prefix of these bytes and this outcome.
pub record IsWrittenOnce (bytes : List ℕ) (before after : WireTrace) (wrote : Got) : Type 0 where
  pub within : IsWithin (length bytes) wrote
  pub took : AddsBytes before.written after.written (bytes_passed bytes wrote)
  pub gave : AddsBytes before.given after.given []
  pub answered : IsOneWrite before.answers after.answers wrote
  pub no_read : AddsCalls before.rooms after.rooms []

-- Holds if the readiness that a wire reports agrees with that which it records, if it records any.
abbrev pub MatchesTrace : (recorded : Option Bool) (answer : Bool) → Type 0
MatchesTrace None answer = Unit {0}
MatchesTrace (Some recorded) answer = answer ≡ recorded
