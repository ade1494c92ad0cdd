-- Defined by this project: the limits of a connection, their ranges, and the error for a limit that is out of range.
use Rattle.std.specs.Prelude.{ℕ, ◌≤◌, Bool, ◌&&◌, Option, Some, None, nat_le, if◌then◌else◌}
use Rattle.coap_wire.specs.declared.sizes.TheConstants.{BASE_MESSAGE_SIZE, LARGEST_MESSAGE, LARGEST_SENT_MESSAGE}
use Rattle.coap_wire.specs.declared.sizes.TheConstants.{LARGEST_QUEUE, DEFAULT_QUEUE}
use Rattle.coap_conn.specs.declared.limits.LimitFault.{LimitFault}
use Rattle.coap_conn.specs.declared.limits.LimitFault.TheVariants as limit

-- The limits of a connection. The first three are sizes in bytes: of the largest message accepted, of the largest
-- message sent, and of the output queue. The others are numbers of pending entries, observers and outstanding entries.
pub record LimitValues : Type 0 where
  pub max_message : ℕ
  pub max_sent : ℕ
  pub queue : ℕ
  pub pending : ℕ
  pub observers : ℕ
  pub outstanding : ℕ

-- The limits with these values.
abbrev pub limits_of : (max_message max_sent queue pending observers outstanding : ℕ) → LimitValues
limits_of max_message max_sent queue pending observers outstanding =
    record {
      max_message = max_message;
      max_sent = max_sent;
      queue = queue;
      pending = pending;
      observers = observers;
      outstanding = outstanding;
    }

-- The limits that both programs have by default.
abbrev pub default_limits : LimitValues
default_limits = limits_of LARGEST_SENT_MESSAGE LARGEST_SENT_MESSAGE DEFAULT_QUEUE 16 16 16

-- Holds if each limit is within its range.
pub record AreInRange (l : LimitValues) : Type 0 where
  pub message_low : BASE_MESSAGE_SIZE ≤ l.max_message
  pub message_high : l.max_message ≤ LARGEST_MESSAGE
  pub sent_low : BASE_MESSAGE_SIZE ≤ l.max_sent
  pub sent_high : l.max_sent ≤ LARGEST_SENT_MESSAGE
  pub queue_low : l.max_sent ≤ l.queue
  pub queue_high : l.queue ≤ LARGEST_QUEUE
  pub pending_high : l.pending ≤ 256
  pub observers_high : l.observers ≤ 256
  pub outstanding_low : 1 ≤ l.outstanding
  pub outstanding_high : l.outstanding ≤ 256

-- True if `n` is between `low` and `high`, both included.
abbrev pub is_within : ℕ → ℕ → ℕ → Bool
is_within low n high = nat_le low n && nat_le n high

-- The error for the first limit that is out of range, in the order of the fields.
abbrev pub limit_refusal : LimitValues → Option LimitFault
limit_refusal l =
    if is_within BASE_MESSAGE_SIZE l.max_message LARGEST_MESSAGE
    then (if is_within BASE_MESSAGE_SIZE l.max_sent LARGEST_SENT_MESSAGE
    then (if is_within l.max_sent l.queue LARGEST_QUEUE
    then (if nat_le l.pending 256
    then (if nat_le l.observers 256
    then (if is_within 1 l.outstanding 256 then None else Some limit.Outstanding)
    else Some limit.Observers)
    else Some limit.Pending)
    else Some limit.Queue)
    else Some limit.MaxSent)
    else Some limit.MaxMessage
