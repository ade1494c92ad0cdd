-- Defined by this project: the value of an `OutQueue` in contracts.
use Rattle.coap_conn.specs.QueueValue.{QueueValue, IsQueue}
use Rattle.coap_conn.specs.declared.out_queue.OutQueue.TheInside.{Inside}

-- The value of an `OutQueue`.
abbrev pub queue_value : Inside → QueueValue
queue_value q = record { bytes = q.ring.capacity; waiting = q.ring.items }

-- The invariant of the fields of an `OutQueue`.
abbrev pub is_queue : Inside → Type 0
is_queue q = IsQueue (queue_value q)
