-- RFC 8323 sections 3.3, 3.4 and 5: the bytes that a server with one connection writes for the bytes of its input.
-- Before it processes the next message, it writes everything that is queued.
use Rattle.std.specs.Prelude.{ℕ, zero, suc, ◌+◌, List, [], ◌∷◌, length, Option, Some, None}
use Rattle.coap_wire.specs.Stream.{Stream, split}
use Rattle.coap_conn.specs.declared.reason.Reason.{Reason}
use Rattle.coap_conn.specs.Limits.{LimitValues}
use Rattle.coap_conn.specs.Phases.{stop_of}
use Rattle.coap_conn.specs.LinkValue.{bytes_of}
use Rattle.coap_model.specs.Configs.{ConfigValues}
use Rattle.coap_model.specs.world.Connections.{Connection, waiting_on}
use Rattle.coap_model.specs.world.World.{World, Step, new_world, side_of, step}
use Rattle.coap_model.specs.world.World as step
use Rattle.coap_model.specs.world.Events.{Opened, Took, steps_of}

-- ---- a flush

-- The bytes queued for writing on a connection; none if it does not exist.
abbrev pub waiting_of : Option Connection → List ℕ
waiting_of None = []
waiting_of (Some s) = waiting_on s

-- The number of pending entries and observers of a connection; 0 if it does not exist.
abbrev pub more_of : Option Connection → ℕ
more_of None = 0
more_of (Some s) = length s.history.pending + length s.observers

-- The world after all queued bytes of a connection were written. Settling may then have queued further bytes.
abbrev pub written_once : LimitValues → ℕ → World → World
written_once limits id w = step limits w (step.Written id (length (waiting_of (side_of id w.sides))))

-- The world after this number of rounds of `written_once`.
unfoldable pub written_times : LimitValues → ℕ → ℕ → World → World
written_times limits id zero w = w
written_times limits id (suc turns) w = written_once limits id (written_times limits id turns w)

-- The world after a flush: queued bytes are written until none is queued.
-- Bytes queued during a flush are those of a pending entry or of a notification with the current state. So one round
-- more than the number of pending entries and observers is enough.
unfoldable pub flushed : LimitValues → ℕ → World → World
flushed limits id w = written_times limits id (suc (more_of (side_of id w.sides))) w

-- The world after these steps, each followed by a flush.
unfoldable pub flushed_after : LimitValues → ℕ → World → List Step → World
flushed_after limits id w [] = w
flushed_after limits id w (s ∷ ss) = flushed_after limits id (flushed limits id (step limits w s)) ss

-- ---- the connection

-- The id of the only connection: the first one that the server assigns.
abbrev pub only_id : ConfigValues → ℕ
only_id c = c.starts.ids + 1

-- The stream of these bytes: its messages, the bytes left over, and the error that ended it, if any. A message has at
-- most the configured size.
abbrev pub stream_of : ConfigValues → List ℕ → Stream
stream_of c bytes = split c.limits.max_message bytes

-- The steps for these bytes: the connection is opened, each message is handled, and the error after them, if any, is
-- processed.
abbrev pub steps_for : ConfigValues → List ℕ → List Step
steps_for c bytes = steps_of c.limits.max_message (Opened (only_id c) ∷ Took (only_id c) bytes ∷ [])

-- The world after these steps, each followed by a flush.
unfoldable pub world_for : ConfigValues → List ℕ → World
world_for c bytes = flushed_after c.limits (only_id c) (new_world c) (steps_for c bytes)

-- The connection in that world.
abbrev pub side_for : ConfigValues → List ℕ → Option Connection
side_for c bytes = side_of (only_id c) (world_for c bytes).sides

-- ---- the outcome

-- The outcome of a run.
-- - `output`: all bytes written.
-- - `messages`: the number of messages handled.
-- - `stop`: the reason why the connection no longer accepts messages, or `None` if it does.
pub record Outcome : Type 0 where
  pub output : List ℕ
  pub messages : ℕ
  pub stop : Option Reason

-- The outcome for the connection at the end of the run. Its output is everything that was queued, because each step is
-- followed by a flush. A connection that does not exist has no output.
abbrev pub outcome_on : Option Connection → Outcome
outcome_on None = record { output = []; messages = 0; stop = None }
outcome_on (Some s) =
    record { output = bytes_of s.history.queued; messages = length s.history.handled; stop = stop_of s.history.phase }

-- The outcome for these bytes.
unfoldable pub outcome : ConfigValues → List ℕ → Outcome
outcome c bytes = outcome_on (side_for c bytes)

-- The output for these bytes: the server's CSM, then everything that the messages and the error cause the server to
-- queue.
abbrev pub stdio_output : ConfigValues → List ℕ → List ℕ
stdio_output c bytes = (outcome c bytes).output
