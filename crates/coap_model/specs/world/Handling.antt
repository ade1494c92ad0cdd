-- Defined by this project: the `Handled` value that a `take` returns, computed from the worlds before and after it.
use Rattle.std.specs.Prelude.{ℕ, List, [], ◌∷◌, ◌++◌, length, Option, Some, None, nat_lt, if◌then◌else◌}
use Rattle.coap_conn.specs.declared.reason.Reason.{Reason}
use Rattle.coap_conn.specs.Phases.{stop_of, takes_messages}
use Rattle.coap_conn.specs.Reasons.{message_reason}
use Rattle.coap_model.specs.Configs.{ConfigValues}
use Rattle.coap_model.specs.world.Connections.{Connection}
use Rattle.coap_model.specs.world.World.{side_of}
use Rattle.coap_model.specs.world.Events.{AcceptedCall, world_after}
use Rattle.coap_model.specs.declared.answers.Handled.{Handled}
use Rattle.coap_model.specs.declared.answers.Handled.TheVariants as handled

-- `Stopped` with the reason if the connection no longer accepts messages, `Message` if it handled one more message,
-- otherwise `Nothing`.
abbrev pub handled_since : Connection → Connection → Option Reason → Handled
handled_since before after (Some why) = handled.Stopped why
handled_since before after None =
    if nat_lt (length before.history.handled) (length after.history.handled) then handled.Message else handled.Nothing

-- The same for a connection before and after an event; `Nothing` if the connection did not exist or accepted no
-- messages before.
abbrev pub handled_between : Option Connection → Option Connection → Handled
handled_between None after = handled.Nothing
handled_between (Some before) None = handled.Nothing
handled_between (Some before) (Some after) =
    if takes_messages before.history.phase then handled_since before after (stop_of after.history.phase)
    else handled.Nothing

-- The value for an event on a connection, after earlier events.
abbrev pub handled_in : ConfigValues → List AcceptedCall → AcceptedCall → ℕ → Handled
handled_in c earlier e id =
    handled_between (side_of id (world_after c earlier).sides) (side_of id (world_after c (earlier ++ e ∷ [])).sides)

-- The number of messages that were handled: 0 or 1.
abbrev pub count_of : Handled → ℕ
count_of handled.Nothing = 0
count_of handled.Message = 1
count_of (handled.Stopped why) = message_reason why
