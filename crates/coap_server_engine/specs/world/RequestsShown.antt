-- Defined by this project: the request that a `take` hands to the application, computed from the worlds
-- before and after it.
use Rattle.std.specs.Prelude.{ℕ, ◌&&◌, List, [], ◌∷◌, ◌++◌, length, Option, Some, None, option_and_then, slice_get}
use Rattle.std.specs.Prelude.{if◌then◌else◌}
use Rattle.coap_wire.specs.Message.{Message}
use Rattle.coap_conn.specs.Phases.{takes_messages}
use Rattle.coap_conn.specs.History.{after}
use Rattle.coap_conn.specs.Calls as call
use Rattle.coap_store.specs.Store.{StoreValue}
use Rattle.coap_model.specs.Configs.{ConfigValues}
use Rattle.coap_model.specs.world.Connections.{Connection, asks_answer, delay_for, delay_of}
use Rattle.coap_model.specs.world.World.{World, side_of}
use Rattle.coap_model.specs.world.Events.{AcceptedCall, world_after}
use Rattle.coap_server_session.specs.values.HandedRequests.{is_handed}

-- The message that a connection handled beyond those that it had handled before, if there is one.
abbrev pub message_between : Connection → Connection → Option Message
message_between before after = slice_get after.history.handled (length before.history.handled)

-- A message, if it is a request that becomes a pending entry of the application.
abbrev pub request_to : StoreValue → ℕ → Connection → Message → Option Message
request_to store now s m =
    if asks_answer s m && is_handed (delay_for (after s.history (call.Handle m)) (delay_of store now m))
    then Some m else None

-- The request between two states of a connection. There is none if the connection did not exist, or no longer accepts
-- messages.
abbrev pub request_between : World → Option Connection → Option Connection → Option Message
request_between w None after = None
request_between w (Some before) None = None
request_between w (Some before) (Some after) =
    if takes_messages after.history.phase
    then option_and_then (request_to w.store w.now before) (message_between before after) else None

-- The request that an event on a connection hands to the application, after earlier events.
abbrev pub request_in : ConfigValues → List AcceptedCall → AcceptedCall → ℕ → Option Message
request_in c earlier e id =
    request_between (world_after c earlier) (side_of id (world_after c earlier).sides)
    (side_of id (world_after c (earlier ++ e ∷ [])).sides)
