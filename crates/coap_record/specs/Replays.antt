-- Defined by this project: a replay of the text of a record.
use Rattle.std.specs.Prelude.{◌≡◌, ℕ, List, [], ◌∷◌, ◌++◌, map, take, Ok}
use Rattle.coap_script.specs.script.Events.{ScriptEventValue, Open, In, Drain, Tick, Put, Remove, End, Release, Respond}
use Rattle.coap_script.specs.script.Events.{Drop, Status}
use Rattle.coap_script.specs.script.Lines.{out_line}
use Rattle.coap_script.specs.script.Script.{script_of}
use Rattle.coap_model.specs.Configs.{ConfigValues}
use Rattle.coap_model.specs.streams.Output.{waiting_of}
use Rattle.coap_model.specs.world.Events.{AcceptedCall, Opened, Took, Wrote, Ticked, Stored, Removed, Ended, Released}
use Rattle.coap_model.specs.world.Events.{Announced, Responded, Dropped, world_after}
use Rattle.coap_model.specs.world.World.{World, side_of}
use Rattle.coap_server_engine.specs.script.Replay.{event_ran, replayed}
use Rattle.coap_server_engine.specs.values.Servers.{ServerValue, new_server}

-- ---- configurations of a replay

-- The configuration with another limit of turns. The header of a record does not state this limit.
abbrev pub with_turns : ℕ → ConfigValues → ConfigValues
with_turns turns c = record c { turns = turns }

-- The server with another limit of turns.
abbrev pub server_with_turns : ℕ → ServerValue → ServerValue
server_with_turns turns v = record v { config = with_turns turns v.config }

-- ---- the bytes that are written

-- The bytes that a call writes in this world, with the number of their connection: the first `n` of the queued ones.
abbrev pub write_in : World → AcceptedCall → List (ℕ × List ℕ)
write_in w (Opened id) = []
write_in w (Took id bytes) = []
write_in w (Wrote id n) = (id, take n (waiting_of (side_of id w.sides))) ∷ []
write_in w (Ticked now) = []
write_in w (Stored path format bytes) = []
write_in w (Removed path) = []
write_in w (Ended id) = []
write_in w (Released id) = []
write_in w (Announced id size) = []
write_in w (Responded id m) = []
write_in w (Dropped id) = []

-- The bytes that each of these calls writes, in order, with the number of their connection. The calls follow
-- the earlier ones.
unfoldable pub writes_of : ConfigValues → (earlier calls : List AcceptedCall) → List (ℕ × List ℕ)
writes_of c earlier [] = []
writes_of c earlier (e ∷ es) = write_in (world_after c earlier) e ++ writes_of c (earlier ++ e ∷ []) es

-- The lines of bytes that were written.
abbrev pub lines_of_writes : List (ℕ × List ℕ) → List (List ℕ)
lines_of_writes writes = map (λ w. out_line w.0 w.1) writes

-- The line that an event writes, if the event drains bytes.
abbrev pub drain_of : ServerValue → ScriptEventValue → List (List ℕ)
drain_of v Open = []
drain_of v (In id bytes) = []
drain_of v (Drain id most) = (event_ran v (Drain id most)).text ∷ []
drain_of v (Tick now) = []
drain_of v (Put path format bytes) = []
drain_of v (Remove path text) = []
drain_of v (End id) = []
drain_of v (Release id) = []
drain_of v (Respond id bytes) = []
drain_of v (Drop id) = []
drain_of v (Status id) = []

-- The lines of all events that drain bytes, in order, in a replay of these events.
unfoldable pub drains_of : ServerValue → List ScriptEventValue → List (List ℕ)
drains_of v [] = []
drains_of v (e ∷ es) = drain_of v e ++ drains_of (event_ran v e).server es

-- ---- a replay

-- The text is a script. Its replay on a new server with this configuration leaves the server `v`. Its `drain` events
-- write the lines of these bytes, in order.
pub record ReplaysTo (c : ConfigValues) (text : List ℕ) (v : ServerValue) (writes : List (ℕ × List ℕ)) : Type 0 where
  pub events : List ScriptEventValue
  pub read : script_of text ≡ Ok events
  pub server : (replayed (new_server c) events).server ≡ v
  pub drains : drains_of (new_server c) events ≡ lines_of_writes writes
