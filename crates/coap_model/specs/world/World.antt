-- Defined by this project: a server with all its connections, and its state after a list of steps.
use Rattle.std.specs.Prelude.{ℕ, Bool, not, ◌&&◌, List, [], ◌∷◌, ◌++◌, map, filter, Option, Some, None, is_none, nat_le}
use Rattle.std.specs.Prelude.{◌==◌, if◌then◌else◌}
use Rattle.coap_wire.specs.Message.{Message}
use Rattle.coap_wire.specs.Stream.{StreamFault}
use Rattle.coap_conn.specs.Limits.{LimitValues}
use Rattle.coap_path.specs.Paths.{Path}
use Rattle.coap_store.specs.Store.{StoreValue, put_in, removed_in}
use Rattle.coap_store.specs.Refusals.{put_refusal}
use Rattle.coap_model.specs.Configs.{ConfigValues}
use Rattle.coap_model.specs.world.Connections.{Connection, new_side, side_after, store_after, side_faulted}
use Rattle.coap_model.specs.world.Connections.{side_written, side_ended, side_released, side_responded, side_announced}
use Rattle.coap_model.specs.world.Connections.{settled}

-- A connection with its id.
pub record ConnectionEntry : Type 0 where
  pub id : ℕ
  pub side : Connection

-- The state of the server model: the connections in the order of opening, the id assigned last, the store, and the time
-- in seconds.
pub record World : Type 0 where
  pub sides : List ConnectionEntry
  pub ids : ℕ
  pub store : StoreValue
  pub now : ℕ

-- The world at the start: no connection, no stored resource, and the start values of the configuration.
abbrev pub new_world : ConfigValues → World
new_world c = record {
  sides = [];
  ids = c.starts.ids;
  store = record {
    dynamic_max = c.dynamic_max;
    rep_max = c.rep_max;
    resources = [];
    versions = c.starts.versions;
    applications = c.applications;
  };
  now = c.starts.moment;
}

-- ---- connections

-- The connection with this id, if it exists.
unfoldable pub side_of : ℕ → List ConnectionEntry → Option Connection
side_of id [] = None
side_of id (p ∷ ps) = if p.id == id then Some p.side else side_of id ps

-- The place in which f has changed the connection, if it has this id.
abbrev pub changed_at : ℕ → (Connection → Connection) → ConnectionEntry → ConnectionEntry
changed_at id f p = if p.id == id then record p { side = f p.side } else p

-- The world in which f has changed the connection with this id.
abbrev pub on_side : ℕ → (Connection → Connection) → World → World
on_side id f w = record w { sides = map (changed_at id f) w.sides }

-- The store after a message to a connection; unchanged if the connection does not exist.
abbrev pub stored_after : World → Message → Option Connection → StoreValue
stored_after w m None = w.store
stored_after w m (Some s) = store_after w.store w.now s m

-- ---- steps

-- A step: one effect on the server. Steps have messages and errors instead of bytes, so they do not depend on how the
-- input was split.
-- - `Handled`: a connection received a message.
-- - `Faulted`: its input is malformed.
-- - `Written`: n of its queued bytes were written.
-- - `Ended`: its input ended; `cut` says whether within a frame.
-- - `Responded`: the application responded with this message.
-- - The other steps are those of the events with the same names.
pub data Step : Type 0 where
  Opened : (id : ℕ) → Step
  Handled : (id : ℕ) (m : Message) → Step
  Faulted : (id : ℕ) (fault : StreamFault) → Step
  Written : (id n : ℕ) → Step
  Ticked : (now : ℕ) → Step
  Stored : (path : Path) (format : Option ℕ) (bytes : List ℕ) → Step
  Removed : (path : Path) → Step
  Ended : (id : ℕ) (cut : Bool) → Step
  Released : (id : ℕ) → Step
  Announced : (id size : ℕ) → Step
  Responded : (id : ℕ) (m : Message) → Step
  Dropped : (id : ℕ) → Step

-- The time may be set to `new`: it is not earlier than `now`, and fits in 64 bits.
abbrev pub ticks : ℕ → ℕ → Bool
ticks now new = nat_le now new && nat_le new 18446744073709551615

-- The world after a step's own effect, before any connection settles. A step that is not possible changes nothing.
unfoldable pub acted : LimitValues → World → Step → World
acted limits w (Opened id) =
    if is_none (side_of id w.sides)
    then record w { sides = w.sides ++ record { id = id; side = new_side limits } ∷ []; ids = id } else w
acted limits w (Handled id m) =
    record (on_side id (λ s. side_after w.store w.now s m) w) { store = stored_after w m (side_of id w.sides) }
acted limits w (Faulted id fault) = on_side id (λ s. side_faulted s fault) w
acted limits w (Written id n) = on_side id (λ s. side_written s n) w
acted limits w (Ticked now) = if ticks w.now now then record w { now = now } else w
acted limits w (Stored path format bytes) =
    if is_none (put_refusal w.store path bytes) then record w { store = put_in w.store path format bytes } else w
acted limits w (Removed path) = record w { store = removed_in w.store path }
acted limits w (Ended id cut) = on_side id (λ s. side_ended s cut) w
acted limits w (Released id) = on_side id side_released w
acted limits w (Announced id size) = on_side id (λ s. side_announced s size) w
acted limits w (Responded id m) = on_side id (λ s. side_responded s m) w
acted limits w (Dropped id) = record w { sides = filter (λ p. not (p.id == id)) w.sides }

-- The place after its connection has settled.
abbrev pub settled_place : StoreValue → ℕ → ConnectionEntry → ConnectionEntry
settled_place store now p = record p { side = settled store now p.side }

-- The world after every connection has settled.
abbrev pub all_settled : World → World
all_settled w = record w { sides = map (settled_place w.store w.now) w.sides }

-- The world after a step: first the step's own effect, then every connection settles.
unfoldable pub step : LimitValues → World → Step → World
step limits w s = all_settled (acted limits w s)

-- The world after a list of steps.
unfoldable pub after_steps : LimitValues → World → List Step → World
after_steps limits w [] = w
after_steps limits w (s ∷ ss) = after_steps limits (step limits w s) ss
