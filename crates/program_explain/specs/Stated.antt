-- Defined by this project: the options in the header of a record, as the configuration of a replay.
use Rattle.std.specs.Prelude.{◌≡◌, ◌+◌, ◌<◌, ◌^◌, Result, Ok, Err}
use Rattle.coap_conn.specs.Limits.{AreInRange, limits_of}
use Rattle.coap_model.specs.Configs.{ConfigValues, IsConfigInRange, config_of}
use Rattle.program_server_common.specs.Planned.{rep_max}
use Rattle.coap_server_engine.specs.values.Servers.{ServerValue, new_server}
use Rattle.program_explain.specs.declared.trouble.Trouble.{Trouble}
use Rattle.program_explain.specs.declared.trouble.Trouble.TheVariants.{Memory}

-- A server can start with this configuration: each value is in its range, and an id is left for a connection.
pub record IsStartable (c : ConfigValues) : Type 0 where
  pub limits : AreInRange c.limits
  pub values : IsConfigInRange c
  pub moment : c.starts.moment < 2 ^ 64
  pub versions : c.starts.versions < 2 ^ 64
  pub ids : c.starts.ids + 1 < 2 ^ 64

-- The configuration of a replay. It has all values on which the events of a script depend. The others are those of
-- every `coap-server`: the number of outstanding entries, the size of the largest representation, and the default
-- number of turns.
abbrev pub replay_config : ConfigValues → ConfigValues
replay_config c =
    config_of (limits_of c.limits.max_message c.limits.max_sent c.limits.queue c.limits.pending c.limits.observers 16)
    c.connections c.dynamic_max rep_max 1_000_000_000_000 c.starts

-- A line that states options was read: the server is a new one with this configuration, or an allocation failed.
abbrev pub IsReadAs : {T : Type 0} → ConfigValues → ServerValue → Result T Trouble → Type 0
IsReadAs config server (Ok x) = server ≡ new_server config
IsReadAs config server (Err trouble) = trouble ≡ Memory
