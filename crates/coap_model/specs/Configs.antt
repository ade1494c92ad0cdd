-- Defined by this project: configurations of a server, and the error for one that is out of range.
use Rattle.std.specs.Prelude.{ℕ, ◌≤◌, Option, Some, None, nat_le, if◌then◌else◌}
use Rattle.coap_conn.specs.Limits.{LimitValues, default_limits, is_within}
use Rattle.coap_path.specs.Applications.{ApplicationsValue}
use Rattle.coap_model.specs.declared.config.ConfigFault.{ConfigFault}
use Rattle.coap_model.specs.declared.config.ConfigFault.TheVariants as config
use Rattle.coap_wire.specs.declared.sizes.TheConstants.{LARGEST_MESSAGE, LARGEST_SENT_MESSAGE}

-- The values at which the counts of a server begin.
-- - `moment`: its start time, in seconds.
-- - `versions`: the version before the first one.
-- - `ids`: the connection id before the first one.
pub record StartValues : Type 0 where
  pub moment : ℕ
  pub versions : ℕ
  pub ids : ℕ

-- A configuration.
-- - `limits`: the limits of each connection.
-- - `connections`, `dynamic_max`: the largest numbers of connections and of dynamic resources.
-- - `rep_max`: the size of the largest representation, in bytes.
-- - `turns`: the largest number of turns of a run.
-- - `starts`: the values at which the counts begin.
-- - `applications`: the paths whose requests the embedding program answers, if there are such.
pub record ConfigValues : Type 0 where
  pub limits : LimitValues
  pub connections : ℕ
  pub dynamic_max : ℕ
  pub rep_max : ℕ
  pub turns : ℕ
  pub starts : StartValues
  pub applications : Option ApplicationsValue

-- The configuration with these values, and without applications.
abbrev pub config_of : (limits : LimitValues) (connections dynamic_max rep_max turns : ℕ)
    (starts : StartValues) → ConfigValues
config_of limits connections dynamic_max rep_max turns starts =
    record {
      limits = limits;
      connections = connections;
      dynamic_max = dynamic_max;
      rep_max = rep_max;
      turns = turns;
      starts = starts;
      applications = None;
    }

-- The default configuration. It has default limits, 16 connections, no dynamic resource, representations of at most
-- 65,536 bytes, 10^12 turns, and counts that begin at 0.
abbrev pub default_config : ConfigValues
default_config =
    config_of default_limits 16 0 LARGEST_SENT_MESSAGE 1000000000000 (record { moment = 0; versions = 0; ids = 0 })

-- Each value is in its range. The limits have a condition of their own (`AreInRange`).
pub record IsConfigInRange (c : ConfigValues) : Type 0 where
  pub connections_low : 1 ≤ c.connections
  pub connections_high : c.connections ≤ 256
  pub dynamic_high : c.dynamic_max ≤ 1000
  pub rep_high : c.rep_max ≤ LARGEST_MESSAGE
  pub turns_low : 1 ≤ c.turns
  pub turns_high : c.turns ≤ 1000000000000

-- The error for the first value that is out of its range; `None` if all are in range. The limits are checked elsewhere
-- (`limit_refusal`).
abbrev pub config_refusal : ConfigValues → Option ConfigFault
config_refusal c =
    if is_within 1 c.connections 256
    then (if nat_le c.dynamic_max 1000
    then (if nat_le c.rep_max LARGEST_MESSAGE
    then (if is_within 1 c.turns 1000000000000 then None else Some config.Turns)
    else Some config.Representation)
    else Some config.Dynamic)
    else Some config.Connections
