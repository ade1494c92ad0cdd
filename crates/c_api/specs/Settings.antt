-- Defined by this project: the configuration that a C program names, and the number of the first value out of range.
use Rattle.std.specs.Prelude.{ℕ, ◌==◌, Option, Some, None, option_map, if◌then◌else◌}
use Rattle.coap_conn.specs.Limits.{LimitValues, limits_of, default_limits, limit_refusal}
use Rattle.coap_conn.specs.declared.limits.LimitFault.{LimitFault}
use Rattle.coap_model.specs.Configs.{ConfigValues, config_of, config_refusal, default_config}
use Rattle.c_api.specs.Numbers.{limit_code, config_code}
use Rattle.c_api.specs.declared.settings.ClientLimits.{ClientLimits}
use Rattle.c_api.specs.declared.settings.Settings.{Settings}

-- The number that C names, or in place of 0 the default. It is used where 0 is no legal value.
abbrev pub or_default : (number default : ℕ) → ℕ
or_default number default = if number == 0 then default else number

-- The limits with these values, or with the defaults in place of zeros. No pending entry and no observer is a legal
-- limit.
abbrev pub limits_named : (max_message max_sent queue pending observers outstanding : ℕ) → LimitValues
limits_named max_message max_sent queue pending observers outstanding =
    limits_of (or_default max_message default_limits.max_message) (or_default max_sent default_limits.max_sent)
    (or_default queue default_limits.queue) pending observers (or_default outstanding default_limits.outstanding)

-- The limits of a client.
abbrev pub client_limits : ClientLimits → LimitValues
client_limits l = limits_named l.max_message l.max_sent l.queue l.pending l.observers l.outstanding

-- The limits of each connection of a server.
abbrev pub settings_limits : Settings → LimitValues
settings_limits s = limits_named s.max_message s.max_sent s.queue s.pending s.observers s.outstanding

-- The configuration. The engine makes no turns, so that C does not name their number.
abbrev pub settings_config : Settings → ConfigValues
settings_config s =
    config_of (settings_limits s) (or_default s.connections default_config.connections) s.dynamic_max s.rep_max 1
    (record { moment = s.moment; versions = s.versions; ids = s.ids })

-- The number of the first limit that is out of range, otherwise of the first other value.
abbrev pub refusal_after : Option LimitFault → ConfigValues → Option ℕ
refusal_after None c = option_map config_code (config_refusal c)
refusal_after (Some fault) c = Some (limit_code fault)

-- The number of the first value that is out of range, if there is one.
abbrev pub settings_refusal : Settings → Option ℕ
settings_refusal s = refusal_after (limit_refusal (settings_limits s)) (settings_config s)
