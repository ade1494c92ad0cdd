-- Defined by this project: the values that contracts see for `Starts`, `Config` and `ConfigBuilder`.
use Rattle.std.specs.Prelude.{None}
use Rattle.coap_model.specs.Configs.{StartValues, ConfigValues, IsConfigInRange}
use Rattle.coap_model.specs.declared.config.Starts.{Starts}
use Rattle.coap_model.specs.declared.config.Config.TheInside.{Inside}
use Rattle.coap_model.specs.declared.config.builder.ConfigBuilder.TheInside as builder

-- The value of a `Starts`.
abbrev pub start_values : Starts → StartValues
start_values s = record { moment = s.moment; versions = s.versions; ids = s.ids }

-- The value of a `Config`. The applications are not part of it: `Server::with_applications` receives them.
abbrev pub config_values : Inside → ConfigValues
config_values c = record {
  limits = c.limits;
  connections = c.connections;
  dynamic_max = c.dynamic_max;
  rep_max = c.rep_max;
  turns = c.turns;
  starts = start_values c.starts;
  applications = None;
}

-- The invariant of `Config`: its value is in range.
abbrev pub is_config : Inside → Type 0
is_config c = IsConfigInRange (config_values c)

-- The fields of the `Config` that has this value.
abbrev pub config_fields : ConfigValues → Inside
config_fields c = record {
  limits = c.limits;
  connections = c.connections;
  dynamic_max = c.dynamic_max;
  rep_max = c.rep_max;
  turns = c.turns;
  starts = record { moment = c.starts.moment; versions = c.starts.versions; ids = c.starts.ids };
}

-- The value of a `ConfigBuilder`: what was set so far, or defaults.
abbrev pub builder_values : builder.Inside → ConfigValues
builder_values c = record {
  limits = c.limits;
  connections = c.connections;
  dynamic_max = c.dynamic_max;
  rep_max = c.rep_max;
  turns = c.turns;
  starts = start_values c.starts;
  applications = None;
}

-- The fields of the `ConfigBuilder` that has this value.
abbrev pub builder_fields : ConfigValues → builder.Inside
builder_fields c = record {
  limits = c.limits;
  connections = c.connections;
  dynamic_max = c.dynamic_max;
  rep_max = c.rep_max;
  turns = c.turns;
  starts = record { moment = c.starts.moment; versions = c.starts.versions; ids = c.starts.ids };
}
