-- Defined by this project: the configuration of the server for a plan of its command line.
use Rattle.std.specs.Prelude.{ℕ, ◌*◌, ◌-◌, ◌^◌, min}
use Rattle.coap_command_line.specs.declared.server_plan.ServerPlan.{ServerPlan}
use Rattle.coap_model.specs.Configs.{ConfigValues, config_of}
use Rattle.coap_model.specs.declared.config.Starts.{Starts}
use Rattle.coap_model.specs.views.ConfigViews.{start_values}

-- The maximum length of a representation in bytes, which no option sets.
abbrev pub rep_max : ℕ
rep_max = 65_000

-- The configuration of a plan, with counters that begin at `starts`. All other values are those of the plan, except the
-- length of a representation.
abbrev pub planned : ServerPlan → Starts → ConfigValues
planned plan starts = config_of plan.limits plan.connections plan.dynamic_max rep_max plan.turns (start_values starts)

-- The counters of a script or of a run over standard input and output: those of the plan.
abbrev pub starts_in : ServerPlan → Starts
starts_in plan = record { moment = plan.starts.moment; versions = plan.starts.versions; ids = plan.starts.ids }

-- The counters of a server that starts to listen at this time.
abbrev pub starts_of : ℕ → Starts
starts_of moment = record { moment = moment; versions = min (moment * 65_536) (2 ^ 64 - 1); ids = 0 }
