-- Defined by this project: the options in the header of a record, and the server that they mean.
use Rattle.std.specs.Prelude.{◌≡◌, ℕ, true, List, [], ◌∷◌, ◌++◌, take, drop, nat_eq, Option, Some, None, is_some}
use Rattle.std.specs.Prelude.{IfSome, Result, Ok, Err, codes, if◌then◌else◌}
use Rattle.std.specs.List.{AllByRecursion}
use Rattle.std.specs.Str.{IsUtf8}
use lib.Pointwise.{pointwise}
use Rattle.coap_text.specs.Words.{parts}
use Rattle.coap_model.specs.Configs.{ConfigValues, config_of, config_refusal}
use Rattle.coap_command_line.specs.CommandLines.{WordsFaultValue}
use Rattle.coap_command_line.specs.ServerWords.{ServerPlanValue, server_plan_of}
use Rattle.program_server_common.specs.Planned.{rep_max}
use Rattle.coap_server_engine.specs.values.Servers.{config_with}
use Rattle.program_explain.specs.declared.header.OptionsFault.{OptionsFault}
use Rattle.program_explain.specs.declared.header.ReplayConfig.{ReplayConfig}
use Rattle.program_explain.specs.declared.header.OptionsFault.TheVariants.{Refused, Memory}

-- The text with which the line of the options begins.
abbrev pub options_front : List ℕ
options_front = codes "# options: "

-- The options in a line of the header: the text after `# options: `.
unfoldable pub options_in : List ℕ → Option (List ℕ)
options_in line = if pointwise nat_eq (take 11 line) options_front then Some (drop 11 line) else None

-- The words of a server that runs a script.
abbrev pub script_words : List (List ℕ)
script_words = codes "--script" ∷ codes "-" ∷ []

-- The words of a server that runs a script with these options. Exactly one space separates two options.
abbrev pub words_of : List ℕ → List (List ℕ)
words_of options = script_words ++ parts 32 options

-- Each word is UTF-8, so that it can be an argument of a program.
abbrev pub AreUtf8 : List (List ℕ) → Type 0
AreUtf8 words = AllByRecursion IsUtf8 words

-- The values of a configuration.
abbrev pub values_of : ReplayConfig → ConfigValues
values_of c = config_with c.config c.applications

-- The configuration of a server with this plan, if there is one, with the entries of the application.
abbrev pub config_in_plan : Result ServerPlanValue WordsFaultValue → Option ConfigValues
config_in_plan (Ok plan) =
    Some (config_with (config_of plan.limits plan.connections plan.dynamic_max rep_max plan.turns
    (record { moment = plan.starts.moment; versions = plan.starts.versions; ids = plan.starts.ids })) plan.applications)
config_in_plan (Err fault) = None

-- The configuration of `coap-server` with these words, if it has a plan for them.
unfoldable pub config_said : List (List ℕ) → Option ConfigValues
config_said words = config_in_plan (server_plan_of words)

-- `coap-server` has no configuration for these words, or one that is out of range.
abbrev pub HasNoConfig : List (List ℕ) → Type 0
HasNoConfig words = IfSome (config_said words) (λ config. is_some (config_refusal config) ≡ true)

-- The configuration of `coap-server` with these words, or the error that there is none. Nothing is known if an
-- allocation failed.
abbrev pub IsConfigured : {C : Type 0} → (C → ConfigValues) → List (List ℕ) → Result C OptionsFault → Type 0
IsConfigured values words (Ok config) = config_said words ≡ Some (values config)
IsConfigured values words (Err Refused) = AreUtf8 words → HasNoConfig words
IsConfigured values words (Err Memory) = Unit {0}
