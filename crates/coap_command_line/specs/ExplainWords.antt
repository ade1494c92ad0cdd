-- Defined by this project: the plan for the arguments of `coap-explain`, and the reason for refused arguments.
use Rattle.std.specs.Prelude.{◌≡◌, ◌∷◌, [], ℕ, true, List, map, Option, None, unwrap_or, Result, Ok, Err, codes}
use Rattle.std.specs.Prelude.{string_bytes}
use Rattle.clap.specs.Simple.{new_shape}
use Rattle.clap.specs.Words.{App, Row, Rule, Text, fault_of, first_of, matches_of, new_rule}
use Rattle.coap_command_line.specs.CommandLines.{◌>>=◌, WordsFaultValue, number_within, option_value, unless_refused}
use Rattle.coap_command_line.specs.CommandLines.{word_option}
use Rattle.coap_command_line.specs.ClientWords.{perhaps, spoken}
use Rattle.coap_command_line.specs.PlanViews.{IsRefused}
use Rattle.coap_command_line.specs.Reasons.{ValueRow, given_for, row_in, row_text, unless_rejected}
use Rattle.coap_command_line.specs.declared.arguments.WordsFault.{WordsFault}
use Rattle.coap_command_line.specs.declared.arguments.WordsFault.TheVariants as faults
use Rattle.coap_command_line.specs.declared.arguments.explain.ExplainPlan.{ExplainPlan}
use Rattle.coap_command_line.specs.declared.arguments.tables.TheConstants.{EXPLAIN_VALUES}

-- ---- the plan

-- The settings of a run: the name of the file, and the number of the only connection that is printed.
pub record ExplainPlanValue : Type 0 where
  pub file : Text
  pub connection : Option ℕ

-- The value of a plan.
abbrev pub explain_value : ExplainPlan → ExplainPlanValue
explain_value plan = record { file = string_bytes plan.file; connection = plan.connection }

-- ---- the options

-- The file is the only argument that is no option. The file is required.
abbrev pub file_rule : Rule
file_rule = record (new_rule (codes "FILE")) { required = true }

-- The command as `clap` gets it. It has no subcommands and no name of the program, but a version.
abbrev pub explain_app : App
explain_app = record {
  top = record (new_shape (codes "coap-explain")) {
    rules = word_option (codes "--connection") ∷ file_rule ∷ [];
    has_version = true;
    no_binary_name = true;
  };
  subs = [];
}

-- The number of the only connection, or the name of the option if its text is no number of a connection.
unfoldable pub connection_said : List Row → Result (Option ℕ) Text
connection_said rows = option_value (codes "--connection") (perhaps (number_within 1 18446744073709551615)) None rows

-- The name of the file, whose presence `clap` checks.
unfoldable pub file_said : List Row → Text
file_said rows = unwrap_or (first_of (codes "FILE") rows) []

-- ---- the plan for the arguments

-- The plan for the options that `clap` found, or the error.
unfoldable pub explain_plan_in : List Row → Result ExplainPlanValue WordsFaultValue
explain_plan_in rows = do
  connection ← spoken (connection_said rows)
  Ok (record { file = file_said rows; connection = connection })

-- The plan for the arguments, or the first error that applies: that of `clap`, or the text of the option.
unfoldable pub explain_plan_of : List Text → Result ExplainPlanValue WordsFaultValue
explain_plan_of words = unless_refused (fault_of explain_app words) (explain_plan_in (matches_of explain_app words))

-- Says that a plan or an error of the code is the expected result `answer`.
abbrev pub GivesExplainPlan : Result ExplainPlanValue WordsFaultValue → Result ExplainPlan WordsFault → Type 0
GivesExplainPlan answer (Ok plan) = answer ≡ Ok (explain_value plan)
GivesExplainPlan answer (Err refusal) = IsRefused answer refusal

-- Says that a plan or an error of the code is the one for these arguments.
abbrev pub IsExplainPlan : List Text → Result ExplainPlan WordsFault → Type 0
IsExplainPlan words answer = GivesExplainPlan (explain_plan_of words) answer

-- ---- reasons

abbrev pub explain_values : List ValueRow
explain_values = map (λ row. record { option = row.0.now; allowed = row.1.now }) EXPLAIN_VALUES.now

-- The reason for an error, from the options that `clap` found. Only the value of an option has one.
abbrev pub explain_reason_in : List Row → WordsFault → Option Text
explain_reason_in rows (faults.Usage error) = None
explain_reason_in rows (faults.Target fault) = None
explain_reason_in rows (faults.Value name) = row_text (row_in explain_values name.now) (given_for name.now rows)
explain_reason_in rows faults.Clash = None
explain_reason_in rows faults.Memory = None

-- The reason for an error of these arguments.
unfoldable pub explain_reason : List Text → WordsFault → Option Text
explain_reason words fault =
    unless_rejected (fault_of explain_app words) (explain_reason_in (matches_of explain_app words) fault)
