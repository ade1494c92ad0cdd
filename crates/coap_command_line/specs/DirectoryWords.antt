-- Defined by this project: the plan for the arguments of `coap-directory`, and the reason for refused arguments.
use Rattle.std.specs.Prelude.{◌≡◌, ◌∷◌, [], ℕ, Bool, true, List, map, Option, Some, None, option_map, Result, Ok, Err}
use Rattle.std.specs.Prelude.{codes, string_bytes, if◌then◌else◌}
use Rattle.std.specs.declared.net.ip_addr.IpAddr.{IpAddr}
use Rattle.clap.specs.Simple.{new_shape}
use Rattle.clap.specs.Words.{App, Row, Text, fault_of, first_of, matches_of}
use Rattle.coap_print.specs.declared.level.LogLevel.{LogLevel}
use Rattle.coap_print.specs.declared.level.LogLevel.TheVariants.{Nothing}
use Rattle.coap_command_line.specs.CommandLines.{◌>>=◌, WordsFaultValue, Clash, Value, letter_option, level_in}
use Rattle.coap_command_line.specs.CommandLines.{number_within, option_value, unless_refused, word_option}
use Rattle.coap_command_line.specs.ServerWords.{address_of, every_address, file_name, lacks_record}
use Rattle.coap_command_line.specs.PlanViews.{IsRefused}
use Rattle.coap_command_line.specs.Reasons.{ValueRow, given_for, limit_alone, row_in, row_text, unless_rejected}
use Rattle.coap_command_line.specs.declared.arguments.WordsFault.{WordsFault}
use Rattle.coap_command_line.specs.declared.arguments.WordsFault.TheVariants as faults
use Rattle.coap_command_line.specs.declared.arguments.directory.DirectoryPlan.{DirectoryPlan}
use Rattle.coap_command_line.specs.declared.arguments.directory.DirectoryValues.{DirectoryValues}
use Rattle.coap_command_line.specs.declared.arguments.tables.TheConstants.{DIRECTORY_VALUES}

-- ---- the plan

-- The settings of a run of the directory.
pub record DirectoryPlanValue : Type 0 where
  pub address : IpAddr
  pub port : ℕ
  pub connections : ℕ
  pub registrations : ℕ
  pub log : LogLevel
  pub idle : ℕ
  pub «record» : Option Text
  pub record_limit : ℕ

-- The value of a plan.
abbrev pub directory_value : DirectoryPlan → DirectoryPlanValue
directory_value plan = record {
  address = plan.address;
  port = plan.port;
  connections = plan.connections;
  registrations = plan.registrations;
  log = plan.log;
  idle = plan.idle;
  «record» = option_map string_bytes plan.record;
  record_limit = plan.record_limit;
}

-- ---- the options

-- The command as `clap` gets it. It has no subcommands and no name of the program, but a version.
abbrev pub directory_app : App
directory_app = record {
  top = record (new_shape (codes "coap-directory")) {
    rules = letter_option (codes "-A") ∷ letter_option (codes "-p") ∷ word_option (codes "--connections")
        ∷ word_option (codes "--registrations") ∷ word_option (codes "--log") ∷ word_option (codes "--idle")
        ∷ word_option (codes "--record") ∷ word_option (codes "--record-limit") ∷ [];
    has_version = true;
    no_binary_name = true;
  };
  subs = [];
}

-- ---- the plan for the arguments

-- The values of all options, or the name of the first option with an invalid text. The order is that of the usage line.
-- The name of the record has no value here.
unfoldable pub directory_said : List Row → Result DirectoryValues Text
directory_said rows = do
  address ← option_value (codes "-A") address_of every_address rows
  port ← option_value (codes "-p") (number_within 1 65535) 5683 rows
  connections ← option_value (codes "--connections") (number_within 1 256) 16 rows
  registrations ← option_value (codes "--registrations") (number_within 1 100000) 1000 rows
  log ← option_value (codes "--log") level_in Nothing rows
  idle ← option_value (codes "--idle") (number_within 0 4294967295) 0 rows
  named ← option_value (codes "--record") file_name tt rows
  record_limit ← option_value (codes "--record-limit") (number_within 1 18446744073709551615) 1073741824 rows
  Ok (record {
    address = address;
    port = port;
    connections = connections;
    registrations = registrations;
    log = log;
    idle = idle;
    record_limit = record_limit;
  })

-- The plan with the name of the record, or the error. `lacking` is true if the limit of a record is given without a
-- record.
abbrev pub planned_directory : Bool → Option Text → Result DirectoryValues Text
    → Result DirectoryPlanValue WordsFaultValue
planned_directory lacking name (Err fault) = Err (Value fault)
planned_directory lacking name (Ok values) =
    if lacking then Err Clash
    else Ok (record {
      address = values.address;
      port = values.port;
      connections = values.connections;
      registrations = values.registrations;
      log = values.log;
      idle = values.idle;
      «record» = name;
      record_limit = values.record_limit;
    })

-- The plan for the options that `clap` found, or the error.
unfoldable pub directory_plan_in : List Row → Result DirectoryPlanValue WordsFaultValue
directory_plan_in rows = planned_directory (lacks_record rows) (first_of (codes "--record") rows) (directory_said rows)

-- The plan for the arguments, or the first error that applies. The order is: `clap`, the text of an option, the limit
-- of a record without a record.
unfoldable pub directory_plan_of : List Text → Result DirectoryPlanValue WordsFaultValue
directory_plan_of words =
    unless_refused (fault_of directory_app words) (directory_plan_in (matches_of directory_app words))

-- Says that a plan or an error of the code is the expected result `answer`.
abbrev pub GivesDirectoryPlan : Result DirectoryPlanValue WordsFaultValue → Result DirectoryPlan WordsFault → Type 0
GivesDirectoryPlan answer (Ok plan) = answer ≡ Ok (directory_value plan)
GivesDirectoryPlan answer (Err refusal) = IsRefused answer refusal

-- Says that a plan or an error of the code is the one for these arguments.
abbrev pub IsDirectoryPlan : List Text → Result DirectoryPlan WordsFault → Type 0
IsDirectoryPlan words answer = GivesDirectoryPlan (directory_plan_of words) answer

-- ---- reasons

abbrev pub directory_values : List ValueRow
directory_values = map (λ row. record { option = row.0.now; allowed = row.1.now }) DIRECTORY_VALUES.now

-- The reason for an error, from the options that `clap` found. The value of an option has one, and so has the limit of
-- a record without a record.
abbrev pub directory_reason_in : List Row → WordsFault → Option Text
directory_reason_in rows (faults.Usage error) = None
directory_reason_in rows (faults.Target fault) = None
directory_reason_in rows (faults.Value name) = row_text (row_in directory_values name.now) (given_for name.now rows)
directory_reason_in rows faults.Clash = Some limit_alone
directory_reason_in rows faults.Memory = None

-- The reason for an error of these arguments.
unfoldable pub directory_reason : List Text → WordsFault → Option Text
directory_reason words fault =
    unless_rejected (fault_of directory_app words) (directory_reason_in (matches_of directory_app words) fault)
