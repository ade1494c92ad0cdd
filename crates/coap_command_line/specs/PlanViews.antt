-- Defined by this project: the values of the plans and errors of the code.
use Rattle.std.specs.Prelude.{◌≡◌, ⊤, ℕ, Bool, true, false, List, Vec, Option, option_map, Result, Ok, Err}
use Rattle.std.specs.Prelude.{string_bytes}
use Rattle.clap.specs.Words.{IsAmong, Kinds, Text, kind_of}
use Rattle.clap.specs.declared.error.kind.ErrorKind.{ErrorKind}
use Rattle.clap.specs.declared.error.kind.ErrorKind.TheVariants as kind
use Rattle.coap_command_line.specs.CommandLines.{WordsFaultValue}
use Rattle.coap_command_line.specs.CommandLines as fault
use Rattle.coap_command_line.specs.ClientWords.{ClientPlanValue, client_plan_of, spoken}
use Rattle.coap_command_line.specs.ServerWords.{ModeValue, ServerPlanValue, server_plan_of}
use Rattle.coap_command_line.specs.ServerWords as mode
use Rattle.coap_client_request.specs.declared.plan.ClientPlan.{ClientPlan}
use Rattle.coap_command_line.specs.declared.server_plan.Mode.{Mode}
use Rattle.coap_command_line.specs.declared.server_plan.Mode.TheVariants as modes
use Rattle.coap_command_line.specs.declared.server_plan.ServerPlan.{ServerPlan}
use Rattle.coap_command_line.specs.declared.arguments.applications.EntryFault.{EntryFault}
use Rattle.coap_command_line.specs.declared.arguments.applications.EntryFault.TheVariants as entries
use Rattle.coap_command_line.specs.declared.arguments.WordsFault.{WordsFault}
use Rattle.coap_command_line.specs.declared.arguments.WordsFault.TheVariants as faults

-- The value of a mode.
abbrev pub mode_value : Mode → ModeValue
mode_value (modes.Listen address port) = mode.Listen address port
mode_value modes.Stdio = mode.Stdio
mode_value (modes.Script name) = mode.Script (string_bytes name)

-- The value of a plan of the server.
abbrev pub server_value : ServerPlan → ServerPlanValue
server_value plan = record {
  mode = mode_value plan.mode;
  limits = plan.limits;
  connections = plan.connections;
  dynamic_max = plan.dynamic_max;
  turns = plan.turns;
  log = plan.log;
  idle = plan.idle;
  starts = plan.starts;
  «record» = option_map string_bytes plan.record;
  record_limit = plan.record_limit;
  applications = plan.applications;
}

-- The number and the value of the extra option.
abbrev pub extra_value : {A : Type 0} → ℕ × Vec ℕ A → ℕ × Text
extra_value extra = (extra.0, extra.1.items)

-- The value of a plan of the client.
abbrev pub client_value : ClientPlan → ClientPlanValue
client_value plan = record {
  target = plan.target;
  method = plan.method;
  observe = plan.observe;
  wait = plan.wait;
  plain = plan.plain;
  newline = plan.newline;
  content_format = plan.content_format;
  accept = plan.accept;
  option = option_map extra_value plan.option;
  payload = plan.payload.items;
  input = option_map string_bytes plan.input;
  output = option_map string_bytes plan.output;
  log = plan.log;
}

-- The number of an error.
abbrev pub words_fault_number : WordsFault → ℕ
words_fault_number (faults.Usage error) = 1
words_fault_number (faults.Target refusal) = 2
words_fault_number (faults.Value name) = 3
words_fault_number faults.Clash = 4
words_fault_number faults.Memory = 5

-- True if `clap` reports a text that the user asked for: the help or the version.
abbrev pub is_requested_text : ErrorKind → Bool
is_requested_text kind.DisplayHelp = true
is_requested_text kind.DisplayVersion = true
is_requested_text other = false

-- True if the error of a command line is a request for help or for the version.
abbrev pub is_help_or_version : WordsFault → Bool
is_help_or_version (faults.Usage error) = is_requested_text (kind_of error)
is_help_or_version other = false

-- Says that a result is this error. An error of `clap` is of one of the kinds in the result. Nothing is known if
-- allocation failed.
abbrev pub IsRefused : {A : Type 0} → Result A WordsFaultValue → WordsFault → Type 0
IsRefused answer (faults.Usage error) =
    (kinds : Kinds) × (answer ≡ Err (fault.Usage kinds)) × IsAmong (kind_of error) kinds
IsRefused answer (faults.Target refusal) = answer ≡ Err (fault.Target refusal)
IsRefused answer (faults.Value name) = answer ≡ Err (fault.Value name.now)
IsRefused answer faults.Clash = answer ≡ Err fault.Clash
IsRefused answer faults.Memory = ⊤

-- Says that an error of `clap` is of one of these kinds. Nothing is known if allocation failed.
abbrev pub IsTurnedDown : Kinds → WordsFault → Type 0
IsTurnedDown kinds (faults.Usage error) = IsAmong (kind_of error) kinds
IsTurnedDown kinds faults.Memory = ⊤
IsTurnedDown kinds other = ⊥

-- Says that a plan or an error of the code is the expected result `answer`.
abbrev pub GivesServerPlan : Result ServerPlanValue WordsFaultValue → Result ServerPlan WordsFault → Type 0
GivesServerPlan answer (Ok plan) = answer ≡ Ok (server_value plan)
GivesServerPlan answer (Err refusal) = IsRefused answer refusal

-- Says that the entries of an application, or the first value that names none, are the expected result `answer`.
-- Nothing is known if allocation failed.
abbrev pub GivesEntries : {A : Type 0} → Result A Text → Result A EntryFault → Type 0
GivesEntries answer (Ok found) = answer ≡ Ok found
GivesEntries answer (Err (entries.Refused text)) = answer ≡ Err text.now
GivesEntries answer (Err entries.Memory) = ⊤

-- Says that a plan or an error of the code is the one for these arguments.
abbrev pub IsServerPlan : List Text → Result ServerPlan WordsFault → Type 0
IsServerPlan words answer = GivesServerPlan (server_plan_of words) answer

-- Says that a plan or an error of the code is the expected result `answer`.
abbrev pub GivesClientPlan : Result ClientPlanValue WordsFaultValue → Result ClientPlan WordsFault → Type 0
GivesClientPlan answer (Ok plan) = answer ≡ Ok (client_value plan)
GivesClientPlan answer (Err refusal) = IsRefused answer refusal

-- Says that the extra option, if there is one, or an error of the code is the expected result `answer`.
abbrev pub TellsExtra : {A : Type 0} → Result (Option (ℕ × Text)) Text → Result (Option (ℕ × Vec ℕ A)) WordsFault
    → Type 0
TellsExtra answer (Ok extra) = answer ≡ Ok (option_map extra_value extra)
TellsExtra answer (Err refusal) = IsRefused (spoken answer) refusal

-- Says that a plan or an error of the code is the one for these arguments.
abbrev pub IsClientPlan : List Text → Result ClientPlan WordsFault → Type 0
IsClientPlan words answer = GivesClientPlan (client_plan_of words) answer
