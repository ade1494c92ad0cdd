-- Defined by this project: the plan for the arguments of `coap-server`.
use Rattle.std.specs.Prelude.{◌∷◌, [], ◌&&◌, ◌||◌, ⊤, ℕ, Bool, true, false, not, List, Option, Some, None, is_some}
use Rattle.std.specs.Prelude.{Result, Ok, Err, bytes_eq, codes, if◌then◌else◌}
use Rattle.std.specs.Option.{option_map_or}
use Rattle.std.specs.Net.Reader.{read_ipv4, read_ipv6, whole_value}
use Rattle.std.specs.declared.net.ip_addr.IpAddr.{IpAddr}
use Rattle.std.specs.declared.net.ip_addr.IpAddr.TheVariants as ip
use Rattle.clap.specs.Simple.{new_shape}
use Rattle.clap.specs.Words.{App, Row, Text, fault_of, first_of, matches_of}
use Rattle.coap_path.specs.Applications.{ApplicationsValue}
use Rattle.coap_conn.specs.Limits.{LimitValues, limits_of}
use Rattle.coap_text.specs.Words.{decimal_value, parts}
use Rattle.coap_print.specs.declared.level.LogLevel.{LogLevel}
use Rattle.coap_print.specs.declared.level.LogLevel.TheVariants.{Nothing}
use Rattle.coap_command_line.specs.CommandLines.{◌>>=◌, WordsFaultValue, Clash, Value, comma, is_used, letter_option}
use Rattle.coap_command_line.specs.CommandLines.{level_in, number_within, option_value, repeated_option, unless_refused}
use Rattle.coap_command_line.specs.CommandLines.{word_flag, word_option}
use Rattle.coap_command_line.specs.ApplicationWords.{applications_said}
use Rattle.coap_command_line.specs.declared.server_plan.StartCounts.{StartCounts}
use Rattle.coap_command_line.specs.declared.arguments.server.ServerValues.{ServerValues}
use Rattle.coap_wire.specs.declared.sizes.TheConstants.{BASE_MESSAGE_SIZE, LARGEST_MESSAGE, LARGEST_SENT_MESSAGE}
use Rattle.coap_wire.specs.declared.sizes.TheConstants.{LARGEST_QUEUE, DEFAULT_QUEUE}

-- ---- the plan

-- The mode of the server: it listens at an address and a port, serves standard input and output, or runs the script
-- with a name.
pub data ModeValue : Type 0 where
  Listen : (address : IpAddr) (port : ℕ) → ModeValue
  Stdio : ModeValue
  Script : (name : Text) → ModeValue

-- The settings of a run of the server.
pub record ServerPlanValue : Type 0 where
  pub mode : ModeValue
  pub limits : LimitValues
  pub connections : ℕ
  pub dynamic_max : ℕ
  pub turns : ℕ
  pub log : LogLevel
  pub idle : ℕ
  pub starts : StartCounts
  pub «record» : Option Text
  pub record_limit : ℕ
  pub applications : Option ApplicationsValue

-- ---- the options

-- The command as `clap` gets it: without subcommands, with options of one value or none, with a version, and without
-- the program's name. The last option may be given several times. `clap` adds `-h` and `--help`, and `-V` and
-- `--version` for the version. If one of these is used, `clap` rejects the arguments with the kind DisplayHelp or
-- DisplayVersion.
abbrev pub server_app : App
server_app = record {
  top = record (new_shape (codes "coap-server")) {
    rules = letter_option (codes "-A") ∷ letter_option (codes "-p") ∷ letter_option (codes "-d")
        ∷ word_flag (codes "--stdio") ∷ word_option (codes "--script")
        ∷ word_option (codes "--max-message") ∷ word_option (codes "--max-sent") ∷ word_option (codes "--queue")
        ∷ word_option (codes "--pending") ∷ word_option (codes "--observers")
        ∷ word_option (codes "--connections") ∷ word_option (codes "--turns")
        ∷ word_option (codes "--log") ∷ word_option (codes "--idle") ∷ word_option (codes "--starts")
        ∷ word_option (codes "--record") ∷ word_option (codes "--record-limit")
        ∷ repeated_option (codes "--application") ∷ [];
    has_version = true;
    no_binary_name = true;
  };
  subs = [];
}

-- ---- values of options

-- The IPv4 or IPv6 address, if there is one.
abbrev pub either_address : Option (List ℕ) → Option (List ℕ) → Option IpAddr
either_address (Some octets) _ = Some (ip.V4 (record { octets = octets }))
either_address None (Some segments) = Some (ip.V6 (record { segments = segments }))
either_address None None = None

-- The address in a text: four decimal numbers separated by dots, or an IPv6 address (RFC 4291 section 2.2). The
-- standard library parses both.
unfoldable pub address_of : Text → Option IpAddr
address_of text = either_address (whole_value (read_ipv4 text)) (whole_value (read_ipv6 text))

-- The address 0.0.0.0, at which the server listens by default.
abbrev pub every_address : IpAddr
every_address = ip.V4 (record { octets = 0 ∷ 0 ∷ 0 ∷ 0 ∷ [] })

-- The limits of each connection: bytes of an accepted message, of a sent message and of the queue, numbers of pending
-- entries and observers.
unfoldable pub limits_said : List Row → Result LimitValues Text
limits_said rows = do
  message ← option_value (codes "--max-message") (number_within BASE_MESSAGE_SIZE LARGEST_MESSAGE)
      LARGEST_SENT_MESSAGE rows
  sent ← option_value (codes "--max-sent") (number_within BASE_MESSAGE_SIZE LARGEST_SENT_MESSAGE)
      LARGEST_SENT_MESSAGE rows
  queue ← option_value (codes "--queue") (number_within sent LARGEST_QUEUE) DEFAULT_QUEUE rows
  pending ← option_value (codes "--pending") (number_within 0 256) 16 rows
  observers ← option_value (codes "--observers") (number_within 0 256) 16 rows
  Ok (limits_of message sent queue pending observers 16)

-- The start values, if all three are valid.
abbrev pub counts_of : Option ℕ → Option ℕ → Option ℕ → Option StartCounts
counts_of (Some moment) (Some versions) (Some ids) = Some (record { moment = moment; versions = versions; ids = ids })
counts_of _ _ _ = None

-- Three texts, if there are exactly three.
abbrev pub three_of : List Text → Option (Text × Text × Text)
three_of (first ∷ second ∷ third ∷ []) = Some (first, second, third)
three_of other = None

-- The three parts of a text with exactly two commas.
unfoldable pub three_in : Text → Option (Text × Text × Text)
three_in text = three_of (parts comma text)

-- The start values in three texts: the time, the number of versions and the number of connection ids. An id is left for
-- a connection.
abbrev pub counts_in : Option (Text × Text × Text) → Option StartCounts
counts_in None = None
counts_in (Some (moment, versions, ids)) =
    counts_of (decimal_value moment) (decimal_value versions) (number_within 0 18446744073709551614 ids)

-- The start values in a text: exactly three numbers, separated by commas.
unfoldable pub starts_in : Text → Option StartCounts
starts_in text = counts_in (three_in text)

-- The start values of a server without the option.
abbrev pub from_zero : StartCounts
from_zero = record { moment = 0; versions = 0; ids = 0 }

-- Nothing but that a text can be the name of a file, which an empty text cannot.
unfoldable pub file_name : Text → Option ⊤
file_name [] = None
file_name (byte ∷ bytes) = Some tt

-- The values of all options, or the name of the first option with an invalid text. The order is that of the usage line.
-- The options that choose a mode, the name of the record and the entries of the application have no value here.
unfoldable pub values_said : List Row → Result ServerValues Text
values_said rows = do
  address ← option_value (codes "-A") address_of every_address rows
  port ← option_value (codes "-p") (number_within 1 65535) 5683 rows
  dynamic_max ← option_value (codes "-d") (number_within 0 1000) 0 rows
  limits ← limits_said rows
  connections ← option_value (codes "--connections") (number_within 1 256) 16 rows
  turns ← option_value (codes "--turns") (number_within 1 1000000000000) 1000000000000 rows
  log ← option_value (codes "--log") level_in Nothing rows
  idle ← option_value (codes "--idle") (number_within 0 4294967295) 0 rows
  starts ← option_value (codes "--starts") starts_in from_zero rows
  named ← option_value (codes "--record") file_name tt rows
  record_limit ← option_value (codes "--record-limit") (number_within 1 18446744073709551615) 1073741824 rows
  Ok (record {
    address = address;
    port = port;
    dynamic_max = dynamic_max;
    limits = limits;
    connections = connections;
    turns = turns;
    log = log;
    idle = idle;
    starts = starts;
    record_limit = record_limit;
  })

-- ---- the plan for the arguments

-- True if `--starts` is given to a server that listens, whose start values are those of its clock.
unfoldable pub starts_a_listener : List Row → Bool
starts_a_listener rows =
    is_some (first_of (codes "--starts") rows)
    && (not (is_some (first_of (codes "--script") rows)) && not (is_used (codes "--stdio") rows))

-- True if an option is given with a mode that excludes it. A script excludes `--log` and `--idle`, standard input and
-- output exclude `--idle`, and a server that listens excludes `--starts`.
unfoldable pub excludes_mode : List Row → Bool
excludes_mode rows =
    (is_some (first_of (codes "--script") rows) && is_some (first_of (codes "--log") rows))
    || (is_some (first_of (codes "--script") rows) && is_some (first_of (codes "--idle") rows))
    || (is_used (codes "--stdio") rows && is_some (first_of (codes "--idle") rows))
    || starts_a_listener rows

-- True if entries of an application are given to a server that runs no script.
unfoldable pub excludes_application : List Row → Bool
excludes_application rows =
    is_some (first_of (codes "--application") rows) && not (is_some (first_of (codes "--script") rows))

-- True if the record is standard output.
unfoldable pub records_to_output : List Row → Bool
records_to_output rows = option_map_or (λ name. bytes_eq name (codes "-")) (first_of (codes "--record") rows) false

-- True if the limit of a record is given without a record.
abbrev pub lacks_record : List Row → Bool
lacks_record rows = is_some (first_of (codes "--record-limit") rows) && not (is_some (first_of (codes "--record") rows))

-- True if a record is given with a mode that excludes it, or its limit without a record. A script excludes every
-- record, and standard input and output exclude a record that is standard output.
unfoldable pub excludes_record : List Row → Bool
excludes_record rows =
    (is_some (first_of (codes "--script") rows) && is_some (first_of (codes "--record") rows))
    || (is_used (codes "--stdio") rows && records_to_output rows)
    || lacks_record rows

-- The mode: standard input and output, the script with a name, or otherwise the address and the port. The first two
-- exclude each other.
abbrev pub mode_of : Bool → Option Text → IpAddr → ℕ → Option ModeValue
mode_of true None address port = Some Stdio
mode_of false (Some name) address port = Some (Script name)
mode_of false None address port = Some (Listen address port)
mode_of true (Some name) address port = None

-- The plan with a mode, the name of the record and the entries of the application, or `Clash` if there is no mode.
abbrev pub with_mode : ServerValues → Option Text → Option ApplicationsValue → Option ModeValue
    → Result ServerPlanValue WordsFaultValue
with_mode values name applications None = Err Clash
with_mode values name applications (Some mode) =
    Ok (record {
      mode = mode;
      limits = values.limits;
      connections = values.connections;
      dynamic_max = values.dynamic_max;
      turns = values.turns;
      log = values.log;
      idle = values.idle;
      starts = values.starts;
      «record» = name;
      record_limit = values.record_limit;
      applications = applications;
    })

-- The plan with a mode, the name of the record and the entries of the application, or the error of the values.
-- `excluded` is true if options exclude each other.
abbrev pub planned : Bool → Bool → Option Text → Option Text → Result ServerValues Text
    → Result (Option ApplicationsValue) Text → Result ServerPlanValue WordsFaultValue
planned excluded stdio script name (Err fault) applications = Err (Value fault)
planned excluded stdio script name (Ok values) (Err refused) = Err (Value (codes "--application"))
planned excluded stdio script name (Ok values) (Ok applications) =
    if excluded then Err Clash else with_mode values name applications (mode_of stdio script values.address values.port)

-- The plan for the options that `clap` found, or the error.
unfoldable pub server_plan_in : List Row → Result ServerPlanValue WordsFaultValue
server_plan_in rows =
    planned (excludes_mode rows || excludes_record rows || excludes_application rows) (is_used (codes "--stdio") rows)
    (first_of (codes "--script") rows)
    (first_of (codes "--record") rows) (values_said rows) (applications_said rows)

-- The plan for the arguments, or the first error that applies. The order is: `clap`, the text of an option, two options
-- together.
unfoldable pub server_plan_of : List Text → Result ServerPlanValue WordsFaultValue
server_plan_of words = unless_refused (fault_of server_app words) (server_plan_in (matches_of server_app words))
