-- Defined by this project: the plan for the arguments of `coap-client`. `-e` or `-f` with GET or DELETE sends a
-- payload, although these methods define none (RFC 7252 section 5.5).
use Rattle.std.specs.Prelude.{◌≡◌, ◌∷◌, [], ◌==◌, ◌&&◌, ◌||◌, ℕ, Bool, true, false, not, List, drop, length, nat_eq}
use Rattle.std.specs.Prelude.{nat_le, Option, Some, None, is_some, option_map, unwrap_or, Result, Ok, Err, codes}
use Rattle.std.specs.Prelude.{bytes_eq, if◌then◌else◌}
use Rattle.std.specs.List.{after_first, before_first, list_any, starts_with}
use Rattle.clap.specs.Simple.{new_shape}
use Rattle.clap.specs.Words.{App, Row, Rule, Text, fault_of, first_of, matches_of, new_rule}
use Rattle.percent_encoding.specs.Percent.{percent_decode}
use Rattle.coap_text.specs.Words.{hex_value}
use Rattle.coap_print.specs.declared.level.LogLevel.{LogLevel}
use Rattle.coap_print.specs.declared.level.LogLevel.TheVariants.{Nothing}
use Rattle.coap_command_line.specs.CommandLines.{◌>>=◌, WordsFaultValue, Clash, Target, Value, is_used, letter_flag}
use Rattle.coap_command_line.specs.CommandLines.{letter_option, level_in, number_within, option_value, unless_refused}
use Rattle.coap_command_line.specs.CommandLines.{word_option}
use Rattle.coap_client_request.specs.Targets.{TargetValue, target_of}
use Rattle.coap_client_request.specs.declared.request.Method.{Method}
use Rattle.coap_client_request.specs.declared.request.Method.TheVariants.{Get, Put, Post, Delete}
use Rattle.coap_client_request.specs.declared.target.TargetFault.{TargetFault}
use Rattle.coap_command_line.specs.declared.arguments.client.RequestValues.{RequestValues}

-- ---- the plan

-- The settings of a run of the client. `observe` and `wait` are in seconds. `plain` omits Uri-Host, and `newline` adds
-- a newline to each payload. `input` is the file of the payload, and `output` is the file for responses.
pub record ClientPlanValue : Type 0 where
  pub target : TargetValue
  pub method : Method
  pub observe : Option ℕ
  pub wait : ℕ
  pub plain : Bool
  pub newline : Bool
  pub content_format : Option ℕ
  pub accept : Option ℕ
  pub option : Option (ℕ × Text)
  pub payload : Text
  pub input : Option Text
  pub output : Option Text
  pub log : LogLevel

-- ---- the options

-- The URI is the only argument that is no option. The URI is required.
abbrev pub uri_rule : Rule
uri_rule = record (new_rule (codes "URI")) { required = true }

-- The command as `clap` gets it: without subcommands, with options of one value or none, with a version, and without
-- the program's name. `clap` adds `-h` and `--help`, and `-V` and `--version` for the version. If one of these is used,
-- `clap` rejects the arguments with the kind DisplayHelp or DisplayVersion.
abbrev pub client_app : App
client_app = record {
  top = record (new_shape (codes "coap-client")) {
    rules =
        letter_option (codes "-m") ∷ letter_option (codes "-e") ∷ letter_option (codes "-f")
        ∷ letter_option (codes "-o")
        ∷ letter_option (codes "-t") ∷ letter_option (codes "-A") ∷ letter_option (codes "-s")
        ∷ letter_option (codes "-B")
        ∷ letter_option (codes "-O") ∷ letter_flag (codes "-U") ∷ letter_flag (codes "-w")
        ∷ word_option (codes "--log") ∷ uri_rule ∷ [];
    has_version = true;
    no_binary_name = true;
  };
  subs = [];
}

-- ---- values of options

-- The method with this name.
unfoldable pub method_named : Text → Option Method
method_named text =
    if bytes_eq text (codes "get") then Some Get
    else if bytes_eq text (codes "put") then Some Put
    else if bytes_eq text (codes "post") then Some Post
    else if bytes_eq text (codes "delete") then Some Delete
    else None

-- The number of the content format with this full name (RFC 7252 section 12.3).
unfoldable pub format_named : Text → Option ℕ
format_named text =
    if bytes_eq text (codes "text/plain") then Some 0
    else if bytes_eq text (codes "application/link-format") then Some 40
    else if bytes_eq text (codes "application/xml") then Some 41
    else if bytes_eq text (codes "application/octet-stream") then Some 42
    else if bytes_eq text (codes "application/exi") then Some 47
    else if bytes_eq text (codes "application/json") then Some 50
    else if bytes_eq text (codes "application/cbor") then Some 60
    else None

-- The content format if there is one, otherwise the number in the text.
abbrev pub or_number : Option ℕ → Text → Option ℕ
or_number (Some format) text = Some format
or_number None text = number_within 0 65535 text

-- The content format with this full name or number.
unfoldable pub format_of : Text → Option ℕ
format_of text = or_number (format_named text) text

-- The value of the extra option: the bytes of the hexadecimal digits after `0x`, or the text itself if there is no
-- `0x`.
unfoldable pub option_bytes : Text → Option Text
option_bytes text = if starts_with nat_eq text (codes "0x") then hex_value (drop 2 text) else Some text

-- The value, if it has at most 1,034 bytes.
abbrev pub short_enough : Option Text → Option Text
short_enough None = None
short_enough (Some bytes) = if nat_le (length bytes) 1034 then Some bytes else None

abbrev pub is_comma : ℕ → Bool
is_comma byte = byte == 44

-- Says that these are the parts of a text before and after its first comma. A text without a comma has no parts.
abbrev pub AreHalves : Text → Option (Text × Text) → Type 0
AreHalves text None = list_any is_comma text ≡ false
AreHalves text (Some x) =
    (list_any is_comma text ≡ true) × (x.0 ≡ before_first is_comma text) × (x.1 ≡ after_first is_comma text)

-- The extra option, if both its number and its value are valid.
abbrev pub numbered : Option ℕ → Option Text → Option (ℕ × Text)
numbered (Some number) (Some bytes) = Some (number, bytes)
numbered _ _ = None

-- The extra option in a text: a number, a comma, and its value.
unfoldable pub extra_of : Text → Option (ℕ × Text)
extra_of text =
    if list_any is_comma text
    then numbered (number_within 0 65535 (before_first is_comma text))
    (short_enough (option_bytes (after_first is_comma text)))
    else None

-- The value of an option that may be absent.
abbrev pub perhaps : {A : Type 0} → (Text → Option A) → Text → Option (Option A)
perhaps read text = option_map (λ value. Some value) (read text)

-- The values of the options whose text can be invalid, except `-O`, or the name of the first option with an invalid
-- text. The order is that of the usage line.
unfoldable pub request_said : List Row → Result RequestValues Text
request_said rows = do
  method ← option_value (codes "-m") method_named Get rows
  content_format ← option_value (codes "-t") (perhaps format_of) None rows
  accept ← option_value (codes "-A") (perhaps format_of) None rows
  observe ← option_value (codes "-s") (perhaps (number_within 0 4294967295)) None rows
  wait ← option_value (codes "-B") (number_within 1 4294967295) 90 rows
  Ok (record { method = method; content_format = content_format; accept = accept; observe = observe; wait = wait })

-- The extra option of the message, or the name `-O` if its text is invalid.
abbrev pub extra_said : List Row → Result (Option (ℕ × Text)) Text
extra_said rows = option_value (codes "-O") (perhaps extra_of) None rows

-- The level of the log, or the name `--log` if its text is invalid.
abbrev pub log_said : List Row → Result LogLevel Text
log_said rows = option_value (codes "--log") level_in Nothing rows

-- The URI, whose presence `clap` checks.
unfoldable pub uri_said : List Row → Text
uri_said rows = unwrap_or (first_of (codes "URI") rows) []

-- The payload of `-e`, percent-decoded.
unfoldable pub payload_said : List Row → Text
payload_said rows = percent_decode (unwrap_or (first_of (codes "-e") rows) [])

-- ---- the plan for the arguments

abbrev pub is_get : Method → Bool
is_get Get = true
is_get other = false

-- True if two options exclude each other. `-e` and `-f` both give a payload, and `-s` needs the method GET (RFC 7641
-- section 2).
unfoldable pub clashes : List Row → RequestValues → Bool
clashes rows values =
    (is_some (first_of (codes "-e") rows) && is_some (first_of (codes "-f") rows))
    || (is_some values.observe && not (is_get values.method))

-- The plan with these values.
abbrev pub client_plan : TargetValue → RequestValues → Option (ℕ × Text) → LogLevel → List Row → ClientPlanValue
client_plan target values extra log rows = record {
  target = target;
  method = values.method;
  observe = values.observe;
  wait = values.wait;
  plain = is_used (codes "-U") rows;
  newline = is_used (codes "-w") rows;
  content_format = values.content_format;
  accept = values.accept;
  option = extra;
  payload = payload_said rows;
  input = first_of (codes "-f") rows;
  output = first_of (codes "-o") rows;
  log = log;
}

-- The target, or its error as an error of the command line.
abbrev pub aimed : Result TargetValue TargetFault → Result TargetValue WordsFaultValue
aimed (Ok target) = Ok target
aimed (Err fault) = Err (Target fault)

-- The values, or the name of an option as an error of the command line.
abbrev pub spoken : {A : Type 0} → Result A Text → Result A WordsFaultValue
spoken (Ok values) = Ok values
spoken (Err name) = Err (Value name)

-- The plan for the options that `clap` found, or the error.
unfoldable pub client_plan_in : List Row → Result ClientPlanValue WordsFaultValue
client_plan_in rows = do
  target ← aimed (target_of (uri_said rows))
  values ← spoken (request_said rows)
  extra ← spoken (extra_said rows)
  log ← spoken (log_said rows)
  if clashes rows values then Err Clash else Ok (client_plan target values extra log rows)

-- The plan for the arguments, or the first error that applies. The order is: `clap`, the target, the text of an option,
-- two options together.
unfoldable pub client_plan_of : List Text → Result ClientPlanValue WordsFaultValue
client_plan_of words = unless_refused (fault_of client_app words) (client_plan_in (matches_of client_app words))
