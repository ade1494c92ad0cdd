-- Defined by this project: the reason for a refused command line, a second line after the text of the error. The reason
-- says what was given and what is allowed.
use Rattle.std.specs.Prelude.{ℕ, ◌==◌, ◌&&◌, Bool, List, [], ◌∷◌, ◌++◌, drop, length, map, nat_eq, Option, Some, None}
use Rattle.std.specs.Prelude.{is_some, option_map, unwrap_or, Result, Ok, Err, codes, bytes_eq, decimal, if◌then◌else◌}
use Rattle.std.specs.Borrow.{Bor}
use Rattle.std.specs.List.{list_all, list_any, starts_with}
use Rattle.clap.specs.Words.{Kinds, Row, Text, fault_of, first_of, matches_of}
use Rattle.coap_print.specs.Texts.{is_text, escaped_text}
use Rattle.coap_print.specs.Lines.{appended}
use Rattle.coap_print.specs.declared.line.TheConstants.{LINE_LENGTH}
use Rattle.coap_wire.specs.declared.sizes.TheConstants.{BASE_MESSAGE_SIZE, LARGEST_SENT_MESSAGE}
use Rattle.coap_client_request.specs.declared.target.TargetFault.{TargetFault}
use Rattle.coap_client_request.specs.declared.target.TargetFault.TheVariants as target
use Rattle.coap_command_line.specs.CommandLines.{after, before, is_used, number_within, option_value}
use Rattle.coap_command_line.specs.ApplicationWords.{applications_said, refused_value}
use Rattle.coap_command_line.specs.ServerWords.{server_app, lacks_record, records_to_output}
use Rattle.coap_command_line.specs.ClientWords.{client_app, uri_said}
use Rattle.coap_command_line.specs.declared.arguments.WordsFault.{WordsFault}
use Rattle.coap_command_line.specs.declared.arguments.WordsFault.TheVariants as faults
use Rattle.coap_command_line.specs.declared.arguments.tables.TheConstants.{SERVER_VALUES, CLIENT_VALUES}

-- The line of a text, cut to its maximum length.
abbrev pub line_of : Text → Text
line_of text = appended LINE_LENGTH [] text

-- A text of the user. Each byte that is not printable is escaped.
abbrev pub given_text : Text → Text
given_text given = if length given == 0 then codes "an empty text" else escaped_text given

-- ---- rows of options

-- An option, and the values that it takes in words.
pub record ValueRow : Type 0 where
  pub option : Text
  pub allowed : Text

-- The row that contracts see for a row of the code.
abbrev pub value_row : Bor (List ℕ) × Bor (List ℕ) → ValueRow
value_row row = record { option = row.0.now; allowed = row.1.now }

-- True if each text is printable.
abbrev pub rows_are_text : List ValueRow → Bool
rows_are_text rows = list_all (λ row. is_text row.option && is_text row.allowed) rows

-- The first row of an option.
unfoldable pub row_in : List ValueRow → Text → Option ValueRow
row_in [] name = None
row_in (row ∷ rows) name = if bytes_eq row.option name then Some row else row_in rows name

abbrev pub server_values : List ValueRow
server_values = map (λ row. record { option = row.0.now; allowed = row.1.now }) SERVER_VALUES.now

abbrev pub client_values : List ValueRow
client_values = map (λ row. record { option = row.0.now; allowed = row.1.now }) CLIENT_VALUES.now

-- ---- values of options

-- The text of an option, or no bytes if the option is not given.
abbrev pub given_for : Text → List Row → Text
given_for name rows = unwrap_or (first_of name rows) []

-- An option with the values that it takes, and the one that was given.
abbrev pub value_text : Text → Text → Text → Text
value_text option allowed given = option ++ codes " takes " ++ allowed ++ codes ", not " ++ given_text given

-- The text for the row of an option, if there is a row.
abbrev pub row_text : Option ValueRow → Text → Option Text
row_text None given = None
row_text (Some row) given = Some (value_text row.option row.allowed given)

-- The number, or another one if there is none.
abbrev pub number_or : Result ℕ Text → ℕ → ℕ
number_or (Ok number) other = number
number_or (Err name) other = other

-- The minimum of `--queue`, which is the value of `--max-sent`.
unfoldable pub least_queue : List Row → ℕ
least_queue rows =
    number_or (option_value (codes "--max-sent") (number_within BASE_MESSAGE_SIZE LARGEST_SENT_MESSAGE)
    LARGEST_SENT_MESSAGE rows) LARGEST_SENT_MESSAGE

-- The text for `--queue`, with its minimum.
unfoldable pub queue_text : ℕ → Text → Text
queue_text least given = value_text (codes "--queue") (decimal least ++ codes " (--max-sent) to 4194304 bytes") given

-- The text for a value of `--application`.
unfoldable pub application_text : Text → Text
application_text given =
    value_text (codes "--application")
    (codes "PATH;METHODS;ATTRIBUTES of an entry (at most 16, with different paths, none built in)") given

-- The reason for the value of an option of the server. For `--application` it has the first value that is rejected.
unfoldable pub server_value : List Row → Text → Option Text
server_value rows name =
    if bytes_eq name (codes "--queue") then Some (queue_text (least_queue rows) (given_for name rows))
    else (if bytes_eq name (codes "--application")
    then option_map application_text (refused_value (applications_said rows))
    else row_text (row_in server_values name) (given_for name rows))

-- The reason for the value of an option of the client.
unfoldable pub client_value : List Row → Text → Option Text
client_value rows name = row_text (row_in client_values name) (given_for name rows)

-- ---- options that exclude each other

-- The text for the limit of a record without a record.
abbrev pub limit_alone : Text
limit_alone = codes "--record-limit can be used only with --record"

-- The text for entries of an application without a script.
abbrev pub application_alone : Text
application_alone = codes "--application can be used only with --script"

-- The text for the limit of a record if it is given without a record, and otherwise for entries of an application.
unfoldable pub alone_clash : List Row → Text
alone_clash rows = if lacks_record rows then limit_alone else application_alone

-- The first option that a script excludes.
unfoldable pub script_clash : List Row → Text
script_clash rows =
    if is_used (codes "--stdio") rows then codes "--stdio and --script cannot be used together"
    else (if is_some (first_of (codes "--log") rows) then codes "--script and --log cannot be used together"
    else (if is_some (first_of (codes "--idle") rows) then codes "--script and --idle cannot be used together"
    else (if is_some (first_of (codes "--record") rows) then codes "--script and --record cannot be used together"
    else limit_alone)))

-- The first option that standard input and output exclude.
unfoldable pub stdio_clash : List Row → Text
stdio_clash rows =
    if is_some (first_of (codes "--idle") rows) then codes "--stdio and --idle cannot be used together"
    else (if records_to_output rows then codes "--stdio and --record - cannot be used together" else alone_clash rows)

-- The first option that a server which listens excludes.
unfoldable pub listener_clash : List Row → Text
listener_clash rows =
    if is_some (first_of (codes "--starts") rows) then codes "--starts can be used only with --stdio or --script"
    else alone_clash rows

-- The first two options of the server that exclude each other, or the first one that needs another option.
unfoldable pub server_clash : List Row → Text
server_clash rows =
    if is_some (first_of (codes "--script") rows) then script_clash rows
    else (if is_used (codes "--stdio") rows then stdio_clash rows else listener_clash rows)

-- The text for an observation with a method other than get.
unfoldable pub method_text : Text → Text
method_text method = codes "-s cannot be used with -m " ++ escaped_text method ++ codes ", only with -m get"

-- The two options of the client that exclude each other.
unfoldable pub client_clash : List Row → Text
client_clash rows =
    if is_some (first_of (codes "-e") rows) && is_some (first_of (codes "-f") rows)
    then codes "-e and -f cannot be used together"
    else method_text (given_for (codes "-m") rows)

-- ---- targets

abbrev pub colon : ℕ
colon = 0x3a

abbrev pub slash : ℕ
slash = 0x2f

abbrev pub hash : ℕ
hash = 0x23

abbrev pub closing_bracket : ℕ
closing_bracket = 0x5d

abbrev pub is_percent : ℕ → Bool
is_percent byte = byte == 0x25

-- True if the host of a URI is in brackets and has a percent sign, as in coap+tcp://[fe80::1%eth0]/.
unfoldable pub has_zone : Text → Bool
has_zone uri =
    starts_with nat_eq (after colon uri) (codes "//[")
    && list_any is_percent (before closing_bracket (before slash (drop 3 (after colon uri))))

-- The text for a URI that the crate `url` rejects.
unfoldable pub url_text : Text → Text
url_text uri =
    if has_zone uri then codes "a zone such as %eth0 in an IPv6 address is not supported"
    else (if starts_with nat_eq uri (codes "coap+tcp://")
    then codes "the host or the port is invalid in " ++ given_text uri
    else codes "the target is a URI such as coap+tcp://127.0.0.1/time, not " ++ given_text uri)

-- The end of the text for a scheme, with a remark for the scheme of CoAP over TLS.
abbrev pub scheme_end : Text → Text
scheme_end scheme =
    if bytes_eq scheme (codes "coaps+tcp") then codes "; only coap+tcp is supported (see TLS in the manual)"
    else codes "; only coap+tcp is supported"

-- The text for a scheme.
unfoldable pub scheme_text : Text → Text
scheme_text scheme = codes "the scheme is " ++ escaped_text scheme ++ scheme_end scheme

-- The text for a fragment, without its hash.
unfoldable pub fragment_text : Text → Text
fragment_text fragment =
    codes "the fragment #" ++ escaped_text fragment ++ codes " is not supported; write %23 for # in a path or a query"

-- The reason for a URI that is no target.
unfoldable pub target_reason : TargetFault → Text → Option Text
target_reason target.Url uri = Some (url_text uri)
target_reason target.Scheme uri = Some (scheme_text (before colon uri))
target_reason target.NoHost uri = Some (codes "the host is missing in " ++ given_text uri)
target_reason target.UserInfo uri = Some (codes "a user name or a password in a target is not supported")
target_reason target.Fragment uri = Some (fragment_text (after hash uri))
target_reason target.PartTooLong uri =
    Some (codes "the host and each segment and argument have at most 255 bytes after decoding")
target_reason target.TooManyParts uri = Some (codes "a target has at most 16 segments and 16 arguments")
target_reason target.Memory uri = None

-- ---- reasons

-- The reason, unless `clap` rejects the arguments. Its own text says what is wrong.
abbrev pub unless_rejected : Kinds → Option Text → Option Text
unless_rejected [] reason = reason
unless_rejected (kind ∷ kinds) reason = None

-- The reason for an error of the server, from the options that `clap` found.
abbrev pub server_reason_in : List Row → WordsFault → Option Text
server_reason_in rows (faults.Usage error) = None
server_reason_in rows (faults.Target fault) = None
server_reason_in rows (faults.Value name) = server_value rows name.now
server_reason_in rows faults.Clash = Some (server_clash rows)
server_reason_in rows faults.Memory = None

-- The reason for an error of the client, from the options that `clap` found.
abbrev pub client_reason_in : List Row → WordsFault → Option Text
client_reason_in rows (faults.Usage error) = None
client_reason_in rows (faults.Target fault) = target_reason fault (uri_said rows)
client_reason_in rows (faults.Value name) = client_value rows name.now
client_reason_in rows faults.Clash = Some (client_clash rows)
client_reason_in rows faults.Memory = None

-- The reason for an error of these arguments of the server.
unfoldable pub server_reason : List Text → WordsFault → Option Text
server_reason words fault =
    unless_rejected (fault_of server_app words) (server_reason_in (matches_of server_app words) fault)

-- The reason for an error of these arguments of the client.
unfoldable pub client_reason : List Text → WordsFault → Option Text
client_reason words fault =
    unless_rejected (fault_of client_app words) (client_reason_in (matches_of client_app words) fault)
