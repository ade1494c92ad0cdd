-- Re-exports the definitions that the contracts and proofs of this crate use. The file defines nothing.

-- ---- std and the kit's crates
pub use Rattle.clap.specs.Words.{first_of, found_of, rows_of, app_of, fault_of, is_simple, is_simple_and_free}
pub use Rattle.clap.specs.Words.{matches_of, rule_of, with_rule, App, Kinds, Row, Rule, Text, all_of, first_value}
pub use Rattle.clap.specs.declared.parser.matches.Found.{Found}
pub use Rattle.std.specs.Borrow.{Bor}
pub use Rattle.std.specs.List.{list_any, after_first, before_first}
pub use Rattle.std.specs.Net.Addr.{ipv4_octets, ipv6_segments}
pub use Rattle.std.specs.Net.Grammar.{IsColonHex, IsIpText, Parses}
pub use Rattle.std.specs.Net.Reader.{Read, whole_value}
unfoldable pub use Rattle.std.specs.Net.Reader.{read_ipv6}
pub use Rattle.std.specs.Result.{result_ok}
pub use Rattle.std.specs.declared.net.ip_addr.IpAddr.{IpAddr}
-- ---- coap_print
pub use Rattle.coap_print.specs.Texts.{is_text, escaped_text}
unfoldable pub use Rattle.coap_print.specs.Lines.{appended}
pub use Rattle.coap_print.specs.declared.line.TheConstants.{LINE_LENGTH}
pub use Rattle.coap_print.specs.declared.level.LogLevel.TheVariants.{Nothing}
-- ---- coap_client_request
pub use Rattle.coap_client_request.specs.Targets.{GivesUnlessMemory, target_of}
-- ---- coap_command_line
pub use Rattle.coap_command_line.specs.ClientWords.{AreHalves, is_comma}
pub use Rattle.coap_command_line.specs.CommandLines.{named, option_value, WordsFaultValue}
unfoldable pub use Rattle.coap_command_line.specs.CommandLines.{number_within}
pub use Rattle.coap_command_line.specs.PlanViews.{IsClientPlan, IsServerPlan, is_help_or_version, words_fault_number}
pub use Rattle.coap_command_line.specs.PlanViews.{GivesClientPlan, TellsExtra, client_value, extra_value, IsTurnedDown}
pub use Rattle.coap_command_line.specs.PlanViews.{GivesServerPlan, mode_value, GivesEntries}
pub use Rattle.coap_command_line.specs.ServerWords.{server_app}
unfoldable pub use Rattle.coap_command_line.specs.ServerWords.{address_of, three_in}
pub use Rattle.coap_command_line.specs.ApplicationWords.{AddsText, no_entries, refused_value}
unfoldable pub use Rattle.coap_command_line.specs.ApplicationWords.{applications_said, codes_of, method_in, with_text}
unfoldable pub use Rattle.coap_command_line.specs.ApplicationWords.{with_texts}
-- ---- coap_command_line, declared
pub use Rattle.coap_command_line.specs.declared.arguments.WordsFault.{WordsFault}
