-- Re-exports the definitions that the contracts and proofs of this crate use. The file defines nothing.

-- ---- std and the kit's crates
unfoldable pub use Rattle.percent_encoding.specs.Percent.{percent_decode}
pub use Rattle.std.specs.Borrow.{Bor}
pub use Rattle.std.specs.Char.{to_ascii_lowercase}
pub use Rattle.std.specs.List.{AllByRecursion, list_any, slice_split, position_or_len}
pub use Rattle.std.specs.Net.Grammar.{IsDotted, IsIpv4Text, Parses}
pub use Rattle.std.specs.Net.Reader.{whole_value}
unfoldable pub use Rattle.std.specs.Net.Reader.{read_ipv4}
pub use Rattle.std.specs.Net.Text.{groups_text}
unfoldable pub use Rattle.std.specs.Net.Text.{hex, hex_groups_text}
pub use Rattle.std.specs.Prelude.{MatchOption, is_ok, not}
pub use Rattle.std.specs.Prelude.{option_map, slice_range, unwrap_or}
pub use Rattle.std.specs.declared.net.ipv4_addr.Ipv4Addr.{Ipv4Addr}
pub use Rattle.url.specs.Host.{borrowed_host, host_text, IsHostOf, is_empty_host}
pub use Rattle.url.specs.Parser.{parse_url}
pub use Rattle.url.specs.Parts.{has_host, host_or_empty, IsValid, Parts, kind_of}
pub use Rattle.url.specs.Scheme.{is_special}
pub use Rattle.url.specs.declared.host.Host.{Host}
pub use Rattle.url.specs.declared.host.Host.TheVariants.{Domain, Ipv4, Ipv6}
pub use Rattle.url.specs.declared.scheme.SchemeType.{SchemeType}
-- ---- coap_wire
pub use Rattle.coap_wire.specs.Message.{Message, last_number, AreOrdered, CoapOption}
pub use Rattle.coap_wire.specs.Spelling.{HasOptionForm}
pub use Rattle.coap_wire.specs.Views.{coap_options, with_option, coap_option, payload_refusal}
pub use Rattle.coap_wire.specs.declared.fault.BuildFault.{BuildFault}
pub use Rattle.coap_wire.specs.declared.option.OptionRef.{OptionRef}
pub use Rattle.coap_wire.specs.declared.sizes.TheConstants.{MAX_EXTENDED_LENGTH}
-- ---- coap_client_request
pub use Rattle.coap_client_request.specs.RequestViews.{extras_value, AreFormatsOf, IsRow, given_option, planned_extras}
pub use Rattle.coap_client_request.specs.Requests.{ExtrasValue, is_long_option}
pub use Rattle.coap_client_request.specs.Requests.{options_with}
unfoldable pub use Rattle.coap_client_request.specs.Requests.{cancel_of, has_long_extra, insert_option}
unfoldable pub use Rattle.coap_client_request.specs.Requests.{is_too_long}
unfoldable pub use Rattle.coap_client_request.specs.Requests.{own_options, request_of}
pub use Rattle.coap_client_request.specs.TargetViews.{IsShort, byte_lists, named_value, IsTarget}
pub use Rattle.coap_client_request.specs.Targets.{GivesUnlessMemory, target_of, TargetValue, has_long_part}
pub use Rattle.coap_client_request.specs.Targets.{has_many_parts}
pub use Rattle.coap_client_request.specs.Targets.{is_dotted, is_long}
unfoldable pub use Rattle.coap_client_request.specs.Targets.{domain_named, form_refusal}
unfoldable pub use Rattle.coap_client_request.specs.Targets.{host_named}

-- ---- coap_client_request, declared
