-- Names for the contracts and proofs of the crate, re-exported from one place. This file defines nothing.
unfoldable pub use Rattle.coap_text.specs.Words.{decimal_value}
pub use Rattle.coap_wire.specs.Message.{CoapOption}
pub use Rattle.coap_wire.specs.Views.{coap_option}
pub use Rattle.directory_registry.specs.RegistrationViews.{criteria_of}
pub use Rattle.directory_registry.specs.PageViews.{page_of}
pub use Rattle.directory_core.specs.RequestViews.{segment_list, attributes_of}
pub use Rattle.directory_core.specs.Requests.{split_query, query_value, named}
pub use Rattle.directory_core.specs.Requests.{is_repeated, repeats_parameter, is_part_name}
pub use Rattle.directory_core.specs.Requests.{with_criterion, criteria_from, small_value}
pub use Rattle.directory_core.specs.Requests.{page_in}
pub use Rattle.directory_core.specs.Requests.{lifetime_in, segments, location_of, lookup_of}
pub use Rattle.directory_core.specs.Requests.{route_of}
pub use Rattle.directory_core.specs.Parameters.{key_in, is_scheme, is_scheme_char, is_authority, is_authority_char}
pub use Rattle.directory_core.specs.Parameters.{is_base, has_scheme, is_limited}
pub use Rattle.directory_core.specs.Parameters.{is_plain_char, is_well_formed, is_key_char, is_key_text}
pub use Rattle.directory_core.specs.Parameters.{parameter_names, own_names, is_allowed_name}
pub use Rattle.directory_core.specs.Parameters.{has_allowed_name}
pub use Rattle.directory_core.specs.Conditions.{means_link_format, names_link_format, has_link_format}
pub use Rattle.directory_core.specs.Conditions.{accepts_link_format}
pub use Rattle.directory_core.specs.Conditions.{match_holds, none_match_holds}
unfoldable pub use Rattle.directory_core.specs.Conditions.{conditions_hold}
pub use Rattle.coap_wire.specs.Recognition.{known_options}
pub use Rattle.directory_links.specs.Links.{Attribute, is_attribute}
pub use Rattle.directory_links.specs.LinkViews.{attribute_of}
pub use Rattle.directory_core.specs.Parameters.{is_own_name, option_given, given}
pub use Rattle.directory_core.specs.Parameters.{has_name, merged, endpoint_type}
pub use Rattle.directory_core.specs.Refusals.{code_of_refusal, text_of_refusal}
pub use Rattle.directory_registry.specs.RegistrationViews.{registration_of}
pub use Rattle.directory_core.specs.Changes.{key_with, base_with}
unfoldable pub use Rattle.directory_core.specs.Changes.{identified, attributes_in, links_in, prepared, registering}
pub use Rattle.directory_core.specs.ChangeViews.{Gives, GivesUnlessMemory, Changes, Updates}
pub use Rattle.directory_core.specs.Changes.{renewed_lifetime, renewed_base, listed}
pub use Rattle.directory_core.specs.Changes.{limited, registered_attributes, update_parts, attributes_after}
pub use Rattle.directory_core.specs.Changes.{attributes_at_location}
unfoldable pub use Rattle.directory_core.specs.Changes.{renewing, updating, looking_up}
pub use Rattle.directory_core.specs.Replies.{DirectoryValue, new_directory, at_time}
pub use Rattle.directory_core.specs.Replies.{Replies, allocates, allocates_at}
unfoldable pub use Rattle.directory_core.specs.Replies.{registration_reply, location_reply, lookup_reply, replying}
unfoldable pub use Rattle.coap_wire.specs.Spelling.{spelling}
pub use Rattle.directory_core.specs.Responses.{location_message, content_message, short_message, message_of, fits}
pub use Rattle.directory_registry.specs.Reached.{Reached}
pub use Rattle.directory_core.specs.Endpoints.{ReachedDirectory, AreNamed}
