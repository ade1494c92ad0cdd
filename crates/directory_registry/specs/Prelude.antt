-- Names for the contracts and proofs of the crate, re-exported from one place. This file defines nothing.
pub use Rattle.directory_links.specs.LinkViews.{attribute_of, value_of}
pub use Rattle.directory_registry.specs.Registrations.{RegistrationValue, RegistryValue, found, found_at, new_place}
pub use Rattle.directory_registry.specs.Registrations.{next_location, place_of, has_location, without_location}
pub use Rattle.directory_registry.specs.Registrations.{registrations, renewed, with_attributes, with_change}
pub use Rattle.directory_registry.specs.Registrations.{registered_at}
unfoldable pub use Rattle.directory_registry.specs.Registrations.{registered, expired, removed, attributed, updated}
unfoldable pub use Rattle.directory_registry.specs.RegistryViews.{registry_of}
pub use Rattle.directory_registry.specs.Matching.{CriterionValue, value_matches, words, is_list_name, value_meets}
pub use Rattle.directory_registry.specs.Matching.{given_value_meets}
pub use Rattle.directory_registry.specs.Matching.{attribute_meets, is_relative, resolved, link_meets}
pub use Rattle.directory_registry.specs.Matching.{endpoint_meets}
pub use Rattle.directory_registry.specs.Matching.{is_selected_link, is_selected_endpoint}
pub use Rattle.directory_registry.specs.Labels.{next_label, name_label, value_label, has_label, is_endpoint_name}
pub use Rattle.directory_registry.specs.Labels.{first_label, agrees}
pub use Rattle.directory_registry.specs.Labels.{link_agrees, is_exact, exact_name}
pub use Rattle.directory_registry.specs.Labels.{registration_label}
unfoldable pub use Rattle.directory_registry.specs.Labels.{label_with, packed}
pub use Rattle.directory_registry.specs.RegistrationViews.{criterion_of, criteria_of, registration_of}
pub use Rattle.directory_links.specs.Links.{Attribute, QuotedValue, attribute_text, link_text, value_text}
unfoldable pub use Rattle.directory_links.specs.Links.{attributes_text}
pub use Rattle.directory_registry.specs.Lookups.{PageValue, ListingValue, pushed, started, separator, takes_item}
unfoldable pub use Rattle.directory_registry.specs.Lookups.{with_bytes, begun, offered, offered_links, offered_endpoint}
pub use Rattle.directory_registry.specs.Lookups.{resolved_value, resolved_attribute, resolved_link, endpoint_link}
pub use Rattle.directory_registry.specs.Lookups.{offered_link}
pub use Rattle.directory_registry.specs.PageViews.{page_of}
pub use Rattle.directory_registry.specs.IndexViews.{is_number, is_labelled, IsNextWith, IsNextCandidate, Each, IsFound}
pub use Rattle.directory_registry.specs.IndexViews.{IsIndexed}
pub use Rattle.directory_registry.specs.EntryViews.{counted, all_counted, counted_at, number_in}
pub use Rattle.directory_registry.specs.EntryViews.{without_label}
pub use Rattle.directory_registry.specs.Reached.{Reached, AreDistinct, IsNewKey}
pub use Rattle.directory_registry.specs.Results.{endpoints_found, links_of_registration, resources_found, part_of}
