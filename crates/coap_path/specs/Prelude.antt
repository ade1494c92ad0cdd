-- Names for the contracts and proofs of the crate, re-exported from one place. This file defines nothing.

-- ---- std and other crates
pub use Rattle.std.specs.Borrow.{Bor}
pub use Rattle.std.specs.Iterator.{YieldsFirstBy, item_count}
pub use Rattle.std.specs.List.{list_any}
pub use Rattle.std.specs.Prelude.{codes, if◌then◌else◌}
pub use Rattle.std.specs.List.{AllByRecursion}
pub use Rattle.std.specs.Prelude.{nat_lt, option_copied}
pub use Rattle.coap_wire.specs.Refusal.{RefusedBy}
-- ---- coap_path
pub use Rattle.coap_path.specs.PathMatches.{first_match, match_with, place_at, match_along}
pub use Rattle.coap_path.specs.PathViews.{segment_list, IsWritten}
unfoldable pub use Rattle.coap_path.specs.PathViews.{written, segments_at, segments_by}
pub use Rattle.coap_path.specs.Paths.{Path, is_dots, is_one_empty, written_length, same_bytes, same_path}
unfoldable pub use Rattle.coap_path.specs.Paths.{is_path}
pub use Rattle.coap_path.specs.ResourceKinds.{is_dynamic, is_async, is_observable, async_path, listing_path, root_path}
pub use Rattle.coap_path.specs.ResourceKinds.{time_path}
unfoldable pub use Rattle.coap_path.specs.ResourceKinds.{kind_of_path}
pub use Rattle.coap_path.specs.UriPaths.{uri_segments, body_path}
pub use Rattle.coap_path.specs.declared.resource_kind.ResourceKind.TheVariants.{Async, Dynamic, Listing, Root, Time}
pub use Rattle.coap_path.specs.declared.path_match.PathMatch.TheVariants.{Elsewhere}
pub use Rattle.coap_path.specs.Applications.{ApplicationEntryValue, ApplicationsValue, begins_with, entry_for}
pub use Rattle.coap_path.specs.Applications.{longer_entry}
unfoldable pub use Rattle.coap_path.specs.Applications.{is_answered}
pub use Rattle.coap_path.specs.Attributes.{is_quoted_char, scan_after, scan_with, may_end}
pub use Rattle.coap_path.specs.Attributes.{after_name, after_name_start, after_quoted, after_token}
pub use Rattle.coap_path.specs.Attributes.{after_value_start}
unfoldable pub use Rattle.coap_path.specs.Attributes.{is_name_char, is_token_char, are_attributes}
pub use Rattle.coap_path.specs.Invariant.{AreEntries, HaveOwnPrefixes, IsEntry, has_prefix}
pub use Rattle.coap_path.specs.Methods.{are_distinct_methods, has_method, is_method}
unfoldable pub use Rattle.coap_path.specs.Methods.{are_methods}
pub use Rattle.coap_path.specs.LongestPrefix.{IsLongest}
pub use Rattle.coap_path.specs.Refusals.{RefusedOrMemory, with_entry}
unfoldable pub use Rattle.coap_path.specs.Refusals.{entry_refusal}
pub use Rattle.coap_path.specs.declared.fault.ApplicationFault.{ApplicationFault}
