-- Names for the contracts and proofs of the crate, re-exported from one place. This file defines nothing.

-- ---- std and other crates
unfoldable pub use Rattle.coap_store.specs.Texts.{joined}
pub use Rattle.coap_store.specs.Texts.{with_end}
pub use Rattle.indexmap.specs.IndexMap.{insert_entry, set_value_at}
pub use Rattle.std.specs.Bool.{then_some}
pub use Rattle.std.specs.Borrow.{Bor}
pub use Rattle.std.specs.Fmt.{decimal}
pub use Rattle.std.specs.List.{list_any, AllByRecursion, flat_map, list_all}
pub use Rattle.std.specs.Map.{lookup}
pub use Rattle.std.specs.Option.{option_eq}
pub use Rattle.std.specs.Prelude.{IfSome, codes, if◌then◌else◌, is_none, is_some, nat_eq, nat_le, nat_lt, not}
pub use Rattle.std.specs.Prelude.{option_copied, option_map, ◌==◌, ◌⊎◌}
pub use Rattle.std.specs.String.{string_bytes}
pub use Rattle.std.specs.List.{remove, sum}
pub use Rattle.percent_encoding.specs.Percent.{encode_byte}
unfoldable pub use Rattle.percent_encoding.specs.AsciiSet.{should_percent_encode}
unfoldable pub use Rattle.percent_encoding.specs.Percent.{percent_encode, percent_encode_byte}
-- ---- coap_wire
pub use Rattle.coap_wire.specs.Message.{Message, CoapOption}
pub use Rattle.coap_wire.specs.Recognition.{known_options, first_critical, once}
pub use Rattle.coap_wire.specs.Recognition.{CheckedOptionValue, is_critical}
unfoldable pub use Rattle.coap_wire.specs.Recognition.{checked_given, first_critical_in, is_recognised, kind_of}
unfoldable pub use Rattle.coap_wire.specs.Recognition.{recognised_in}
pub use Rattle.coap_wire.specs.Refusal.{RefusedBy}
pub use Rattle.coap_wire.specs.Uint.{uint_of}
unfoldable pub use Rattle.coap_wire.specs.Uint.{bytes_of_uint}
pub use Rattle.coap_wire.specs.Views.{coap_option}
pub use Rattle.coap_wire.specs.declared.option_table.OptionKind.{OptionKind}
pub use Rattle.coap_wire.specs.declared.sizes.TheConstants.{LARGEST_MESSAGE}
-- ---- coap_path
pub use Rattle.coap_path.specs.PathMatches.{place_at, match_along}
pub use Rattle.coap_path.specs.Paths.{Path, written_length, same_bytes, same_path}
unfoldable pub use Rattle.coap_path.specs.Paths.{is_path}
pub use Rattle.coap_path.specs.ResourceKinds.{is_dynamic, is_async, is_observable, async_path, listing_path, root_path}
pub use Rattle.coap_path.specs.ResourceKinds.{time_path}
unfoldable pub use Rattle.coap_path.specs.ResourceKinds.{kind_of_path}
pub use Rattle.coap_path.specs.UriPaths.{body_path}
pub use Rattle.coap_path.specs.declared.resource_kind.ResourceKind.TheVariants.{Async, Dynamic, Listing, Root, Time}
pub use Rattle.coap_path.specs.declared.resource_kind.ResourceKind.{ResourceKind}
pub use Rattle.coap_path.specs.Applications.{ApplicationEntryValue, ApplicationsValue}
unfoldable pub use Rattle.coap_path.specs.Applications.{is_answered}
-- ---- coap_store
pub use Rattle.coap_store.specs.Answer.{read_answer, etag_at, max_age_at, is_accepted, is_among, watch_of}
pub use Rattle.coap_store.specs.Answer.{removes_watch, stored, delete_answer, needs_resource, says, delayed_response}
pub use Rattle.coap_store.specs.Answer.{expired_response}
pub use Rattle.coap_store.specs.Answer.{Change, Nothing, Put, Delete, only, no_answer, is_delayed, changed}
pub use Rattle.coap_store.specs.Answer.{without_hold}
pub use Rattle.coap_store.specs.Answer.{greatest_version, Answer, Response, content, deletion, with_observe_rule}
pub use Rattle.coap_store.specs.Answer.{late, put_of, stored_under, too_large, without_hold_if}
pub use Rattle.coap_store.specs.Answer.{valid}
pub use Rattle.coap_store.specs.Answer.{watched}
unfoldable pub use Rattle.coap_store.specs.Answer.{get_answer, answer_of, answer_at, resource_answer, store_answer}
unfoldable pub use Rattle.coap_store.specs.Answer.{immediate_answer, method_answer}
pub use Rattle.coap_store.specs.ApplicationRequests.{passes_checks}
unfoldable pub use Rattle.coap_store.specs.ApplicationRequests.{application_deadline, prompt_answer}
pub use Rattle.coap_store.specs.Changes.{TakesChange, changes, says_change, HasSmallFormat, changed_by, TakesChanges}
pub use Rattle.coap_store.specs.Changes.{TakesPut, IsPut, IsChangeAt}
pub use Rattle.coap_store.specs.Invariant.{IsStore, AreDistinct, HaveOwnVersions, IsKept}
pub use Rattle.coap_store.specs.Listing.{slash, format_bytes, built_in_bytes, is_unreserved}
pub use Rattle.coap_store.specs.Listing.{attribute_bytes, end_bytes}
unfoldable pub use Rattle.coap_store.specs.Listing.{listing, entry_bytes, encoded_byte, first_bytes, link_bytes}
unfoldable pub use Rattle.coap_store.specs.Listing.{path_bytes}
pub use Rattle.coap_store.specs.Messages.{each_at}
pub use Rattle.coap_store.specs.Notifications.{notification_of}
unfoldable pub use Rattle.coap_store.specs.Notifications.{notification_at}
pub use Rattle.coap_store.specs.OptionScan.{first_given, nothing, options_value, all_noted, AreOptionsOf}
pub use Rattle.coap_store.specs.OptionScan.{RequestOptions}
unfoldable pub use Rattle.coap_store.specs.OptionScan.{options_after}
pub use Rattle.coap_store.specs.PlanViews.{bytes_in, IsTextOf, change_value, planned_value, IsAtPath, IsNamedPath}
pub use Rattle.coap_store.specs.PlanViews.{path_or_root}
pub use Rattle.coap_store.specs.PlanViews.{location_in}
pub use Rattle.coap_store.specs.Refusals.{RefusedOrMemory}
unfoldable pub use Rattle.coap_store.specs.Refusals.{put_refusal, remove_refusal}
pub use Rattle.coap_store.specs.VersionHistory.{WasStored}
pub use Rattle.coap_store.specs.Requests.{path_of, is_method, preconditions_hold, is_get, etag_of, digits_mean}
pub use Rattle.coap_store.specs.Requests.{first_or_none, is_delete, is_digit, is_given, is_good_query, seconds_of}
unfoldable pub use Rattle.coap_store.specs.Requests.{values_of, has_option, is_seconds, match_holds, number_of}
unfoldable pub use Rattle.coap_store.specs.Requests.{value_of}
pub use Rattle.coap_store.specs.ResourceViews.{representation, resource_at, head_of}
unfoldable pub use Rattle.coap_store.specs.ResourceViews.{resources_in, texts_of}
pub use Rattle.coap_store.specs.StateReports.{plain_get, IsStoredCode, ReportsState, ReportsEtag, IsElsewhere}
pub use Rattle.coap_store.specs.StateReports.{content_of}
pub use Rattle.coap_store.specs.StateReports.{put_by}
pub use Rattle.coap_store.specs.State.{target_of, state_of, built, RequestTarget}
pub use Rattle.coap_store.specs.State.{stored_at}
unfoldable pub use Rattle.coap_store.specs.State.{state_at, key_for}
pub use Rattle.coap_store.specs.StateViews.{state_value}
pub use Rattle.coap_store.specs.Store.{Representation, StoreValue, put_in, removed_in, IsFoundAt}
unfoldable pub use Rattle.coap_store.specs.Store.{found_in, put_at, removed_at, replaced_at}
pub use Rattle.coap_store.specs.StoreViews.{store_value}
pub use Rattle.coap_store.specs.RequestTargetViews.{found_value, target_value}
pub use Rattle.coap_store.specs.Observing.{MayObserve}
pub use Rattle.coap_store.specs.Conditions.{FailsIfMatch, FailsIfNoneMatch, FailsCondition, IsRejection}
pub use Rattle.coap_store.specs.Conditions.{is_condition, without_conditions}
-- ---- coap_store, declared
pub use Rattle.coap_store.specs.declared.fault.StoreFault.TheVariants.{NoSuch}
pub use Rattle.coap_store.specs.declared.plan.Watch.TheVariants.{Add, Drop}
pub use Rattle.coap_store.specs.declared.resource.Resource.{Resource}
unfoldable pub use Rattle.coap_store.specs.Texts.{split_by}
pub use Rattle.coap_store.specs.declared.links.TheConstants.{ESCAPED}
