-- Names that the contracts and proofs of this crate use, re-exported from one file. Declares nothing.

-- ---- std and the crates that come with Rattle
pub use Rattle.std.specs.Fmt.{decimal}
unfoldable pub use Rattle.std.specs.Fmt.{digits}
pub use Rattle.std.specs.List.{AllByRecursion, list_any, filter_map, remove}
pub use Rattle.std.specs.Prelude.{Option, filter, map, slice_get}
-- ---- coap_wire
pub use Rattle.coap_wire.specs.StreamPrefix.{Unfinished, fault_bytes}
unfoldable pub use Rattle.coap_wire.specs.StreamPrefix.{prefix_kind}
pub use Rattle.coap_wire.specs.Codes.{class_of}
pub use Rattle.coap_wire.specs.Message.{Message}
unfoldable pub use Rattle.coap_wire.specs.Reading.{message_of}
unfoldable pub use Rattle.coap_wire.specs.Recognition.{checked_given, first_critical_in, is_recognised, kind_of}
unfoldable pub use Rattle.coap_wire.specs.Recognition.{recognised_in}
pub use Rattle.coap_wire.specs.Refusal.{RefusedBy}
unfoldable pub use Rattle.coap_wire.specs.Spelling.{spelling}
pub use Rattle.coap_wire.specs.Stream.{StreamFault, Format, OfFrame, Stream, stream_after, frame_then, continued}
pub use Rattle.coap_wire.specs.Stream.{split_on}
unfoldable pub use Rattle.coap_wire.specs.Stream.{sized_split, split}
pub use Rattle.coap_wire.specs.declared.fault.FormatFault.{FormatFault}
pub use Rattle.coap_wire.specs.declared.fault.FrameFault.{FrameFault}
-- ---- coap_frame
pub use Rattle.coap_frame.specs.Framing.{AFault, AFrame, FrameEventValue, Framing, framing_at, without_last}
unfoldable pub use Rattle.coap_frame.specs.Framing.{framing}
pub use Rattle.coap_wire.specs.declared.sizes.TheConstants.{LARGEST_MESSAGE}
-- ---- coap_conn
pub use Rattle.coap_conn.specs.Announced.{announcement, bad_csm_option}
unfoldable pub use Rattle.coap_conn.specs.Announced.{announced}
pub use Rattle.coap_conn.specs.Calls.{state_due, state_without, end_reason, Call, call_effect, may_announce}
pub use Rattle.coap_conn.specs.Calls.{release}
pub use Rattle.coap_conn.specs.Fit.{AllFit, bare_response, fit, bare_code, fits}
pub use Rattle.coap_conn.specs.PendingEntries.{PendingEntryValue, Answer, Pong, NothingIsDue, due_moment}
unfoldable pub use Rattle.coap_conn.specs.PendingEntries.{first_due, without_due, due_index}
pub use Rattle.coap_conn.specs.History.{limit_now, state_now, after, History, IsHistory, link_of, may_hold}
pub use Rattle.coap_conn.specs.History.{new_history, with_effect}
pub use Rattle.coap_conn.specs.Limits.{LimitValues, AreInRange}
pub use Rattle.coap_conn.specs.LinkValue.{limit_in, LinkValue, bytes_of, free_in, own_csm}
pub use Rattle.coap_conn.specs.Phases.{is_open, answers, takes_messages, stop_of}
pub use Rattle.coap_conn.specs.Reaction.{send, pong_with, is_custody_pong, ReactionResult, Reaction, ConnectionState}
pub use Rattle.coap_conn.specs.Reaction.{abort}
pub use Rattle.coap_conn.specs.Reaction.{asks_custody, due_effect, reaction_unless, send_as, stay, stop, is_asking}
pub use Rattle.coap_conn.specs.Reaction.{is_response}
unfoldable pub use Rattle.coap_conn.specs.Reaction.{live_reaction, react}
pub use Rattle.coap_conn.specs.Reasons.{message_reason}
pub use Rattle.coap_conn.specs.Rejects.{reject_of, reject_reason}
pub use Rattle.coap_conn.specs.Release.{release_refusal}
pub use Rattle.coap_conn.specs.Responses.{is_plain_response, sent_length}
unfoldable pub use Rattle.coap_conn.specs.Responses.{response_refusal}
pub use Rattle.coap_conn.specs.PendingEntries.{has_request, IsFirstRequest}
unfoldable pub use Rattle.coap_conn.specs.PendingEntries.{without_request}
pub use Rattle.coap_conn.specs.Fit.{fitted}
pub use Rattle.coap_conn.specs.Verdicts.{VerdictValue, is_request}
pub use Rattle.coap_conn.specs.declared.phase.Phase.{Phase}
pub use Rattle.coap_conn.specs.declared.phase.Reject.{Reject}
pub use Rattle.coap_conn.specs.declared.phase.Reply.{Reply}
pub use Rattle.coap_conn.specs.declared.phase.Reply.TheVariants.{Bare, Stopped, Whole}
pub use Rattle.coap_conn.specs.declared.phase.Role.TheVariants.{Server}
pub use Rattle.coap_conn.specs.declared.reason.Reason.{Reason}
pub use Rattle.coap_conn.specs.declared.reason.Reason.TheVariants.{PeerTooSmall, ReleasedHere}
pub use Rattle.coap_conn.specs.declared.pending.Responder.{Responder}
pub use Rattle.coap_conn.specs.declared.pending.Responder.TheVariants.{Engine, Application}
-- ---- coap_path
pub use Rattle.coap_path.specs.Paths.{Path, same_bytes}
unfoldable pub use Rattle.coap_path.specs.Paths.{is_path}
pub use Rattle.coap_path.specs.ResourceKinds.{is_dynamic, is_observable}
unfoldable pub use Rattle.coap_path.specs.ResourceKinds.{kind_of_path}
pub use Rattle.coap_path.specs.declared.resource_kind.ResourceKind.TheVariants.{Dynamic, Time}
pub use Rattle.coap_path.specs.Applications.{ApplicationsValue}
unfoldable pub use Rattle.coap_path.specs.Applications.{is_answered}
-- ---- coap_store
pub use Rattle.coap_store.specs.Answer.{changed, Change, Delete, Nothing, Put, Response, content, deletion, etag_at}
pub use Rattle.coap_store.specs.Answer.{is_among, only}
pub use Rattle.coap_store.specs.Answer.{stored_under, valid}
unfoldable pub use Rattle.coap_store.specs.Answer.{answer_of, answer_at, get_answer, method_answer, immediate_answer}
unfoldable pub use Rattle.coap_store.specs.Answer.{resource_answer, store_answer}
pub use Rattle.coap_store.specs.Answer.{says}
pub use Rattle.coap_store.specs.ApplicationRequests.{passes_checks}
unfoldable pub use Rattle.coap_store.specs.ApplicationRequests.{application_deadline, prompt_answer}
pub use Rattle.coap_store.specs.Invariant.{AreDistinct}
unfoldable pub use Rattle.coap_store.specs.Listing.{encoded_byte, entry_bytes, listing, path_bytes}
pub use Rattle.coap_store.specs.Messages.{response_with_observe, each_at}
unfoldable pub use Rattle.coap_store.specs.Notifications.{notification_at}
unfoldable pub use Rattle.coap_store.specs.Refusals.{put_refusal, remove_refusal}
pub use Rattle.coap_store.specs.Requests.{path_of}
unfoldable pub use Rattle.coap_store.specs.Requests.{has_option, is_seconds, match_holds, number_of, value_of}
pub use Rattle.coap_store.specs.State.{RequestTarget, built, state_of, target_of, text_plain}
unfoldable pub use Rattle.coap_store.specs.State.{key_for, state_at}
pub use Rattle.coap_store.specs.Store.{StoreValue, Representation}
unfoldable pub use Rattle.coap_store.specs.Store.{found_in, put_at, removed_at}
pub use Rattle.coap_store.specs.declared.plan.Watch.{Watch}
-- ---- coap_model
pub use Rattle.coap_model.specs.Configs.{config_of, config_refusal, ConfigValues, default_config}
-- ---- coap_model, streams
pub use Rattle.coap_model.specs.streams.Output.{only_id, stream_of, stdio_output, more_of, outcome_on}
pub use Rattle.coap_model.specs.streams.Output.{side_for, waiting_of, written_once}
unfoldable pub use Rattle.coap_model.specs.streams.Output.{flushed, flushed_after, outcome, world_for, written_times}
-- ---- coap_model, views
pub use Rattle.coap_model.specs.views.ConfigViews.{start_values}
-- ---- coap_model, world
pub use Rattle.coap_model.specs.world.Responses.{QueuesResponse, registers_by, registers, may_register}
pub use Rattle.coap_model.specs.world.Responses.{registered_response, registration_fits}
pub use Rattle.coap_model.specs.world.PongOrder.{FollowsAnswers, HasResponse}
unfoldable pub use Rattle.coap_model.specs.world.PongOrder.{HaveDistinctAnswers}
pub use Rattle.coap_model.specs.world.Custody.{QueuesCustody, IsFirstPending, KeepsPending, KeepsPendingOver}
pub use Rattle.coap_model.specs.world.Custody.{AddsRequested}
pub use Rattle.coap_model.specs.world.Custody.{asks_pending, asks_pong, asks_delayed, KeepsBut}
unfoldable pub use Rattle.coap_model.specs.world.Custody.{CorrespondTo}
pub use Rattle.coap_model.specs.world.Events.{AcceptedCall, Ticked, Stored, Removed, Opened, Ended, Took, stream_on}
pub use Rattle.coap_model.specs.world.Events.{AreAccepted, Wrote, Released, Announced, Responded, Dropped, IfSide}
pub use Rattle.coap_model.specs.world.Events.{beyond, new_fault, size_by, spelled_on, taken_in}
unfoldable pub use Rattle.coap_model.specs.world.Events.{size_on, steps_of, world_after, takes, AreAcceptedAfter}
unfoldable pub use Rattle.coap_model.specs.world.Events.{IsAccepted, sizes_on, later_steps, steps_by, taken_on}
pub use Rattle.coap_model.specs.world.Fates.{Fate, Unanswered, Answered, ApplicationRequest, is_for_application}
pub use Rattle.coap_model.specs.world.Fates.{awaits, is_unanswered, messages_of, entry_of, is_of_application}
pub use Rattle.coap_model.specs.world.Fates.{has_stopped, fate_of, fate_by, is_unanswered_with, refusal_of, new_request}
pub use Rattle.coap_model.specs.world.Fates.{requests_due, if_there, MayAnswer}
pub use Rattle.coap_model.specs.world.Fates.{HasFate}
pub use Rattle.coap_model.specs.world.Fates.{HaveOtherPlaces, HaveOwnAnswers, HasOnlyAnswer, given_in, response_of}
pub use Rattle.coap_model.specs.world.Fates.{AreAnswers, AreQueuedInOrder, IsTimely, IsUnfit, first_fate}
pub use Rattle.coap_model.specs.world.Fates.{handed_requests, handed_in, handed_between, is_by_application}
pub use Rattle.coap_model.specs.world.Fates.{IsGone, WasDropped}
unfoldable pub use Rattle.coap_model.specs.world.Fates.{given_on, responses_to}
unfoldable pub use Rattle.coap_model.specs.world.Fates.{with_fate, requests_after, requests_responded, requests_once}
unfoldable pub use Rattle.coap_model.specs.world.Fates.{requests_within, requests_settled, requests_acted}
unfoldable pub use Rattle.coap_model.specs.world.Fates.{requests_then}
unfoldable pub use Rattle.coap_model.specs.world.Fates.{requests_by, requests_on}
pub use Rattle.coap_model.specs.world.EndOfInput.{normalised_step}
unfoldable pub use Rattle.coap_model.specs.world.EndOfInput.{normalised_steps, received_steps}
pub use Rattle.coap_model.specs.world.Observers.{asks_entry, is_whole, Observer, entry_for, format_of, goes_on}
pub use Rattle.coap_model.specs.world.Observers.{has_place, left_of, notification, notification_message, same_state}
pub use Rattle.coap_model.specs.world.Observers.{with_entry}
unfoldable pub use Rattle.coap_model.specs.world.Observers.{first_becomes, is_due, without_token}
pub use Rattle.coap_model.specs.world.Connections.{Connection, waiting_on, IsUpToDate, handles, asks_answer, delay_for}
pub use Rattle.coap_model.specs.world.Connections.{moment_after, Delay, delay_by, delay_or, delay_of, hold_call}
pub use Rattle.coap_model.specs.world.Connections.{late_response, late_message, next_pending, after_sent}
pub use Rattle.coap_model.specs.world.Connections.{has_room}
pub use Rattle.coap_model.specs.world.Connections.{kept_open}
pub use Rattle.coap_model.specs.world.Connections.{may_raise, new_side, next_due, notified, side_answered}
pub use Rattle.coap_model.specs.world.Connections.{side_handled, side_replied, side_with, with_history, kept_on}
unfoldable pub use Rattle.coap_model.specs.world.Connections.{side_after, side_faulted, side_written, side_ended}
unfoldable pub use Rattle.coap_model.specs.world.Connections.{side_released, side_announced, settled_once, change_after}
unfoldable pub use Rattle.coap_model.specs.world.Connections.{side_responded}
unfoldable pub use Rattle.coap_model.specs.world.Connections.{settled, settled_within}
pub use Rattle.coap_model.specs.world.LastNotification.{IsLastNotification, TokensAreDistinct, requested_late}
pub use Rattle.coap_model.specs.world.LastNotification.{asks_with, IsRegistered, NamesEtag, ReportsState}
pub use Rattle.coap_model.specs.world.LastNotification.{etag_of_state}
pub use Rattle.coap_model.specs.world.LastNotification.{responds}
unfoldable pub use Rattle.coap_model.specs.world.LastNotification.{last_request, last_response}
pub use Rattle.coap_model.specs.world.View.{after_view, AllConcern, change_on, change_steps}
unfoldable pub use Rattle.coap_model.specs.world.View.{view_of, concerns, view_step}
pub use Rattle.coap_model.specs.world.ViewEvents.{first_number, change_events}
unfoldable pub use Rattle.coap_model.specs.world.ViewEvents.{view_events, changes_of, later_view, view_event}
pub use Rattle.coap_model.specs.world.World.{World, Step, new_world, Handled, ConnectionEntry}
pub use Rattle.coap_model.specs.world.World.{all_settled}
pub use Rattle.coap_model.specs.world.World.{on_side, settled_place, stored_after}
unfoldable pub use Rattle.coap_model.specs.world.World.{side_of, step, after_steps, acted}
