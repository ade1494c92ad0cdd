-- Re-exports of the definitions that the contracts and proofs of this crate name. This file declares nothing.

-- ---- std and the kit's crates
pub use Rattle.std.specs.Borrow.{sem, follows_so}
pub use Rattle.std.specs.Cmp.{both_ways}
pub use Rattle.std.specs.Fmt.{decimal}
pub use Rattle.std.specs.List.{AllByRecursion, list_any, filter_map}
pub use Rattle.std.specs.List.{reduce, remove}
pub use Rattle.std.specs.Prelude.{filter, find}
pub use Rattle.std.specs.Prelude.{not}
pub use Rattle.std.specs.Str.Parse.{digits_value}
pub use mathlib.Core.Option.{none}
-- ---- coap_wire
pub use Rattle.coap_wire.specs.StreamPrefix.{StreamPrefix, Faulty, Unfinished}
unfoldable pub use Rattle.coap_wire.specs.StreamPrefix.{prefix_kind}
pub use Rattle.coap_wire.specs.Message.{Message, last_number}
unfoldable pub use Rattle.coap_wire.specs.Reading.{message_of}
pub use Rattle.coap_wire.specs.Refusal.{RefusedBy}
pub use Rattle.coap_wire.specs.Stream.{StreamFault}
pub use Rattle.coap_wire.specs.Views.{with_option}
pub use Rattle.coap_wire.specs.CompactViews.{encoded_size}
pub use Rattle.coap_wire.specs.declared.fault.FormatFault.{FormatFault}
pub use Rattle.coap_wire.specs.declared.sizes.TheConstants.{LARGEST_MESSAGE, MAX_EXTENDED_LENGTH}
-- ---- coap_frame
pub use Rattle.coap_frame.specs.FramedViews.{finding_laid_out}
pub use Rattle.coap_frame.specs.Framing.{AFault, AFrame, FrameEventValue, FramerValue, Framing, IsFramer, framer_after}
pub use Rattle.coap_frame.specs.Framing.{frame_back, framing_at, framing_of, without_last}
unfoldable pub use Rattle.coap_frame.specs.Framing.{framing}
pub use Rattle.coap_frame.specs.FramerOutput.{taken_of, unread_after}
pub use Rattle.coap_frame.specs.Raising.{raise_refusal, with_size}
-- ---- coap_conn
pub use Rattle.coap_conn.specs.Calls.{link_after, state_due, Call}
pub use Rattle.coap_conn.specs.Fit.{bare_response, fit, fits}
pub use Rattle.coap_conn.specs.PendingEntries.{PendingEntryValue, Answer, Pong, due_moment, next_moment, future_moment}
unfoldable pub use Rattle.coap_conn.specs.PendingEntries.{first_due}
pub use Rattle.coap_conn.specs.History.{limit_now, after, History, IsHistory, link_of}
pub use Rattle.coap_conn.specs.Limits.{AreInRange}
pub use Rattle.coap_conn.specs.LinkValue.{IsReady, can_hold, limit_in, is_finished, LinkValue, free_in}
pub use Rattle.coap_conn.specs.LinkValue.{own_csm, state_in, sizes_of}
pub use Rattle.coap_conn.specs.LinkViews.{verdict_value}
pub use Rattle.coap_conn.specs.Phases.{IsAnswering, is_open, answers, takes_messages, IsLive}
pub use Rattle.coap_conn.specs.Rejects.{reject_of}
pub use Rattle.coap_conn.specs.Release.{release_refusal}
pub use Rattle.coap_conn.specs.Responses.{frame_refusal, OnMessage}
pub use Rattle.coap_conn.specs.Verdicts.{is_request}
pub use Rattle.coap_conn.specs.declared.phase.Reply.{Reply}
pub use Rattle.coap_conn.specs.declared.phase.Verdict.{Verdict}
pub use Rattle.coap_conn.specs.declared.pending.Responder.{Responder}
pub use Rattle.coap_conn.specs.declared.pending.Responder.TheVariants.{Engine, Application}
-- ---- coap_path
pub use Rattle.coap_path.specs.Paths.{Path, same_bytes, written_length}
unfoldable pub use Rattle.coap_path.specs.Paths.{is_path}
pub use Rattle.coap_path.specs.ResourceKinds.{is_dynamic}
unfoldable pub use Rattle.coap_path.specs.ResourceKinds.{kind_of_path}
pub use Rattle.coap_path.specs.declared.resource_kind.ResourceKind.TheVariants.{Dynamic, Time}
-- ---- coap_store
pub use Rattle.coap_store.specs.Answer.{changed, Change, Delete, Nothing, Put, says, only}
unfoldable pub use Rattle.coap_store.specs.Answer.{answer_of, immediate_answer}
pub use Rattle.coap_store.specs.Changes.{IsPut, TakesChange, changes, IsChangeAt}
pub use Rattle.coap_store.specs.Invariant.{IsStore}
pub use Rattle.coap_store.specs.ApplicationRequests.{unless_handed}
unfoldable pub use Rattle.coap_store.specs.ApplicationRequests.{application_deadline, prompt_answer}
pub use Rattle.coap_store.specs.Messages.{response_message, response_with_observe, option_at, empty_at, number_at}
pub use Rattle.coap_store.specs.Messages.{each_at}
pub use Rattle.coap_store.specs.Notifications.{notification_of}
pub use Rattle.coap_store.specs.PlanViews.{planned_value, path_or_root}
pub use Rattle.coap_store.specs.Requests.{path_of}
pub use Rattle.coap_store.specs.State.{state_of, stored_at}
unfoldable pub use Rattle.coap_store.specs.State.{key_for, state_at}
pub use Rattle.coap_store.specs.Store.{StoreValue, Representation}
unfoldable pub use Rattle.coap_store.specs.Store.{found_in}
pub use Rattle.coap_store.specs.Observing.{MayObserve}
-- ---- coap_model
pub use Rattle.coap_model.specs.world.Observers.{asks_entry, is_whole, Observer, entry_for, format_of, goes_on}
pub use Rattle.coap_model.specs.world.Observers.{has_place, left_of, notification, notification_message, same_state}
pub use Rattle.coap_model.specs.world.Observers.{with_entry, mark_sent}
unfoldable pub use Rattle.coap_model.specs.world.Observers.{first_becomes, is_due, without_token}
pub use Rattle.coap_model.specs.world.Connections.{Connection, waiting_on, handles, asks_answer, delay_for}
pub use Rattle.coap_model.specs.world.Connections.{moment_after}
pub use Rattle.coap_model.specs.world.Connections.{Delay, delay_or, delay_of, hold_call}
pub use Rattle.coap_model.specs.world.Connections.{late_message, next_pending, is_cut, after_sent, may_raise}
pub use Rattle.coap_model.specs.world.Connections.{next_due, notified, settled_so, side_replied, side_with}
pub use Rattle.coap_model.specs.world.Connections.{kept_on}
unfoldable pub use Rattle.coap_model.specs.world.Connections.{side_after, side_faulted, side_written, side_ended}
unfoldable pub use Rattle.coap_model.specs.world.Connections.{side_released, side_announced, settled_once, change_after}
unfoldable pub use Rattle.coap_model.specs.world.Connections.{side_responded}
unfoldable pub use Rattle.coap_model.specs.world.Connections.{settled, settled_within}
-- ---- this crate: declared types
pub use Rattle.coap_server_session.specs.declared.cause.Cause.{Cause}
pub use Rattle.coap_server_session.specs.declared.server_state.ServerState.{ServerState}
pub use Rattle.coap_server_session.specs.declared.observers.StaleObserver.{StaleObserver}
pub use Rattle.coap_server_session.specs.declared.chains.Chains.{Chains}
pub use Rattle.coap_server_session.specs.declared.session.Session.TheInside.{Inside}
-- ---- this crate: values
pub use Rattle.coap_server_session.specs.values.Causes.{change_hash, ObservesNone, hash_after, path_hash}
pub use Rattle.coap_server_session.specs.values.Causes.{IsUnaffected, has_come, may_touch, may_concern, last_hash}
pub use Rattle.coap_server_session.specs.values.Causes.{observes_hash, segments_hash}
pub use Rattle.coap_server_session.specs.values.Causes.{is_concerned}
pub use Rattle.coap_server_session.specs.values.Causes.{ConcernsNone, marks_after, IsMarkedBut}
unfoldable pub use Rattle.coap_server_session.specs.values.Causes.{marks_anew}
pub use Rattle.coap_server_session.specs.values.Deadlines.{is_time_observer, sooner}
pub use Rattle.coap_server_session.specs.values.Deadlines.{due_on, IsBefore, next_notified}
pub use Rattle.coap_server_session.specs.values.Entries.{IsFirstStale, IsFirstMarked, link_replied, entries_replied}
pub use Rattle.coap_server_session.specs.values.Entries.{entries_notified}
pub use Rattle.coap_server_session.specs.values.Entries.{settled_pending, framer_on, is_observed, is_sent}
unfoldable pub use Rattle.coap_server_session.specs.values.Entries.{first_index}
pub use Rattle.coap_server_session.specs.values.SessionAnswers.{IsAnnounced}
pub use Rattle.coap_server_session.specs.values.Responses.{path_size}
pub use Rattle.coap_server_session.specs.values.Sessions.{ObserverValue, answer_on, delay_on, delay_in, shared_changed}
pub use Rattle.coap_server_session.specs.values.Sessions.{link_sent}
pub use Rattle.coap_server_session.specs.values.Sessions.{new_entry, notification_on, mark_at, present_mark, unsent_by}
pub use Rattle.coap_server_session.specs.values.Sessions.{SessionValue}
pub use Rattle.coap_server_session.specs.values.Sessions.{session_written, session_ended, session_released}
pub use Rattle.coap_server_session.specs.values.Sessions.{session_announced, session_given}
pub use Rattle.coap_server_session.specs.values.Sessions.{change_by, observers_on, session_with, new_session}
pub use Rattle.coap_server_session.specs.values.Sessions.{session_takes, session_notified, IsSettled, RefusesPiece}
pub use Rattle.coap_server_session.specs.values.Sessions.{ObserversValue, TakeOutcome, asks_this, entry_left}
pub use Rattle.coap_server_session.specs.values.Sessions.{is_marked}
pub use Rattle.coap_server_session.specs.values.Sessions.{mark_of, session_max, session_ready}
pub use Rattle.coap_server_session.specs.values.Sessions.{session_rejected, session_replied, session_settled_so}
pub use Rattle.coap_server_session.specs.values.Sessions.{state_on}
pub use Rattle.coap_server_session.specs.values.Sessions.{taking_found, taking_read, MarkedSession, AreMarked, IsMarked}
pub use Rattle.coap_server_session.specs.values.Sessions.{empty_shared, observers_left}
unfoldable pub use Rattle.coap_server_session.specs.values.Sessions.{changed_mark}
unfoldable pub use Rattle.coap_server_session.specs.values.Sessions.{without_entry, is_stale, session_settled}
unfoldable pub use Rattle.coap_server_session.specs.values.Sessions.{session_handled}
unfoldable pub use Rattle.coap_server_session.specs.values.Sessions.{next_pending_in, next_stale, session_settled_once}
unfoldable pub use Rattle.coap_server_session.specs.values.Sessions.{taking}
unfoldable pub use Rattle.coap_server_session.specs.values.Sessions.{session_settled_within}
pub use Rattle.coap_server_session.specs.values.HandedRequests.{is_handed, is_handed_over}
unfoldable pub use Rattle.coap_server_session.specs.values.HandedRequests.{handed, completed}
-- ---- this crate: views
pub use Rattle.coap_server_session.specs.views.ChainViews.{Linked, linked, concerns_path, last_in, previous_in}
pub use Rattle.coap_server_session.specs.views.ChainViews.{next_index}
pub use Rattle.coap_server_session.specs.views.ChainViews.{IsLastBefore, AreChainedTo}
pub use Rattle.coap_server_session.specs.views.FlagViews.{flag_of, AreFlagged, AreClear, AreBlocks}
pub use Rattle.coap_server_session.specs.views.ObserverViews.{observer_value, mark_in, IsTagged}
pub use Rattle.coap_server_session.specs.views.SessionShows.{observer_shown, session_shown}
pub use Rattle.coap_server_session.specs.views.SessionViews.{IsSession, session_value}
