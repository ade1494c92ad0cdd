-- Re-exports of the definitions that the contracts and proofs of this crate name. This file declares nothing.

-- ---- std and the kit's crates
pub use Rattle.indexmap.specs.IndexMap.{values, insert_entry, set_value_at}
pub use Rattle.std.specs.Borrow.{sem, follows_so}
pub use Rattle.std.specs.Cmp.{nat_eq_equiv}
pub use Rattle.std.specs.List.{AllByRecursion, concat}
pub use Rattle.std.specs.List.{position, position_or_len}
unfoldable pub use Rattle.std.specs.List.{IsDistinct}
pub use Rattle.std.specs.Map.{keys_of, lookup, values_of}
pub use Rattle.std.specs.Prelude.{map, slice_get}
pub use Rattle.std.specs.Result.{IsErr}
pub use Rattle.std.specs.declared.alloc.AllocError.{AllocError}
pub use mathlib.Core.Option.{none}
-- ---- coap_wire
pub use Rattle.coap_wire.specs.StreamPrefix.{StreamPrefix, Faulty, Unfinished, fault_bytes}
unfoldable pub use Rattle.coap_wire.specs.StreamPrefix.{prefix_kind}
unfoldable pub use Rattle.coap_wire.specs.Spelling.{spelling}
pub use Rattle.coap_wire.specs.Message.{Message}
unfoldable pub use Rattle.coap_wire.specs.Reading.{message_of}
pub use Rattle.coap_wire.specs.Refusal.{RefusedBy}
pub use Rattle.coap_wire.specs.Stream.{StreamFault, Format, OfFrame, Stream, split_on}
unfoldable pub use Rattle.coap_wire.specs.Stream.{split}
pub use Rattle.coap_wire.specs.declared.fault.FormatFault.{FormatFault}
-- ---- coap_frame
pub use Rattle.coap_frame.specs.Framing.{AFault, AFrame, FrameEventValue, Framing}
pub use Rattle.coap_frame.specs.Framing.{framing_at, frame_back}
unfoldable pub use Rattle.coap_frame.specs.Framing.{framing}
-- ---- coap_conn
pub use Rattle.coap_conn.specs.Fit.{fits}
pub use Rattle.coap_conn.specs.History.{after, IsHistory}
pub use Rattle.coap_conn.specs.Limits.{LimitValues, AreInRange}
pub use Rattle.coap_conn.specs.LinkValue.{LinkValue}
pub use Rattle.coap_conn.specs.LinkValue.{new_link}
pub use Rattle.coap_conn.specs.Phases.{takes_messages, stop_of}
pub use Rattle.coap_conn.specs.Rejects.{reject_of, reject_reason}
pub use Rattle.coap_conn.specs.Release.{release_refusal}
pub use Rattle.coap_conn.specs.Responses.{frame_refusal, OnMessage}
pub use Rattle.coap_conn.specs.declared.phase.RespondFault.{RespondFault}
unfoldable pub use Rattle.coap_conn.specs.Responses.{response_refusal}
pub use Rattle.coap_conn.specs.declared.phase.Role.TheVariants.{Server}
pub use Rattle.coap_conn.specs.declared.reason.Reason.{Reason}
-- ---- coap_io
pub use Rattle.coap_io.specs.streams.Device.{AddsBytes, WritesPart}
-- ---- coap_path
pub use Rattle.coap_path.specs.Paths.{Path}
-- ---- coap_store
pub use Rattle.coap_store.specs.Answer.{changed, Change, Delete, Nothing, Put}
pub use Rattle.coap_store.specs.Changes.{IsPut, changes}
pub use Rattle.coap_store.specs.Invariant.{IsStore}
pub use Rattle.coap_store.specs.Refusals.{RefusedOrMemory, refusal_in}
unfoldable pub use Rattle.coap_store.specs.Refusals.{put_refusal, remove_refusal}
pub use Rattle.coap_store.specs.State.{state_of}
pub use Rattle.coap_store.specs.StateViews.{state_value}
pub use Rattle.coap_store.specs.Store.{StoreValue, put_in, removed_in}
pub use Rattle.coap_store.specs.declared.fault.StoreFault.TheVariants.{NoSuch}
-- ---- coap_script
pub use Rattle.coap_script.specs.script.EventViews.{event_value}
pub use Rattle.coap_script.specs.script.Events.{ScriptEventValue, Drain, Drop, In, Open, Release, Remove, Respond}
pub use Rattle.coap_script.specs.script.Events.{Status, Tick}
pub use Rattle.coap_script.specs.script.Lines.{open_line, put_line, remove_line, tick_line, word_line}
-- ---- coap_model
pub use Rattle.coap_model.specs.Answers.{release_fault, response_fault}
pub use Rattle.coap_model.specs.Configs.{ConfigValues}
pub use Rattle.coap_model.specs.declared.answers.AnnounceFault.{AnnounceFault}
pub use Rattle.coap_model.specs.declared.answers.ReleaseFault.{ReleaseFault}
pub use Rattle.coap_model.specs.declared.answers.ResponseFault.{ResponseFault}
pub use Rattle.coap_model.specs.declared.answers.TakeFault.{TakeFault}
pub use Rattle.coap_model.specs.declared.answers.Taken.{Taken}
pub use Rattle.coap_model.specs.declared.answers.WrittenFault.{WrittenFault}
pub use Rattle.coap_model.specs.world.Events.{AcceptedCall, Ticked, Stored, Removed, Opened, Ended, Took, stream_on}
pub use Rattle.coap_model.specs.world.Events.{AreAccepted, Wrote, Released, Announced, Responded, Dropped, IfSide}
pub use Rattle.coap_model.specs.world.Events.{OnSide}
pub use Rattle.coap_model.specs.world.Events.{beyond, taken_in, takes_of}
unfoldable pub use Rattle.coap_model.specs.world.Events.{size_on, steps_of, world_after, takes, AreAcceptedAfter}
unfoldable pub use Rattle.coap_model.specs.world.Events.{IsAccepted, steps_by}
pub use Rattle.coap_model.specs.world.Handling.{count_of, handled_in, handled_between}
pub use Rattle.coap_model.specs.world.EndOfInput.{normalised_step, kept_at}
unfoldable pub use Rattle.coap_model.specs.world.EndOfInput.{normalised_steps}
pub use Rattle.coap_model.specs.world.RefusedTake.{IsRefusedStored, StoresNothing, IsRefusedFor}
pub use Rattle.coap_model.specs.world.Connections.{Connection, IsUpToDate, handles}
pub use Rattle.coap_model.specs.world.Connections.{is_cut}
pub use Rattle.coap_model.specs.world.Connections.{new_side}
pub use Rattle.coap_model.specs.world.Connections.{kept_on}
unfoldable pub use Rattle.coap_model.specs.world.Connections.{side_after, side_faulted}
pub use Rattle.coap_model.specs.world.View.{change_made}
pub use Rattle.coap_model.specs.world.World.{World, Step, new_world, Handled, ConnectionEntry, all_settled, on_side}
pub use Rattle.coap_model.specs.world.World.{settled_place, stored_after, ticks}
unfoldable pub use Rattle.coap_model.specs.world.World.{side_of, after_steps, acted}
-- ---- this crate: declared types
pub use Rattle.coap_server_session.specs.declared.cause.Cause.{Cause}
pub use Rattle.coap_server_session.specs.declared.server_state.ServerState.{ServerState}
pub use Rattle.coap_server_engine.specs.declared.replay.OutputLine.{OutputLine}
-- ---- this crate: script
pub use Rattle.coap_server_engine.specs.script.Cuts.{DifferInCuts, AreInTime, other_lines, IsInTime}
unfoldable pub use Rattle.coap_server_engine.specs.script.Cuts.{lines_of, in_before, joined}
pub use Rattle.coap_server_engine.specs.script.Replay.{stop_number, drained, EventResult, comes_to, drain_ran}
pub use Rattle.coap_server_engine.specs.script.Replay.{in_ran, on_connection, open_number, release_number}
pub use Rattle.coap_server_engine.specs.script.Replay.{response_number}
pub use Rattle.coap_server_engine.specs.script.Replay.{status_ran, store_number, unless_refused}
unfoldable pub use Rattle.coap_server_engine.specs.script.Replay.{replayed, event_ran}
pub use Rattle.coap_server_engine.specs.script.Replayed.{replay_number, IsReplayed, fails_write, IsCutAt, IsRefusedAt}
pub use Rattle.coap_server_engine.specs.script.Replayed.{IsUnrun}
pub use Rattle.coap_server_engine.specs.script.Shown.{ShowsRun, IsShownReplay, ShowsPart, IsPartlyMade}
pub use Rattle.coap_server_engine.specs.script.Shown.{ShowsRefusedAt}
unfoldable pub use Rattle.coap_server_engine.specs.script.Shown.{events_made, events_ran}
pub use Rattle.coap_server_engine.specs.script.RequestLines.{request_text, request_lines, IsTakeRefused, IsLineRefused}
pub use Rattle.coap_server_engine.specs.script.RequestLines.{IsUnlisted, IsUnfinishedIn}
unfoldable pub use Rattle.coap_server_engine.specs.script.RequestLines.{request_turns}
-- ---- this crate: values
pub use Rattle.coap_server_engine.specs.values.Calls.{call_value, follows_if, has_passed_if, Following}
pub use Rattle.coap_server_engine.specs.values.CallDetails.{WasTaken, WasRefused, IsReasonFor, IsTrueCall}
unfoldable pub use Rattle.coap_server_engine.specs.values.Calls.{FollowsMore}
pub use Rattle.coap_server_session.specs.values.Causes.{change_hash, path_hash}
pub use Rattle.coap_server_session.specs.values.Causes.{IsUnaffected}
pub use Rattle.coap_server_session.specs.values.Causes.{ConcernsNone, IsMarkedBut}
pub use Rattle.coap_server_session.specs.values.Deadlines.{due_on, IsBefore}
pub use Rattle.coap_server_session.specs.values.Entries.{settled_pending}
pub use Rattle.coap_server_engine.specs.values.InResults.{InResult, IsPartialIn, ShowsMore, ShowsPartlyFed, in_result}
pub use Rattle.coap_server_engine.specs.values.InResults.{fed_more, fed_once}
pub use Rattle.coap_server_engine.specs.values.InResults.{took, unfed, where_there}
unfoldable pub use Rattle.coap_server_engine.specs.values.InResults.{fed_turns, took_turns}
pub use Rattle.coap_server_engine.specs.values.Flushes.{waiting_at, more_at, IsFlushedOnce}
pub use Rattle.coap_server_engine.specs.values.Flushes.{IsFlushedAt}
pub use Rattle.coap_server_engine.specs.values.ServerAnswers.{stop_on, open_refusal, IsNotTaken, open_refusal_in}
pub use Rattle.coap_server_engine.specs.values.ServerAnswers.{can_take_on, written_refusal, front_of}
pub use Rattle.coap_server_engine.specs.values.ServerAnswers.{OpenedOrMemory, released_refusal, status_of}
pub use Rattle.coap_server_engine.specs.values.ServerAnswers.{released_refusal_on, handled_so, RefusesPieceOn}
pub use Rattle.coap_server_engine.specs.values.ServerAnswers.{responded_refusal_on, responded_refusal, IsReplyOn}
pub use Rattle.coap_server_engine.specs.values.ServerAnswers.{response_event}
pub use Rattle.coap_server_engine.specs.values.ServerAnswers.{handled_on}
pub use Rattle.coap_server_engine.specs.values.ServerAnswers.{session_status, written_refusal_on}
unfoldable pub use Rattle.coap_server_engine.specs.values.ServerAnswers.{handled_by}
pub use Rattle.coap_server_session.specs.values.SessionAnswers.{IsAnnounced, announced_refusal_on}
pub use Rattle.coap_server_engine.specs.values.ServerCauses.{UnaffectedAreSettled, AreOthersSettled, AreUntouched}
pub use Rattle.coap_server_engine.specs.values.ServerCauses.{AreMarkedBut, AreMarkedAfter}
pub use Rattle.coap_server_engine.specs.values.IndexSets.{IsOutside, bit_of}
pub use Rattle.coap_server_engine.specs.values.ConcernSets.{Covers, AreCovered, AreCoveredBut, AddsConcerned}
pub use Rattle.coap_server_engine.specs.declared.index_set.IndexSet.{IndexSet}
pub use Rattle.coap_server_engine.specs.declared.server.concerned.Concerned.{Concerned}
pub use Rattle.coap_server_session.specs.values.Causes.{may_concern, last_hash}
pub use Rattle.coap_server_engine.specs.values.ServerDeadlines.{WaitsForDeadlines, work_of, KeepsWork, KeepsOthers}
pub use Rattle.coap_server_engine.specs.values.ServerDeadlines.{AddsAffected, OnlyTimePasses, next_deadline}
unfoldable pub use Rattle.coap_server_engine.specs.values.ServerDeadlines.{earliest_deadline}
pub use Rattle.coap_server_engine.specs.values.Servers.{config_with, new_server, server_put, server_removed}
pub use Rattle.coap_server_engine.specs.values.Servers.{server_ticked, AreSettled}
pub use Rattle.coap_server_engine.specs.values.Servers.{server_dropped, ServerValue, LiesAt, server_opened}
pub use Rattle.coap_server_engine.specs.values.Servers.{is_there, server_written, server_ended, server_released}
pub use Rattle.coap_server_engine.specs.values.Servers.{server_announced, server_responded, server_given}
pub use Rattle.coap_server_engine.specs.values.Servers.{session_given_by, settled_entry, count_on, on_session}
pub use Rattle.coap_server_engine.specs.values.Servers.{server_settled}
pub use Rattle.coap_server_engine.specs.values.Servers.{server_taken_on, server_taken_so, session_becomes}
pub use Rattle.coap_server_engine.specs.values.Servers.{unmarked_entry}
pub use Rattle.coap_server_engine.specs.values.Servers.{unmarked, AreAllMarked, splits_of}
unfoldable pub use Rattle.coap_server_engine.specs.values.Servers.{session_of, count_taken, server_taken, changed_at}
pub use Rattle.coap_server_session.specs.values.Sessions.{shared_changed}
pub use Rattle.coap_server_session.specs.values.Sessions.{SessionValue}
pub use Rattle.coap_server_session.specs.values.Sessions.{session_written, session_ended, session_released}
pub use Rattle.coap_server_session.specs.values.Sessions.{session_announced}
pub use Rattle.coap_server_session.specs.values.Sessions.{session_given}
pub use Rattle.coap_server_session.specs.values.Sessions.{change_by, new_session}
pub use Rattle.coap_server_session.specs.values.Sessions.{session_takes, IsSettled, RefusesPiece}
pub use Rattle.coap_server_session.specs.values.Sessions.{TakeOutcome}
pub use Rattle.coap_server_session.specs.values.HandedRequests.{is_handed, is_handed_over, handed_read, handed_found}
unfoldable pub use Rattle.coap_server_session.specs.values.HandedRequests.{handed, completed}
pub use Rattle.coap_frame.specs.Framing.{found_frame}
pub use Rattle.coap_server_session.specs.values.Sessions.{session_raises}
pub use Rattle.coap_server_session.specs.values.Sessions.{session_rejected}
pub use Rattle.coap_server_session.specs.values.Sessions.{taking_found, taking_read, MarkedSession, IsMarked}
unfoldable pub use Rattle.coap_server_session.specs.values.Sessions.{session_settled, session_handled}
unfoldable pub use Rattle.coap_server_session.specs.values.Sessions.{taking}
pub use Rattle.coap_server_engine.specs.values.HandedRequests.{handed_on, handed_by, frame_message}
pub use Rattle.coap_server_engine.specs.values.HandedRequests.{IsTakenRequest}
unfoldable pub use Rattle.coap_server_engine.specs.values.HandedRequests.{handed_frame}
pub use Rattle.coap_server_engine.specs.values.ChangedRequests.{changing_on, frame_key, DifferBy}
pub use Rattle.coap_server_engine.specs.values.ChangedRequests.{ChangesBy}
unfoldable pub use Rattle.coap_server_engine.specs.values.ChangedRequests.{changing_frame}
pub use Rattle.coap_server_engine.specs.values.Exchanges.{Exchange, Requested, Offered, Given, Gone, Answering}
pub use Rattle.coap_server_engine.specs.values.Exchanges.{AreUnanswered, offers}
unfoldable pub use Rattle.coap_server_engine.specs.values.Exchanges.{AnswersMore}
pub use Rattle.coap_server_engine.specs.values.ApplicationCalls.{server_offered, offered_events, failure_with}
pub use Rattle.coap_server_engine.specs.values.ApplicationCalls.{response_for, asking, HasResponseRoom}
pub use Rattle.coap_server_engine.specs.values.ApplicationCalls.{asks_for, ask_result, IsTakenFor}
pub use Rattle.coap_server_engine.specs.values.ApplicationCalls.{IsNotTakenFor, AreMade}
pub use Rattle.coap_server_engine.specs.values.ApplicationCalls.{IsServed, IsPartlyServed}
pub use Rattle.coap_server_engine.specs.values.ApplicationCalls.{IsRequestedLater, AreRequestedLater}
unfoldable pub use Rattle.coap_server_engine.specs.values.ApplicationCalls.{message_limit, served}
-- ---- this crate: views
pub use Rattle.coap_server_engine.specs.views.LineViews.{line_bytes, IsRun, IsDrainable}
pub use Rattle.coap_server_engine.specs.views.ServerViews.{IsServer, server_value}
pub use Rattle.coap_server_session.specs.views.SessionShows.{session_shown}
-- ---- this crate: world
pub use Rattle.coap_server_engine.specs.world.RequestsShown.{request_in, request_to, message_between}
pub use Rattle.coap_server_engine.specs.world.Shows.{Shows, ShowsRefused, place_shown, server_shown}
unfoldable pub use Rattle.coap_server_engine.specs.world.Shows.{server_of}
