-- Re-exports the definitions that the contracts and proofs of this crate use. The file defines nothing.

-- ---- std and the kit's crates
pub use Rattle.std.specs.Borrow.{sem, follows_so}
pub use Rattle.std.specs.List.{AllByRecursion, list_any, flat_map}
pub use Rattle.std.specs.Prelude.{IfOk, OnOk, [], nat_le, nat_lt, option_map}
pub use Rattle.std.specs.Prelude.{◌==◌, ◌≢◌}
pub use mathlib.Core.Option.{none}
-- ---- coap_wire
pub use Rattle.coap_wire.specs.StreamPrefix.{StreamPrefix, Unfinished, Whole, prefix_kind, fault_bytes}
pub use Rattle.coap_wire.specs.Message.{Message}
pub use Rattle.coap_wire.specs.Reading.{message_of}
pub use Rattle.coap_wire.specs.Recognition.{first_critical}
pub use Rattle.coap_wire.specs.Refusal.{RefusedBy}
unfoldable pub use Rattle.coap_wire.specs.Spelling.{spelling}
pub use Rattle.coap_wire.specs.Stream.{StreamFault, Format, OfFrame, Stream, stream_after, frame_then, continued, split}
pub use Rattle.coap_wire.specs.Stream.{sized_split, split_on}
pub use Rattle.coap_wire.specs.Frames.{constant_size, sizes_first}
pub use Rattle.coap_wire.specs.declared.fault.FormatFault.{FormatFault}
-- ---- coap_frame
pub use Rattle.coap_frame.specs.Framing.{IsFramer, framing_of, framer_after, frame_back, AFault, AFrame}
pub use Rattle.coap_frame.specs.Framing.{FrameEventValue, found_frame}
pub use Rattle.coap_frame.specs.Framing.{FramerValue, Framing, Nothing, framing_at, split_frame}
pub use Rattle.coap_frame.specs.Raising.{raise_refusal, with_size}
unfoldable pub use Rattle.coap_frame.specs.Framing.{framing}
-- ---- coap_conn
pub use Rattle.coap_conn.specs.Announced.{bad_csm_option}
pub use Rattle.coap_conn.specs.RequestState.{next_token, ping_with, with_token}
unfoldable pub use Rattle.coap_conn.specs.RequestState.{asking_refusal}
pub use Rattle.coap_conn.specs.Calls.{link_after, may_announce, may_forget, release}
pub use Rattle.coap_conn.specs.Fit.{AllFit, fits}
pub use Rattle.coap_conn.specs.PendingEntries.{PendingEntryValue}
pub use Rattle.coap_conn.specs.History.{History, limit_now, waiting_of, IsHistory, after, asking_now}
pub use Rattle.coap_conn.specs.History.{link_of, new_history, state_now}
pub use Rattle.coap_conn.specs.Limits.{LimitValues, AreInRange, default_limits}
pub use Rattle.coap_conn.specs.LinkValue.{state_in, LinkValue, bytes_of, free_in, limit_in, own_csm}
pub use Rattle.coap_conn.specs.LinkValue.{sizes_of}
pub use Rattle.coap_conn.specs.Outstanding.{OutstandingValue}
pub use Rattle.coap_conn.specs.Outstanding.{with_cancelled}
pub use Rattle.coap_conn.specs.Outstanding.{is_entry_of}
pub use Rattle.coap_conn.specs.Phases.{IsLive, is_open, takes_messages}
pub use Rattle.coap_conn.specs.Reaction.{ReactionResult, Reaction, ConnectionState, aborts}
pub use Rattle.coap_conn.specs.Reaction.{csm_reaction}
pub use Rattle.coap_conn.specs.Reaction.{ping_reaction}
pub use Rattle.coap_conn.specs.Reaction.{pong_reaction, release_reaction, request_reaction}
pub use Rattle.coap_conn.specs.Reaction.{response_reaction, reports}
unfoldable pub use Rattle.coap_conn.specs.Reaction.{react, live_reaction}
pub use Rattle.coap_conn.specs.Reasons.{abort_of}
pub use Rattle.coap_conn.specs.Rejects.{reject_reason, reject_of}
pub use Rattle.coap_conn.specs.Release.{release_refusal}
pub use Rattle.coap_conn.specs.Verdicts.{VerdictValue}
pub use Rattle.coap_conn.specs.declared.phase.Phase.{Phase}
pub use Rattle.coap_conn.specs.declared.phase.Phase.TheVariants.{Stopped}
pub use Rattle.coap_conn.specs.declared.phase.RequestFault.{RequestFault}
pub use Rattle.coap_conn.specs.declared.phase.RequestFault.TheVariants.{NoRoom}
pub use Rattle.coap_conn.specs.declared.phase.Role.TheVariants.{Client}
pub use Rattle.coap_conn.specs.declared.reason.Reason.{Reason}
-- ---- coap_io
pub use Rattle.coap_io.specs.declared.output.WriteFailed.{WriteFailed}
pub use Rattle.coap_io.specs.declared.wire.Got.{Got}
pub use Rattle.coap_io.specs.declared.wire.Got.TheVariants.{Bytes, End}
pub use Rattle.coap_io.specs.streams.Device.{AddsBytes}
pub use Rattle.coap_io.specs.streams.DeviceTraces.{AddsCalls}
pub use Rattle.coap_io.specs.streams.Wires.{bytes_passed, count_passed}
-- ---- coap_client_request
pub use Rattle.coap_client_request.specs.RequestViews.{extras_value, planned_extras}
pub use Rattle.coap_client_request.specs.Requests.{ExtrasValue}
unfoldable pub use Rattle.coap_client_request.specs.Requests.{cancel_of}
unfoldable pub use Rattle.coap_client_request.specs.Requests.{request_of}
pub use Rattle.coap_client_request.specs.Targets.{TargetValue}
pub use Rattle.coap_client_request.specs.declared.plan.ClientPlan.{ClientPlan}
pub use Rattle.coap_client_request.specs.declared.request.Method.{Method}
-- ---- coap_client_engine
pub use Rattle.coap_client_engine.specs.ClientLaws.{AreDifferent, KeepsSize, tokens_given, token_given, later_tokens}
pub use Rattle.coap_client_engine.specs.ClientRun.{IsReady, IsClientRun, IsExplainedRun, FailedBeforeStart, records}
pub use Rattle.coap_client_engine.specs.ClientRun.{with_outlets, with_wire}
pub use Rattle.coap_client_engine.specs.ClientRun.{with_all, HasReadClock, IsAfterRead, IsTaken, IsFinished, IsFlushed}
pub use Rattle.coap_client_engine.specs.ClientRun.{ExtendsTrace}
pub use Rattle.coap_client_engine.specs.ClientRun.{ExtendsAllTraces, Flushes, IsRequested, IsEnded, IsOutOfTurns}
pub use Rattle.coap_client_engine.specs.ClientRun.{ExtendsTraceOn, RunDevices}
pub use Rattle.coap_client_engine.specs.ClientRun.{IsAtTrace, most_turns, token_of}
pub use Rattle.coap_client_engine.specs.ClientValues.{response_event, verdict_event, ClientValue, client_takes}
pub use Rattle.coap_client_engine.specs.ClientValues.{new_client}
pub use Rattle.coap_client_engine.specs.ClientValues.{client_written, client_ended, client_sent, client_cancelled}
pub use Rattle.coap_client_engine.specs.ClientValues.{client_pinged, send_refusal, cancelling_refusal, ping_refusal}
pub use Rattle.coap_client_engine.specs.ClientValues.{client_forgotten, client_released, client_announced}
pub use Rattle.coap_client_engine.specs.ClientValues.{announce_refusal, IsAnnounceAnswer}
pub use Rattle.coap_client_engine.specs.ClientValues.{request_size, cancellation_size}
pub use Rattle.coap_client_engine.specs.ClientValues.{ClientEventValue, ClientTakeOutcome, is_cut, taking_found}
pub use Rattle.coap_client_engine.specs.ClientValues.{taking_read}
pub use Rattle.coap_client_engine.specs.ClientValues.{taking_rejected}
unfoldable pub use Rattle.coap_client_engine.specs.ClientValues.{taking, completed}
pub use Rattle.coap_client_engine.specs.ClientWorld.{ClientCall, ClientShows, Took, Sent, Cancelled, Pinged, Wrote}
pub use Rattle.coap_client_engine.specs.ClientWorld.{Ended, ClientStep, AreAccepted, stream_in, Cancels, Ends, Faults}
pub use Rattle.coap_client_engine.specs.ClientWorld.{Forgot, Released, Announced, Forgets, Releases, Announces, size_by}
pub use Rattle.coap_client_engine.specs.ClientWorld.{Handles, Pings, Requests, Writes, beyond, event_by, handles}
pub use Rattle.coap_client_engine.specs.ClientWorld.{kept_after, new_fault, taken_by}
unfoldable pub use Rattle.coap_client_engine.specs.ClientWorld.{takes, event_of, client_after, client_of, steps_by}
unfoldable pub use Rattle.coap_client_engine.specs.ClientWorld.{steps_of, step, AreAcceptedAfter, IsAccepted}
unfoldable pub use Rattle.coap_client_engine.specs.ClientWorld.{after_steps, later_steps, size_in, sizes_in}
pub use Rattle.coap_client_engine.specs.EventViews.{event_value, answer_read, pong_read, received_event, taken_event}
pub use Rattle.coap_client_engine.specs.EventViews.{taken_frame}
pub use Rattle.coap_client_engine.specs.EventViews.{taking_framed, IsClient}
pub use Rattle.coap_client_engine.specs.RunTrace.{IsFresh, Begins, Calls, RunTrace, GivesUp}
pub use Rattle.coap_client_engine.specs.RunTrace.{IsRequestedWhereDue, IsBetween, IsRunTrace}
pub use Rattle.coap_client_engine.specs.RunTrace.{IsPlanned, IsResting, IsTakenUp, MayWrite, Reads, Refuses}
pub use Rattle.coap_client_engine.specs.RunTrace.{Rests, Turns, calls_in, client_in}
pub use Rattle.coap_client_engine.specs.RunTrace.{event_in, given_in, has_looked, history_in}
pub use Rattle.coap_client_engine.specs.RunTrace.{is_cancel_due}
pub use Rattle.coap_client_engine.specs.RunTrace.{or_then, rest_in}
pub use Rattle.coap_client_engine.specs.RunTrace.{status_in, status_stopped}
pub use Rattle.coap_client_engine.specs.RunTrace.{stop_text, taken_in, turns_in, waiting_in}
pub use Rattle.coap_client_engine.specs.RunTrace.{written_in}
pub use Rattle.coap_client_engine.specs.RunCauses.{cause_after, cause_stopped, event_cause}
pub use Rattle.coap_client_engine.specs.RunCauses.{cause_refused, watched_cause}
pub use Rattle.coap_client_engine.specs.RunFaults.{is_output_fault, IfMemory, IsStatus, EndsWithStatus}
pub use Rattle.coap_client_engine.specs.RunSteps.{calls_read, calls_written, cancelled_at, client_asking}
pub use Rattle.coap_client_engine.specs.RunSteps.{client_cancelling, client_read, ended_by, event_errors, event_first}
pub use Rattle.coap_client_engine.specs.RunSteps.{must_send_request, is_to_cancel, may_take}
pub use Rattle.coap_client_engine.specs.RunSteps.{event_output}
pub use Rattle.coap_client_engine.specs.RunSteps.{refusal_text, event_status, stop_after, stop_written}
pub use Rattle.coap_client_engine.specs.RunSteps.{token_asking, watched}
-- ---- coap_client_engine, declared
pub use Rattle.coap_client_engine.specs.declared.client.Client.TheInside.{Inside}
pub use Rattle.coap_client_engine.specs.declared.run.state.Run.{Run}
pub use Rattle.coap_client_engine.specs.declared.run_end.RunEnd.{RunEnd}
