-- Re-exports the definitions that the contracts and proofs of this crate use, and those that contracts and attributes
-- of crates above name through this one. This file defines nothing.

-- ---- std and the kit's crates
pub use Rattle.indexmap.specs.IndexMap.{insert_entry, set_value_at, shift_remove_entry}
pub use Rattle.std.specs.List.{AllByRecursion, concat}
unfoldable pub use Rattle.std.specs.List.{IsDistinct}
pub use Rattle.std.specs.Map.{keys_of, values_of}
-- ---- coap_wire
pub use Rattle.coap_server_engine.specs.Prelude.{RefusedBy, AddsBytes, RefusedOrMemory, WrittenFault, AcceptedCall}
pub use Rattle.coap_server_engine.specs.Prelude.{Stored, Removed, Opened, Took, Dropped, Released, InResult, ShowsMore}
pub use Rattle.coap_server_engine.specs.Prelude.{in_result, fed_more, took, Answering, Exchange, Gone}
pub use Rattle.coap_server_engine.specs.Prelude.{AreRequestedLater, IsRequestedLater, Following, IsReasonFor, stop_on}
pub use Rattle.coap_server_engine.specs.Prelude.{open_refusal, written_refusal, released_refusal, status_of, IsOutside}
pub use Rattle.coap_server_engine.specs.Prelude.{bit_of, new_server, server_put, server_removed, server_ticked}
pub use Rattle.coap_server_engine.specs.Prelude.{AreSettled, server_dropped, ServerValue, LiesAt, server_opened}
pub use Rattle.coap_server_engine.specs.Prelude.{is_there, server_released, settled_entry, count_on, session_becomes}
pub use Rattle.coap_server_engine.specs.Prelude.{SessionValue, session_written, session_ended, session_released}
pub use Rattle.coap_server_engine.specs.Prelude.{session_takes, Shows, split_on, AreInRange}
pub use Rattle.coap_server_engine.specs.Prelude.{Reason, ConfigValues, Taken, count_of, handled_in, Step}
pub use Rattle.coap_server_engine.specs.Prelude.{IsNotTaken, RefusesPieceOn, server_written, session_shown}
pub use Rattle.coap_server_engine.specs.Prelude.{ShowsRefused, FormatFault, ReleaseFault, Responded, Ticked, WasRefused}
pub use Rattle.coap_server_engine.specs.Prelude.{WasTaken, can_take_on, handed_by, responded_refusal, response_event}
pub use Rattle.coap_server_engine.specs.Prelude.{takes_messages}
pub use Rattle.coap_server_engine.specs.declared.monitor.DropReason.{DropReason}
pub use Rattle.coap_server_engine.specs.values.ApplicationCalls.{AreGivenLater, AreMade, HasResponseRoom}
pub use Rattle.coap_server_engine.specs.values.ApplicationCalls.{IsPartlyServed, NothingGiven, OneMoreGiven, ask_result}
pub use Rattle.coap_server_engine.specs.values.ApplicationCalls.{asking, offered_events}
unfoldable pub use Rattle.coap_server_engine.specs.values.ApplicationCalls.{message_limit, served}
-- ---- coap_conn
pub use Rattle.coap_conn.specs.Phases.{is_over, stop_of}
pub use Rattle.coap_conn.specs.QueueValue.{IsNextPart}
pub use Rattle.coap_conn.specs.Calls.{end_reason}
-- ---- coap_io
pub use Rattle.coap_io.specs.declared.wire.Got.{Got}
pub use Rattle.coap_io.specs.declared.wire.Got.TheVariants.{Bytes, End, Failed, Later}
pub use Rattle.coap_io.specs.declared.wire.Wait.{Wait}
pub use Rattle.coap_io.specs.declared.wire.Wait.TheVariants.{No}
pub use Rattle.coap_io.specs.streams.DeviceTraces.{AddsCalls, Closed, DoorCall, Waited}
pub use Rattle.coap_io.specs.streams.Wires.{IsWithin, IsOneWrite, bytes_passed, Answered, WireTrace, trace_by}
pub use Rattle.coap_io.specs.streams.Device.{DeviceTrace, HasGiven, pieces_read, WritesPart}
-- ---- coap_store
unfoldable pub use Rattle.coap_store.specs.Refusals.{put_refusal, remove_refusal}
-- ---- declared
pub use Rattle.coap_serve.specs.declared.door.silence.SilenceAction.{SilenceAction}
pub use Rattle.coap_serve.specs.declared.door.peer.PeerOutcome.{PeerOutcome}
pub use Rattle.coap_serve.specs.declared.door.peer.PeerOutcome.TheVariants.{Over}
pub use Rattle.coap_serve.specs.declared.door.peer.Peer.{Peer}
pub use Rattle.coap_serve.specs.declared.door.peer_interest.PeerInterest.{PeerInterest}
pub use Rattle.coap_server_engine.specs.declared.io_fault.IoFault.{IoFault}
pub use Rattle.coap_server_engine.specs.declared.io_fault.IoFault.TheVariants.{Memory, Read, Turns, Write}
pub use Rattle.coap_server_engine.specs.declared.server.ConnectionWork.{ConnectionWork}
-- ---- runs
pub use Rattle.coap_serve.specs.declared.door.service.ServiceConfig.{ServiceConfig}
pub use Rattle.coap_serve.specs.declared.door.service.Times.{Times}
pub use Rattle.coap_serve.specs.listener.Histories.{AreCallsBetween, AreSteps, Continues, HasAccepted, History}
pub use Rattle.coap_serve.specs.listener.Histories.{IsAccepted, Journal, calls_only, door_only, history_then, journal}
pub use Rattle.coap_serve.specs.listener.Histories.{NoStep, OneMore, no_history, one_call, one_drop}
pub use Rattle.coap_serve.specs.listener.Run.{DoorWaited, LaterGiven, NoneMade, OneMade, SilentDropped, SilentReleased}
pub use Rattle.coap_serve.specs.listener.Run.{TimeSet, TurnMade, WireReturned, AreTurns, EndsRun, Environment, HasRun}
pub use Rattle.coap_serve.specs.listener.Run.{IsBegun, IsCutRun, IsCutTurn, IsRun, IsRunCall, IsRunStep, IsTurnFor}
pub use Rattle.coap_serve.specs.listener.Run.{KnownOfRun, Matches, Resting, RunTrace, ServiceValue, Silent, Unlimited}
pub use Rattle.coap_serve.specs.listener.Run.{clock_and_door, closings, config_of, ended, environment}
pub use Rattle.coap_serve.specs.listener.Run.{known_of_run, limit_for, moved_calls, moved_to, no_trace, plain_config}
pub use Rattle.coap_serve.specs.listener.Run.{service_of, short_wait, some_waits, ticked_calls, trace_then, turn_trace}
pub use Rattle.coap_serve.specs.listener.Run.{wait_within, waited_after}
pub use Rattle.coap_serve.specs.listener.Serving.{AreOpened, AreServed, HasGoneOn, HasServed, HasTurned, IsOpening}
pub use Rattle.coap_serve.specs.listener.Serving.{AreTurnSteps, IsTurnBy, NotOpened, VisitsMade, AreTakenWith}
pub use Rattle.coap_serve.specs.listener.Serving.{BytesTaken, BytesWritten, ConnectionDropped, InputEnded, IsVisitStep}
pub use Rattle.coap_serve.specs.listener.Serving.{IsVisited, LoopState, NoMore, Skipped, Views, Visited, Way}
pub use Rattle.coap_serve.specs.listener.Serving.{loop_state, opened_for, opening}
pub use Rattle.coap_serve.specs.listener.Serving.{opening_events, status_of_peer, views_of, visit, way}
pub use Rattle.coap_serve.specs.listener.Silence.{HasSwept, HasSweptAt, Sweep, acted, drop_one, due_sweep, given_back}
pub use Rattle.coap_serve.specs.listener.Silence.{quiet_action, released_at, released_on, silence_action, swept_one}
pub use Rattle.coap_serve.specs.listener.Silence.{unswept}
unfoldable pub use Rattle.coap_serve.specs.listener.Silence.{swept}
pub use Rattle.coap_serve.specs.listener.Sleepers.{ArePaired, AreAsleep, KeepsBeside, MaySleep, SleepOn, is_known_ready}
pub use Rattle.coap_serve.specs.listener.Sleepers.{known}
pub use Rattle.coap_serve.specs.listener.Turns.{CanAnyGoOn, CanGoOn, IsReadiness, IsOutcomeFor, IsLaidOut, IsNoOp}
pub use Rattle.coap_serve.specs.listener.Turns.{IsOffered, have_moved, moves, IsTakenAlone, IsTakenAndWritten}
pub use Rattle.coap_serve.specs.listener.Turns.{IsTakenInPart, IsTakenWith, IsWaitAfter, PeerStatus, Readiness}
pub use Rattle.coap_serve.specs.listener.Turns.{VisitState, activity_after, can_go_on, peer_outcome, has_failed}
pub use Rattle.coap_serve.specs.listener.Turns.{has_written, read_events, is_read_due, is_over_in, least_with}
pub use Rattle.coap_serve.specs.listener.Turns.{kept_unless, new_activity, peer_status, readiness, refused_events}
pub use Rattle.coap_serve.specs.listener.Turns.{kept_rest, server_read, server_wrote, status_with, visit_state}
pub use Rattle.coap_serve.specs.listener.Turns.{wait_until, waiting_once, interest_in, interest_of, wrote_events}
pub use Rattle.coap_serve.specs.declared.serve_streams.Report.{Report}
pub use Rattle.coap_serve.specs.declared.serve_streams.Turn.{Turn}
pub use Rattle.coap_serve.specs.streams.StdioCalls.{AreTransfers, EndsReport, HasReported, HasReportedCut}
pub use Rattle.coap_serve.specs.streams.StdioCalls.{HasReportedEnd, HasReportedStop, IsAfterOutput, IsCutFlush}
pub use Rattle.coap_serve.specs.streams.StdioCalls.{IsReportedFlush, IsReportedRun, IsTransfer, flush_calls, written_in}
unfoldable pub use Rattle.coap_serve.specs.streams.StdioCalls.{AreAfterOutput, calls_of_flush, written_on}
pub use Rattle.coap_serve.specs.streams.StdioProgress.{AreTransfersOf, HasRead, IsAtBytes, IsCut, IsRefused}
pub use Rattle.coap_serve.specs.streams.StdioProgress.{IsRunningAt, IsTurn, IsWhole, Says}
pub use Rattle.coap_serve.specs.streams.StdioRun.{AreNotEmpty, GoesOn, IsLastByte, IsStdioRun, LeavesNothing}
pub use Rattle.coap_serve.specs.streams.StdioRun.{LeavesNothingWaiting}
pub use Rattle.coap_server_engine.specs.values.Faults.{IsMemory, IsMemoryOrTurns, is_read_fault, is_write_fault}
-- ---- coap_server_engine and coap_server_session
pub use Rattle.coap_server_session.specs.values.Deadlines.{sooner}
unfoldable pub use Rattle.coap_server_engine.specs.values.Exchanges.{AnswersMore}
unfoldable pub use Rattle.coap_server_engine.specs.values.Calls.{FollowsMore}
unfoldable pub use Rattle.coap_server_engine.specs.values.InResults.{fed_turns, took_turns}
pub use Rattle.coap_server_engine.specs.values.Flushes.{waiting_at, waiting_in, IsFlushed, IsFlushedOnce, more_at}
pub use Rattle.coap_server_engine.specs.values.Flushes.{more_in}
pub use Rattle.coap_server_engine.specs.values.ServerDeadlines.{KeepsOthers, KeepsWork, work_of, session_work}
unfoldable pub use Rattle.coap_server_engine.specs.values.Servers.{session_of, count_taken, server_taken}
unfoldable pub use Rattle.coap_server_engine.specs.values.Flushes.{flush_turns}
pub use Rattle.coap_server_engine.specs.values.Exchanges.{Requested, Offered, Given}
pub use Rattle.coap_model.specs.streams.Output.{only_id, stream_of, stdio_output, more_of, waiting_of}
pub use Rattle.coap_model.specs.streams.Output.{outcome_on}
unfoldable pub use Rattle.coap_model.specs.streams.Output.{flushed, flushed_after, outcome, world_for, written_times}
pub use Rattle.coap_model.specs.world.Events.{Ended, stream_on, Wrote, beyond, spelled_on}
unfoldable pub use Rattle.coap_model.specs.world.Events.{size_on, world_after, takes, taken_on, steps_by}
pub use Rattle.coap_model.specs.world.Connections.{Connection, waiting_on, handles, is_cut, has_room, new_side}
unfoldable pub use Rattle.coap_model.specs.world.Connections.{side_written, side_ended, settled}
unfoldable pub use Rattle.coap_model.specs.world.World.{side_of, step}
pub use Rattle.coap_wire.specs.Message.{Message}
pub use Rattle.coap_wire.specs.Spelling.{Spells}
