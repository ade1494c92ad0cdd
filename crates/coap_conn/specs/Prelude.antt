-- Re-exports the names that the contracts and proofs of this crate use. Declares nothing.

-- ---- std and the kit's crates
pub use Rattle.std.specs.Borrow.{sem, follows_so}
pub use Rattle.std.specs.Int.{to_be_bytes, w64}
pub use Rattle.std.specs.List.{list_any, AllByRecursion, reduce, cons_option, filter_map, fold, position}
pub use Rattle.std.specs.List.{position_from, position_or_len, remove}
pub use Rattle.std.specs.Prelude.{IfSome, filter, find, is_none, nat_lt, not}
pub use Rattle.std.specs.Prelude.{option_map, slice_get, unwrap_or}
pub use Rattle.std.specs.Vec.{vec_capacity}
pub use mathlib.Core.Option.{none}
-- ---- coap_wire
pub use Rattle.coap_wire.specs.Forms.{length_form, option_form, token_form}
pub use Rattle.coap_wire.specs.Message.{Message, CoapOption}
unfoldable pub use Rattle.coap_wire.specs.Reading.{message_of}
pub use Rattle.coap_wire.specs.Refusal.{RefusedBy}
pub use Rattle.coap_wire.specs.Spelling.{body_spelling, head_spelling, option_spelling}
pub use Rattle.coap_wire.specs.CompactViews.{encoded_size}
unfoldable pub use Rattle.coap_wire.specs.Spelling.{spelling, front_spelling}
pub use Rattle.coap_wire.specs.Uint.{uint_of, without_leading_zeros}
unfoldable pub use Rattle.coap_wire.specs.Uint.{bytes_of_uint}
pub use Rattle.coap_wire.specs.Views.{coap_option}
pub use Rattle.coap_wire.specs.declared.sizes.TheConstants.{BASE_MESSAGE_SIZE, LARGEST_MESSAGE}
pub use Rattle.coap_wire.specs.declared.sizes.TheConstants.{LARGEST_SENT_MESSAGE, LARGEST_QUEUE}
-- ---- coap_conn
pub use Rattle.coap_conn.specs.Announced.{is_bad, first_size, has_critical_option, bad_csm_option, first_token_length}
pub use Rattle.coap_conn.specs.Announced.{token_length, token_length_in, announcement, token_announcement}
pub use Rattle.coap_conn.specs.Announced.{is_size, is_token_length, last_or, last_reported}
unfoldable pub use Rattle.coap_conn.specs.Announced.{announced, announced_token}
pub use Rattle.coap_conn.specs.RequestState.{next_token, observation_refusal, size_refusal, with_token, ping_with}
pub use Rattle.coap_conn.specs.RequestState.{RequestState}
unfoldable pub use Rattle.coap_conn.specs.RequestState.{asking_refusal, cancel_refusal, new_refusal}
pub use Rattle.coap_conn.specs.CallKinds.{needs_live, gives_token, announces}
pub use Rattle.coap_conn.specs.Calls.{Call, release, may_announce, link_after, Announces, Asks, CallEffect, Does, Doing}
pub use Rattle.coap_conn.specs.Calls.{may_forget}
pub use Rattle.coap_conn.specs.Calls.{Handles, Holds, IsWithin, Writes, call_effect}
pub use Rattle.coap_conn.specs.Calls.{link_with_deed}
pub use Rattle.coap_conn.specs.Calls.{state_without}
pub use Rattle.coap_conn.specs.Fit.{AllFit, fit, fits, fitted, bare_response, abort_fitted}
pub use Rattle.coap_conn.specs.Fit.{without_payload}
pub use Rattle.coap_conn.specs.PendingEntries.{PendingEntryValue, Answer, Pong, NothingIsDue, IsDueFirst, due_moment}
pub use Rattle.coap_conn.specs.PendingEntries.{next_moment}
pub use Rattle.coap_conn.specs.PendingEntries.{AnAnswer, due_result, is_answer_at, earliest_due, answer_index}
pub use Rattle.coap_conn.specs.PendingEntries.{pong_index}
pub use Rattle.coap_conn.specs.PendingEntries.{future_moment}
pub use Rattle.coap_conn.specs.PendingEntries.{else_index, entry_at, without_at}
pub use Rattle.coap_conn.specs.PendingEntries.{answer_by, is_request_for, has_request, IsFirstRequest, AnExpired}
unfoldable pub use Rattle.coap_conn.specs.PendingEntries.{first_due, without_due, due_index, without_request}
pub use Rattle.coap_conn.specs.PendingEntryViews.{due_value, pending_value}
pub use Rattle.coap_conn.specs.History.{History, AnnouncedFirst, link_of, new_history, limit_now, state_now, after}
pub use Rattle.coap_conn.specs.History.{after_send, asking_now, after_asking, LinkShows, IsHistory}
pub use Rattle.coap_conn.specs.History.{with_deed, with_effect}
pub use Rattle.coap_conn.specs.Limits.{LimitValues, AreInRange, limits_of, limit_refusal, default_limits}
pub use Rattle.coap_conn.specs.LinkValue.{own_csm, IsLink, IsReady, free_in, limit_in, is_finished, new_link}
pub use Rattle.coap_conn.specs.LinkValue.{bytes_of, asking_in, state_in, link_with, link_handled, link_after_csm}
pub use Rattle.coap_conn.specs.LinkValue.{can_hold, csm_with, first_csm_with, first_csm, LinkValue, link_received}
pub use Rattle.coap_conn.specs.LinkValue.{own_token_length, sizes_of}
pub use Rattle.coap_conn.specs.LinkViews.{verdict_value, link_value}
pub use Rattle.coap_conn.specs.Outstanding.{matches_response, matches_pong, may_cancel, is_last, has_observe}
pub use Rattle.coap_conn.specs.Outstanding.{without_matching}
pub use Rattle.coap_conn.specs.Outstanding.{without_pinged, with_cancelled, cancelled_by, OutstandingValue}
pub use Rattle.coap_conn.specs.Outstanding.{is_request_entry, Observation, Ping, is_entry_of, without_entry_of}
unfoldable pub use Rattle.coap_conn.specs.Outstanding.{is_notification}
pub use Rattle.coap_conn.specs.OutstandingViews.{outstanding_value}
pub use Rattle.coap_conn.specs.Phases.{stop_of, IsLive, IsAnswering, is_waiting, is_open, answers, takes_messages}
pub use Rattle.coap_conn.specs.QueueValue.{IsNextPart, free_of, IsQueue}
pub use Rattle.coap_conn.specs.Reaction.{asks_custody, ConnectionState, send, abort, stay, due_effect, is_custody_pong}
pub use Rattle.coap_conn.specs.Reaction.{is_reserved, is_signal, is_method, checks_critical_options, csm_reaction}
pub use Rattle.coap_conn.specs.Reaction.{open_reaction, ping_reaction, request_reaction, release_reaction}
pub use Rattle.coap_conn.specs.Reaction.{response_reaction, pong_reaction, stop, reply_verdict, pong_with, sends}
pub use Rattle.coap_conn.specs.Reaction.{ReactionResult}
pub use Rattle.coap_conn.specs.Reaction.{Reaction, answered, becomes, holds, leaves, not_implemented}
pub use Rattle.coap_conn.specs.Reaction.{reaction_unless, send_as, reports, aborts, is_asking, is_response}
unfoldable pub use Rattle.coap_conn.specs.Reaction.{react, live_reaction}
pub use Rattle.coap_conn.specs.Reasons.{abort_text, abort_with, abort_number, abort_option, reason_number, abort_of}
pub use Rattle.coap_conn.specs.Reasons.{message_reason}
pub use Rattle.coap_conn.specs.Rejects.{reject_of_frame, reject_reason}
pub use Rattle.coap_conn.specs.Release.{release_refusal}
pub use Rattle.coap_conn.specs.Responses.{observes, is_plain_response, sent_length, room_refusal, frame_refusal}
pub use Rattle.coap_conn.specs.Responses.{OnMessage}
unfoldable pub use Rattle.coap_conn.specs.Responses.{response_refusal}
pub use Rattle.coap_conn.specs.RingLends.{ring_row, lends_bytes}
pub use Rattle.coap_conn.specs.Verdicts.{Request, VerdictValue}
-- ---- coap_conn, declared
pub use Rattle.coap_conn.specs.declared.outstanding.Outstanding.{Outstanding}
pub use Rattle.coap_conn.specs.declared.pending.PendingEntry.{PendingEntry}
pub use Rattle.coap_conn.specs.declared.pending.Responder.{Responder}
pub use Rattle.coap_conn.specs.declared.pending.Responder.TheVariants.{Engine, Application}
pub use Rattle.coap_conn.specs.declared.phase.Phase.{Phase}
pub use Rattle.coap_conn.specs.declared.phase.Reject.{Reject}
pub use Rattle.coap_conn.specs.declared.phase.Reply.{Reply}
pub use Rattle.coap_conn.specs.declared.phase.Reply.TheVariants.{Whole}
pub use Rattle.coap_conn.specs.declared.phase.RespondFault.{RespondFault}
pub use Rattle.coap_conn.specs.declared.phase.Role.{Role}
pub use Rattle.coap_conn.specs.declared.phase.Role.TheVariants.{Client, Server}
pub use Rattle.coap_conn.specs.declared.reason.Reason.{Reason}
