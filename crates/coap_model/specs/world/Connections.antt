-- RFC 8323 sections 3.3, 3.4, 5 and 7: one connection of a server. The file defines the effect of each step on the
-- connection and on the store, and how the connection settles.
use Rattle.std.specs.Prelude.{◌≡◌, ℕ, zero, suc, ◌+◌, Bool, true, ◌&&◌, List, [], length, Option, Some, None, find, min}
use Rattle.std.specs.Prelude.{nat_le, nat_lt, is_none, if◌then◌else◌}
use Rattle.std.specs.List.{AllByRecursion}
use Rattle.coap_wire.specs.Message.{Message}
use Rattle.coap_wire.specs.Stream.{StreamFault}
use Rattle.coap_conn.specs.declared.phase.Role.TheVariants.{Server}
use Rattle.coap_conn.specs.Limits.{LimitValues}
use Rattle.coap_conn.specs.Phases.{takes_messages, is_open}
use Rattle.coap_conn.specs.Verdicts.{is_request}
use Rattle.coap_conn.specs.Reaction.{react}
use Rattle.coap_conn.specs.Fit.{fit, bare_response}
use Rattle.coap_conn.specs.Rejects.{reject_of}
use Rattle.coap_conn.specs.Release.{release_refusal}
use Rattle.coap_conn.specs.History.{History, link_of, new_history, limit_now, state_now, after, may_hold}
use Rattle.coap_conn.specs.LinkValue.{free_in}
use Rattle.coap_conn.specs.PendingEntries.{PendingEntryValue, NothingIsDue, first_due}
use Rattle.coap_conn.specs.PendingEntries as pending
use Rattle.coap_conn.specs.declared.pending.Responder.{Responder}
use Rattle.coap_conn.specs.declared.pending.Responder.TheVariants.{Engine, Application}
use Rattle.coap_conn.specs.Calls.{may_announce}
use Rattle.coap_conn.specs.Calls as call
use Rattle.coap_store.specs.Store.{StoreValue}
use Rattle.coap_store.specs.State.{state_of}
use Rattle.coap_store.specs.Answer.{Answer, Response, Change, Nothing, delayed_response, expired_response, answer_of}
use Rattle.coap_store.specs.Answer.{changed}
use Rattle.coap_store.specs.ApplicationRequests.{application_deadline, prompt_answer}
use Rattle.coap_store.specs.Messages.{response_with_observe, response_message}
use Rattle.coap_model.specs.world.Observers.{Observer, is_due, without_token, has_place, entry_for, is_whole}
use Rattle.coap_model.specs.world.Observers.{with_entry, goes_on, notification, notification_message, left_of}
use Rattle.coap_model.specs.world.Observers.{first_becomes}
use Rattle.coap_wire.specs.declared.sizes.TheConstants.{LARGEST_MESSAGE}

-- A connection of the model: its history, with all messages handled and queued, and its observers.
pub record Connection : Type 0 where
  pub history : History
  pub observers : List Observer

-- A connection that was just opened: the server's CSM is queued, and there is no observer.
abbrev pub new_side : LimitValues → Connection
new_side limits = record { history = new_history Server limits 0; observers = [] }

-- ---- its parts

-- The bytes queued for writing.
abbrev pub waiting_on : Connection → List ℕ
waiting_on s = (link_of s.history).waiting

-- The number of free bytes in the queue.
abbrev pub free_on : Connection → ℕ
free_on s = free_in (link_of s.history)

-- The bytes kept of an unfinished frame: those left over from the accepted bytes, or none if the connection no longer
-- accepts messages.
abbrev pub kept_on : Connection → List ℕ → List ℕ
kept_on s rest = if takes_messages s.history.phase then rest else []

-- The connection has room: its queue has space for a message of `max_sent` bytes, the largest that the server sends.
abbrev pub has_room : Connection → Bool
has_room s = nat_le s.history.limits.max_sent (free_on s)

-- The connection handles messages and errors now: it still accepts messages, and it has room.
abbrev pub handles : Connection → Bool
handles s = takes_messages s.history.phase && has_room s

-- The observers after a history: all of them if the connection is open, otherwise none.
abbrev pub kept_open : History → List Observer → List Observer
kept_open h observers = if is_open h.phase then observers else []

-- The connection with this history, and with these observers if it is open.
abbrev pub side_with : History → List Observer → Connection
side_with h observers = record { history = h; observers = kept_open h observers }

-- The connection with another history; its observers are removed if it is no longer open.
abbrev pub with_history : Connection → History → Connection
with_history s h = side_with h s.observers

-- ---- a message

-- The connection after a response to a request. `others` are the observers with other tokens. If `observes` holds and
-- the response is sent whole, the entry is appended to them.
abbrev pub responded : History → List Observer → Observer → Bool → Message → Connection
responded h others entry observes response =
    side_with (after h (call.Reply response))
    (with_entry (observes && is_whole (fit (limit_now h) response (bare_response response))) others entry)

-- The same for the answer of the store: its response is sent with or without Observe, and the entry has the current
-- state.
abbrev pub answered_among : StoreValue → ℕ → History → List Observer → Message → Answer → Bool → Connection
answered_among store now h others m a observes =
    responded h others (entry_for store now m) observes (response_with_observe m.token observes a.response)

-- The connection after an immediate response. The response has Observe if the request asks for an entry and the list of
-- observers is not full.
abbrev pub side_answered : StoreValue → ℕ → History → List Observer → Message → Answer → Connection
side_answered store now h others m a =
    answered_among store now h others m a (has_place h.limits.observers others a.watch)

-- The time this number of seconds later, at most 2^64 - 1.
abbrev pub moment_after : ℕ → ℕ → ℕ
moment_after now seconds = min (now + seconds) 18446744073709551615

-- The delay of a response: who responds, and after how many seconds the server sends a response at the latest.
pub record Delay : Type 0 where
  pub by : Responder
  pub seconds : ℕ

-- The delay of a response by its responder, or `None` if there is none.
abbrev pub delay_by : Responder → Option ℕ → Option Delay
delay_by by None = None
delay_by by (Some seconds) = Some (record { by = by; seconds = seconds })

-- The delay until the deadline of the application; without one, that of the engine.
abbrev pub delay_or : Option ℕ → Option ℕ → Option Delay
delay_or None seconds = delay_by Engine seconds
delay_or (Some deadline) seconds = delay_by Application (Some deadline)

-- The delay of the response to a request, if the response is not sent at once.
abbrev pub delay_of : StoreValue → ℕ → Message → Option Delay
delay_of store now m = delay_or (application_deadline store.applications m) (answer_of store now m).hold

-- The delay, or `None` if the pending list is full.
abbrev pub delay_for : History → Option Delay → Option Delay
delay_for h None = None
delay_for h (Some delay) = if may_hold h then Some delay else None

-- The call that appends a pending entry, by its responder.
abbrev pub hold_call : Responder → List ℕ → ℕ → call.Call
hold_call Engine token moment = call.Hold token moment
hold_call Application token moment = call.HoldRequest token moment

-- The connection after it answered a request. For `None` the response is immediate; otherwise a pending entry is
-- appended that is due after this delay.
abbrev pub side_replied : StoreValue → ℕ → History → List Observer → Message → Option Delay → Connection
side_replied store now h others m None = side_answered store now h others m (prompt_answer store now m)
side_replied store now h others m (Some delay) =
    side_with (after h (hold_call delay.by m.token (moment_after now delay.seconds))) others

-- The message is a request that the server must answer, by the reaction of the connection.
abbrev pub asks_answer : Connection → Message → Bool
asks_answer s m = is_request (react (state_now s.history) m).verdict

-- The connection after a message that it handles. A request first removes the observer with its token, and is then
-- answered from the store, or pending until the application responds.
abbrev pub side_handled : StoreValue → ℕ → Connection → Message → Connection
side_handled store now s m =
    if asks_answer s m then side_replied store now (after s.history (call.Handle m)) (without_token m.token s.observers)
    m (delay_for (after s.history (call.Handle m)) (delay_of store now m))
    else with_history s (after s.history (call.Handle m))

-- The connection after it received a message; unchanged if it does not handle messages now.
unfoldable pub side_after : StoreValue → ℕ → Connection → Message → Connection
side_after store now s m = if handles s then side_handled store now s m else s

-- The change that a message makes in the store; none if it is not handled or is no request. The change does not depend
-- on whether the response could be sent.
unfoldable pub change_after : StoreValue → ℕ → Connection → Message → Change
change_after store now s m = if handles s && asks_answer s m then (prompt_answer store now m).change else Nothing

-- The store after this change.
abbrev pub store_after : StoreValue → ℕ → Connection → Message → StoreValue
store_after store now s m = changed store (change_after store now s m)

-- ---- other steps

-- The connection after malformed input: the server aborts it if it handles errors now; otherwise it is unchanged.
unfoldable pub side_faulted : Connection → StreamFault → Connection
side_faulted s fault = if handles s then with_history s (after s.history (call.Reject (reject_of fault))) else s

-- The connection after n of its queued bytes were written; unchanged if fewer are queued.
unfoldable pub side_written : Connection → ℕ → Connection
side_written s n =
    if nat_le n (length (waiting_on s)) then record s { history = after s.history (call.Written n) } else s

-- The end of input cuts a frame: some of its bytes are left over.
abbrev pub is_cut : List ℕ → Bool
is_cut rest = nat_lt 0 (length rest)

-- The connection after the end of input, which stops it if it still accepts messages. `cut` says whether the end cuts a
-- frame.
unfoldable pub side_ended : Connection → Bool → Connection
side_ended s cut = with_history s (after s.history (call.End cut))

-- RFC 8323 section 5.3.1: the server may announce this size. It is not below the current one and at most 1,048,576
-- bytes. The connection is open and has room, and the CSM with the size fits the peer's limit.
abbrev pub may_raise : Connection → ℕ → Bool
may_raise s size =
    (nat_le s.history.own_max size && nat_le size LARGEST_MESSAGE)
    && (has_room s && may_announce (link_of s.history) size)

-- The connection after the server announced a size as the largest message that it accepts from then on; unchanged if it
-- may not.
unfoldable pub side_announced : Connection → ℕ → Connection
side_announced s size = if may_raise s size then with_history s (after s.history (call.Announce size)) else s

-- The connection after the application responded to the first pending request with the token of its response. It is
-- unchanged if the response has an error (`response_refusal`): no such request, no response, or no room.
unfoldable pub side_responded : Connection → Message → Connection
side_responded s m = with_history s (after s.history (call.Respond m))

-- The connection after the server released it; unchanged if it cannot be released.
unfoldable pub side_released : Connection → Connection
side_released s =
    if is_none (release_refusal (link_of s.history)) then with_history s (after s.history call.Release) else s

-- ---- settling

-- The first observer that is due, if the connection has room.
abbrev pub next_due : StoreValue → ℕ → Connection → Option Observer
next_due store now s = if has_room s then find (is_due store now) s.observers else None

-- The connection after the notification m was sent to the first observer that is due. Its entry records the current
-- state if `stays` holds and m was sent whole; otherwise it is removed.
abbrev pub notified_so : StoreValue → ℕ → Connection → Observer → Message → Bool → Connection
notified_so store now s o m stays =
    side_with (after s.history (call.Reply m)) (first_becomes (is_due store now)
    (left_of store now o (stays && is_whole (fit (limit_now s.history) m (bare_response m)))) s.observers)

-- The connection after the first observer that is due was notified; unchanged if there is none.
abbrev pub notified : StoreValue → ℕ → Connection → Option Observer → Connection
notified store now s None = s
notified store now s (Some o) =
    notified_so store now s o (notification_message o.token (notification store now o))
    (goes_on (notification store now o))

-- The pending entry that is due first, if the connection has room.
abbrev pub next_pending : ℕ → Connection → Option PendingEntryValue
next_pending now s = if has_room s then first_due now s.history.pending else None

-- The response that is sent at the time of a pending entry. It is the delayed one of the engine, or 5.04 to a request
-- that the application has not answered.
abbrev pub late_response : Responder → Response
late_response Engine = delayed_response
late_response Application = expired_response

-- That response, with the token of the request.
abbrev pub late_message : Responder → List ℕ → Message
late_message by token = response_message token (late_response by)

-- The history after the first due entry was removed and its message queued: a response, or a Pong with Custody.
abbrev pub after_sent : History → ℕ → PendingEntryValue → History
after_sent h now (pending.Answer by token moment) = after (after h (call.Due now)) (call.Reply (late_message by token))
after_sent h now (pending.Pong token) = after h (call.Due now)

-- The connection after one round of settling with this due entry. An observer is notified only if no entry is due.
abbrev pub settled_so : StoreValue → ℕ → Connection → Option PendingEntryValue → Connection
settled_so store now s None = notified store now s (next_due store now s)
settled_so store now s (Some e) = with_history s (after_sent s.history now e)

-- The connection after one round of settling. The pending entry that is due first is sent. If none is due, the first
-- due observer is notified.
unfoldable pub settled_once : StoreValue → ℕ → Connection → Connection
settled_once store now s = settled_so store now s (next_pending now s)

-- The connection after this number of rounds of settling.
unfoldable pub settled_within : ℕ → StoreValue → ℕ → Connection → Connection
settled_within zero store now s = s
settled_within (suc turns) store now s = settled_within turns store now (settled_once store now s)

-- The connection after it has settled: everything that is due is queued, as long as the connection has room.
-- Each round with an effect leaves fewer pending entries or fewer due observers. So as many rounds as there are entries
-- and observers are enough.
unfoldable pub settled : StoreValue → ℕ → Connection → Connection
settled store now s = settled_within (length s.history.pending + length s.observers) store now s

-- No change is lost, if the connection has room.
-- - `reported`: each observer was last sent the current state of its path.
-- - `sent`: no pending entry is due. Each response is due at a later time, and no Pong is first in the list.
pub record IsUpToDate (store : StoreValue) (now : ℕ) (s : Connection) : Type 0 where
  pub reported : has_room s ≡ true → AllByRecursion (λ o. o.reported ≡ state_of store now o.path) s.observers
  pub sent : has_room s ≡ true → NothingIsDue now s.history.pending
