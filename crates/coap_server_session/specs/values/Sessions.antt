-- Defined by this project: the value of a server's connection, and the effect of each call on it and on the store.
use Rattle.std.specs.Prelude.{◌≡◌, ℕ, zero, suc, ◌+◌, Bool, true, false, not, ◌&&◌, List, [], ◌∷◌, length, map, Option}
use Rattle.std.specs.Prelude.{Some, None, option_map, Result, Ok, Err, find, filter, nat_le, ◌==◌, if◌then◌else◌}
use Rattle.coap_wire.specs.Message.{Message}
use Rattle.coap_wire.specs.Reading.{message_of}
use Rattle.coap_wire.specs.Stream.{OfFrame}
use Rattle.coap_wire.specs.declared.fault.FormatFault.{FormatFault}
use Rattle.coap_frame.specs.Framing.{Framing, FrameEventValue, Nothing, AFrame, AFault, framing}
use Rattle.coap_conn.specs.declared.phase.Role.TheVariants.{Server}
use Rattle.coap_conn.specs.declared.phase.Reject.{Reject}
use Rattle.coap_conn.specs.declared.phase.Reject.TheVariants as reject
use Rattle.coap_conn.specs.Limits.{LimitValues}
use Rattle.coap_conn.specs.Phases.{takes_messages, is_open}
use Rattle.coap_conn.specs.Verdicts.{is_request}
use Rattle.coap_conn.specs.Reaction.{react}
use Rattle.coap_conn.specs.Fit.{fit, bare_response}
use Rattle.coap_conn.specs.Rejects.{reject_of}
use Rattle.coap_conn.specs.PendingEntries.{PendingEntryValue, first_due}
use Rattle.coap_conn.specs.PendingEntries as pending
use Rattle.coap_conn.specs.LinkValue.{LinkValue, new_link, free_in, limit_in, state_in, can_hold}
use Rattle.coap_conn.specs.Calls.{link_after, may_announce}
use Rattle.coap_conn.specs.Calls as call
use Rattle.coap_path.specs.Paths.{Path, same_bytes}
use Rattle.coap_store.specs.Store.{Representation}
use Rattle.coap_store.specs.State.{state_of}
use Rattle.coap_store.specs.Requests.{path_of}
use Rattle.coap_path.specs.Applications.{ApplicationsValue}
use Rattle.coap_store.specs.Answer.{Answer, Change, changed}
use Rattle.coap_store.specs.ApplicationRequests.{prompt_answer}
use Rattle.coap_store.specs.Changes.{IsPut}
use Rattle.coap_store.specs.Messages.{response_with_observe}
use Rattle.coap_store.specs.Notifications.{notification_of}
use Rattle.coap_server_session.specs.declared.server_state.ServerState.{ServerState}
use Rattle.coap_model.specs.world.Connections.{is_cut, moment_after, late_message, Delay, delay_of, hold_call}
use Rattle.coap_model.specs.world.Observers.{format_of, has_place, is_whole, with_entry, goes_on, notification_message}
use Rattle.coap_model.specs.world.Observers.{first_becomes}
use Rattle.coap_wire.specs.declared.sizes.TheConstants.{LARGEST_MESSAGE}

-- An observer: its token and path, and the format and the mark of the state sent last.
pub record ObserverValue : Type 0 where
  pub token : List ℕ
  pub path : Path
  pub format : Option ℕ
  pub mark : ℕ

-- The observers of a connection, the maximum number of them, and the changed mark of each.
pub record ObserversValue : Type 0 where
  pub room : ℕ
  pub entries : List ObserverValue
  pub marks : List (Option ℕ)

-- A connection: the bytes of the unfinished frame, the link, and the observers.
pub record SessionValue : Type 0 where
  pub frame : List ℕ
  pub link : LinkValue
  pub observers : List ObserverValue

-- A connection with the changed mark of each observer, and the split frame that its framer returned last.
pub record MarkedSession : Type 0 where
  pub session : SessionValue
  pub marks : List (Option ℕ)
  pub split : List ℕ

-- The largest message that the connection accepts, in bytes, as announced last.
abbrev pub session_max : SessionValue → ℕ
session_max v = v.link.own_max

-- ---- the server state

-- The server state at the time `now`, with an empty store and without applications.
abbrev pub empty_shared : (dynamic_max rep_max versions now : ℕ) → ServerState
empty_shared dynamic_max rep_max versions now = record {
  store =
      record { dynamic_max = dynamic_max; rep_max = rep_max; resources = []; versions = versions; applications = None };
  now = now;
}

-- The server state with these applications.
abbrev pub shared_with : ServerState → Option ApplicationsValue → ServerState
shared_with shared applications = record shared { store = record shared.store { applications = applications } }

-- ---- marks

-- The mark of a representation: its version if it is stored, the time `now` if it is built in. A mark distinguishes the
-- states that a path has over time.
abbrev pub mark_at : ℕ → Representation → ℕ
mark_at now r = if r.version == 0 then now else r.version

-- The mark of a state, 0 if the path is absent.
abbrev pub mark_of : ℕ → Option Representation → ℕ
mark_of now None = 0
mark_of now (Some r) = mark_at now r

-- `true` if a path is present and its state has this mark.
abbrev pub is_marked : ℕ → ℕ → Option Representation → Bool
is_marked now mark None = false
is_marked now mark (Some r) = mark_at now r == mark

-- The state of a path in a server state, `None` if it is absent.
abbrev pub state_on : ServerState → Path → Option Representation
state_on shared path = state_of shared.store shared.now path

-- `true` if an observer is stale: its path is absent, or the current state has another mark than the one sent last.
unfoldable pub is_stale : ServerState → ObserverValue → Bool
is_stale shared o = not (is_marked shared.now o.mark (state_on shared o.path))

-- The mark of the current state of a path, `None` if the path is absent.
abbrev pub present_mark : ServerState → Path → Option ℕ
present_mark shared path = option_map (mark_at shared.now) (state_on shared path)

-- The mark of the current state if it differs from the mark `reported`, 0 if the path is absent, otherwise `None`.
abbrev pub unsent_by : Option ℕ → ℕ → Option ℕ
unsent_by None reported = Some 0
unsent_by (Some present) reported = if present == reported then None else Some present

-- The changed mark of an observer: the mark of the current state if the observer is stale, otherwise `None`.
unfoldable pub changed_mark : ServerState → ObserverValue → Option ℕ
changed_mark shared o = if is_stale shared o then Some (mark_of shared.now (state_on shared o.path)) else None

-- Holds if the changed marks of all observers are current.
abbrev pub AreMarked : ServerState → List ObserverValue → List (Option ℕ) → Type 0
AreMarked shared observers marks = marks ≡ map (changed_mark shared) observers

-- Holds if the changed marks of a connection are current.
abbrev pub IsMarked : ServerState → MarkedSession → Type 0
IsMarked shared s = AreMarked shared s.session.observers s.marks

-- ---- queries

-- `true` if the queue has room for a message of `max_sent` bytes.
abbrev pub session_ready : SessionValue → Bool
session_ready v = nat_le v.link.limits.max_sent (free_in v.link)

-- `true` if the connection accepts bytes: it processes messages and rejects malformed input.
abbrev pub session_takes : SessionValue → Bool
session_takes v = takes_messages v.link.phase && session_ready v

-- ---- state after a change of the link

-- The observers of a link: none if the link is not open.
abbrev pub observers_on : LinkValue → List ObserverValue → List ObserverValue
observers_on l observers = if is_open l.phase then observers else []

-- The changed marks of a link's observers: none if the link is not open.
abbrev pub marks_on : LinkValue → List (Option ℕ) → List (Option ℕ)
marks_on l marks = if is_open l.phase then marks else []

-- The observers with their marks: none if the link is not open.
abbrev pub observers_left : LinkValue → ObserversValue → ObserversValue
observers_left l o = record o { entries = observers_on l o.entries; marks = marks_on l o.marks }

-- The bytes of an unfinished frame: none if the link no longer accepts messages.
abbrev pub frame_on : LinkValue → List ℕ → List ℕ
frame_on l frame = if takes_messages l.phase then frame else []

-- A connection of these parts, without the observers and frame bytes that its link has no use for.
abbrev pub session_with : List ℕ → LinkValue → List ObserverValue → SessionValue
session_with frame l observers = record { frame = frame_on l frame; link = l; observers = observers_on l observers }

-- A new connection, with the server's CSM queued.
abbrev pub new_session : LimitValues → SessionValue
new_session limits = record { frame = []; link = new_link Server limits 0; observers = [] }

-- ---- a message

-- The observers without those that have this token.
unfoldable pub without_entry : List ℕ → List ObserverValue → List ObserverValue
without_entry token observers = filter (λ o. not (same_bytes o.token token)) observers

-- The entry that a request adds. The current state of its path counts as sent.
abbrev pub new_entry : ServerState → Message → ObserverValue
new_entry shared m = record {
  token = m.token;
  path = path_of m;
  format = format_of (state_on shared (path_of m));
  mark = mark_of shared.now (state_on shared (path_of m));
}

-- The connection after a response to a request. `others` are the entries with other tokens. The entry is added if the
-- response has Observe (`observes`) and is sent whole.
abbrev pub session_responded : LinkValue → List ObserverValue → ObserverValue → Bool → Message → SessionValue
session_responded l others entry observes response =
    session_with [] (link_after l (call.Reply response))
    (with_entry (observes && is_whole (fit (limit_in l) response (bare_response response))) others entry)

-- The connection after the response of an answer, with Observe if `observes` is `true`.
abbrev pub session_answered_as : ServerState → LinkValue → List ObserverValue → Message → Answer → Bool → SessionValue
session_answered_as shared l others m a observes =
    session_responded l others (new_entry shared m) observes (response_with_observe m.token observes a.response)

-- The connection after the response of an answer, with Observe if the request asks for an entry and there is room for
-- one.
abbrev pub session_answered : ServerState → LinkValue → List ObserverValue → Message → Answer → SessionValue
session_answered shared l others m a = session_answered_as shared l others m a
    (has_place l.limits.observers others a.watch)

-- The answer to a request that is answered at once.
abbrev pub answer_on : ServerState → Message → Answer
answer_on shared m = prompt_answer shared.store shared.now m

-- The delay of the response to a request, if it is delayed.
abbrev pub delay_on : ServerState → Message → Option Delay
delay_on shared m = delay_of shared.store shared.now m

-- The same delay, or `None` if the pending list is full.
abbrev pub delay_in : LinkValue → Option Delay → Option Delay
delay_in l None = None
delay_in l (Some d) = if can_hold l then Some d else None

-- The connection after a request: its response is delayed, or was sent at once.
abbrev pub session_replied : ServerState → LinkValue → List ObserverValue → Message → Option Delay → SessionValue
session_replied shared l others m None = session_answered shared l others m (answer_on shared m)
session_replied shared l others m (Some d) =
    session_with [] (link_after l (hold_call d.by m.token (moment_after shared.now d.seconds))) others

-- `true` if a message is a request that this connection answers.
abbrev pub asks_this : LinkValue → Message → Bool
asks_this l m = is_request (react (state_in l) m).verdict

-- The connection after it processed a message.
unfoldable pub session_handled : ServerState → SessionValue → Message → SessionValue
session_handled shared v m =
    if asks_this v.link m then session_replied shared (link_after v.link (call.Handle m))
    (without_entry m.token v.observers) m (delay_in (link_after v.link (call.Handle m)) (delay_on shared m))
    else session_with [] (link_after v.link (call.Handle m)) v.observers

-- The change of the store that a message makes.
abbrev pub change_by : ServerState → LinkValue → Message → Change
change_by shared l m = if asks_this l m then (answer_on shared m).change else Change.Nothing

-- The server state after a change of its store.
abbrev pub shared_changed : ServerState → Change → ServerState
shared_changed shared change = record shared { store = changed shared.store change }

-- ---- input

-- The effect of an input slice: the number of bytes accepted, whether a message was processed, the connection, and the
-- change of the store.
pub record TakeOutcome : Type 0 where
  pub count : ℕ
  pub handled : Bool
  pub session : SessionValue
  pub change : Change

-- The connection after it rejected malformed input.
abbrev pub session_rejected : SessionValue → Reject → SessionValue
session_rejected v fault = session_with [] (link_after v.link (call.Reject fault)) v.observers

-- The effect of a frame, from its message or from the error of the parser. `count` bytes are accepted.
abbrev pub taking_read : ServerState → SessionValue → ℕ → Result Message FormatFault → TakeOutcome
taking_read shared v count (Ok m) =
    record { count = count; handled = true; session = session_handled shared v m; change = change_by shared v.link m }
taking_read shared v count (Err e) =
    record { count = count; handled = false; session = session_rejected v reject.Format; change = Change.Nothing }

-- The effect of an input slice, from the result of the framer.
abbrev pub taking_found : ServerState → SessionValue → Framing → FrameEventValue → TakeOutcome
taking_found shared v f Nothing =
    record { count = f.taken; handled = false; session = record v { frame = f.kept }; change = Change.Nothing }
taking_found shared v f (AFault fault) = record {
  count = f.taken;
  handled = false;
  session = session_rejected v (reject_of (OfFrame fault));
  change = Change.Nothing;
}
taking_found shared v f (AFrame frame) = taking_read shared v f.taken (message_of frame)

-- The effect of an input slice. No byte is accepted if the connection does not accept bytes (`session_takes`).
unfoldable pub taking : ServerState → SessionValue → List ℕ → TakeOutcome
taking shared v piece =
    if session_takes v
    then taking_found shared v (framing (session_max v) v.frame piece) (framing (session_max v) v.frame piece).finding
    else record { count = 0; handled = false; session = v; change = Change.Nothing }

-- Holds if allocation may fail for the representation that the first message of a slice stores. Then `count` bytes are
-- accepted: all up to the end of that message but the last.
pub record RefusesPiece (shared : ServerState) (v : SessionValue) (piece : List ℕ) (count : ℕ) : Type 0 where
  pub takes : session_takes v ≡ true
  pub last : (taking shared v piece).count ≡ count + 1
  pub stores : IsPut (taking shared v piece).change

-- ---- other calls

abbrev pub session_written : SessionValue → ℕ → SessionValue
session_written v n = record v { link = link_after v.link (call.Written n) }

abbrev pub session_ended : SessionValue → SessionValue
session_ended v = session_with v.frame (link_after v.link (call.End (is_cut v.frame))) v.observers

abbrev pub session_released : SessionValue → SessionValue
session_released v = session_with v.frame (link_after v.link call.Release) v.observers

-- The connection after a response of the application.
abbrev pub session_given : SessionValue → Message → SessionValue
session_given v m = session_with v.frame (link_after v.link (call.Respond m)) v.observers

-- `true` if a size may be announced: it is not below the current one and not above the maximum. Also, the connection
-- must be open, its queue must have room, and the CSM must fit.
abbrev pub session_raises : SessionValue → ℕ → Bool
session_raises v size =
    (nat_le v.link.own_max size && nat_le size LARGEST_MESSAGE) && (session_ready v && may_announce v.link size)

abbrev pub session_announced : SessionValue → ℕ → SessionValue
session_announced v size = session_with v.frame (link_after v.link (call.Announce size)) v.observers

-- ---- settling

-- The first stale observer, if the queue has room to notify it.
unfoldable pub next_stale : ServerState → SessionValue → Option ObserverValue
next_stale shared v = if session_ready v then find (is_stale shared) v.observers else None

-- The entry of an observer after its notification: updated if it stays, otherwise removed.
abbrev pub entry_left : ServerState → ObserverValue → Bool → List ObserverValue
entry_left shared o true = record o { mark = mark_of shared.now (state_on shared o.path) } ∷ []
entry_left shared o false = []

-- The connection after the notification `m` of an observer. The entry stays if `stays` is `true` and `m` is sent whole.
abbrev pub session_notified_so : ServerState → SessionValue → ObserverValue → Message → Bool → SessionValue
session_notified_so shared v o m stays =
    session_with v.frame (link_after v.link (call.Reply m)) (first_becomes (is_stale shared)
    (entry_left shared o (stays && is_whole (fit (limit_in v.link) m (bare_response m)))) v.observers)

-- The notification of an observer.
abbrev pub notification_on : ServerState → ObserverValue → Message
notification_on shared o = notification_message o.token (notification_of shared.store shared.now o.path o.format)

-- The connection after the notification of an observer, if there is one.
abbrev pub session_notified : ServerState → SessionValue → Option ObserverValue → SessionValue
session_notified shared v None = v
session_notified shared v (Some o) =
    session_notified_so shared v o (notification_on shared o)
    (goes_on (notification_of shared.store shared.now o.path o.format))

-- The pending entry that is due first, if the queue has room to send it.
unfoldable pub next_pending_in : ℕ → SessionValue → Option PendingEntryValue
next_pending_in now v = if session_ready v then first_due now v.link.pending else None

-- The link after the pending entry that is due first was removed: its response was sent, or its Pong was queued with
-- Custody.
abbrev pub link_sent : LinkValue → ℕ → PendingEntryValue → LinkValue
link_sent l now (pending.Answer by token moment) =
    link_after (link_after l (call.Due now)) (call.Reply (late_message by token))
link_sent l now (pending.Pong token) = link_after l (call.Due now)

-- The connection after one iteration of settling: a pending entry is sent before any observer is notified.
abbrev pub session_settled_so : ServerState → SessionValue → Option PendingEntryValue → SessionValue
session_settled_so shared v None = session_notified shared v (next_stale shared v)
session_settled_so shared v (Some e) = session_with v.frame (link_sent v.link shared.now e) v.observers

-- The connection after one iteration of settling.
unfoldable pub session_settled_once : ServerState → SessionValue → SessionValue
session_settled_once shared v = session_settled_so shared v (next_pending_in shared.now v)

-- The connection after this number of iterations.
unfoldable pub session_settled_within : ℕ → ServerState → SessionValue → SessionValue
session_settled_within zero shared v = v
session_settled_within (suc turns) shared v = session_settled_within turns shared (session_settled_once shared v)

-- The connection after it settled. Each iteration leaves fewer pending entries or fewer stale observers, so as many
-- iterations suffice as there are entries and observers.
unfoldable pub session_settled : ServerState → SessionValue → SessionValue
session_settled shared v = session_settled_within (length v.link.pending + length v.observers) shared v

-- Holds if nothing is left to settle: no pending entry is due and no observer is stale, or the queue has no room.
abbrev pub IsSettled : ServerState → SessionValue → Type 0
IsSettled shared v = (next_pending_in shared.now v ≡ None) × (next_stale shared v ≡ None)
