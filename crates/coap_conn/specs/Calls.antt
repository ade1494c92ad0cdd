-- RFC 8323 sections 3.3 and 5: the calls on a connection, the effect of each, and the link after it.
use Rattle.std.specs.Prelude.{ℕ, ◌+◌, ◌≤◌, Bool, true, false, ◌&&◌, List, [], ◌∷◌, ◌++◌, length, drop, is_none}
use Rattle.std.specs.Prelude.{if◌then◌else◌}
use Rattle.std.specs.List.{list_any}
use Rattle.coap_wire.specs.Message.{Message}
use Rattle.coap_wire.specs.Codes as code
use Rattle.coap_conn.specs.declared.reason.Reason.{Reason}
use Rattle.coap_conn.specs.declared.reason.Reason.TheVariants.{Ended, Cut, ReleasedHere}
use Rattle.coap_conn.specs.declared.phase.Reject.{Reject as Fault}
use Rattle.coap_conn.specs.Phases.{takes_messages, answers, is_open}
use Rattle.coap_conn.specs.Rejects.{reject_reason}
use Rattle.coap_conn.specs.Fit.{fits, bare_response}
use Rattle.coap_conn.specs.PendingEntries.{PendingEntryValue, Answer, first_due, without_due, without_request}
use Rattle.coap_conn.specs.declared.pending.Responder.TheVariants.{Engine, Application}
use Rattle.coap_conn.specs.Responses.{response_refusal}
use Rattle.coap_conn.specs.Outstanding.{OutstandingValue, is_entry_of, without_entry_of, with_cancelled}
use Rattle.coap_conn.specs.Outstanding as outstanding
use Rattle.coap_conn.specs.RequestState.{asking_refusal, cancel_refusal, next_token, with_token, entry_of, ping_with}
use Rattle.coap_conn.specs.Reaction.{ConnectionState, ReactionResult, stay, stop, abort, send, react, due_effect}
use Rattle.coap_conn.specs.LinkValue.{LinkValue, can_hold, state_in, asking_in, bytes_of, own_csm, limit_in}
use Rattle.coap_conn.specs.LinkValue.{link_with, link_received}

-- A call with its arguments:
-- - `Handle`: a message was received.
-- - `Reject`: the bytes after the last whole message are malformed.
-- - `End`: the input ends, within a frame if `cut`.
-- - `Reply`: a response is sent.
-- - `Hold`: a response is delayed until `moment`.
-- - `HoldRequest`: a request waits for a response of the application until `moment`.
-- - `Respond`: the application's response to the first such request with its token is sent.
-- - `Due`: the entry that is due first at `now` is removed from the pending list.
-- - `Release`: the local endpoint releases the connection.
-- - `Request`: a request is sent, for an observation if `observe`.
-- - `Cancel`: an observation is cancelled by the message `m`.
-- - `Ping`: a Ping is sent, with Custody if `custody`.
-- - `Forget`: the outstanding entry with this token is removed.
-- - `Announce`: the local endpoint announces another Max-Message-Size.
-- - `Written`: the first `n` queued bytes were written.
pub data Call : Type 0 where
  Handle : (m : Message) → Call
  Reject : (fault : Fault) → Call
  End : (cut : Bool) → Call
  Reply : (m : Message) → Call
  Hold : (token : List ℕ) (moment : ℕ) → Call
  HoldRequest : (token : List ℕ) (moment : ℕ) → Call
  Respond : (m : Message) → Call
  Due : (now : ℕ) → Call
  Release : Call
  Request : (m : Message) (observe : Bool) → Call
  Cancel : (token : List ℕ) (m : Message) → Call
  Ping : (custody : Bool) → Call
  Forget : (token : List ℕ) → Call
  Announce : (size : ℕ) → Call
  Written : (n : ℕ) → Call

-- The effect of a call:
-- - `Handles`: the message `m` was handled, with the effect `e`.
-- - `Does`: the effect `e`, without a message that was handled.
-- - `Holds`: the entry `e` is appended to the pending list.
-- - `Asks`: the message `m` is queued, and the outstanding entries and the number of the last token become these.
-- - `Announces`: a CSM with this size is queued, and the size applies at once.
-- - `Writes`: `n` bytes were written.
pub data CallEffect : Type 0 where
  Handles : (m : Message) (e : ReactionResult) → CallEffect
  Does : (e : ReactionResult) → CallEffect
  Holds : (e : PendingEntryValue) → CallEffect
  Asks : (m : Message) (outstanding : List OutstandingValue) (tokens : ℕ) → CallEffect
  Announces : (size : ℕ) → CallEffect
  Writes : (n : ℕ) → CallEffect

-- The effect of a call: `deed` if `so` is true, otherwise none.
pub record Doing : Type 0 where
  pub so : Bool
  pub deed : CallEffect

-- The effect `deed` if `so` is true.
abbrev pub where_so : Bool → CallEffect → Doing
where_so so deed = record { so = so; deed = deed }

-- ---- parts of effects

-- The reason of a stop at the end of input, which is within a frame if the argument is true.
abbrev pub end_reason : Bool → Reason
end_reason true = Cut
end_reason false = Ended

-- A Release, which has no options (RFC 8323 section 5.5).
abbrev pub release : Message
release = record { code = code.release; token = []; options = []; payload = [] }

-- The state without the pending entry that is due first at `now`.
abbrev pub state_due : ℕ → ConnectionState → ConnectionState
state_due now s = record s { pending = without_due now s.pending }

-- The state without the first request with this token that waits for a response of the application.
abbrev pub state_without : List ℕ → ConnectionState → ConnectionState
state_without token s = record s { pending = without_request token s.pending }

-- The effect of sending `m`, or `less` if `m` is too large, in the phases that send responses. In other phases there is
-- none.
abbrev pub sends_one : LinkValue → Message → Message → Doing
sends_one v m less = where_so (answers v.phase) (Does (send (state_in v) m less))

-- The effect of sending `m`, which has the next token, after which `e` is outstanding. There is none if
-- `asking_refusal` gives an error.
abbrev pub asks_one : LinkValue → Message → OutstandingValue → Doing
asks_one v m e = where_so (is_none (asking_refusal (asking_in v) m)) (Asks m (v.outstanding ++ e ∷ []) (v.tokens + 1))

-- True if an entry with this token can be removed: the connection is open, and an entry has the token.
abbrev pub may_forget : LinkValue → List ℕ → Bool
may_forget v token = is_open v.phase && list_any (is_entry_of token) v.outstanding

-- True if a CSM with this size may be sent: the connection is open, and the CSM fits the peer's limit.
abbrev pub may_announce : LinkValue → ℕ → Bool
may_announce v size = is_open v.phase && fits (limit_in v) (own_csm size)

-- ---- the effect of a call

-- The effect of a call. Messages, malformed bytes and the end of input have an effect only in phases that accept
-- messages.
abbrev pub call_effect : LinkValue → Call → Doing
call_effect v (Handle m) = where_so (takes_messages v.phase) (Handles m (react (state_in v) m).effect)
call_effect v (Reject fault) = where_so (takes_messages v.phase) (Does (abort (state_in v) (reject_reason fault)))
call_effect v (End cut) = where_so (takes_messages v.phase) (Does (stop (state_in v) (end_reason cut) []))
call_effect v (Reply m) = sends_one v m (bare_response m)
call_effect v (Hold token moment) = where_so (is_open v.phase && can_hold v) (Holds (Answer Engine token moment))
call_effect v (HoldRequest token moment) =
    where_so (is_open v.phase && can_hold v) (Holds (Answer Application token moment))
call_effect v (Respond m) =
    where_so (answers v.phase && is_none (response_refusal v m))
    (Does (send (state_without m.token (state_in v)) m (bare_response m)))
call_effect v (Due now) = where_so true (Does (due_effect (state_due now (state_in v)) (first_due now v.pending)))
call_effect v Release = where_so (is_open v.phase) (Does (stop (state_in v) ReleasedHere (release ∷ [])))
call_effect v (Request m observe) =
    asks_one v (with_token m (next_token v.tokens)) (entry_of observe (next_token v.tokens))
call_effect v (Cancel token m) =
    where_so (is_none (cancel_refusal (asking_in v) token (with_token m token)))
    (Asks (with_token m token) (with_cancelled token v.outstanding) v.tokens)
call_effect v (Ping custody) =
    asks_one v (ping_with custody (next_token v.tokens)) (outstanding.Ping (next_token v.tokens))
call_effect v (Forget token) =
    where_so (may_forget v token)
    (Does (record (stay (state_in v)) { outstanding = without_entry_of token v.outstanding }))
call_effect v (Announce size) = where_so (may_announce v size) (Announces size)
call_effect v (Written n) = where_so true (Writes n)

-- ---- the link after a call

-- The link after an effect.
abbrev pub link_with_deed : LinkValue → CallEffect → LinkValue
link_with_deed v (Handles m e) = link_received v m e
link_with_deed v (Does e) = link_with v e
link_with_deed v (Holds e) = record v { pending = v.pending ++ e ∷ [] }
link_with_deed v (Asks m outstanding tokens) =
    record v { waiting = v.waiting ++ bytes_of (m ∷ []); outstanding = outstanding; tokens = tokens }
link_with_deed v (Announces size) = record v { waiting = v.waiting ++ bytes_of (own_csm size ∷ []); own_max = size }
link_with_deed v (Writes n) = record v { waiting = drop n v.waiting }

-- The link after an effect, if there is one.
abbrev pub link_done : LinkValue → Doing → LinkValue
link_done v d = if d.so then link_with_deed v d.deed else v

-- The link after a call.
abbrev pub link_after : LinkValue → Call → LinkValue
link_after v c = link_done v (call_effect v c)

-- Holds if an effect writes no more bytes than are queued.
abbrev pub IsWithin : LinkValue → CallEffect → Type 0
IsWithin v (Writes n) = n ≤ length v.waiting
IsWithin v other = Unit {0}
