-- Defined by this project: the history of one end of a connection, the link that represents it, and the history after a
-- call. The rules are those of RFC 8323 sections 3.3 and 5.
use Rattle.std.specs.Prelude.{◌≡◌, ℕ, ◌+◌, ◌≤◌, Bool, List, [], ◌∷◌, ◌++◌, length, drop, if◌then◌else◌}
use Rattle.coap_wire.specs.Message.{Message}
use Rattle.coap_conn.specs.declared.phase.Phase.{Phase}
use Rattle.coap_conn.specs.declared.phase.Phase.TheVariants.{Waiting}
use Rattle.coap_conn.specs.declared.phase.Role.{Role}
use Rattle.coap_conn.specs.Limits.{LimitValues}
use Rattle.coap_conn.specs.Announced.{announced, announced_token}
use Rattle.coap_conn.specs.PendingEntries.{PendingEntryValue}
use Rattle.coap_conn.specs.Outstanding.{OutstandingValue}
use Rattle.coap_conn.specs.RequestState.{RequestState}
use Rattle.coap_conn.specs.Reaction.{ConnectionState, ReactionResult}
use Rattle.coap_conn.specs.LinkValue.{LinkValue, bytes_of, own_csm, first_csm, limit_in, state_in, asking_in}
use Rattle.coap_conn.specs.LinkValue.{can_hold}
use Rattle.coap_conn.specs.Calls.{Call, CallEffect, Handles, Does, Holds, Asks, Announces, Writes, Doing, call_effect}
use Rattle.coap_conn.specs.Calls.{sends_one, asks_one}

-- The history of one end of a connection. `handled` and `queued` are the messages handled and queued, in order, and
-- `written` is the number of queued bytes that were written. The other fields are the state: `own_max` is the size of
-- the largest message accepted, as announced last. `pending` are the pending entries, and `tokens` is the number of the
-- last token.
pub record History : Type 0 where
  pub role : Role
  pub limits : LimitValues
  pub handled : List Message
  pub queued : List Message
  pub written : ℕ
  pub phase : Phase
  pub own_max : ℕ
  pub pending : List PendingEntryValue
  pub outstanding : List OutstandingValue
  pub tokens : ℕ

-- The history of a new connection, which has queued its first CSM.
abbrev pub new_history : Role → LimitValues → ℕ → History
new_history role limits tokens =
    record {
      role = role;
      limits = limits;
      handled = [];
      queued = first_csm limits.max_message ∷ [];
      written = 0;
      phase = Waiting;
      own_max = limits.max_message;
      pending = [];
      outstanding = [];
      tokens = tokens;
    }

-- Holds if the first message queued is the first CSM.
abbrev pub AnnouncedFirst : History → Type 0
AnnouncedFirst h = (others : List Message) × (h.queued ≡ first_csm h.limits.max_message ∷ others)

-- Holds if no more bytes were written than were queued.
abbrev pub IsHistory : History → Type 0
IsHistory h = h.written ≤ length (bytes_of h.queued)

-- ---- the link that represents a history

-- The bytes queued for writing: those of all messages queued, without those written.
abbrev pub waiting_of : History → List ℕ
waiting_of h = drop h.written (bytes_of h.queued)

-- The link that represents a history. The peer's Max-Message-Size and token length are those announced last.
abbrev pub link_of : History → LinkValue
link_of h =
    record {
      role = h.role;
      limits = h.limits;
      waiting = waiting_of h;
      phase = h.phase;
      own_max = h.own_max;
      peer_max = announced h.handled;
      peer_token = announced_token h.handled;
      pending = h.pending;
      outstanding = h.outstanding;
      tokens = h.tokens;
    }

-- Holds if the link represents the history.
pub record LinkShows (v : LinkValue) (h : History) : Type 0 where
  pub is_history : IsHistory h
  pub same : v ≡ link_of h

-- The size of the largest message that may be sent after a history.
abbrev pub limit_now : History → ℕ
limit_now h = limit_in (link_of h)

-- The state that decides the reaction to a message after a history.
abbrev pub state_now : History → ConnectionState
state_now h = state_in (link_of h)

-- The state that decides whether a request may be sent after a history.
abbrev pub asking_now : History → RequestState
asking_now h = asking_in (link_of h)

-- True if the pending list is not full.
abbrev pub may_hold : History → Bool
may_hold h = can_hold (link_of h)

-- ---- effects

-- The history after an effect.
abbrev pub with_effect : History → ReactionResult → History
with_effect h e =
    record h { queued = h.queued ++ e.queued; phase = e.phase; pending = e.pending; outstanding = e.outstanding }

-- The history after the effect of a call.
abbrev pub with_deed : History → CallEffect → History
with_deed h (Handles m e) = record (with_effect h e) { handled = h.handled ++ m ∷ [] }
with_deed h (Does e) = with_effect h e
with_deed h (Holds e) = record h { pending = h.pending ++ e ∷ [] }
with_deed h (Asks m outstanding tokens) =
    record h { queued = h.queued ++ m ∷ []; outstanding = outstanding; tokens = tokens }
with_deed h (Announces size) = record h { queued = h.queued ++ own_csm size ∷ []; own_max = size }
with_deed h (Writes n) = record h { written = h.written + n }

-- The history after the effect of a call, if there is one.
abbrev pub done : History → Doing → History
done h d = if d.so then with_deed h d.deed else h

-- The history after a call, whose effect is that on the link that represents the history.
abbrev pub after : History → Call → History
after h c = done h (call_effect (link_of h) c)

-- The history after `m` was sent, or `less` if `m` is too large, in the phases that send responses.
abbrev pub after_send : History → Message → Message → History
after_send h m less = done h (sends_one (link_of h) m less)

-- The history after `m` was sent, which has the next token, and `e` became outstanding. The history is unchanged if
-- `asking_refusal` gives an error.
abbrev pub after_asking : History → Message → OutstandingValue → History
after_asking h m e = done h (asks_one (link_of h) m e)
