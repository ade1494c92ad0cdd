-- Defined by this project: the value of a `Link`, its invariant, and the terms in which contracts refer to it.
use Rattle.std.specs.Prelude.{◌≡◌, ◌⊎◌, ℕ, ◌-◌, ◌<◌, ◌≤◌, ◌^◌, Bool, true, ◌&&◌, List, [], ◌∷◌, ◌++◌, length, unwrap_or}
use Rattle.std.specs.Prelude.{nat_lt, ◌==◌}
use Rattle.std.specs.List.{flat_map}
use Rattle.coap_wire.specs.Message.{CoapOption, Message}
use Rattle.coap_wire.specs.Forms.{greatest_token}
use Rattle.coap_wire.specs.Spelling.{spelling}
use Rattle.coap_wire.specs.Uint.{bytes_of_uint}
use Rattle.coap_wire.specs.Codes as code
use Rattle.coap_conn.specs.SignalOptions as option
use Rattle.coap_conn.specs.declared.phase.Phase.{Phase}
use Rattle.coap_conn.specs.declared.phase.Phase.TheVariants.{Waiting}
use Rattle.coap_conn.specs.declared.phase.Role.{Role}
use Rattle.coap_conn.specs.Phases.{is_over, answers}
use Rattle.coap_conn.specs.Limits.{LimitValues}
use Rattle.coap_conn.specs.Announced.{base_token, bad_csm_option, csm_size, csm_token, announcement, token_announcement}
use Rattle.coap_conn.specs.Announced.{size_limit}
use Rattle.coap_conn.specs.PendingEntries.{PendingEntryValue}
use Rattle.coap_conn.specs.Outstanding.{OutstandingValue}
use Rattle.coap_conn.specs.RequestState.{RequestState}
use Rattle.coap_conn.specs.Reaction.{ConnectionState, ReactionResult, csm_reaction, live_reaction}
use Rattle.coap_wire.specs.declared.sizes.TheConstants.{BASE_MESSAGE_SIZE}

-- The value of a `Link`. `waiting` are the bytes queued for writing. `own_max` is the size of the largest message
-- accepted, as announced last. `peer_max` and `peer_token` are the size of the largest message and the length of the
-- longest token that the peer accepts. `pending` are the pending entries, and `tokens` is the number of the last token.
pub record LinkValue : Type 0 where
  pub role : Role
  pub limits : LimitValues
  pub waiting : List ℕ
  pub phase : Phase
  pub own_max : ℕ
  pub peer_max : ℕ
  pub peer_token : ℕ
  pub pending : List PendingEntryValue
  pub outstanding : List OutstandingValue
  pub tokens : ℕ

-- The invariant of `Link`. The queued bytes, the pending entries and the outstanding entries stay within their limits.
-- `max_sent` is at most the size of the queue, and `peer_max` fits in 32 bits. Entries are pending only in phases that
-- send responses.
pub record IsLink (v : LinkValue) : Type 0 where
  pub within : length v.waiting ≤ v.limits.queue
  pub enough : v.limits.max_sent ≤ v.limits.queue
  pub small : v.peer_max < 2 ^ 32
  pub few : length v.pending ≤ v.limits.pending
  pub few_requested : length v.outstanding ≤ v.limits.outstanding
  pub answering : (v.pending ≡ []) ⊎ (answers v.phase ≡ true)

-- ---- properties

-- The number of bytes that can still be queued.
abbrev pub free_in : LinkValue → ℕ
free_in v = v.limits.queue - length v.waiting

-- Holds if the queue has room for a message of `max_sent` bytes.
abbrev pub IsReady : LinkValue → Type 0
IsReady v = v.limits.max_sent ≤ free_in v

-- True if nothing is left to write: no message is accepted, no entry is pending, and no byte is queued.
abbrev pub is_finished : LinkValue → Bool
is_finished v = is_over v.phase && (length v.pending == 0 && length v.waiting == 0)

-- True if the pending list is not full.
abbrev pub can_hold : LinkValue → Bool
can_hold v = nat_lt (length v.pending) v.limits.pending

-- The size of the largest message that may be sent.
abbrev pub limit_in : LinkValue → ℕ
limit_in v = size_limit v.limits.max_sent v.peer_max

-- The parts of a link that only an announcement changes: its limits, and the size of the largest message accepted.
abbrev pub sizes_of : LinkValue → LimitValues × ℕ
sizes_of l = (l.limits, l.own_max)

-- The state that decides the reaction to a message.
abbrev pub state_in : LinkValue → ConnectionState
state_in v = record {
  role = v.role;
  phase = v.phase;
  limit = limit_in v;
  pending = v.pending;
  most = v.limits.pending;
  outstanding = v.outstanding;
}

-- The state that decides whether a request may be sent.
abbrev pub asking_in : LinkValue → RequestState
asking_in v = record {
  phase = v.phase;
  outstanding = v.outstanding;
  most = v.limits.outstanding;
  tokens = v.tokens;
  limit = limit_in v;
  free = free_in v;
}

-- ---- queued messages

-- The encodings of messages, one after another.
abbrev pub bytes_of : List Message → List ℕ
bytes_of ms = flat_map spelling ms

-- The CSM with Max-Message-Size alone, whose value is these bytes (RFC 8323 section 5.3.1).
abbrev pub csm_with : List ℕ → Message
csm_with size = record {
  code = code.csm;
  token = [];
  options = record { number = option.max_message_size; value = size } ∷ [];
  payload = [];
}

-- The CSM that announces this size.
abbrev pub own_csm : ℕ → Message
own_csm M = csm_with (bytes_of_uint M)

-- The option that announces the longest token accepted (RFC 8974 section 2.2.1).
abbrev pub own_token_length : CoapOption
own_token_length = record { number = option.extended_token_length; value = greatest_token ∷ [] }

-- The first CSM, which also has that option.
abbrev pub first_csm_with : List ℕ → Message
first_csm_with size = record (csm_with size) { options = (csm_with size).options ++ own_token_length ∷ [] }

-- The first CSM, which announces this size and the longest token accepted.
abbrev pub first_csm : ℕ → Message
first_csm M = first_csm_with (bytes_of_uint M)

-- A new link, with the first CSM queued.
abbrev pub new_link : Role → LimitValues → ℕ → LinkValue
new_link role limits tokens =
    record {
      role = role;
      limits = limits;
      waiting = bytes_of (first_csm limits.max_message ∷ []);
      phase = Waiting;
      own_max = limits.max_message;
      peer_max = BASE_MESSAGE_SIZE;
      peer_token = base_token;
      pending = [];
      outstanding = [];
      tokens = tokens;
    }

-- The link after an effect.
abbrev pub link_with : LinkValue → ReactionResult → LinkValue
link_with v e =
    record v {
      waiting = v.waiting ++ bytes_of e.queued;
      phase = e.phase;
      pending = e.pending;
      outstanding = e.outstanding;
    }

-- The link after a message with this effect. The sizes that the message announces become those of the peer.
abbrev pub link_received : LinkValue → Message → ReactionResult → LinkValue
link_received v m e =
    record (link_with v e) {
      peer_max = unwrap_or (announcement m) v.peer_max;
      peer_token = unwrap_or (token_announcement m) v.peer_token;
    }

-- ---- messages in phases that accept them

-- The link after a message, in a phase that accepts messages.
abbrev pub link_handled : LinkValue → Message → LinkValue
link_handled v m = link_received v m (live_reaction (state_in v) m).effect

-- The link after a CSM, in a phase that accepts messages.
abbrev pub link_after_csm : LinkValue → Message → LinkValue
link_after_csm v m =
    record (link_with v (csm_reaction (state_in v) (bad_csm_option m)).effect)
    { peer_max = unwrap_or (csm_size m) v.peer_max; peer_token = unwrap_or (csm_token m) v.peer_token }
