-- Defined by this project: the effect of a flush, which writes all queued bytes of a connection until none is queued.
use Rattle.std.specs.Prelude.{◌≡◌, ◌≤◌, ◌⊎◌, ℕ, zero, suc, ◌+◌, Bool, true, false, List, [], ◌++◌, length, Option, Some}
use Rattle.std.specs.Prelude.{None}
use Rattle.coap_server_session.specs.values.Sessions.{SessionValue, session_written, session_settled}
use Rattle.coap_server_engine.specs.values.Servers.{ServerValue, session_of, changed_at, server_written}
use Rattle.coap_server_session.specs.declared.server_state.ServerState.{ServerState}

-- The server after some iterations, and the bytes that they wrote.
pub record Flush : Type 0 where
  pub server : ServerValue
  pub text : List ℕ

-- The queued bytes of a connection, or none if there is no connection.
abbrev pub waiting_in : Option SessionValue → List ℕ
waiting_in None = []
waiting_in (Some s) = s.link.waiting

-- The queued bytes of the connection with this id.
abbrev pub waiting_at : ℕ → ServerValue → List ℕ
waiting_at id v = waiting_in (session_of id v.sessions)

-- The number of pending entries plus the number of observers of a connection.
abbrev pub more_in : Option SessionValue → ℕ
more_in None = 0
more_in (Some s) = length s.link.pending + length s.observers

-- The same number for the connection with this id.
abbrev pub more_at : ℕ → ServerValue → ℕ
more_at id v = more_in (session_of id v.sessions)

-- The value after one more iteration, which writes the bytes `waiting`.
abbrev pub flush_more : ℕ → List ℕ → Flush → Flush
flush_more id waiting f = record { server = server_written f.server id (length waiting); text = f.text ++ waiting }

-- The value after one more iteration, which writes all queued bytes.
abbrev pub flush_once : ℕ → Flush → Flush
flush_once id f = flush_more id (waiting_at id f.server) f

-- The value after this number of iterations.
unfoldable pub flush_turns : ℕ → ℕ → ServerValue → Flush
flush_turns zero id v = record { server = v; text = [] }
flush_turns (suc turns) id v = flush_once id (flush_turns turns id v)

-- Holds for one iteration. If its result is `false`, nothing was queued. If it is `true`, all queued bytes were written
-- and the server settled. `wrote` states which bytes were written.
abbrev pub IsFlushedOnce : ℕ → ServerValue → ServerValue → (List ℕ → Type 0) → Bool → Type 0
IsFlushedOnce id v after wrote false = (waiting_at id v ≡ []) × (after ≡ v) × wrote []
IsFlushedOnce id v after wrote true = (after ≡ server_written v id (length (waiting_at id v))) × wrote (waiting_at id v)

-- The same for the connection at an index, whose value is `s`.
abbrev pub IsFlushedAt : ℕ → ServerState → SessionValue → List (ℕ × SessionValue) → List (ℕ × SessionValue)
    → (List ℕ → Type 0) → Bool → Type 0
IsFlushedAt at shared s sessions after wrote false = (s.link.waiting ≡ []) × (after ≡ sessions) × wrote []
IsFlushedAt at shared s sessions after wrote true =
    (after ≡ changed_at at (λ u. session_settled shared (session_written u (length s.link.waiting))) sessions)
    × wrote s.link.waiting

-- Holds if a flush is complete. It ends when nothing is queued, or after one more iteration than there were pending
-- entries and observers. `wrote` states which bytes were written.
pub record IsFlushed (id : ℕ) (v after : ServerValue) (wrote : List ℕ → Type 0) : Type 0 where
  pub turns : ℕ
  pub within : turns ≤ suc (more_at id v)
  pub done : (waiting_at id after ≡ []) ⊎ (turns ≡ suc (more_at id v))
  pub server : after ≡ (flush_turns turns id v).server
  pub written : wrote (flush_turns turns id v).text
