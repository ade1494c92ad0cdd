-- Defined by this project: the connections whose output was reported, and the calls that report it.
use Rattle.std.specs.Prelude.{◌≡◌, ◌≢◌, ◌⊎◌, ℕ, ◌<◌, List, [], ◌∷◌, ◌++◌, Option, Some, None}
use Rattle.std.specs.List.{AllByRecursion}
use Rattle.coap_server_engine.specs.values.Flushes.{waiting_at}
use Rattle.coap_server_engine.specs.values.IndexSets.{IsOutside}
use Rattle.coap_server_engine.specs.values.Servers.{LiesAt}
use Rattle.coap_server_polled.specs.declared.polled_server.PolledServer.{PolledServer}

-- ---- a connection

-- The connection with this id is not due: it is outside the set of those that are to be reported.
pub record IsReported (id : ℕ) (x : PolledServer) : Type 0 where
  pub at : ℕ
  pub lies : LiesAt id at x.engine.sessions
  pub outside : IsOutside x.due.words at

-- The connection is due.
pub record IsDue (id : ℕ) (x : PolledServer) : Type 0 where
  pub at : ℕ
  pub lies : LiesAt id at x.engine.sessions
  pub inside : IsOutside x.due.words at → ⊥

-- ---- a server that may be absent

abbrev pub IsReportedIn : ℕ → Option PolledServer → Type 0
IsReportedIn id None = ⊥
IsReportedIn id (Some x) = IsReported id x

-- The unwritten output of the connection with this id.
abbrev pub unwritten_in : ℕ → Option PolledServer → List ℕ
unwritten_in id None = []
unwritten_in id (Some x) = waiting_at id x.engine

-- ---- calls

-- A connection that is not due after the call was not due before it, and its unwritten output is the same.
unfoldable pub KeepsReported : Option PolledServer → Option PolledServer → Type 0
KeepsReported h h' =
    (id : ℕ) → IsReportedIn id h' → IsReportedIn id h × (unwritten_in id h' ≡ unwritten_in id h)

-- The same for a call that may yield a connection. The one that it yields need not have been due, nor one that has no
-- unwritten output.
unfoldable pub Reports : Option ℕ → Option PolledServer → Option PolledServer → Type 0
Reports yielded h h' =
    (id : ℕ) → IsReportedIn id h'
    → (yielded ≡ Some id) ⊎ ((unwritten_in id h' ≡ [])
    ⊎ (IsReportedIn id h × (unwritten_in id h' ≡ unwritten_in id h)))

-- `next_output` yields the first connection that is due and has unwritten output. It is not due afterwards. The engine
-- is the same, and of the others, those before it that have no unwritten output are no longer due.
pub record Yields (id : ℕ) (x x' : PolledServer) : Type 0 where
  pub output : waiting_at id x.engine ≢ []
  pub due : IsDue id x
  pub reported : IsReported id x'
  pub first : (other i : ℕ) → LiesAt other i x.engine.sessions → i < due.at → IsDue other x
      → waiting_at other x.engine ≡ []

-- No connection is due and has unwritten output.
abbrev pub HasNoOutput : PolledServer → Type 0
HasNoOutput x = (id : ℕ) → IsDue id x → waiting_at id x.engine ≡ []

-- ---- runs

-- The call of a run: the connection that it yielded, if it did, and the server after it.
abbrev pub Poll : Type 0
Poll = Option ℕ × Option PolledServer

-- Calls one after the other. Each reports as `Reports` states.
unfoldable pub AreCalls : Option PolledServer → List Poll → Type 0
AreCalls h [] = Unit {0}
AreCalls h (c ∷ cs) = Reports c.0 h c.1 × AreCalls c.1 cs

-- The server after the last call.
unfoldable pub after_calls : Option PolledServer → List Poll → Option PolledServer
after_calls h [] = h
after_calls h (c ∷ cs) = after_calls c.1 cs

-- The unwritten output of the connection was the same after each of these calls.
abbrev pub IsUnchanged : ℕ → List ℕ → List Poll → Type 0
IsUnchanged id output calls = AllByRecursion (λ c. unwritten_in id c.1 ≡ output) calls

-- A call yielded the connection, and its unwritten output has been the same since.
pub record WasYielded (id : ℕ) (calls : List Poll) : Type 0 where
  pub before : List Poll
  pub server : Option PolledServer
  pub after : List Poll
  pub all : calls ≡ before ++ (Some id, server) ∷ after
  pub since : IsUnchanged id (unwritten_in id server) after
