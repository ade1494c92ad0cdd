-- Defined by this project: the calls of `take` that accept all bytes that a connection received, and those before an
-- allocation fails.
use Rattle.std.specs.Prelude.{◌≡◌, ℕ, zero, suc, ◌+◌, Bool, true, false, not, ◌&&◌, List, [], ◌∷◌, ◌++◌, length, take}
use Rattle.std.specs.Prelude.{drop}
use Rattle.std.specs.Prelude.{Option, Some, None, nat_lt, ◌==◌, if◌then◌else◌}
use Rattle.coap_server_session.specs.values.Sessions.{SessionValue}
use Rattle.coap_server_engine.specs.values.Servers.{ServerValue, session_of, server_taken, count_taken}
use Rattle.coap_server_engine.specs.values.ServerAnswers.{IsNotTaken}
use Rattle.coap_model.specs.world.Events.{AcceptedCall, Took}
use Rattle.coap_server_engine.specs.world.Shows.{Shows}
use Rattle.coap_model.specs.declared.answers.TakeFault.TheVariants as taking

-- ---- takes, until no byte is left or one accepts none

-- The server after some takes, the number of bytes that they accepted, and whether the last one accepted none.
pub record InResult : Type 0 where
  pub server : ServerValue
  pub count : ℕ
  pub done : Bool

-- The value before the first take.
abbrev pub unfed : ServerValue → InResult
unfed v = record { server = v; count = 0; done = false }

-- The value after one more take, of the remaining bytes `left`.
abbrev pub fed_more : ℕ → List ℕ → InResult → InResult
fed_more id left f = record {
  server = server_taken f.server id left;
  count = f.count + count_taken f.server id left;
  done = count_taken f.server id left == 0;
}

-- `true` if bytes remain, and the last take accepted some.
abbrev pub goes_on : List ℕ → InResult → Bool
goes_on bytes f = nat_lt f.count (length bytes) && not f.done

-- The value after one more take, if one is to be made.
abbrev pub fed_once : ℕ → List ℕ → InResult → InResult
fed_once id bytes f = if goes_on bytes f then fed_more id (drop f.count bytes) f else f

-- The value after at most this number of takes.
unfoldable pub fed_turns : ℕ → ServerValue → ℕ → List ℕ → InResult
fed_turns zero v id bytes = unfed v
fed_turns (suc turns) v id bytes = fed_once id bytes (fed_turns turns v id bytes)

-- The value after all takes. Each take but the last accepts at least one byte, so no more takes are needed than there
-- are bytes.
abbrev pub in_result : ServerValue → ℕ → List ℕ → InResult
in_result v id bytes = fed_turns (length bytes) v id bytes

-- Holds if allocation failed in a take, after the takes before it. `after` is the server then.
pub record IsPartialIn (v : ServerValue) (id : ℕ) (bytes : List ℕ) (after : ServerValue) : Type 0 where
  pub turns : ℕ
  pub count : ℕ
  pub going : goes_on bytes (fed_turns turns v id bytes) ≡ true
  pub refused :
      IsNotTaken (fed_turns turns v id bytes).server id (drop (fed_turns turns v id bytes).count bytes)
      (taking.Memory count) after

-- ---- the events of these takes

-- The event of a call on a connection, if the connection exists.
abbrev pub where_there : Option SessionValue → (SessionValue → AcceptedCall) → List AcceptedCall
where_there None call = []
where_there (Some s) call = call s ∷ []

-- The event of one more take, of the remaining bytes `left`.
abbrev pub took_more : ℕ → List ℕ → InResult → List AcceptedCall
took_more id left f =
    where_there (session_of id f.server.sessions) (λ s. Took id (take (count_taken f.server id left) left))

-- The event of one more take, if one is to be made.
abbrev pub took_once : ℕ → List ℕ → InResult → List AcceptedCall
took_once id bytes f = if goes_on bytes f then took_more id (drop f.count bytes) f else []

-- The events of the takes that `fed_turns` makes.
unfoldable pub took_turns : ℕ → ServerValue → ℕ → List ℕ → List AcceptedCall
took_turns zero v id bytes = []
took_turns (suc turns) v id bytes = took_turns turns v id bytes ++ took_once id bytes (fed_turns turns v id bytes)

-- The events of the takes that `in_result` makes. If bytes are left, the last one accepted none.
abbrev pub took : ServerValue → ℕ → List ℕ → List AcceptedCall
took v id bytes = took_turns (length bytes) v id bytes

-- Holds if the server `after` shows every history that `v` shows, followed by the events `more`.
abbrev pub ShowsMore : ServerValue → ServerValue → List AcceptedCall → Type 0
ShowsMore v after more = (before : List AcceptedCall) → Shows v before → Shows after (before ++ more)

-- Holds if `more` are the events of the takes before an allocation failed, followed by that of the bytes which the
-- failing take accepted.
pub record IsPartlyTaken (v : ServerValue) (id : ℕ) (bytes : List ℕ) (after : ServerValue)
    (more : List AcceptedCall) : Type 0 where
  pub in_result : IsPartialIn v id bytes after
  pub made : more ≡ took_turns in_result.turns v id bytes
      ++ Took id (take in_result.count (drop (fed_turns in_result.turns v id bytes).count bytes)) ∷ []

-- Holds if an allocation failed in a take, and the server shows these events.
pub record ShowsPartlyFed (v : ServerValue) (id : ℕ) (bytes : List ℕ) (after : ServerValue) : Type 0 where
  pub more : List AcceptedCall
  pub part : IsPartlyTaken v id bytes after more
  pub shows : ShowsMore v after more
