-- RFC 8323 section 5.4.1: Pongs with Custody, which are sent after everything that precedes them in the pending list.
-- Defined by this project: delayed responses, which are sent when they are due, and requests that wait for a response
-- of the application. The list is in the order of arrival.
use Rattle.std.specs.Prelude.{◌≡◌, ℕ, ◌≤◌, ◌++◌, Bool, false, List, [], ◌∷◌, Option, Some, None, min, slice_get, nat_le}
use Rattle.std.specs.Prelude.{nat_lt, ◌==◌, if◌then◌else◌}
use Rattle.std.specs.List.{AllByRecursion, filter_map, reduce, list_any, position, remove}
use Rattle.coap_conn.specs.Outstanding.{same_token}
use Rattle.coap_conn.specs.declared.pending.Responder.{Responder}
use Rattle.coap_conn.specs.declared.pending.Responder.TheVariants.{Engine, Application}

-- An entry of the pending list: a response, due at `moment`, or a Pong. The token is that of the request or of the
-- Ping. A response of the engine is sent at its time. The application may give its response until then; an error is
-- sent at that time, its deadline.
pub data PendingEntryValue : Type 0 where
  Answer : (by : Responder) (token : List ℕ) (moment : ℕ) → PendingEntryValue
  Pong : (token : List ℕ) → PendingEntryValue

-- ---- the entry that is due first

-- The time of a response, if it is due at `now` or earlier.
abbrev pub due_moment : ℕ → PendingEntryValue → Option ℕ
due_moment now (Answer by token moment) = if nat_le moment now then Some moment else None
due_moment now (Pong token) = None

-- The earliest time of the responses that are due at `now` or earlier.
abbrev pub earliest_due : ℕ → List PendingEntryValue → Option ℕ
earliest_due now pending = reduce min (filter_map (due_moment now) pending)

-- True if an entry is a response that is due at exactly this time.
abbrev pub is_answer_at : ℕ → PendingEntryValue → Bool
is_answer_at moment (Answer by token due) = due == moment
is_answer_at moment (Pong token) = false

-- The index of the first response that is due at exactly this time, if there is a time.
abbrev pub answer_index : Option ℕ → List PendingEntryValue → Option ℕ
answer_index None pending = None
answer_index (Some moment) pending = position (is_answer_at moment) pending

-- The index of a Pong that no entry precedes.
abbrev pub pong_index : List PendingEntryValue → Option ℕ
pong_index [] = None
pong_index (Answer by token moment ∷ later) = None
pong_index (Pong token ∷ later) = Some 0

-- The first index if there is one, otherwise the second.
abbrev pub else_index : Option ℕ → Option ℕ → Option ℕ
else_index None other = other
else_index (Some i) other = Some i

-- The index of the entry that is due first at `now`. Responses whose time has come precede Pongs: the earliest time
-- first, and of equal times the first entry. Otherwise a Pong is due if no entry precedes it.
unfoldable pub due_index : ℕ → List PendingEntryValue → Option ℕ
due_index now pending = else_index (answer_index (earliest_due now pending) pending) (pong_index pending)

-- ---- the next time

-- The time of a response, if it is due after `now`.
abbrev pub future_moment : ℕ → PendingEntryValue → Option ℕ
future_moment now (Answer by token moment) = if nat_lt now moment then Some moment else None
future_moment now (Pong token) = None

-- The earliest time after `now` at which a response is due.
abbrev pub next_moment : ℕ → List PendingEntryValue → Option ℕ
next_moment now pending = reduce min (filter_map (future_moment now) pending)

-- ---- removal

-- The entry at an index, if there is an index.
abbrev pub entry_at : List PendingEntryValue → Option ℕ → Option PendingEntryValue
entry_at pending None = None
entry_at pending (Some i) = slice_get pending i

-- The entries without that at an index, or all of them if there is no index.
abbrev pub without_at : List PendingEntryValue → Option ℕ → List PendingEntryValue
without_at pending None = pending
without_at pending (Some i) = remove pending i

-- The entry that is due first at `now`, if any is due.
unfoldable pub first_due : ℕ → List PendingEntryValue → Option PendingEntryValue
first_due now pending = entry_at pending (due_index now pending)

-- The entries without that which is due first at `now`.
unfoldable pub without_due : ℕ → List PendingEntryValue → List PendingEntryValue
without_due now pending = without_at pending (due_index now pending)

-- Holds if no entry is due at `now`: each response is due later, and no Pong is the first entry.
abbrev pub NothingIsDue : ℕ → List PendingEntryValue → Type 0
NothingIsDue now pending = AllByRecursion (λ e. due_moment now e ≡ None) pending × (pong_index pending ≡ None)

-- Holds if this response is due first at `now`, and `rest` are the entries without it. Its time has come, no time that
-- has come is earlier, and all responses before it have other times.
pub record IsDueFirst (now : ℕ) (pending : List PendingEntryValue) (by : Responder) (token : List ℕ) (moment : ℕ)
    (rest : List PendingEntryValue) : Type 0 where
  pub before : List PendingEntryValue
  pub after : List PendingEntryValue
  pub there : pending ≡ before ++ Answer by token moment ∷ after
  pub without : rest ≡ before ++ after
  pub has_come : moment ≤ now
  pub least : AllByRecursion (λ e. (other : ℕ) → due_moment now e ≡ Some other → moment ≤ other) pending
  pub earliest : AllByRecursion (λ e. is_answer_at moment e ≡ false) before

-- ---- requests for the application

-- True if an entry is a request with this token that waits for a response of the application.
abbrev pub is_request_for : List ℕ → PendingEntryValue → Bool
is_request_for token (Answer Engine other moment) = false
is_request_for token (Answer Application other moment) = same_token other token
is_request_for token (Pong other) = false

-- True if a request with this token waits for a response of the application.
abbrev pub has_request : List ℕ → List PendingEntryValue → Bool
has_request token pending = list_any (is_request_for token) pending

-- The entries without the first request with this token that waits for a response of the application.
unfoldable pub without_request : List ℕ → List PendingEntryValue → List PendingEntryValue
without_request token pending = without_at pending (position (is_request_for token) pending)

-- Holds if a request with this token waits for a response of the application, and `rest` are the entries without it. No
-- entry before it is another request with the token.
pub record IsFirstRequest (pending : List PendingEntryValue) (token : List ℕ)
    (rest : List PendingEntryValue) : Type 0 where
  pub before : List PendingEntryValue
  pub after : List PendingEntryValue
  pub moment : ℕ
  pub there : pending ≡ before ++ Answer Application token moment ∷ after
  pub without : rest ≡ before ++ after
  pub earliest : AllByRecursion (λ e. is_request_for token e ≡ false) before

-- ---- results

-- The result of `Link::due`, with the token as a list of bytes: a response, which the caller sends, a Pong, or nothing.
-- `AnExpired` is a request that the application has not answered until its deadline.
pub data DueValue : Type 0 where
  AnAnswer : (token : List ℕ) → DueValue
  AnExpired : (token : List ℕ) → DueValue
  APong : DueValue
  Nothing : DueValue

-- The result for a response that is due.
abbrev pub answer_by : Responder → List ℕ → DueValue
answer_by Engine token = AnAnswer token
answer_by Application token = AnExpired token

-- The result of `Link::due`, by the entry that is due first.
abbrev pub due_result : Option PendingEntryValue → DueValue
due_result None = Nothing
due_result (Some (Answer by token moment)) = answer_by by token
due_result (Some (Pong token)) = APong
