-- RFC 7641, as RFC 8323 section 7 changes it: the observers of a connection, and their notifications.
use Rattle.std.specs.Prelude.{ℕ, Bool, true, false, not, ◌&&◌, List, [], ◌∷◌, ◌++◌, length, filter, Option, Some, None}
use Rattle.std.specs.Prelude.{nat_lt, ◌==◌, if◌then◌else◌}
use Rattle.std.specs.Str.Parse.{digits_value}
use Rattle.coap_wire.specs.Message.{Message}
use Rattle.coap_wire.specs.Codes as code
use Rattle.coap_conn.specs.declared.phase.Reply.{Reply}
use Rattle.coap_conn.specs.declared.phase.Reply.TheVariants.{Whole, Bare, Stopped}
use Rattle.coap_path.specs.Paths.{Path, same_bytes}
use Rattle.coap_store.specs.Store.{Representation, StoreValue}
use Rattle.coap_store.specs.State.{state_of}
use Rattle.coap_store.specs.Requests.{path_of}
use Rattle.coap_store.specs.Answer.{Response}
use Rattle.coap_store.specs.Notifications.{notification_of}
use Rattle.coap_store.specs.Messages.{response_with_observe}
use Rattle.coap_store.specs.declared.plan.Watch.{Watch}
use Rattle.coap_store.specs.declared.plan.Watch.TheVariants as watch

-- An observer: the token of the request that added the entry, the observed path, and the state that was sent last.
pub record Observer : Type 0 where
  pub token : List ℕ
  pub path : Path
  pub reported : Option Representation

-- ---- states

-- Two Content-Formats are equal, or both are absent.
abbrev pub same_format : Option ℕ → Option ℕ → Bool
same_format None None = true
same_format None (Some g) = false
same_format (Some f) None = false
same_format (Some f) (Some g) = f == g

-- Two states of a path are the same: in version, format and bytes, or both absent.
abbrev pub same_state : Option Representation → Option Representation → Bool
same_state None None = true
same_state None (Some q) = false
same_state (Some r) None = false
same_state (Some r) (Some q) = r.version == q.version && same_format r.format q.format && same_bytes r.bytes q.bytes

-- The number that distinguishes a state from the others of its path: its version or, for a built-in resource, the
-- decimal number in its bytes. It is 0 for an absent path.
abbrev pub mark_sent : Option Representation → ℕ
mark_sent None = 0
mark_sent (Some r) = if r.version == 0 then digits_value 10 r.bytes else r.version

-- The observer is due: the state that was sent last is not the current state of its path.
unfoldable pub is_due : StoreValue → ℕ → Observer → Bool
is_due store now o = not (same_state o.reported (state_of store now o.path))

-- ---- entries

-- The observers without those that have this token. A token names one request of its connection.
unfoldable pub without_token : List ℕ → List Observer → List Observer
without_token token observers = filter (λ o. not (same_bytes o.token token)) observers

-- The request asks for an observer entry, by this `Watch`.
abbrev pub asks_entry : Watch → Bool
asks_entry watch.Nothing = false
asks_entry watch.Add = true
asks_entry watch.Drop = false

-- A request is answered as that of an observer: it asks for an entry, and there are fewer than `most` others.
abbrev pub has_place : {O : Type 0} → ℕ → List O → Watch → Bool
has_place most others requested = asks_entry requested && nat_lt (length others) most

-- The entry for a request: its token, its path, and the current state of this path.
abbrev pub entry_for : StoreValue → ℕ → Message → Observer
entry_for store now m = record { token = m.token; path = path_of m; reported = state_of store now (path_of m) }

-- The message was sent whole: neither reduced to its bare form nor left out.
abbrev pub is_whole : Reply → Bool
is_whole Whole = true
is_whole Bare = false
is_whole Stopped = false

-- The entries with one more at the end if the flag is true; otherwise unchanged.
abbrev pub with_entry : {O : Type 0} → Bool → List O → O → List O
with_entry true others o = others ++ o ∷ []
with_entry false others o = others

-- ---- notifications (RFC 7641 section 4.2)

-- The Content-Format of a state, if it has one.
abbrev pub format_of : Option Representation → Option ℕ
format_of None = None
format_of (Some r) = r.format

-- The notification of an observer. It is 4.04 if the path is absent. It is 4.06 if the format is not that of the state
-- sent last. Otherwise it is 2.05 with the current state.
abbrev pub notification : StoreValue → ℕ → Observer → Response
notification store now o = notification_of store now o.path (format_of o.reported)

-- The observation continues after this notification: it is a 2.05.
abbrev pub goes_on : Response → Bool
goes_on r = r.code == code.content

-- The message of a notification, with this token. It has Observe if the observation continues.
abbrev pub notification_message : List ℕ → Response → Message
notification_message token r = response_with_observe token (goes_on r) r

-- The entries that replace a notified one: the same entry with the current state if the flag is true, otherwise none.
abbrev pub left_of : StoreValue → ℕ → Observer → Bool → List Observer
left_of store now o true = record o { reported = state_of store now o.path } ∷ []
left_of store now o false = []

-- The list in which these entries replace the first one that is due.
unfoldable pub first_becomes : {O : Type 0} → (O → Bool) → List O → List O → List O
first_becomes due after [] = []
first_becomes due after (o ∷ os) = if due o then after ++ os else o ∷ first_becomes due after os
