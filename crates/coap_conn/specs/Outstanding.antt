-- RFC 7252 section 5.3, RFC 7641 section 3, RFC 8323 section 5.4: outstanding requests, observations and Pings, in the
-- order in which they were sent.
use Rattle.std.specs.Prelude.{ℕ, ◌/◌, Bool, true, false, not, ◌&&◌, ◌||◌, List, filter, map, is_none, nat_eq, ◌==◌}
use Rattle.std.specs.List.{list_any}
use Rattle.std.specs.Cmp.Lexicographic.{pointwise}
use Rattle.coap_wire.specs.Message.{Message}
use Rattle.coap_wire.specs.Recognition.{known_options, first_critical}
use Rattle.coap_wire.specs.OptionNumbers as number

-- An outstanding entry, with its token. A request expects one response. An observation expects responses until one of
-- them ends it; `cancelled` is true after a cancellation was sent. A Ping expects a Pong.
pub data OutstandingValue : Type 0 where
  Request : (token : List ℕ) → OutstandingValue
  Observation : (token : List ℕ) (cancelled : Bool) → OutstandingValue
  Ping : (token : List ℕ) → OutstandingValue

-- True if two tokens have the same bytes.
abbrev pub same_token : List ℕ → List ℕ → Bool
same_token one other = pointwise nat_eq one other

-- ---- responses

-- True if a response with this token matches the entry, which is then a request or an observation (RFC 7252 section
-- 5.3.2).
abbrev pub matches_response : List ℕ → OutstandingValue → Bool
matches_response token (Request own) = same_token own token
matches_response token (Observation own cancelled) = same_token own token
matches_response token (Ping own) = false

-- True if a response has an Observe option that is recognised (RFC 7641 section 2).
abbrev pub has_observe : Message → Bool
has_observe m = list_any (λ o. o.number == number.observe) (known_options m.options)

-- True if a response is a notification, after which others may follow. Its code is 2.xx, it has Observe, and all its
-- critical options are recognised (RFC 7641 sections 3.2 and 4.2, RFC 7252 section 5.4.1).
unfoldable pub is_notification : Message → Bool
is_notification m = (m.code / 32 == 2 && has_observe m) && is_none (first_critical m.options)

-- True if a response that matches the entry is the last one: any response to a request, and any but a notification to
-- an observation.
abbrev pub is_last : Message → OutstandingValue → Bool
is_last m (Request token) = true
is_last m (Observation token cancelled) = not (is_notification m)
is_last m (Ping token) = true

-- True if the entry is a request, and neither an observation nor a Ping.
abbrev pub is_request_entry : OutstandingValue → Bool
is_request_entry (Request token) = true
is_request_entry (Observation token cancelled) = false
is_request_entry (Ping token) = false

-- ---- Pongs

-- True if a Pong with this token matches the entry, which is then a Ping.
abbrev pub matches_pong : List ℕ → OutstandingValue → Bool
matches_pong token (Request own) = false
matches_pong token (Observation own cancelled) = false
matches_pong token (Ping pinged) = same_token pinged token

-- ---- cancellation

-- True if the entry is an observation with this token that was not cancelled (RFC 7641 section 3.6).
abbrev pub may_cancel : List ℕ → OutstandingValue → Bool
may_cancel token (Request own) = false
may_cancel token (Observation own cancelled) = same_token own token && not cancelled
may_cancel token (Ping pinged) = false

-- The entry after the cancellation of the observation with this token.
abbrev pub cancelled_by : List ℕ → OutstandingValue → OutstandingValue
cancelled_by token (Request own) = Request own
cancelled_by token (Observation own cancelled) = Observation own (same_token own token || cancelled)
cancelled_by token (Ping pinged) = Ping pinged

-- ---- both

-- True if a response or a Pong with this token matches the entry.
abbrev pub is_entry_of : List ℕ → OutstandingValue → Bool
is_entry_of token e = matches_response token e || matches_pong token e

-- ---- lists

-- The entries without the requests and observations with this token.
abbrev pub without_matching : List ℕ → List OutstandingValue → List OutstandingValue
without_matching token entries = filter (λ e. not (matches_response token e)) entries

-- The entries without the Pings with this token.
abbrev pub without_pinged : List ℕ → List OutstandingValue → List OutstandingValue
without_pinged token entries = filter (λ e. not (matches_pong token e)) entries

-- The entries without those with this token.
abbrev pub without_entry_of : List ℕ → List OutstandingValue → List OutstandingValue
without_entry_of token entries = filter (λ e. not (is_entry_of token e)) entries

-- The entries after the cancellation of the observation with this token.
abbrev pub with_cancelled : List ℕ → List OutstandingValue → List OutstandingValue
with_cancelled token entries = map (cancelled_by token) entries
