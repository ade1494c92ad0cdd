-- The effects on a connection, call by call. A relation between histories that composes holds across every effect of a
-- server's call and across settling, if each part keeps it. If a part does not keep it, calls with this part are
-- excluded.
use Rattle.std.proofs.Common.{◌≡◌, ℕ, ◌≤◌, Bool, true, false, cond, List, [], ◌∷◌, ◌++◌, length, Option, Some, None}
use Rattle.std.proofs.Common.{zero, suc, ◌&&◌, nat_le, is_none, arith}
use Rattle.std.proofs.lemmas.Bool.{leb-true}
use Rattle.std.proofs.lemmas.Bool.Decides.{nat_tests}
use Rattle.std.proofs.lemmas.List.{append-nil}
use Rattle.coap_model.specs.Prelude.{Responder, late_response, hold_call, Message, StreamFault, Reject, ReleasedHere}
use Rattle.coap_model.specs.Prelude.{takes_messages, answers, is_open, fits, bare_response, VerdictValue, is_request}
use Rattle.coap_model.specs.Prelude.{PendingEntryValue, Answer, Pong, first_due, without_due, stop, abort, send, react}
use Rattle.coap_model.specs.Prelude.{pong_with, due_effect, reject_reason, release_refusal, History, state_now}
use Rattle.coap_model.specs.Prelude.{limit_now, with_effect, after, may_hold, link_of, state_due, end_reason, release}
use Rattle.coap_model.specs.Prelude.{LinkValue, own_csm, free_in, limit_in, StoreValue, Response, response_with_observe}
use Rattle.coap_model.specs.Prelude.{Observer, Connection, kept_open, side_after, side_faulted, side_written}
use Rattle.coap_model.specs.Prelude.{side_ended, side_released, side_announced, after_sent, settled_once}
use Rattle.coap_model.specs.Prelude.{settled_within, settled, side_responded, response_refusal, state_without}
use Rattle.coap_conn.specs.Verdicts as verdict
use Rattle.coap_conn.specs.Calls as call
use Rattle.coap_conn.proofs.RequestLemmas.{react_asks}
use Rattle.coap_conn.proofs.AskingLaws.{none_where}

-- ---- the parts

-- There is room for the largest message that is sent.
abbrev pub room_in : History → Bool
room_in h = nat_le h.limits.max_sent (free_in (link_of h))

-- A message was handled.
abbrev pub received : History → Message → History
received h m = record (with_effect h (react (state_now h) m).effect) { handled = h.handled ++ m ∷ [] }

-- A message was sent, whole or in its reduced form.
abbrev pub sent : History → Message → Message → History
sent h m less = with_effect h (send (state_now h) m less)

-- The pending entries are these.
abbrev pub holding : History → List PendingEntryValue → History
holding h pending = record h { pending = pending }

-- The first due entry is removed.
abbrev pub without_first : History → ℕ → History
without_first h now = holding h (without_due now h.pending)

-- A size was announced.
abbrev pub announcing : History → ℕ → History
announcing h size = record h { queued = h.queued ++ own_csm size ∷ []; own_max = size }

-- The relation holds across a part.
abbrev pub Hears : (History → History → Type 0) → Type 0
Hears R = (h : History) (m : Message) → takes_messages h.phase ≡ true → room_in h ≡ true → R h (received h m)

abbrev pub Replies : (History → History → Type 0) → Type 0
Replies R =
    (h : History) (token : List ℕ) (observe : Bool) (r : Response) → answers h.phase ≡ true → room_in h ≡ true
    → R h (sent h (response_with_observe token observe r) (bare_response (response_with_observe token observe r)))

abbrev pub Holds : (History → History → Type 0) → Type 0
Holds R =
    (h : History) (by : Responder) (token : List ℕ) (moment : ℕ) → is_open h.phase ≡ true → may_hold h ≡ true
    → R h (holding h (h.pending ++ Answer by token moment ∷ []))

abbrev pub LetsGo : (History → History → Type 0) → Type 0
LetsGo R = (h : History) (now : ℕ) → R h (without_first h now)

abbrev pub Pongs : (History → History → Type 0) → Type 0
Pongs R =
    (h : History) (now : ℕ) (token : List ℕ) → first_due now h.pending ≡ Some (Pong token) → room_in h ≡ true
    → R h (sent (without_first h now) (pong_with true token) (pong_with false token))

abbrev pub Rejects : (History → History → Type 0) → Type 0
Rejects R =
    (h : History) (fault : Reject) → takes_messages h.phase ≡ true → room_in h ≡ true
    → R h (with_effect h (abort (state_now h) (reject_reason fault)))

abbrev pub Ends : (History → History → Type 0) → Type 0
Ends R =
    (h : History) (cut : Bool) → takes_messages h.phase ≡ true
    → R h (with_effect h (stop (state_now h) (end_reason cut) []))

abbrev pub Releases : (History → History → Type 0) → Type 0
Releases R =
    (h : History) → is_open h.phase ≡ true → is_none (release_refusal (link_of h)) ≡ true
    → R h (with_effect h (stop (state_now h) ReleasedHere (release ∷ [])))

abbrev pub Writes : (History → History → Type 0) → Type 0
Writes R = (h : History) (n : ℕ) → n ≤ length (link_of h).waiting → R h (after h (call.Written n))

abbrev pub Announces : (History → History → Type 0) → Type 0
Announces R =
    (h : History) (size : ℕ) → is_open h.phase ≡ true → room_in h ≡ true → fits (limit_now h) (own_csm size) ≡ true
    → R h (announcing h size)

abbrev pub Responds : (History → History → Type 0) → Type 0
Responds R =
    (h : History) (m : Message) → answers h.phase ≡ true → response_refusal (link_of h) m ≡ None
    → R h (with_effect h (send (state_without m.token (state_now h)) m (bare_response m)))

-- A relation that composes.
pub record Composes (R : History → History → Type 0) : Type 0 where
  pub same : (h : History) → R h h
  pub then : (h k g : History) → R h k → R k g → R h g

-- The same for connections.
abbrev pub Between : (History → History → Type 0) → Connection → Connection → Type 0
Between R s t = R s.history t.history

-- ---- cases

-- An optional value, with what is known in each case.
pub there_or_not : {A : Type 0} (o : Option A) (P : Option A → Type 0) → (o ≡ None → P None)
    → ((x : A) → o ≡ Some x → P (Some x)) → P o
there_or_not o P none some = grind arith

-- ---- room

pub said_request : (v : VerdictValue) → is_request v ≡ true → v ≡ verdict.Request
said_request v e = grind arith

-- A request queues nothing, so the room is the same afterwards.
request_room : (h : History) (m : Message) → is_request (react (state_now h) m).verdict ≡ true → room_in h ≡ true
    → room_in (after h (call.Handle m)) ≡ true
request_room h m asks room = grind (arith, react_asks, said_request, append-nil)

-- The effect of the entry that was found to be due first.
pub due_is : (h : History) (now : ℕ) (found : Option PendingEntryValue) → first_due now h.pending ≡ found
    → after h (call.Due now) ≡ with_effect h (due_effect (state_due now (state_now h)) found)
due_is h now found is = grind arith

-- The first due entry is removed, and nothing else changes if it is no Pong.
pub answer_goes : (h : History) (now : ℕ) (by : Responder) (token : List ℕ) (moment : ℕ)
    → first_due now h.pending ≡ Some (Answer by token moment) → after h (call.Due now) ≡ without_first h now
answer_goes h now by token moment is = grind (arith, due_is, append-nil)

-- An entry is appended to the pending list, whoever responds.
pub pending_is : (h : History) (by : Responder) (token : List ℕ) (moment : ℕ) → after h (hold_call by token moment)
    ≡ cond (is_open h.phase && may_hold h) (holding h (h.pending ++ Answer by token moment ∷ [])) h
pending_is h by token moment = grind arith

-- ---- settling

-- A property that each round keeps is kept by settling.
module _ (P : Connection → Type 0) (store : StoreValue) (now : ℕ)
    (keeps : (s : Connection) → P s → P (settled_once store now s)) where
  within_keeps : (turns : ℕ) (s : Connection) → P s → P (settled_within turns store now s)
  unfolding settled_within
  within_keeps zero s is = is
  within_keeps (suc turns) s is = grind (arith, within_keeps turns)

  pub settled_keeps : (s : Connection) → P s → P (settled store now s)
  unfolding settled
  settled_keeps s = grind (arith, within_keeps)

-- The removal of a due entry may need a weaker relation than a reply. R holds across the removal, and E, which
-- continues R, across the reply.
module _ (R E : History → History → Type 0) (same : (h : History) → R h h)
    (then : (h k g : History) → R h k → E k g → R h g) (replies : Replies E)
    (lets_go : LetsGo R) (pongs : Pongs R) where
  reply_between : (h k : History) (token : List ℕ) (observe : Bool) (r : Response) → R h k → room_in k ≡ true
      → R h (after k (call.Reply (response_with_observe token observe r)))
  reply_between h k token observe r before room = grind arith

  sent_between : (h : History) (now : ℕ) (e : PendingEntryValue) → first_due now h.pending ≡ Some e → room_in h ≡ true
      → R h (after_sent h now e)
  sent_between h now (Answer by token moment) is room =
      grind (
        arith,
        answer_goes h now by token moment is,
        reply_between h (without_first h now) token false (late_response by),
      )
  sent_between h now (Pong token) is room = grind (arith, due_is)

  pub once_between : (store : StoreValue) (now : ℕ) (s : Connection) → R s.history (settled_once store now s).history
  unfolding settled_once
  once_between store now s = grind (arith, reply_between, sent_between)

pub settled_between : (R : History → History → Type 0) → Composes R → Replies R → LetsGo R → Pongs R
    → (store : StoreValue) (now : ℕ) (s : Connection) → R s.history (settled store now s).history
settled_between R composes replies lets_go pongs store now s =
    settled_keeps (Between R s) store now
    (λ t is. composes.then s.history t.history _ is
    (once_between R R composes.same composes.then replies lets_go pongs store now t)) s (composes.same s.history)

-- ---- a message

-- A message may need a weaker relation than its response: R holds across the message, and E, which continues R, across
-- its response.
module _ (R E : History → History → Type 0) (same : (h : History) → R h h)
    (then : (h k g : History) → R h k → E k g → R h g) (takes_input : Hears R) (stays : (h : History) → E h h)
    (replies : Replies E) (holds : Holds E) where
  pub after_between : (store : StoreValue) (now : ℕ) (s : Connection) (m : Message)
      → R s.history (side_after store now s m).history
  unfolding side_after
  after_between store now s m = grind (arith, pending_is, request_room)

-- ---- other effects

-- A connection that may be released has room for a Release, and the Release fits.
pub release_fits : (v : LinkValue) → is_none (release_refusal v) ≡ true → (2 ≤ free_in v) × (2 ≤ limit_in v)
release_fits v none = grind (arith, nat_tests)

-- A call on a connection, other than a message and a response of the application.
pub data PlainCall (s : Connection) : Connection → Type 0 where
  Fault : (fault : StreamFault) → PlainCall s (side_faulted s fault)
  Write : (n : ℕ) → PlainCall s (side_written s n)
  End : (cut : Bool) → PlainCall s (side_ended s cut)
  Release : PlainCall s (side_released s)
  Announcement : (size : ℕ) → PlainCall s (side_announced s size)

module _ (R : History → History → Type 0) (same : (h : History) → R h h) where
  pub faulted_between : Rejects R → (s : Connection) (fault : StreamFault) → R s.history (side_faulted s fault).history
  unfolding side_faulted
  faulted_between rejects s fault = grind arith

  pub written_between : Writes R → (s : Connection) (n : ℕ) → R s.history (side_written s n).history
  unfolding side_written
  written_between writes s n = grind (arith, leb-true)

  pub ended_between : Ends R → (s : Connection) (cut : Bool) → R s.history (side_ended s cut).history
  unfolding side_ended
  ended_between ends s cut = grind arith

  pub released_between : Releases R → (s : Connection) → R s.history (side_released s).history
  unfolding side_released
  released_between releases s = grind arith

  pub responded_between : Responds R → (s : Connection) (m : Message) → R s.history (side_responded s m).history
  unfolding side_responded
  responded_between responds s m = grind (arith, none_where)

  pub announced_between : Announces R → (s : Connection) (size : ℕ) → R s.history (side_announced s size).history
  unfolding side_announced
  announced_between announces s size = grind arith

  pub plain_between : Rejects R → Writes R → Ends R → Releases R → Announces R → (s t : Connection) → PlainCall s t
      → R s.history t.history
  plain_between rejects writes ends releases announces s t call =
      grind (arith, faulted_between, written_between, ended_between, released_between, announced_between)

-- ---- observers

-- A property of the observers, and of no observers, holds if they are removed unless the connection is open.
pub kept_open_has : (P : List Observer → Type 0) → P [] → (h : History) (os : List Observer) → P os → P (kept_open h os)
kept_open_has P none h os is = grind arith

pub observers_responded : (P : List Observer → Type 0) → P [] → (s : Connection) (m : Message) → P s.observers
    → P (side_responded s m).observers
unfolding side_responded
observers_responded P none s m = kept_open_has P none (after s.history (call.Respond m)) s.observers

pub observers_plain : (P : List Observer → Type 0) → P [] → (s t : Connection) → PlainCall s t → P s.observers
    → P t.observers
unfolding side_faulted side_written side_ended side_released side_announced
observers_plain P none s t call is = grind (arith, kept_open_has)
