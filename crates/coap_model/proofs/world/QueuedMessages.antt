-- The last response with a token: messages queued after it do not change it, unless one is a response with that token.
-- And the messages that each effect on a connection queues.
use Rattle.std.proofs.Common.{◌≡◌, ℕ, true, false, cond, List, [], ◌∷◌, ◌++◌, Some, refl, sym, arith}
use Rattle.coap_model.specs.Prelude.{AllByRecursion, Message, Phase, Reply, Server, answers, is_open, fit}
use Rattle.coap_model.specs.Prelude.{bare_response, PendingEntryValue, ConnectionState, send_as, react, reject_reason}
use Rattle.coap_model.specs.Prelude.{History, limit_now, state_now, after, is_whole, responds, last_response}
use Rattle.coap_model.specs.Prelude.{Connection, asks_with, last_request, takes_messages}
use Rattle.std.proofs.lemmas.List.{append-nil, append_assoc, reverse-append}
use Rattle.coap_conn.specs.declared.phase.Phase.TheVariants as phase
use Rattle.coap_conn.specs.declared.reason.Reason.TheVariants as reason
use Rattle.coap_conn.specs.Calls as call
use Rattle.coap_conn.proofs.ReactionLaws.{IsNoResponse, IsPlain, abort_plain, react_so}
use Rattle.coap_model.proofs.world.EntryLemmas.{all_to}
use Rattle.coap_model.proofs.world.WalkLaws.{announcing, Rejects, Ends, Releases, PlainCall, plain_between, Between}

-- ---- the last response

-- One more message is the last response if it is a response with the token.
pub last_of_longer : (token : List ℕ) (queued : List Message) (m : Message)
    → last_response token (queued ++ m ∷ []) ≡ cond (responds token m) (Some m) (last_response token queued)
unfolding last_response
last_of_longer token queued m = grind (arith, reverse-append)

-- Other messages do not change it.
pub last_stays : (token : List ℕ) (queued ms : List Message) → AllByRecursion (λ m. responds token m ≡ false) ms
    → last_response token (queued ++ ms) ≡ last_response token queued
last_stays token queued [] none = grind (arith, append-nil)
last_stays token queued (m ∷ ms) none =
    grind (arith, last_stays token (queued ++ m ∷ []) ms none.1, append_assoc, last_of_longer)

-- ---- the last request

-- One more request with the token is the last one.
pub request_of_longer : (token : List ℕ) (handled : List Message) (m : Message) → asks_with token m ≡ true
    → last_request token (handled ++ m ∷ []) ≡ Some m
unfolding last_request
request_of_longer token handled m asks = grind (arith, reverse-append)

request_passes : (token : List ℕ) (handled : List Message) (m : Message) → asks_with token m ≡ false
    → last_request token (handled ++ m ∷ []) ≡ last_request token handled
unfolding last_request
request_passes token handled m none = grind (arith, reverse-append)

-- No message is a request with the token.
abbrev pub NoneAsk : List ℕ → List Message → Type 0
NoneAsk token ms = AllByRecursion (λ m. asks_with token m ≡ false) ms

pub request_stays : (token : List ℕ) (handled ms : List Message) → NoneAsk token ms
    → last_request token (handled ++ ms) ≡ last_request token handled
request_stays token handled [] none = grind (arith, append-nil)
request_stays token handled (m ∷ ms) none =
    grind (arith, request_stays token (handled ++ m ∷ []) ms none.1, append_assoc, request_passes)

-- ---- queued messages

-- A history continues another one. All messages queued since have the property, and these messages were handled since.
pub record QueuesOn (P : Message → Type 0) (received : List Message) (h k : History) : Type 0 where
  pub more : List Message
  pub same : k.queued ≡ h.queued ++ more
  pub such : AllByRecursion P more
  pub handled : k.handled ≡ h.handled ++ received

-- No message is handled.
abbrev pub Queues : (Message → Type 0) → History → History → Type 0
Queues P h k = QueuesOn P [] h k

pub queues_these : (P : Message → Type 0) (h k : History) (more : List Message) → k.queued ≡ h.queued ++ more
    → k.handled ≡ h.handled → AllByRecursion P more → Queues P h k
queues_these P h k more same handled such = grind (arith, append-nil)

pub queues_none : (P : Message → Type 0) (h : History) → Queues P h h
queues_none P h = queues_these P h h [] (sym (append-nil h.queued)) refl tt

-- The messages queued for a message or its reduced form.
pub sent_all : (P : Message → Type 0) (s : ConnectionState) (m less : Message) (r : Reply) → P m → P less
    → AllByRecursion P (send_as s m less r).queued
sent_all P s m less r is bare = grind arith

-- The pending entries and the phase afterwards.
pub sent_either : (s : ConnectionState) (m less : Message) (r : Reply) (P : List PendingEntryValue → Phase → Type 0)
    → P s.pending s.phase → P [] (phase.Stopped reason.PeerTooSmall)
    → P (send_as s m less r).pending (send_as s m less r).phase
sent_either s m less r P is over = grind arith

pub reply_either : (h : History) (m : Message) (P : List Message → List PendingEntryValue → Phase → Type 0)
    → P h.handled h.pending h.phase → P h.handled [] (phase.Stopped reason.PeerTooSmall)
    → P (after h (call.Reply m)).handled (after h (call.Reply m)).pending (after h (call.Reply m)).phase
reply_either h m P is over = grind arith

-- ---- effects on a history

-- A message that is handled: a server's reaction queues no response.
pub message_queues : (h : History) (m : Message) → h.role ≡ Server → takes_messages h.phase ≡ true
    → QueuesOn IsNoResponse (m ∷ []) h (after h (call.Handle m))
message_queues h m server takes =
    let signals : AllByRecursion IsNoResponse (react (state_now h) m).effect.queued =
    react_so (state_now h) m (λ e. AllByRecursion IsNoResponse e.queued) (grind (arith, all_to)) in
    grind arith

pub reject_queues : Rejects (Queues IsPlain)
reject_queues h r takes room = queues_these IsPlain h _ _ refl refl (abort_plain (limit_now h) (reject_reason r))

pub end_queues : Ends (Queues IsPlain)
end_queues h cut takes = queues_these IsPlain h _ [] refl refl tt

pub release_queues : Releases (Queues IsPlain)
release_queues h opened none = grind (arith, queues_these)

pub announcing_queues : (h : History) (size : ℕ) → Queues IsPlain h (announcing h size)
announcing_queues h size = grind (arith, queues_these)

-- A write queues nothing.
pub written_queues : (P : Message → Type 0) (h : History) (n : ℕ) → Queues P h (after h (call.Written n))
written_queues P h n = queues_these P h _ [] (sym (append-nil h.queued)) refl tt

pub plain_queues : (s t : Connection) → PlainCall s t → Between (Queues IsPlain) s t
plain_queues =
    plain_between (Queues IsPlain) (queues_none IsPlain) reject_queues (λ h n within. written_queues IsPlain h n)
    end_queues release_queues (λ h size opened room fit. announcing_queues h size)

-- Of the entries that are due, only a Pong is queued here.
pub due_queues : (h : History) (now : ℕ) → Queues IsNoResponse h (after h (call.Due now))
due_queues h now = grind (arith, queues_these)

-- ---- responses

-- Every form in which a response is sent has its token.
pub reply_queues : (h : History) (m : Message) → Queues (λ n. n.token ≡ m.token) h (after h (call.Reply m))
reply_queues h m = grind (arith, queues_none, queues_these, sent_all)

-- An open connection sends responses.
pub open_answers : (p : Phase) → is_open p ≡ true → answers p ≡ true
open_answers p opened = grind arith

-- If a response is sent whole and the connection is open afterwards, it is the last message queued.
pub whole_last : (h : History) (m : Message) → is_whole (fit (limit_now h) m (bare_response m)) ≡ true
    → is_open (after h (call.Reply m)).phase ≡ true → (after h (call.Reply m)).queued ≡ h.queued ++ m ∷ []
whole_last h m whole opened = grind (arith, open_answers)
