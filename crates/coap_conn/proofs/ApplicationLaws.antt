-- Requests that wait for a response of the application, and its responses.
use Rattle.std.proofs.Common.{◌≡◌, ℕ, suc, Bool, true, false, List, [], ◌∷◌, ◌++◌, get_or, take, drop, Option, Some}
use Rattle.std.proofs.Common.{None, refl, ap, ◌∙◌, arith}
use Rattle.coap_conn.specs.Prelude.{list_any, AllByRecursion, position, remove, Message, Reason, Reply, Whole, AllFit}
use Rattle.coap_conn.specs.Prelude.{fit, fitted, bare_response, answers, PendingEntryValue, Engine, Application, Answer}
use Rattle.coap_conn.specs.Prelude.{Pong, is_request_for, has_request, without_request, IsFirstRequest, ConnectionState}
use Rattle.coap_conn.specs.Prelude.{send, send_as, response_refusal, History, link_of, limit_now, state_now}
use Rattle.coap_conn.specs.Prelude.{state_without, after, without_at, with_effect}
use Rattle.coap_conn.specs.declared.phase.Phase.TheVariants as phase
use Rattle.coap_conn.specs.Calls as call
use Rattle.std.proofs.lemmas.Option.{slice_get-get_or}
use Rattle.std.proofs.lemmas.List.Quantifiers.{position-Some}
use Rattle.coap_conn.proofs.ReactionLaws.{send_fit}
use Rattle.coap_conn.proofs.PendingLaws.{split_at, none_before, no_position}
use Rattle.std.proofs.lemmas.List.Folds.{list_any_at}
use lib.Pointwise.{bytes_decides}
use Rattle.std.proofs.lemmas.Bool.{and_right}

-- ---- the first request with a token

-- An entry is a request with this token only if it has the token and waits for the application.
request_with : (token : List ℕ) (e : PendingEntryValue) → is_request_for token e ≡ true
    → (moment : ℕ) × (e ≡ Answer Application token moment)
request_with token (Answer Engine other moment) is = absurd cc
request_with token (Answer Application other moment) is =
    (moment, ap (λ (t : List ℕ). Answer Application t moment) ((bytes_decides other token).0 is))
request_with token (Pong other) is = absurd cc

none_passes : (p : PendingEntryValue → Bool) (pending : List PendingEntryValue)
    → AllByRecursion (λ e. p e ≡ false) pending → list_any p pending ≡ false
none_passes p [] each = refl
none_passes p (e ∷ pending) each = rw each.0 (none_passes p pending each.1)

pub absent_request : (pending : List PendingEntryValue) (token : List ℕ)
    → position (is_request_for token) pending ≡ None → has_request token pending ≡ false
absent_request pending token none = none_passes _ pending (no_position _ pending none)

pub there_request : (pending : List PendingEntryValue) (token : List ℕ) (i : ℕ)
    → position (is_request_for token) pending ≡ Some i → has_request token pending ≡ true
there_request pending token i found =
    let at = position-Some _ pending i (Pong []) found in
    list_any_at _ pending i (Pong []) at.0 at.1

-- If a request with the token waits, the entry at the first position of one is that request.
request_at : (pending : List PendingEntryValue) (token : List ℕ) (i : ℕ)
    → position (is_request_for token) pending ≡ Some i → IsFirstRequest pending token (remove pending i)
request_at pending token i found =
    let d : PendingEntryValue = Pong [] in
    let at = position-Some (is_request_for token) pending i d found in
    let is = request_with token (get_or pending i d) at.1 in
    record {
      before = take i pending;
      after = drop (suc i) pending;
      moment = is.0;
      there =
          split_at pending i (Answer Application token is.0)
          (slice_get-get_or pending i d at.0 ∙ ap (λ (e : PendingEntryValue). Some e) is.1);
      without = refl;
      earliest = none_before (is_request_for token) pending i d at.2;
    }

found_request : (pending : List PendingEntryValue) (token : List ℕ) (at : Option ℕ)
    → position (is_request_for token) pending ≡ at → has_request token pending ≡ true
    → IsFirstRequest pending token (without_at pending at)
found_request pending token None none has = absurd (cc (absent_request pending token none))
found_request pending token (Some i) found has = request_at pending token i found

pub first_request : (pending : List PendingEntryValue) (token : List ℕ) → has_request token pending ≡ true
    → IsFirstRequest pending token (without_request token pending)
unfolding without_request
first_request pending token = found_request pending token (position (is_request_for token) pending) refl

no_request : (pending : List PendingEntryValue) (token : List ℕ) (at : Option ℕ)
    → position (is_request_for token) pending ≡ at → has_request token pending ≡ false → without_at pending at ≡ pending
no_request pending token None none has = refl
no_request pending token (Some i) found has = absurd (cc (there_request pending token i found))

pub others_stay : (pending : List PendingEntryValue) (token : List ℕ) → has_request token pending ≡ false
    → without_request token pending ≡ pending
unfolding without_request
others_stay pending token = no_request pending token (position (is_request_for token) pending) refl

-- ---- the link after a response

pub responded_fits : (h : History) (m : Message)
    → AllFit (limit_now h) (send (state_without m.token (state_now h)) m (bare_response m)).queued
responded_fits h m = send_fit (state_without m.token (state_now h)) m (bare_response m)

sent_queued : (s : ConnectionState) (m less : Message) (r : Reply) → (send_as s m less r).queued ≡ fitted m less r
sent_queued s m less r = grind arith

respond_does : (h : History) (m : Message) → answers h.phase ≡ true → response_refusal (link_of h) m ≡ None
    → after h (call.Respond m) ≡ with_effect h (send (state_without m.token (state_now h)) m (bare_response m))
respond_does h m answering allowed = rw (answering, allowed) refl

pub responds_fitted : (h : History) (m : Message) → answers h.phase ≡ true → response_refusal (link_of h) m ≡ None
    → (after h (call.Respond m)).queued ≡ h.queued ++ fitted m (bare_response m) (fit (limit_now h) m (bare_response m))
responds_fitted h m answering allowed = rw (respond_does h m answering allowed, sent_queued) refl

pub whole_answers : (h : History) (m : Message) → answers h.phase ≡ true → response_refusal (link_of h) m ≡ None
    → fit (limit_now h) m (bare_response m) ≡ Whole
    → (after h (call.Respond m)).pending ≡ without_request m.token h.pending
whole_answers h m answering allowed whole = rw (respond_does h m answering allowed, whole) refl

-- Nothing happens without a request, and after a stop.
pub absent_stays : (h : History) (m : Message) → has_request m.token h.pending ≡ false → after h (call.Respond m) ≡ h
unfolding response_refusal
absent_stays h m none = rw (none, and_right (answers h.phase) false refl) refl

pub responds_never : (h : History) (m : Message) (why : Reason) → h.phase ≡ phase.Stopped why
    → after h (call.Respond m) ≡ h
responds_never h m why stopped = rw stopped refl
