-- The last announcement counts, and queued messages fit the peer's limit.
use Rattle.std.proofs.Common.{◌≡◌, ℕ, ◌≤◌, true, false, List, [], ◌∷◌, ◌++◌, min, Option, Some, None, refl, ap, arith}
use Rattle.coap_conn.specs.Prelude.{AllByRecursion, filter_map, Message, Reason, Role, abort_of, announcement}
use Rattle.coap_conn.specs.Prelude.{announced, token_announcement, announced_token, last_or, last_reported, AllFit}
use Rattle.coap_conn.specs.Prelude.{LimitValues, AreInRange, PendingEntryValue, Answer, Pong, asking_refusal}
use Rattle.coap_conn.specs.Prelude.{cancel_refusal, ConnectionState, Reaction, react, send, abort, pong_with}
use Rattle.coap_conn.specs.Prelude.{due_effect, History, new_history, limit_now, state_now, asking_now, release}
use Rattle.coap_conn.specs.Prelude.{cons_option}
use Rattle.coap_conn.proofs.AskingLaws.{requested_size, cancel_size}
use Rattle.coap_conn.proofs.LinkLemmas.{announced_none}
use Rattle.coap_conn.proofs.SmallLemmas.{first_csm_small, release_small}
use Rattle.coap_conn.proofs.ReactionLaws.{Reacts, Replies, Stops, abort_fit, reacts, send_fit}

-- ---- the last announcement

module _ (reports : Message → Option ℕ) where
  no_verdict : (n : ℕ) (ms : List Message) → AllByRecursion (λ m. reports m ≡ None) ms → last_reported reports n ms ≡ n
  no_verdict n [] each = refl
  no_verdict n (m ∷ ms) each = rw each.0 (no_verdict n ms each.1)

  last_counts : (base : ℕ) (before after : List Message) (m : Message) (n : ℕ) → reports m ≡ Some n
      → AllByRecursion (λ m. reports m ≡ None) after → last_reported reports base (before ++ m ∷ after) ≡ n
  last_counts base [] after m n e each = rw e (no_verdict n after each)
  last_counts base (one ∷ before) after m n e each =
      elim (reports one) as (λ o. last_or base (cons_option o (filter_map reports (before ++ m ∷ after))) ≡ n) [
        | None ↦ last_counts base before after m n e each
        | Some k ↦ last_counts k before after m n e each
      ]

pub base_where_none : (ms : List Message) → AllByRecursion (λ m. announcement m ≡ None) ms → announced ms ≡ 1152
unfolding announced
base_where_none ms each = no_verdict announcement 1152 ms each

pub last_announced : (before after : List Message) (m : Message) (n : ℕ) → announcement m ≡ Some n
    → AllByRecursion (λ m. announcement m ≡ None) after → announced (before ++ m ∷ after) ≡ n
unfolding announced
last_announced before after m n e each = last_counts announcement 1152 before after m n e each

pub base_token_where_none : (ms : List Message) → AllByRecursion (λ m. token_announcement m ≡ None) ms
    → announced_token ms ≡ 8
unfolding announced_token
base_token_where_none ms each = no_verdict token_announcement 8 ms each

pub last_token : (before after : List Message) (m : Message) (n : ℕ) → token_announcement m ≡ Some n
    → AllByRecursion (λ m. token_announcement m ≡ None) after → announced_token (before ++ m ∷ after) ≡ n
unfolding announced_token
last_token before after m n e each = last_counts token_announcement 8 before after m n e each

-- ---- queued messages fit

react_fit : (s : ConnectionState) (m : Message) → AllFit s.limit (react s m).effect.queued
react_fit s m = by (reacts s m)
  where
    by : {over : Option Reason} {r : Reaction} → Reacts s m over r → AllFit s.limit r.effect.queued
    by (Stops why farewell last) = last.fit
    by (Replies n may small) = (small, tt)
    by _ = tt

pub new_fits : (role : Role) (limits : LimitValues) (tokens : ℕ) → AreInRange limits
    → AllFit (limit_now (new_history role limits tokens)) (new_history role limits tokens).queued
new_fits role limits tokens ranges =
    let low = ranges.sent_low in
    (omega (arith, low, first_csm_small limits.max_message, ap (λ (n : ℕ). min limits.max_sent n) announced_none), tt)

pub reaction_fits : (h : History) (m : Message) → AllFit (limit_now h) (react (state_now h) m).effect.queued
reaction_fits h m = react_fit (state_now h) m

pub sent_fits : (h : History) (m less : Message) → AllFit (limit_now h) (send (state_now h) m less).queued
sent_fits h m less = send_fit (state_now h) m less

pub stopped_fits : (h : History) (why : Reason) → AllFit (limit_now h) (abort (state_now h) why).queued
stopped_fits h why = abort_fit (limit_now h) (abort_of why)

pub released_fits : (h : History) → 2 ≤ limit_now h → AllFit (limit_now h) (release ∷ [])
released_fits h enough = (omega (arith, enough, release_small), tt)

due_fit : (s : ConnectionState) (e : Option PendingEntryValue) → AllFit s.limit (due_effect s e).queued
due_fit s None = tt
due_fit s (Some (Answer by token moment)) = tt
due_fit s (Some (Pong token)) = send_fit s (pong_with true token) (pong_with false token)

pub due_fits : (h : History) (e : Option PendingEntryValue)
    → AllFit (limit_now h) (due_effect (state_now h) e).queued
due_fits h e = due_fit (state_now h) e

pub requested_fits : (h : History) (m : Message) → asking_refusal (asking_now h) m ≡ None
    → AllFit (limit_now h) (m ∷ [])
requested_fits h m may = ((requested_size (asking_now h) m may).within, tt)

pub cancelled_fits : (h : History) (token : List ℕ) (m : Message) → cancel_refusal (asking_now h) token m ≡ None
    → AllFit (limit_now h) (m ∷ [])
cancelled_fits h token m may = ((cancel_size (asking_now h) token m may).within, tt)
