-- Each token is given once: its number is larger than those of all calls before it.
use Rattle.std.proofs.Common.{◌≡◌, ℕ, ◌+◌, ◌<◌, ◌≤◌, Bool, List, [], ◌∷◌, ◌++◌, None, refl, ◌∙◌, arith}
use Rattle.coap_client_engine.specs.Prelude.{◌≢◌, AllByRecursion, LimitValues, next_token, with_token, ping_with}
use Rattle.coap_client_engine.specs.Prelude.{History, after, link_of, Method, TargetValue, ExtrasValue, request_of}
use Rattle.coap_client_engine.specs.Prelude.{send_refusal, ping_refusal, ClientCall, ClientStep, Sent, Pinged, step}
use Rattle.coap_client_engine.specs.Prelude.{after_steps, client_after, IsAccepted, AreAcceptedAfter, AreAccepted}
use Rattle.coap_client_engine.specs.Prelude.{token_given, later_tokens, tokens_given, AreDifferent}
use Rattle.coap_conn.specs.Calls as call
use Rattle.coap_conn.proofs.OutstandingLaws.{tokens_differ, token_left}
use Rattle.coap_client_engine.proofs.ClientSteps.{client_more, step_tokens}
use Rattle.coap_client_engine.proofs.ClientReached.{bare_after}

-- ---- the number of the last token

-- No call decreases the number.
steps_tokens : (h : History) (ss : List ClientStep) → h.tokens ≤ (after_steps h ss).tokens
unfolding after_steps
steps_tokens h [] = omega arith
steps_tokens h (s ∷ ss) = omega (arith, step_tokens h s, steps_tokens (step h s) ss)

call_tokens : (limits : LimitValues) (tokens : ℕ) (earlier : List ClientCall) (c : ClientCall)
    → (client_after limits tokens earlier).tokens ≤ (client_after limits tokens (earlier ++ c ∷ [])).tokens
call_tokens limits tokens earlier c = rw client_more (steps_tokens _ _)

-- The history continues with the next number, if one was left.
record UsesToken (h k : History) : Type 0 where
  next : k.tokens ≡ h.tokens + 1
  left : h.tokens < 18446744073709551615

-- A request or a Ping that is not refused uses the next number.
sent_gives : (h : History) (method : Method) (target : TargetValue) (extras : ExtrasValue)
    → send_refusal (link_of h) method target extras ≡ None
    → UsesToken h (after h (call.Request (request_of method target extras) extras.observe))
sent_gives h method target extras may =
    let left = token_left h (with_token (request_of method target extras) (next_token h.tokens)) in
    grind arith

pinged_gives : (h : History) (custody : Bool) → ping_refusal (link_of h) custody ≡ None
    → UsesToken h (after h (call.Ping custody))
pinged_gives h custody may =
    let left = token_left h (ping_with custody (next_token h.tokens)) may in
    grind arith

-- ---- tokens of later numbers

-- A token that encodes a 64-bit number larger than `n`.
record IsLater (n : ℕ) (token : List ℕ) : Type 0 where
  number : ℕ
  is : token ≡ next_token number
  later : n ≤ number
  small : number < 18446744073709551615

-- All tokens are later than `n`, and no two are equal.
abbrev AreNew : ℕ → List (List ℕ) → Type 0
AreNew n ts = AllByRecursion (IsLater n) ts × AreDifferent ts

all_earlier : (n k : ℕ) (ts : List (List ℕ)) → n ≤ k → AllByRecursion (IsLater k) ts → AllByRecursion (IsLater n) ts
all_earlier n k [] h each = tt
all_earlier n k (t ∷ ts) h each = (
  record { number = each.0.number; is = each.0.is; later = omega (arith, each.0.later); small = each.0.small },
  all_earlier n k ts h each.1,
)

-- The tokens differ from that of an earlier number.
all_other : (n : ℕ) (ts : List (List ℕ)) → n < 18446744073709551615 → AllByRecursion (IsLater (n + 1)) ts
    → AllByRecursion (λ other. next_token n ≢ other) ts
all_other n [] small each = tt
all_other n (t ∷ ts) small each = (
  λ same. omega (arith, each.0.later, tokens_differ n each.0.number small each.0.small (same ∙ each.0.is)),
  all_other n ts small each.1,
)

-- Tokens that are new after a call are also new before it, together with the token that the call gives.
one_new : (h k : History) (ts : List (List ℕ)) → UsesToken h k → AreNew k.tokens ts
    → AreNew h.tokens ((next_token h.tokens ∷ []) ++ ts)
one_new h k ts gives are =
    let rest : AllByRecursion (IsLater (h.tokens + 1)) ts = rw gives.next at are.0 in (
      (
        record { number = h.tokens; is = refl; later = omega arith; small = gives.left },
        all_earlier h.tokens (h.tokens + 1) ts (omega arith) rest,
      ),
      (all_other h.tokens ts gives.left rest, are.1),
    )

-- ---- the theorem

given_new : (limits : LimitValues) (tokens : ℕ) (earlier : List ClientCall) (c : ClientCall) (ts : List (List ℕ))
    → IsAccepted limits tokens earlier c → AreNew (client_after limits tokens (earlier ++ c ∷ [])).tokens ts
    → AreNew (client_after limits tokens earlier).tokens (token_given limits tokens earlier c ++ ts)
unfolding IsAccepted
given_new limits tokens earlier (Sent method target extras) ts may are =
    one_new _ _ ts (sent_gives _ method target extras may) (rw (bare_after limits tokens earlier _ may) at are)
given_new limits tokens earlier (Pinged custody) ts may are =
    one_new _ _ ts (pinged_gives _ custody may) (rw (bare_after limits tokens earlier (Pinged custody) may) at are)
given_new limits tokens earlier c ts may are =
    (all_earlier _ _ ts (call_tokens limits tokens earlier c) are.0, are.1)

later_new : (limits : LimitValues) (tokens : ℕ) (earlier calls : List ClientCall)
    → AreAcceptedAfter limits tokens earlier calls
    → AreNew (client_after limits tokens earlier).tokens (later_tokens limits tokens earlier calls)
unfolding AreAcceptedAfter
later_new limits tokens earlier [] accepted = (tt, tt)
later_new limits tokens earlier (c ∷ calls) accepted =
    given_new limits tokens earlier c _ accepted.0 (later_new limits tokens (earlier ++ c ∷ []) calls accepted.1)

pub tokens_once : (limits : LimitValues) (tokens : ℕ) (calls : List ClientCall) → AreAccepted limits tokens calls
    → AreDifferent (tokens_given limits tokens calls)
tokens_once limits tokens calls accepted = (later_new limits tokens [] calls accepted).1
