-- A response of the application: the server after it, its event, and the exchanges.
use Rattle.std.proofs.Common.{◌≡◌, ◌≤◌, ℕ, true, false, arith, length, is_ok, List, [], ◌∷◌, ◌++◌, Option, Some, None}
use Rattle.std.proofs.Common.{Result, Ok, Err, append_assoc, is_none, option_map, OnErr}
use Rattle.std.proofs.lemmas.List.{append-nil, length-append}
use Rattle.coap_wire.specs.Forms.{token_form}
use Rattle.coap_wire.specs.Reading as reading
use Rattle.coap_server_engine.specs.Prelude.{Message, message_of, RefusedBy, ResponseFault, ServerValue, LiesAt}
use Rattle.coap_server_engine.specs.Prelude.{server_given, session_given_by, responded_refusal, response_event}
use Rattle.coap_server_engine.specs.Prelude.{spelling, server_offered, offered_events, response_for, failure_with}
use Rattle.coap_server_engine.specs.Prelude.{Exchange, Answering, AnswersMore, AreUnanswered}
use Rattle.coap_server_engine.proofs.values.ServerLemmas.{lies_where_taken}
use Rattle.std.proofs.lemmas.Bool.Decides.{nat_tests}
use Rattle.std.proofs.lemmas.Bool.{cond_both}

-- ---- exchanges

pub answers_none : (a : Answering) → AnswersMore a a []
unfolding AnswersMore
answers_none a earlier so_far = rw append-nil so_far

pub answers_then : (a b c : Answering) (xs ys : List Exchange) → AnswersMore a b xs → AnswersMore b c ys
    → AnswersMore a c (xs ++ ys)
unfolding AnswersMore
answers_then a b c xs ys p q earlier so_far = rw (← append_assoc earlier xs ys) (q (earlier ++ xs) (p earlier so_far))

-- An application that has written no byte still has not.
pub unanswered_then : (more : List Exchange) → AreUnanswered more
    → AnswersMore (λ exchanges. AreUnanswered exchanges) (λ exchanges. AreUnanswered exchanges) more
unfolding AnswersMore
unanswered_then more none earlier so_far = by earlier so_far
  where
    by : (all : List Exchange) → AreUnanswered all → AreUnanswered (all ++ more)
    by [] holds = none
    by (x ∷ xs) holds = (holds.0, by xs holds.1)

-- ---- results

pub ok_none : {T E : Type 0} (r : Result T E) (refusal : Option E) → RefusedBy r refusal
    → is_ok r ≡ true → refusal ≡ None
ok_none r refusal is ok = grind arith

pub err_some : {T E : Type 0} (r : Result T E) (refusal : Option E) → RefusedBy r refusal → is_ok r ≡ false
    → (e : E) × (refusal ≡ Some e)
err_some r refusal is err = grind arith

pub on_err : {T E : Type 0} (r : Result T E) (P : Type 0) → P → OnErr r P
on_err (Ok x) P holds = tt
on_err (Err e) P holds = holds

pub token_made : (o : Option Message) (token : List ℕ) → Some token ≡ option_map (λ (m : Message). m.token) o
    → (m : Message) × (o ≡ Some m) × (token ≡ m.token)
token_made o token is = grind arith

-- ---- 5.00

short_extension : (n : ℕ) → n ≤ 64 → length (token_form n).1 ≤ 1
short_extension n small = grind (arith, nat_tests, small)

-- The message 5.00 with a token has at most 67 bytes.
pub failure_short : (token : List ℕ) → length token ≤ 64 → length (spelling (failure_with token)) ≤ 67
unfolding spelling
failure_short token small =
    let extension = (token_form (length token)).1 in
    omega (
      arith,
      short_extension _ small,
      length-append extension token,
      length-append
          (extension ++ token) [],
    )

-- ---- a response

module _ (v : ServerValue) (id : ℕ) (bytes : List ℕ) where
  module _ (fault : ResponseFault) (some : responded_refusal v id bytes ≡ Some fault) where
    pub server_if_refused : server_offered v id bytes ≡ v
    server_if_refused = rw some

    pub refused_events : offered_events v id bytes ≡ []
    refused_events = rw some

  module _ (none : responded_refusal v id bytes ≡ None) where
    pub server_if_accepted : server_offered v id bytes ≡ server_given v id bytes
    server_if_accepted = rw none

    pub accepted_events : offered_events v id bytes ≡ response_event id (message_of bytes)
    accepted_events = rw none

  pub offered_lies : (i : ℕ) → LiesAt id i v.sessions → LiesAt id i (server_offered v id bytes).sessions
  offered_lies i lies =
      cond_both (is_none (responded_refusal v id bytes)) _ v (λ w. LiesAt id i w.sessions)
      (λ _. lies_where_taken id i (session_given_by (message_of bytes)) v.shared v.sessions lies) (λ _. lies)

-- ---- a response at once

-- No byte is no message.
no_bytes : (v : ServerValue) (id : ℕ) → is_none (responded_refusal v id []) ≡ false
unfolding message_of reading.head_at
no_bytes v id = grind arith

pub nothing_offered : (v : ServerValue) (id : ℕ) → server_offered v id [] ≡ v
nothing_offered v id = rw (no_bytes v id)

pub offers_nothing : (v : ServerValue) (id : ℕ) → offered_events v id [] ≡ []
offers_nothing v id = rw (no_bytes v id)

pub response_if_accepted : (v : ServerValue) (id : ℕ) (token bytes : List ℕ) → responded_refusal v id bytes ≡ None
    → response_for v id token bytes ≡ bytes
response_if_accepted v id token bytes none = grind arith

pub refused_response : (v : ServerValue) (id : ℕ) (token bytes : List ℕ) (fault : ResponseFault)
    → responded_refusal v id bytes ≡ Some fault → (bytes ≡ [] → ⊥)
    → response_for v id token bytes ≡ spelling (failure_with token)
refused_response v id token bytes fault some written = grind arith
