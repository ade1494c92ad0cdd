-- A forgotten token is never outstanding again: later tokens have larger numbers.
use Rattle.std.proofs.Common.{◌≡◌, ℕ, ◌+◌, ◌<◌, ◌≤◌, ◌⊎◌, Bool, true, false, List, [], ◌∷◌, ◌++◌, filter, None, refl}
use Rattle.std.proofs.Common.{sym, ◌∙◌, arith, inl, inr}
use Rattle.coap_client_engine.specs.Prelude.{list_any, Message, LimitValues, OutstandingValue, is_entry_of}
use Rattle.coap_client_engine.specs.Prelude.{with_cancelled, asking_refusal, next_token, History, new_history, Client}
use Rattle.coap_client_engine.specs.Prelude.{state_now, asking_now, link_of, may_forget, ClientCall, ClientStep, Forgot}
use Rattle.coap_client_engine.specs.Prelude.{Handles, Requests, Cancels, Pings, Forgets, Announces, Writes, step}
use Rattle.coap_client_engine.specs.Prelude.{steps_by, steps_of, later_steps, after_steps, client_after}
use Rattle.std.proofs.lemmas.Bool.{or_cases, false_from_ne_true}
use Rattle.std.proofs.lemmas.List.Folds.{list_any-append}
use Rattle.coap_conn.proofs.AskingLaws.{none_where}
use Rattle.coap_conn.proofs.OutstandingLaws.{requested_kept, none_left, tokens_differ, token_left}
use Rattle.coap_conn.proofs.ForgetLaws.{its_token, is_its_token}
use Rattle.coap_client_engine.proofs.ClientSteps.{client_steps_then, later_call_steps_more, Acts, stepped, step_so}
use Rattle.coap_client_engine.proofs.ClientSteps.{step_tokens}

-- ---- the entries with a token

-- An entry has the token.
abbrev Has : List ℕ → List OutstandingValue → Type 0
Has token entries = list_any (is_entry_of token) entries ≡ true

left_has : (token : List ℕ) (test : OutstandingValue → Bool) (entries : List OutstandingValue)
    → Has token (filter test entries) → Has token entries
left_has token test [] has = has
left_has token test (e ∷ entries) has = grind (arith, left_has token test entries)

cancelled_has : (token other : List ℕ) (entries : List OutstandingValue)
    → list_any (is_entry_of token) (with_cancelled other entries) ≡ list_any (is_entry_of token) entries
cancelled_has token other [] = refl
cancelled_has token other (e ∷ entries) = grind (arith, cancelled_has token other entries)

-- The token is the next one after the first `n`, and is given.
record IsGiven (token : List ℕ) (n k : ℕ) : Type 0 where
  is : token ≡ next_token n
  left : n < 18446744073709551615
  next : k ≡ n + 1

-- An entry that a step adds has the next token.
abbrev IsOld : List ℕ → History → History → Type 0
IsOld token h k = Has token k.outstanding → Has token h.outstanding ⊎ IsGiven token h.tokens k.tokens

module _ (token : List ℕ) (h : History) where
  one_has : (m : Message) (e : OutstandingValue) → its_token e ≡ next_token h.tokens
      → asking_refusal (asking_now h) m ≡ None → Has token (h.outstanding ++ e ∷ [])
      → Has token h.outstanding ⊎ IsGiven token h.tokens (h.tokens + 1)
  one_has m e named may has =
      elim (or_cases (list_any (is_entry_of token) h.outstanding) (list_any (is_entry_of token) (e ∷ []))
      (rw list_any-append at has)) [
        | inl old ↦ inl old
        | inr new ↦ inr (record {
          is = sym (is_its_token token e (grind arith)) ∙ named;
          left = token_left h m may;
          next = refl;
        })
      ]

  effect_has : (s : ClientStep) → Acts h s → IsOld token h (stepped h s)
  effect_has (Handles m) acts has =
      inl (requested_kept (λ es. Has token es → Has token h.outstanding) (λ none. absurd cc)
      (λ test es so left. so (left_has token test es left)) (state_now h) m (λ old. old) has)
  effect_has (Requests m observe) acts has = one_has _ _ (grind arith) (none_where _ acts) has
  effect_has (Cancels other m) acts has = inl (rw cancelled_has at has)
  effect_has (Pings custody) acts has = one_has _ _ refl (none_where _ acts) has
  effect_has (Forgets other) acts has = inl (left_has token _ _ has)
  effect_has (Announces size) acts has = inl has
  effect_has (Writes n) acts has = inl has
  effect_has s acts has = absurd cc

  step_has : (s : ClientStep) → IsOld token h (step h s)
  step_has s = step_so h s (IsOld token h) inl (effect_has s)

-- ---- spent tokens

-- A token that was given: it encodes a number up to that of the last token.
record IsSpent (token : List ℕ) (tokens : ℕ) : Type 0 where
  number : ℕ
  is : token ≡ next_token number
  earlier : number < tokens
  small : number < 18446744073709551615

spent_later : (token : List ℕ) (n k : ℕ) → n ≤ k → IsSpent token n → IsSpent token k
spent_later token n k more spent =
    record { number = spent.number; is = spent.is; earlier = omega (arith, spent.earlier); small = spent.small }

-- The token was given, if an entry has it.
steps_know : (token : List ℕ) (h : History) (ss : List ClientStep) → (Has token h.outstanding → IsSpent token h.tokens)
    → Has token (after_steps h ss).outstanding → IsSpent token (after_steps h ss).tokens
unfolding after_steps
steps_know token h [] knows = knows
steps_know token h (s ∷ ss) knows =
    steps_know token (step h s) ss (λ has. elim (step_has token h s has) [
      | inl old ↦ spent_later token h.tokens _ (step_tokens h s) (knows old)
      | inr given ↦
          record { number = h.tokens; is = given.is; earlier = omega (arith, given.next); small = given.left }
    ])

-- The token was given, and no entry has it.
record IsGone (token : List ℕ) (h : History) : Type 0 where
  spent : IsSpent token h.tokens
  gone : list_any (is_entry_of token) h.outstanding ≡ false

steps_gone : (token : List ℕ) (h : History) (ss : List ClientStep) → IsGone token h → IsGone token (after_steps h ss)
unfolding after_steps
steps_gone token h [] is = is
steps_gone token h (s ∷ ss) is =
    steps_gone token (step h s) ss (record {
      spent = spent_later token h.tokens _ (step_tokens h s) is.spent;
      gone = false_from_ne_true _ (λ has. elim (step_has token h s has) [
        | inl old ↦ absurd (cc (is.gone, old))
        | inr given ↦ absurd (omega (
          arith,
          is.spent.earlier,
          tokens_differ is.spent.number h.tokens is.spent.small given.left (sym is.spent.is ∙ given.is),
        ))
      ]);
    })

-- ---- the theorem

forgotten_gone : (h : History) (token : List ℕ) → (Has token h.outstanding → IsSpent token h.tokens)
    → may_forget (link_of h) token ≡ true → IsGone token (step h (Forgets token))
unfolding step
forgotten_gone h token knows may =
    rw may (record { spent = knows (grind arith); gone = none_left (is_entry_of token) h.outstanding })

pub never_again : (limits : LimitValues) (tokens : ℕ) (earlier later : List ClientCall) (token : List ℕ)
    → may_forget (link_of (client_after limits tokens earlier)) token ≡ true
    → list_any (is_entry_of token) (client_after limits tokens (earlier ++ Forgot token ∷ later)).outstanding ≡ false
unfolding client_after steps_of later_steps steps_by after_steps
never_again limits tokens earlier later token may =
    let start : History = new_history Client limits tokens in
    let before : List ClientStep = later_steps limits.max_message [] earlier in
    let h : History = after_steps start before in
    let knows = steps_know token start before (λ has. absurd cc) in
    rw (later_call_steps_more limits.max_message [] earlier (Forgot token ∷ later), client_steps_then start before _)
    (steps_gone token (step h (Forgets token)) (later_steps limits.max_message (earlier ++ Forgot token ∷ []) later)
    (forgotten_gone h token knows may)).gone
