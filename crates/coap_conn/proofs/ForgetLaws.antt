-- `Forget` removes the entries with its token and changes nothing else; a response or Pong with it is then a stranger.
use Rattle.std.proofs.Common.{◌≡◌, ℕ, Bool, true, false, List, [], ◌∷◌, None, refl, ap, arith}
use Rattle.coap_conn.specs.Prelude.{filter, find, list_any, Message, has_critical_option, is_reserved, is_signal}
use Rattle.coap_conn.specs.Prelude.{is_method, stop_of, OutstandingValue, Observation, Ping, matches_response}
use Rattle.coap_conn.specs.Prelude.{matches_pong, is_entry_of, without_entry_of, ConnectionState, react, History}
use Rattle.coap_conn.specs.Prelude.{link_of, after, may_forget}
use Rattle.std.proofs.lemmas.Bool.{or_left, or_right}
use Rattle.std.proofs.lemmas.Slice.Eq.{bytes_eq-Decides}
use Rattle.std.proofs.lemmas.List.{append-nil}
use Rattle.coap_wire.specs.Codes as code
use Rattle.coap_conn.specs.declared.phase.Phase.TheVariants as phase
use Rattle.coap_conn.specs.Verdicts as verdict
use Rattle.coap_conn.specs.Outstanding.{Request}
use Rattle.coap_conn.specs.Calls as call
use Rattle.coap_conn.proofs.RequestLemmas.{react_live}
use Rattle.coap_conn.proofs.OutstandingLaws.{response_taken, live_reaction_to_pong}

-- ---- the effect

-- Nothing is queued, and only the outstanding entries change.
pub forgotten_after : (h : History) (token : List ℕ) → may_forget (link_of h) token ≡ true
    → after h (call.Forget token) ≡ record h { outstanding = without_entry_of token h.outstanding }
forgotten_after h token may = rw (may, append-nil) refl

pub forgotten_nothing : (h : History) (token : List ℕ) → may_forget (link_of h) token ≡ false
    → after h (call.Forget token) ≡ h
forgotten_nothing h token may = rw may refl

-- ---- the entries

-- The token of an entry, which no other token equals.
abbrev pub its_token : OutstandingValue → List ℕ
its_token (Request own) = own
its_token (Observation own cancelled) = own
its_token (Ping own) = own

pub is_its_token : (token : List ℕ) (e : OutstandingValue) → is_entry_of token e ≡ true → its_token e ≡ token
is_its_token token (Request own) is = grind (arith, (bytes_eq-Decides own token).0)
is_its_token token (Observation own cancelled) is = grind (arith, (bytes_eq-Decides own token).0)
is_its_token token (Ping own) is = (bytes_eq-Decides own token).0 is

-- The entries with other tokens stay, in their order.
pub others_left : (token other : List ℕ) (entries : List OutstandingValue) → (token ≡ other → ⊥)
    → filter (is_entry_of other) (without_entry_of token entries) ≡ filter (is_entry_of other) entries
others_left token other [] apart = refl
others_left token other (e ∷ entries) apart =
    grind (arith, others_left token other entries, is_its_token token e, is_its_token other e)

-- ---- strangers

-- If no element passes a test, none passes a stricter one.
none_pass : {X : Type 0} (p q : X → Bool) → ((x : X) → p x ≡ true → q x ≡ true) → (xs : List X)
    → list_any q xs ≡ false → list_any p xs ≡ false
none_pass p q f [] none = refl
none_pass p q f (x ∷ xs) none = grind (arith, f x, none_pass p q f xs)

none_found : {X : Type 0} (p : X → Bool) (xs : List X) → list_any p xs ≡ false → find p xs ≡ None
none_found p [] none = refl
none_found p (x ∷ xs) none = grind (arith, none_found p xs)

pub response_stranger : (s : ConnectionState) (m : Message) → s.phase ≡ phase.Open → is_reserved m.code ≡ false
    → is_signal m.code ≡ false → is_method m.code ≡ false → list_any (is_entry_of m.token) s.outstanding ≡ false
    → (react s m).verdict ≡ verdict.Stranger
response_stranger s m opened reserved signal method none =
    let other = none_pass (matches_response m.token) _ (λ e. or_left _ (matches_pong m.token e)) s.outstanding none in
    rw (
      react_live s m (ap stop_of opened),
      response_taken s m opened reserved signal method,
      none_found _ s.outstanding other,
    ) refl

pub pong_stranger : (s : ConnectionState) (m : Message) → s.phase ≡ phase.Open → m.code ≡ code.pong
    → has_critical_option m ≡ false → list_any (is_entry_of m.token) s.outstanding ≡ false
    → (react s m).verdict ≡ verdict.Stranger
pong_stranger s m opened is plain none =
    let other = none_pass (matches_pong m.token) _ (λ e. or_right (matches_response m.token e) _) s.outstanding none in
    rw (react_live s m (ap stop_of opened), live_reaction_to_pong s m opened is plain, other) refl
