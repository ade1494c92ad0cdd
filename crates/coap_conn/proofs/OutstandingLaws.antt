-- The number of outstanding entries is limited, responses end them, and each token is used once.
use Rattle.std.proofs.Common.{◌≡◌, ℕ, ◌+◌, ◌<◌, ◌≤◌, Bool, true, false, ◌&&◌, ◌==◌, List, [], ◌∷◌, length, Option, Some}
use Rattle.std.proofs.Common.{None, refl, ap, arith}
use Rattle.coap_conn.specs.Prelude.{not, filter, find, is_none, list_any, Message, Reason, Reply, stop_of}
use Rattle.coap_conn.specs.Prelude.{has_critical_option, PendingEntryValue, OutstandingValue, matches_response, is_last}
use Rattle.coap_conn.specs.Prelude.{is_notification, matches_pong, is_request_entry, without_matching, without_pinged}
use Rattle.coap_conn.specs.Prelude.{asking_refusal, next_token, ConnectionState, Reaction, stay, pong_reaction}
use Rattle.coap_conn.specs.Prelude.{answered, response_reaction, live_reaction, react, is_reserved, is_signal}
use Rattle.coap_conn.specs.Prelude.{is_method, asks_custody, send_as, due_effect, Call, gives_token, History}
use Rattle.coap_conn.specs.Prelude.{asking_now, after, after_asking}
use Rattle.std.proofs.lemmas.Bool.{cond_both, eqb-true}
use Rattle.std.proofs.lemmas.List.{length-append, length-map}
use Rattle.coap_wire.specs.Codes as code
use Rattle.coap_wire.proofs.UintLaws.{bytes_are_one}
use Rattle.coap_conn.specs.declared.phase.Phase.TheVariants as phase
use Rattle.coap_conn.specs.Verdicts as verdict
use Rattle.coap_conn.specs.Calls as call
use Rattle.coap_conn.proofs.AskingLaws.{none_where, requested_new}
use Rattle.coap_conn.proofs.RequestLemmas.{react_live}
use Rattle.coap_conn.proofs.OutstandingLemmas.{count_left}
use Rattle.coap_conn.proofs.ReactionLaws.{Ends, Estranges, Notifies, Pongs, Reacts, Releases, Stops, reacts}

-- ---- the limit of outstanding entries

-- A message keeps what holds of a list of entries, if that holds of the empty list and of what a filter leaves.
pub requested_kept : (Q : List OutstandingValue → Type 0) → Q []
    → ((test : OutstandingValue → Bool) (entries : List OutstandingValue) → Q entries → Q (filter test entries))
    → (s : ConnectionState) (m : Message) → Q s.outstanding → Q (react s m).effect.outstanding
requested_kept Q none left s m holds = by (reacts s m)
  where
    by : {over : Option Reason} {r : Reaction} → Reacts s m over r → Q r.effect.outstanding
    by (Stops why farewell last) = none
    by (Releases other) = none
    by (Ends other e found last) = left _ _ holds
    by (Pongs other own) = left _ _ holds
    by _ = holds

-- A message adds no entry.
pub requested_no_more : (s : ConnectionState) (m : Message) → length (react s m).effect.outstanding
    ≤ length s.outstanding
requested_no_more s m =
    requested_kept (λ entries. length entries ≤ length s.outstanding) (omega arith)
    (λ test entries few. omega (arith, count_left test entries)) s m (omega arith)

-- A request adds an entry only if there is room.
pub requested_few : (h : History) (m : Message) (e : OutstandingValue) → length h.outstanding ≤ h.limits.outstanding
    → length (after_asking h m e).outstanding ≤ h.limits.outstanding
requested_few h m e few =
    cond_both (is_none (asking_refusal (asking_now h) m)) _ h
    (λ (after : History). length after.outstanding ≤ h.limits.outstanding)
    (λ may. omega (
      arith,
      (requested_new (asking_now h) m (none_where _ may)).few,
      length-append h.outstanding (e ∷ []),
    ))
    (λ f. few)

sent_fewer : (s : ConnectionState) (m less : Message) (r : Reply)
    → length (send_as s m less r).outstanding ≤ length s.outstanding
sent_fewer s m less r = grind arith

due_adds_none : (s : ConnectionState) (e : Option PendingEntryValue)
    → length (due_effect s e).outstanding ≤ length s.outstanding
due_adds_none s e = grind (arith, sent_fewer)

-- Every call keeps the limit.
pub call_few : (h : History) (c : Call) → length h.outstanding ≤ h.limits.outstanding
    → length (after h c).outstanding ≤ h.limits.outstanding
call_few h (call.Request m observe) few = requested_few h _ _ few
call_few h (call.Ping custody) few = requested_few h _ _ few
call_few h c few = grind (arith, few, requested_no_more, sent_fewer, due_adds_none, length-map, count_left)

-- A stop and a Release drop all outstanding entries.
pub requested_given_up : (s : ConnectionState) (m : Message) (why : Reason) → stop_of s.phase ≡ None
    → stop_of (react s m).effect.phase ≡ Some why → (react s m).effect.outstanding ≡ []
requested_given_up s m why live = by (reacts s m)
  where
    by : {over : Option Reason} {r : Reaction} → Reacts s m over r → stop_of r.effect.phase ≡ Some why
        → r.effect.outstanding ≡ []
    by (Stops because farewell last) is = refl
    by (Releases other) is = refl
    by _ is = absurd cc

-- ---- search in a list

-- If the element found by one test passes another, some element passes the other.
found_any : {X : Type 0} (p q : X → Bool) (xs : List X) (x : X) → find p xs ≡ Some x
    → (p x ≡ true → q x ≡ true) → list_any q xs ≡ true
found_any p q [] x e f = absurd cc
found_any p q (y ∷ ys) x e f = grind (arith, found_any p q ys x)

-- No removed element is left.
pub none_left : {X : Type 0} (p : X → Bool) (xs : List X) → list_any p (filter (λ x. not (p x)) xs) ≡ false
none_left p [] = refl
none_left p (x ∷ xs) = grind (arith, none_left p xs)

-- A notification that is the last response matches a request.
last_of_request : (m : Message) (token : List ℕ) (e : OutstandingValue) → is_notification m ≡ true → is_last m e ≡ true
    → matches_response token e ≡ true → (matches_response token e && is_request_entry e) ≡ true
last_of_request m token e notifies last is = grind arith

-- A response that is not the last one is a notification.
more_notified : (m : Message) (e : OutstandingValue) → is_last m e ≡ false → is_notification m ≡ true
more_notified m e more = grind arith

-- ---- responses and Pongs match entries

-- An entry that `find` gives passes the test.
own_answer : (s : ConnectionState) (m : Message) (e : OutstandingValue)
    → find (matches_response m.token) s.outstanding ≡ Some e → list_any (matches_response m.token) s.outstanding ≡ true
own_answer s m e found = found_any (matches_response m.token) (matches_response m.token) s.outstanding e found (λ p. p)

pub answers_requested : (s : ConnectionState) (m : Message) (token : List ℕ) (last : Bool)
    → (react s m).verdict ≡ verdict.Answer token last
    → (token ≡ m.token) × (list_any (matches_response token) s.outstanding ≡ true)
answers_requested s m token last = by (reacts s m)
  where
    by : {over : Option Reason} {r : Reaction} → Reacts s m over r → r.verdict ≡ verdict.Answer token last
        → (token ≡ m.token) × (list_any (matches_response token) s.outstanding ≡ true)
    by (Ends other e found ends) is = let same : token ≡ m.token = cc in (same, rw same (own_answer s m e found))
    by (Notifies other e found more) is = let same : token ≡ m.token = cc in (same, rw same (own_answer s m e found))
    by _ is = absurd cc

pub last_ends : (s : ConnectionState) (m : Message) (token : List ℕ) → (react s m).verdict ≡ verdict.Answer token true
    → (react s m).effect ≡ record (stay s) { outstanding = without_matching token s.outstanding }
last_ends s m token = by (reacts s m)
  where
    by : {over : Option Reason} {r : Reaction} → Reacts s m over r → r.verdict ≡ verdict.Answer token true
        → r.effect ≡ record (stay s) { outstanding = without_matching token s.outstanding }
    by (Ends other e found ends) is = let same : m.token ≡ token = cc in rw same refl
    by _ is = absurd cc

pub notified_stays : (s : ConnectionState) (m : Message) (token : List ℕ)
    → (react s m).verdict ≡ verdict.Answer token false → (is_notification m ≡ true) × ((react s m).effect ≡ stay s)
notified_stays s m token = by (reacts s m)
  where
    by : {over : Option Reason} {r : Reaction} → Reacts s m over r → r.verdict ≡ verdict.Answer token false
        → (is_notification m ≡ true) × (r.effect ≡ stay s)
    by (Notifies other e found more) is = (more_notified m e more, refl)
    by _ is = absurd cc

pub request_ended : (s : ConnectionState) (m : Message) (token : List ℕ)
    → (react s m).verdict ≡ verdict.Answer token true → is_notification m ≡ true
    → list_any (λ e. matches_response token e && is_request_entry e) s.outstanding ≡ true
request_ended s m token = by (reacts s m)
  where
    by : {over : Option Reason} {r : Reaction} → Reacts s m over r → r.verdict ≡ verdict.Answer token true
        → is_notification m ≡ true → list_any (λ e. matches_response token e && is_request_entry e) s.outstanding ≡ true
    by (Ends other e found ends) is notifies =
        let same : token ≡ m.token = cc in
        rw same (found_any (matches_response m.token) _ s.outstanding e found
        (last_of_request m m.token e notifies ends))
    by _ is notifies = absurd cc

pub pong_ends : (s : ConnectionState) (m : Message) (token : List ℕ) (custody : Bool)
    → (react s m).verdict ≡ verdict.Pong token custody
    → (token ≡ m.token) × (custody ≡ asks_custody m) × (list_any (matches_pong token) s.outstanding ≡ true)
    × ((react s m).effect ≡ record (stay s) { outstanding = without_pinged token s.outstanding })
pong_ends s m token custody = by (reacts s m)
  where
    by : {over : Option Reason} {r : Reaction} → Reacts s m over r → r.verdict ≡ verdict.Pong token custody
        → (token ≡ m.token) × (custody ≡ asks_custody m) × (list_any (matches_pong token) s.outstanding ≡ true)
        × (r.effect ≡ record (stay s) { outstanding = without_pinged token s.outstanding })
    by (Pongs other own) is =
        let same : token ≡ m.token = cc in (same, cc, rw same own, rw same refl)
    by _ is = absurd cc

pub stranger_stays : (s : ConnectionState) (m : Message) → (react s m).verdict ≡ verdict.Stranger
    → (react s m).effect ≡ stay s
stranger_stays s m = by (reacts s m)
  where
    by : {over : Option Reason} {r : Reaction} → Reacts s m over r → r.verdict ≡ verdict.Stranger → r.effect ≡ stay s
    by (Estranges other) is = refl
    by _ is = absurd cc

-- ---- responses and Pongs that match are reported

other_code : (test : ℕ → Bool) (n k : ℕ) → test n ≡ false → test k ≡ true → (n == k) ≡ false
other_code test n k here there = grind (arith, eqb-true n k)

-- On an open connection, a message is a response if its code is neither reserved nor that of a Signalling Message or a
-- method.
pub response_taken : (s : ConnectionState) (m : Message) → s.phase ≡ phase.Open → is_reserved m.code ≡ false
    → is_signal m.code ≡ false → is_method m.code ≡ false → live_reaction s m ≡ response_reaction s m
unfolding live_reaction
response_taken s m opened reserved signal method =
    rw (
      reserved,
      other_code is_method m.code code.empty method refl,
      other_code is_signal m.code code.abort signal refl,
      other_code is_signal m.code code.csm signal refl,
      opened,
      other_code is_signal m.code code.ping signal refl,
      other_code is_signal m.code code.pong signal refl,
      other_code is_signal m.code code.release signal refl,
      signal,
      method,
    ) refl

pub live_reaction_to_pong : (s : ConnectionState) (m : Message) → s.phase ≡ phase.Open → m.code ≡ code.pong
    → has_critical_option m ≡ false → live_reaction s m ≡ pong_reaction s m
unfolding live_reaction
live_reaction_to_pong s m opened is plain = rw (is, opened, plain) refl

-- True if a response that matches this entry is the last one.
abbrev ends_it : Message → Option OutstandingValue → Bool
ends_it m None = true
ends_it m (Some e) = is_last m e

answered_verdict : (s : ConnectionState) (m : Message) (outstanding : List OutstandingValue)
    → list_any (matches_response m.token) outstanding ≡ true
    → (answered s m (find (matches_response m.token) outstanding)).verdict
    ≡ verdict.Answer m.token (ends_it m (find (matches_response m.token) outstanding))
answered_verdict s m [] own = absurd cc
answered_verdict s m (e ∷ outstanding) own = grind (arith, answered_verdict s m outstanding)

-- A response that matches an entry is reported as `Answer`.
pub response_reported : (s : ConnectionState) (m : Message) → s.phase ≡ phase.Open → is_reserved m.code ≡ false
    → is_signal m.code ≡ false → is_method m.code ≡ false → list_any (matches_response m.token) s.outstanding ≡ true
    → (last : Bool) × ((react s m).verdict ≡ verdict.Answer m.token last)
response_reported s m opened reserved signal method own =
    rw (react_live s m (ap stop_of opened), response_taken s m opened reserved signal method)
    (ends_it m (find (matches_response m.token) s.outstanding), answered_verdict s m s.outstanding own)

-- A Pong that matches a Ping is reported as `Pong`.
pub pong_is_reported : (s : ConnectionState) (m : Message) → s.phase ≡ phase.Open → m.code ≡ code.pong
    → has_critical_option m ≡ false → list_any (matches_pong m.token) s.outstanding ≡ true
    → (react s m).verdict ≡ verdict.Pong m.token (asks_custody m)
pong_is_reported s m opened is plain pinged =
    rw (react_live s m (ap stop_of opened), live_reaction_to_pong s m opened is plain, pinged) refl

-- ---- tokens

-- Different numbers give different tokens.
pub tokens_differ : (one other : ℕ) → one < 18446744073709551615 → other < 18446744073709551615
    → next_token one ≡ next_token other → one ≡ other
tokens_differ one other small other_small same =
    omega (arith, bytes_are_one (one + 1) (other + 1) (omega (arith, small)) (omega (arith, other_small)) same)

pub token_left : (h : History) (m : Message) → asking_refusal (asking_now h) m ≡ None → h.tokens < 18446744073709551615
token_left h m may = (requested_new (asking_now h) m may).left

-- ---- calls that take a token

pub tokens_stay : (h : History) (c : Call) → gives_token c ≡ false → (after h c).tokens ≡ h.tokens
tokens_stay h (call.Request m observe) other = absurd cc
tokens_stay h (call.Ping custody) other = absurd cc
tokens_stay h c other = grind arith
