-- The reaction to a message, case by case: a property of each case is a property of the reaction.
use Rattle.std.proofs.Common.{◌≡◌, ℕ, Bool, true, false, List, [], ◌∷◌, Option, Some, None, refl, ap, ◌∙◌, ◌≤◌, arith}
use Rattle.std.proofs.Common.{length, nat_lt, ◌&&◌, ◌==◌, not, ◌/◌, ◌<◌}
use Rattle.coap_conn.specs.Prelude.{AllByRecursion, Message, Phase, Role, Server, Client, Reason, stop_of, answers}
use Rattle.coap_conn.specs.Prelude.{is_waiting, abort_of, has_critical_option, fit, abort_fitted, bare_response, Pong}
use Rattle.coap_conn.specs.Prelude.{OutstandingValue, VerdictValue, ConnectionState, ReactionResult, Reaction, stay}
use Rattle.coap_conn.specs.Prelude.{stop, send_as, holds, react, reaction_unless, live_reaction, open_reaction}
use Rattle.coap_conn.specs.Prelude.{request_reaction, ping_reaction, is_reserved, is_signal, is_method}
use Rattle.coap_conn.specs.Prelude.{checks_critical_options, asks_custody, is_custody_pong, pong_with, not_implemented}
use Rattle.coap_conn.specs.Prelude.{aborts, leaves, reports, reply_verdict, message_reason, is_response, is_asking}
use Rattle.coap_conn.specs.Prelude.{AllFit, PendingEntryValue, answered, bad_csm_option, becomes, csm_reaction}
use Rattle.coap_conn.specs.Prelude.{find, fits, fitted, is_last, list_any, matches_pong, matches_response, send}
use Rattle.coap_conn.specs.Prelude.{without_matching, without_payload, without_pinged, spelling}
use Rattle.std.proofs.lemmas.Bool.{cond_both, and_parts, ltb-true, and_left, and_right, eqb-true, leb-true, eq-eqb}
use Rattle.coap_wire.specs.Codes as code
use Rattle.coap_conn.specs.declared.phase.Phase.TheVariants as phase
use Rattle.coap_conn.specs.declared.reason.Reason.TheVariants as reason
use Rattle.coap_conn.specs.Verdicts as verdict
use Rattle.coap_conn.specs.Reaction.{release_reaction, sends}

-- ---- queued messages

abbrev pub IsNoResponse : Message → Type 0
IsNoResponse m = is_response m ≡ false

-- Holds if a message is no Pong with Custody.
abbrev pub IsNoPong : Message → Type 0
IsNoPong m = is_custody_pong m ≡ false

-- Holds if a message is neither a response nor a Pong with Custody.
abbrev pub IsPlain : Message → Type 0
IsPlain m = IsNoResponse m × IsNoPong m

-- ---- Aborts

pub abort_plain : (limit : ℕ) (why : Reason) → AllByRecursion IsPlain (abort_fitted limit (abort_of why))
abort_plain limit why = grind arith

pub abort_one : (limit : ℕ) (o : Option Message) → length (abort_fitted limit o) ≤ 1
abort_one limit o = grind arith

-- ---- messages that fit

fitted_fit : (limit : ℕ) (m less : Message) → AllFit limit (fitted m less (fit limit m less))
fitted_fit limit m less = grind (arith, leb-true)

pub abort_fit : (limit : ℕ) (abort : Option Message) → AllFit limit (abort_fitted limit abort)
abort_fit limit None = tt
abort_fit limit (Some m) = fitted_fit limit m (without_payload m)

pub send_fit : (s : ConnectionState) (m less : Message) → AllFit s.limit (send s m less).queued
send_fit s m less = grind (arith, leb-true)

nothing_pending : (pending : List PendingEntryValue) (custody : Bool) (token : List ℕ)
    → (custody && nat_lt 0 (length pending)) ≡ false → is_custody_pong (pong_with custody token) ≡ true → pending ≡ []
nothing_pending [] custody token none is = refl
nothing_pending (x ∷ pending) custody token none is = grind arith

-- ---- effects of a message

-- The number of messages that a stop handles, or 1 if there is no stop.
abbrev pub message_stop : Option Reason → ℕ
message_stop None = 1
message_stop (Some why) = message_reason why

abbrev pub StopsAtMost : Phase → Type 0
StopsAtMost p = message_stop (stop_of p) ≡ 1

-- Holds if `n` may be sent at once after `m`. A server sends no response by itself and nothing after a request. A Pong
-- with Custody follows only a Ping with Custody.
pub record MayFollow (s : ConnectionState) (m n : Message) : Type 0 where
  pub plain : s.role ≡ Server → IsNoResponse n × (is_asking m ≡ false)
  pub pong : is_custody_pong n ≡ true → ((m.code == code.ping) ≡ true) × (asks_custody m ≡ true) × (n.token ≡ m.token)

client_may : (s : ConnectionState) (m n : Message) → s.role ≡ Client → IsNoPong n → MayFollow s m n
client_may s m n client no_pong = grind arith

pong_allowed : (s : ConnectionState) (m : Message) → (m.code == code.ping) ≡ true → (custody : Bool)
    → (custody ≡ true → asks_custody m ≡ true) → MayFollow s m (pong_with custody m.token)
pong_allowed s m ping custody asks = let other : is_asking m ≡ false = grind arith in grind arith

-- ---- the reactions to a message

-- The last messages of a connection that stops for this reason.
pub record AreLast (s : ConnectionState) (why : Reason) (farewell : List Message) : Type 0 where
  pub plain : AllByRecursion IsPlain farewell
  pub one : length farewell ≤ 1
  pub handled : message_reason why ≡ 1
  pub fit : AllFit s.limit farewell

-- A reply that may be queued at once. A Pong with Custody waits for pending entries.
pub record MayReply (s : ConnectionState) (m n : Message) : Type 0 where
  pub follows : MayFollow s m n
  pub alone : is_custody_pong n ≡ true → s.pending ≡ []

-- The reactions to a message, each with what decides it. The index is the reason to accept no message, if there is one.
pub data Reacts (s : ConnectionState) (m : Message) : Option Reason → Reaction → Type 0 where
  Over : (why : Reason) → Reacts s m (Some why) (reports s (verdict.Stopped why))
  Stops : (why : Reason) (farewell : List Message) → AreLast s why farewell
      → Reacts s m None (record { effect = stop s why farewell; verdict = verdict.Stopped why })
  Ignores : is_asking m ≡ false → Reacts s m None (reports s verdict.Done)
  Opens : m.code ≡ code.csm → bad_csm_option m ≡ None → Reacts s m None (becomes s phase.Open verdict.Opened)
  Reopens : m.code ≡ code.csm → bad_csm_option m ≡ None → Reacts s m None (becomes s phase.Open verdict.Done)
  Requests : is_waiting s.phase ≡ false → (m.code == code.csm) ≡ false → Reacts s m None (reports s verdict.Request)
  Replies : (n : Message) → MayReply s m n → length (spelling n) ≤ s.limit
      → Reacts s m None (record { effect = record (stay s) { queued = n ∷ [] }; verdict = verdict.Done })
  Waits : is_waiting s.phase ≡ false → (m.code == code.ping) ≡ true → asks_custody m ≡ true → 1 ≤ length s.pending
      → length s.pending < s.most → Reacts s m None (holds s (Pong m.token))
  Releases : is_asking m ≡ false → Reacts s m None (release_reaction s)
  Estranges : is_asking m ≡ false → Reacts s m None (reports s verdict.Stranger)
  Ends : is_asking m ≡ false → (e : OutstandingValue) → find (matches_response m.token) s.outstanding ≡ Some e
      → is_last m e ≡ true
      → Reacts s m None (leaves s (without_matching m.token s.outstanding) (verdict.Answer m.token true))
  Notifies : is_asking m ≡ false → (e : OutstandingValue) → find (matches_response m.token) s.outstanding ≡ Some e
      → is_last m e ≡ false → Reacts s m None (reports s (verdict.Answer m.token false))
  Pongs : is_asking m ≡ false → list_any (matches_pong m.token) s.outstanding ≡ true
      → Reacts s m None (leaves s (without_pinged m.token s.outstanding) (verdict.Pong m.token (asks_custody m)))

module _ (s : ConnectionState) (m : Message) where
  abbrev Live : Reaction → Type 0
  Live r = Reacts s m None r

  aborts_so : (why : Reason) → message_reason why ≡ 1 → Live (aborts s why)
  aborts_so why is = Stops why _ (record {
    plain = abort_plain s.limit why;
    one = abort_one s.limit (abort_of why);
    handled = is;
    fit = abort_fit s.limit (abort_of why);
  })

  sends_so : (n less : Message) → MayReply s m n → MayReply s m less → Live (sends s n less)
  sends_so n less may bare =
      cond_both (fits s.limit n) _ _ (λ r. Live (record { effect = send_as s n less r; verdict = reply_verdict r }))
      (λ e. Replies n may (leb-true _ _ e))
      (λ e. cond_both (fits s.limit less) _ _
      (λ r. Live (record { effect = send_as s n less r; verdict = reply_verdict r }))
      (λ f. Replies less bare (leb-true _ _ f))
      (λ f. Stops reason.PeerTooSmall [] (record { plain = tt; one = omega arith; handled = refl; fit = tt })))

  -- A message whose code is no method is no request.
  code_differs : (c : ℕ) → is_method c ≡ false → (m.code == c) ≡ true → is_asking m ≡ false
  code_differs c other same =
      and_left (is_method m.code) (not (m.code == code.empty)) (ap is_method (eqb-true m.code c same) ∙ other)

  csm_so : (m.code == code.csm) ≡ true → (bad : Option ℕ) → bad_csm_option m ≡ bad → Live (csm_reaction s bad)
  csm_so is (Some number) bad = aborts_so (reason.BadCsm number) refl
  csm_so is None none =
      let csm = eqb-true m.code code.csm is in
      cond_both (is_waiting s.phase) _ _ (λ v. Live (becomes s phase.Open v))
      (λ e. Opens csm none) (λ e. Reopens csm none)

  request_so : is_waiting s.phase ≡ false → (m.code == code.csm) ≡ false → (role : Role) → s.role ≡ role
      → Live (request_reaction s m role)
  request_so now other Server is = Requests now other
  request_so now other Client is =
      let answer : Message = not_implemented m in
      sends_so answer (bare_response answer) (record { follows = client_may s m _ is refl; alone = λ no. absurd cc })
      (record { follows = client_may s m _ is refl; alone = λ no. absurd cc })

  pong_so : (m.code == code.ping) ≡ true → (custody : Bool) → (custody ≡ true → asks_custody m ≡ true)
      → (custody && nat_lt 0 (length s.pending)) ≡ false → MayReply s m (pong_with custody m.token)
  pong_so ping custody asks none = record {
    follows = pong_allowed s m ping custody asks;
    alone = nothing_pending s.pending custody m.token none;
  }

  ping_so : is_waiting s.phase ≡ false → (m.code == code.ping) ≡ true → Live (ping_reaction s m)
  ping_so now ping =
      let bare = pong_so ping false (λ is. absurd cc) refl in
      cond_both (asks_custody m && nat_lt 0 (length s.pending)) _ _ Live
      (λ e. cond_both (nat_lt (length s.pending) s.most) _ _ Live
      (λ f. (
      let both = and_parts (asks_custody m) (nat_lt 0 (length s.pending)) e in
      Waits now ping both.0 (ltb-true 0 (length s.pending) both.1) (ltb-true _ _ f)
      ))
      (λ f. sends_so _ _ bare bare))
      (λ e. sends_so _ _ (pong_so ping (asks_custody m) (λ is. is) e) bare)

  answered_so : is_asking m ≡ false → (o : Option OutstandingValue)
      → find (matches_response m.token) s.outstanding ≡ o → Live (answered s m o)
  answered_so other None is = Estranges other
  answered_so other (Some e) is =
      cond_both (is_last m e) _ _ Live (λ last. Ends other e is last) (λ more. Notifies other e is more)

  open_so : is_waiting s.phase ≡ false → (m.code == code.csm) ≡ false → Live (open_reaction s m)
  open_so now no_csm =
      cond_both (checks_critical_options m.code && has_critical_option m) _ _ Live
      (λ e. aborts_so reason.BadSignalOption refl)
      (λ e. cond_both (m.code == code.ping) _ _ Live (λ is. ping_so now is)
      (λ e. cond_both (m.code == code.release) _ _ Live (λ is. Releases (code_differs code.release refl is))
      (λ e. cond_both (m.code == code.pong) _ _ Live
      (λ is. cond_both (list_any (matches_pong m.token) s.outstanding) _ _ Live
      (λ own. Pongs (code_differs code.pong refl is) own) (λ none. Estranges (code_differs code.pong refl is)))
      (λ e. cond_both (is_signal m.code) _ _ Live
      (λ is. Ignores (and_left (is_method m.code) _ (ap (λ (n : ℕ). n == 0) (eqb-true (m.code / 32) 7 is))))
      (λ e. cond_both (is_method m.code) _ _ Live (λ e. request_so now no_csm s.role refl)
      (λ none. answered_so (and_left (is_method m.code) _ none) _ refl))))))

  live_reacts : Live (live_reaction s m)
  unfolding live_reaction
  live_reacts =
      cond_both (is_reserved m.code) _ _ Live (λ e. aborts_so reason.ReservedCode refl)
      (λ e. cond_both (m.code == code.empty) _ _ Live
      (λ is. Ignores (and_right (is_method m.code) (not (m.code == code.empty)) (ap not is)))
      (λ e. cond_both (m.code == code.abort) _ _ Live (λ e. aborts_so reason.PeerAbort refl)
      (λ e. cond_both (m.code == code.csm) _ _ Live (λ is. csm_so is (bad_csm_option m) refl)
      (λ no_csm. cond_both (is_waiting s.phase) _ _ Live
      (λ e. aborts_so reason.CsmExpected refl) (λ now. open_so now no_csm)))))

  unless_reacts : (over : Option Reason) → Reacts s m over (reaction_unless s m over)
  unless_reacts None = live_reacts
  unless_reacts (Some why) = Over why

  pub reacts : Reacts s m (stop_of s.phase) (react s m)
  unfolding react
  reacts = unless_reacts (stop_of s.phase)

-- ---- properties of all reactions (for the crates above)

-- The cases of a proof that P holds for every reaction to a message that is accepted. A server leaves requests to its
-- caller, and a Pong with Custody may become pending.
pub record LiveCases (s : ConnectionState) (m : Message) (P : Reaction → Type 0) : Type 0 where
  pub requested : P (reports s verdict.Request)
  pub silent : (now : Phase) (outstanding : List OutstandingValue) (what : VerdictValue) → is_asking m ≡ false
      → (StopsAtMost s.phase → StopsAtMost now) → (answers now ≡ false → answers s.phase ≡ false)
      → P (record { effect = record (stay s) { phase = now; outstanding = outstanding }; verdict = what })
  pub stops : (why : Reason) (farewell : List Message) (what : VerdictValue) → AllByRecursion IsPlain farewell
      → length farewell ≤ 1 → message_reason why ≡ 1 → P (record { effect = stop s why farewell; verdict = what })
  pub queues : (n : Message) (what : VerdictValue) → MayFollow s m n
      → P (record { effect = record (stay s) { queued = n ∷ [] }; verdict = what })
  pub keeps : is_waiting s.phase ≡ false → is_asking m ≡ false → (m.code == code.ping) ≡ true → asks_custody m ≡ true
      → 1 ≤ length s.pending → P (holds s (Pong m.token))

pub live_so : (s : ConnectionState) (m : Message) (P : Reaction → Type 0) (cases : LiveCases s m P)
    → P (live_reaction s m)
live_so s m P cases = by (live_reacts s m)
  where
    by : {r : Reaction} → Reacts s m None r → P r
    by (Stops why farewell last) = cases.stops why farewell _ last.plain last.one last.handled
    by (Ignores other) = cases.silent _ _ _ other (λ is. is) (λ off. off)
    by (Opens csm none) =
        cases.silent _ _ _ (code_differs s m code.csm refl (eq-eqb m.code code.csm csm)) (λ is. refl) (λ off. absurd cc)
    by (Reopens csm none) =
        cases.silent _ _ _ (code_differs s m code.csm refl (eq-eqb m.code code.csm csm)) (λ is. refl) (λ off. absurd cc)
    by (Requests now other) = cases.requested
    by (Replies n may small) = cases.queues n _ may.follows
    by (Waits now ping asks some room) = cases.keeps now (code_differs s m code.ping refl ping) ping asks some
    by (Releases other) = cases.silent _ _ _ other (λ is. refl) (λ off. absurd cc)
    by (Estranges other) = cases.silent _ _ _ other (λ is. is) (λ off. off)
    by (Ends other e found last) = cases.silent _ _ _ other (λ is. is) (λ off. off)
    by (Notifies other e found more) = cases.silent _ _ _ other (λ is. is) (λ off. off)
    by (Pongs other own) = cases.silent _ _ _ other (λ is. is) (λ off. off)

-- The cases of a proof that P holds for every effect of a message. A server leaves responses to its caller, and a Pong
-- with Custody may become pending.
pub record ReactionCases (s : ConnectionState) (m : Message) (P : ReactionResult → Type 0) : Type 0 where
  pub stays : P (stay s)
  pub silent : (now : Phase) (outstanding : List OutstandingValue) → (StopsAtMost s.phase → StopsAtMost now)
      → P (record (stay s) { phase = now; outstanding = outstanding })
  pub stops : (why : Reason) (farewell : List Message) → AllByRecursion IsPlain farewell → length farewell ≤ 1
      → message_reason why ≡ 1 → P (stop s why farewell)
  pub queues : (n : Message) → (s.role ≡ Server → IsNoResponse n) → P (record (stay s) { queued = n ∷ [] })
  pub keeps : (m.code == code.ping) ≡ true → asks_custody m ≡ true → 1 ≤ length s.pending
      → P (holds s (Pong m.token)).effect

-- P holds for the effect of a message if it holds in each case.
pub react_so : (s : ConnectionState) (m : Message) (P : ReactionResult → Type 0) (cases : ReactionCases s m P)
    → P (react s m).effect
unfolding react
react_so s m P cases = by (stop_of s.phase)
  where
    by : (over : Option Reason) → P (reaction_unless s m over).effect
    by None = live_so s m (λ r. P r.effect) (record {
      requested = cases.stays;
      silent = λ now outstanding what other may on. cases.silent now outstanding may;
      stops = λ why farewell what plain one may. cases.stops why farewell plain one may;
      queues = λ n what may. cases.queues n (λ server. (may.plain server).0);
      keeps = λ now other. cases.keeps;
    })
    by (Some why) = cases.stays
