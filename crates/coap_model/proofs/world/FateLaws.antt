-- The requests for the application are accounted for: the unanswered ones are pending. The answer to each other one is
-- queued at its own place. Each effect adds a request, answers one, or passes them all.
use Rattle.std.proofs.lemmas.Grind.{common_steps}
use Rattle.std.proofs.Common.{Bool, List, Option, Some, [], ap, arith, drop, false, filter, inl, inr, length, map, not}
use Rattle.std.proofs.Common.{refl, rules, slice_get, suc, sym, true, ℕ, ◌&&◌, ◌++◌, ◌<◌, ◌∙◌, ◌∷◌, ◌≡◌, ◌≤◌}
use Rattle.std.proofs.lemmas.Bool.{and_from, and_parts, and_right, both_ways, cases_Bool, cond_both}
use Rattle.std.proofs.lemmas.List.{append-nil, drop-append-le, length-append, map-append}
use Rattle.std.proofs.Math.Seq.{drop-append_seam, take-length}
use Rattle.std.proofs.lemmas.List.Elements.{filter-append}
use Rattle.std.proofs.lemmas.Option.{slice_get_within}
use lib.Pointwise.{bytes_decides}
use Rattle.coap_model.specs.Prelude.{AllByRecursion, Answer, Answered, Application, ApplicationRequest}
use Rattle.coap_model.specs.Prelude.{ApplicationsValue, Bare, Connection, ConnectionState, Engine, Fate, HasFate}
use Rattle.coap_model.specs.Prelude.{HaveOtherPlaces, HaveOwnAnswers, History, MayAnswer, Message, Observer}
use Rattle.coap_model.specs.Prelude.{PendingEntryValue, Phase, Pong, ReactionResult, Reason, Reply, Responder, Server}
use Rattle.coap_model.specs.Prelude.{Stopped, Unanswered, Whole, after, answers, asks_answer, asks_with, awaits}
use Rattle.coap_model.specs.Prelude.{bare_response, entry_of, fate_by, fate_of, fit, fitted, has_stopped, is_asking}
use Rattle.coap_model.specs.Prelude.{is_for_application, is_of_application, is_response, is_unanswered, limit_now}
use Rattle.coap_model.specs.Prelude.{list_any, may_hold, messages_of, moment_after, responds, same_bytes, send, send_as}
use Rattle.coap_model.specs.Prelude.{side_with, state_now, stay, with_effect, with_fate, with_history}
use Rattle.coap_conn.specs.Calls as call
use Rattle.coap_conn.specs.declared.phase.Phase.TheVariants as phase
use Rattle.coap_model.proofs.world.WalkLaws.{kept_open_has}
use Rattle.coap_model.proofs.world.LastNotificationLaws.{HaveOtherTokens}
use Rattle.coap_model.proofs.world.QueuedMessages.{NoneAsk}
use Rattle.coap_model.proofs.world.EntryLemmas.{all_append, all_to}
use Rattle.coap_model.proofs.world.FateLists.{Extends, IsNew, all_both, all_less, all_parts, any_filter, any_waiting}
use Rattle.coap_model.proofs.world.FateLists.{fate_all, fate_requests, filter_none, filter_whole, filter_without}
use Rattle.coap_model.proofs.world.FateLists.{found_one, kept_at, map_without, new_then_old, next_at, none_filter}
use Rattle.coap_model.proofs.world.FateLists.{none_waiting, old_fate, old_then_new, still_at, still_fate}
use Rattle.coap_model.proofs.world.FateLists.{waiting_without, waits, without_passing}

-- ---- pending entries and the phase

-- From one pending list and phase to the next, the requests for the application stay, or the connection stops.
pub record StillPending (es : List PendingEntryValue) (p : Phase) (fs : List PendingEntryValue) (q : Phase) : Type 0
  where
    pub running : has_stopped q ≡ false
        → (has_stopped p ≡ false) × (filter is_of_application fs ≡ filter is_of_application es)
    pub quiet : (answers p ≡ false → es ≡ []) → answers q ≡ false → fs ≡ []

pub pending_same : (es : List PendingEntryValue) (p : Phase) → StillPending es p es p
pending_same es p = record { running = λ on. (on, refl); quiet = λ quiet. quiet }

pub pending_over : (es : List PendingEntryValue) (p : Phase) (why : Reason) → StillPending es p [] (phase.Stopped why)
pending_over es p why = record { running = λ on. absurd cc; quiet = λ quiet off. refl }

-- An entry that is no request for the application is removed.
pub pending_gone : (before : List PendingEntryValue) (e : PendingEntryValue) (later : List PendingEntryValue)
    (p : Phase) (es fs : List PendingEntryValue) → es ≡ before ++ e ∷ later → fs ≡ before ++ later
    → is_of_application e ≡ false → StillPending es p fs p
pending_gone before e later p es fs there left other = rw (there, left) (record {
  running = λ on. (grind (arith, filter-append));
  quiet = λ quiet off. absurd
      (omega (arith, ap length (quiet off), length-append before (e ∷ later)));
})

-- ---- a token without responses to come

-- The entry is a response with this token that the engine delays.
abbrev pub is_engine_for : List ℕ → PendingEntryValue → Bool
is_engine_for token (Answer Engine own moment) = same_bytes own token
is_engine_for token (Answer Application own moment) = false
is_engine_for token (Pong own) = false

abbrev pub NoEngine : List ℕ → List PendingEntryValue → Type 0
NoEngine token es = AllByRecursion (λ e. is_engine_for token e ≡ false) es

abbrev pub NoneRespond : List ℕ → List Message → Type 0
NoneRespond token ms = AllByRecursion (λ m. responds token m ≡ false) ms

-- No observer has the token, and the engine delays no response with it.
pub record Calm (token : List ℕ) (s : Connection) : Type 0 where
  pub others : HaveOtherTokens token s.observers
  pub engine : NoEngine token s.history.pending

pub calm_so : (token : List ℕ) (h : History) (os : List Observer) → HaveOtherTokens token os → NoEngine token h.pending
    → Calm token (side_with h os)
calm_so token h os others engine = search (rules, kept_open_has)

-- A calm token stays calm, and no response with it is queued, if no request with it is handled.
abbrev pub Spares : List Message → (s t : Connection) → List Message → List ℕ → Type 0
Spares received s t more token = NoneAsk token received → Calm token s → Calm token t × NoneRespond token more

-- ---- requests

-- No response with the token of the request was pending before it, and no request with the token was handled after it.
abbrev pub IsCurrent : History → ApplicationRequest → Type 0
IsCurrent h r = (r.alone ≡ true) × NoneAsk r.request.token (drop (suc r.handled) h.handled)

-- Then no further response with the token is to come, and its answer is the only one.
abbrev pub IsOnly : Connection → ApplicationRequest → Type 0
IsOnly s r =
    IsCurrent s.history r
    → Calm r.request.token s × (filter (responds r.request.token) (drop r.queued s.history.queued) ≡ messages_of r.fate)

-- The request is at its place among the messages handled. If it is unanswered, it was handed to the application, and
-- otherwise its answer is queued.
pub record IsKept (s : Connection) (r : ApplicationRequest) : Type 0 where
  pub has : HasFate s.history r r.fate
  pub few : r.queued ≤ length s.history.queued
  pub there : slice_get s.history.handled r.handled ≡ Some r.request
  pub asks : is_asking r.request ≡ true
  pub handed : has_stopped s.history.phase ≡ false → waits r ≡ true → r.handed ≡ true
  pub only : IsOnly s r

-- Two requests have different answers, and the first was handled first. If no response with its token was pending
-- before the second, the first was answered then, if it has this token.
abbrev pub Apart : ApplicationRequest → ApplicationRequest → Type 0
Apart f r =
    HaveOtherPlaces f.fate r.fate × (f.handled < r.handled)
    × (r.alone ≡ true → f.request.token ≡ r.request.token → waits f ≡ false)

abbrev pub AreApart : List ApplicationRequest → Type 0
AreApart [] = Unit {0}
AreApart (r ∷ rs) = AllByRecursion (Apart r) rs × AreApart rs

pub have_own : (rs : List ApplicationRequest) → AreApart rs → HaveOwnAnswers rs
have_own [] apart = tt
have_own (r ∷ rs) apart = search (rules, all_to, have_own rs apart.1)

apart_more : (rs : List ApplicationRequest) (r : ApplicationRequest) → AllByRecursion (λ f. Apart f r) rs
    → AreApart rs → AreApart (rs ++ r ∷ [])
apart_more [] r all apart = (tt, tt)
apart_more (f ∷ rs) r all apart = (grind (arith, all_append, apart_more rs r all.1 apart.1))

-- The requests are accounted for. Those that were handled are these, and the unanswered ones are pending.
pub record Accounted (a : Option ApplicationsValue) (s : Connection) (rs : List ApplicationRequest) : Type 0 where
  pub server : s.history.role ≡ Server
  pub requests : map (λ r. r.request) rs ≡ filter (is_for_application a) s.history.handled
  pub pending : has_stopped s.history.phase ≡ false
      → map entry_of (filter waits rs) ≡ filter is_of_application s.history.pending
  pub quiet : answers s.history.phase ≡ false → s.history.pending ≡ []
  pub each : AllByRecursion (IsKept s) rs
  pub apart : AreApart rs

at_place : (s : Connection) (r : ApplicationRequest) → IsKept s r → r.handled < length s.history.handled
at_place s r is = slice_get_within s.history.handled r.handled r.request is.there

-- The responses with a token, of more messages.
filter_more : (p : Message → Bool) (n : ℕ) (ms more : List Message) → n ≤ length ms
    → filter p (drop n (ms ++ more)) ≡ filter p (drop n ms) ++ filter p more
filter_more p n ms more few = rw (drop-append-le n ms more few) (filter-append p (drop n ms) more)

-- A request is kept by an effect that spares its token.
pub kept_on : {received : List Message} (s t : Connection) (e : Extends received s.history t.history)
    (r : ApplicationRequest) → (IsCurrent s.history r → Spares received s t e.more r.request.token)
    → IsKept s r → IsKept t r
kept_on {received} s t e r spares is = record {
  has = still_fate s.history t.history e r r.fate is.has;
  few = omega (arith, is.few, ap length e.queued, length-append s.history.queued e.more);
  there = rw e.handled (still_at s.history.handled received r.handled r.request is.there);
  asks = is.asks;
  handed = λ on. is.handed (e.running on);
  only = λ current. (
      let rest : drop (suc r.handled) t.history.handled ≡ drop (suc r.handled) s.history.handled ++ received =
      grind (arith, drop-append-le, at_place) in
      let none = all_parts (λ m. asks_with r.request.token m ≡ false) (drop (suc r.handled) s.history.handled) received
      (rw rest at current.1) in
      let before = is.only (current.0, none.0) in
      (grind (
        arith,
        filter_more,
        e.more,
        filter_none,
        append-nil,
      )));
}

-- ---- an effect that passes the requests

-- Messages were handled, but none was a request for the application.
pub record Passes (a : Option ApplicationsValue) (s t : Connection) : Type 0 where
  pub received : List Message
  pub none : filter (is_for_application a) received ≡ []
  pub extends : Extends received s.history t.history
  pub spares : (token : List ℕ) → Spares received s t extends.more token
  pub pending : StillPending s.history.pending s.history.phase t.history.pending t.history.phase

pub passes_keep : (a : Option ApplicationsValue) (s t : Connection) (rs : List ApplicationRequest) → Passes a s t
    → Accounted a s rs → Accounted a t rs
passes_keep a s t rs passes is = record {
  server = passes.extends.fixed.1 ∙ is.server;
  requests = rw (passes.extends.handled, filter-append, passes.none, append-nil) is.requests;
  pending = λ on. let before = passes.pending.running on in is.pending before.0 ∙ sym before.1;
  quiet = passes.pending.quiet is.quiet;
  each = search (rules, all_to, kept_on, passes.extends, passes.spares);
  apart = is.apart;
}

-- ---- an effect that adds a request

-- A request that a message adds, with its fate.
abbrev pub request_with : ℕ → Connection → Message → ℕ → Fate → ApplicationRequest
request_with now s m seconds fate = record {
  request = m;
  deadline = moment_after now seconds;
  handled = length s.history.handled;
  queued = length s.history.queued;
  alone = not (list_any (awaits m.token) s.history.pending);
  handed = asks_answer s m && may_hold (after s.history (call.Handle m));
  fate = fate;
}

pub record AddsRequest (s t : Connection) (r : ApplicationRequest) : Type 0 where
  pub extends : Extends (r.request ∷ []) s.history t.history
  pub spares : (token : List ℕ) → Spares (r.request ∷ []) s t extends.more token
  pub has : HasFate t.history r r.fate
  pub new : IsNew (length s.history.queued) r.fate
  pub pending : has_stopped t.history.phase ≡ false → filter is_of_application t.history.pending
      ≡ filter is_of_application s.history.pending ++ map entry_of (filter waits (r ∷ []))
  pub handed : has_stopped t.history.phase ≡ false → waits r ≡ true → r.handed ≡ true
  pub quiet : (answers s.history.phase ≡ false → s.history.pending ≡ []) → answers t.history.phase ≡ false
      → t.history.pending ≡ []
  pub calm : list_any (awaits r.request.token) s.history.pending ≡ false → Calm r.request.token t
  pub only : filter (responds r.request.token) extends.more ≡ messages_of r.fate

module _ (a : Option ApplicationsValue) (s t : Connection) (rs : List ApplicationRequest) (now : ℕ) (m : Message)
    (seconds : ℕ) (fate : Fate) (is_for : is_for_application a m ≡ true) (live : has_stopped s.history.phase ≡ false)
    (adds : AddsRequest s t (request_with now s m seconds fate)) (is : Accounted a s rs) where
  abbrev h : History
  h = s.history

  abbrev r : ApplicationRequest
  r = request_with now s m seconds fate

  lone : r.alone ≡ true → list_any (awaits m.token) h.pending ≡ false
  lone alone = grind arith

  pub adds_keep : Accounted a t (rs ++ r ∷ [])
  adds_keep =
      let Answered : ApplicationRequest → Type 0 = λ f. r.alone ≡ true → f.request.token ≡ m.token → waits f ≡ false in
      let answered : AllByRecursion Answered rs = grind (arith, none_waiting, is.pending, none_filter, lone) in
      record {
        server = adds.extends.fixed.1 ∙ is.server;
        requests = rw (map-append, is.requests, adds.extends.handled, filter-append, is_for) refl;
        pending = λ on. rw (filter-append, map-append, is.pending live) (sym (adds.pending on));
        quiet = adds.quiet is.quiet;
        each =
            all_append (IsKept t) rs (r ∷ []) (all_to (IsKept s) (IsKept t)
            (λ f. kept_on s t adds.extends f (λ current. adds.spares f.request.token)) rs is.each) (
              record {
                has = adds.has;
                few = omega (
                  arith,
                  ap length adds.extends.queued,
                  length-append h.queued adds.extends.more,
                );
                there = rw adds.extends.handled (next_at h.handled m []);
                asks = (and_parts (is_asking m) _ is_for).0;
                handed = adds.handed;
                only = λ current. (grind (arith, adds.calm, lone, drop-append_seam));
              },
              tt,
            );
        apart = apart_more rs r (all_to (λ f. IsKept s f × Answered f) (λ f. Apart f r) (λ f so. grind (
          arith,
          old_then_new,
          old_fate,
          at_place,
        )) rs (all_both (IsKept s) Answered rs is.each answered)) is.apart;
      }

-- ---- a response

-- The fate of a request to which a response is sent, with the effect of sending it when these entries are pending.
pub record IsSent (h : History) (by : Responder) (response : Message) (es : List PendingEntryValue)
    (e : ReactionResult) (fate : Fate) : Type 0 where
  pub queued : e.queued ≡ messages_of fate
  pub new : IsNew (length h.queued) fate
  pub answered : has_stopped e.phase ≡ false → (is_unanswered fate ≡ false) × (e.pending ≡ es)
  pub quiet : answers e.phase ≡ false → e.pending ≡ []
  pub engine : (token : List ℕ) → NoEngine token es → NoEngine token e.pending
  pub has : (q : ApplicationRequest) → MayAnswer q by response (length h.queued) → q.queued ≤ length h.queued
      → q.handled < length h.handled → HasFate (with_effect h e) q fate
  pub responses : AllByRecursion (λ m. (is_response m ≡ true) × (m.token ≡ response.token)) (messages_of fate)

pub sent_so : (h : History) (by : Responder) (response : Message) (es : List PendingEntryValue)
    → (is_response response ≡ true) × (is_response (bare_response response) ≡ true) → answers h.phase ≡ true
    → IsSent h by response es (send (record (state_now h) { pending = es }) response (bare_response response))
    (fate_by by h response)
sent_so h by response es codes on = rw on (by_reply (fit (limit_now h) response (bare_response response)) refl)
  where
    state : ConnectionState
    state = record (state_now h) { pending = es }

    goes : (sent : Message)
        → fitted response (bare_response response) (fit (limit_now h) response (bare_response response)) ≡ sent ∷ []
        → (is_response sent ≡ true) × (sent.token ≡ response.token)
        → IsSent h by response es (record (stay state) { queued = sent ∷ [] })
        (Answered by response sent (length h.handled) (length h.queued))
    goes sent reduced is = grind (arith, common_steps, take-length, next_at)

    by_reply : (r : Reply) → fit (limit_now h) response (bare_response response) ≡ r
        → IsSent h by response es (send_as state response (bare_response response) r)
        (fate_of by response (fitted response (bare_response response) r) (length h.handled) (length h.queued))
    by_reply Whole is = goes response (rw is refl) (codes.0, refl)
    by_reply Bare is = goes (bare_response response) (rw is refl) (codes.1, refl)
    by_reply Stopped is = record {
      queued = refl;
      new = tt;
      answered = λ live. absurd cc;
      quiet = λ off. refl;
      engine = λ token none. tt;
      has = λ q may few since. tt;
      responses = tt;
    }

-- Messages with another token are no responses with this one.
pub none_respond : (token other : List ℕ) (ms : List Message) → same_bytes other token ≡ false
    → AllByRecursion (λ m. m.token ≡ other) ms → NoneRespond token ms
none_respond token other ms apart all = search (rules, all_to, and_right)

-- ---- an effect that answers a request

-- The response answers the first unanswered request that passes a test. Its entry is the first that passes another one.
pub record IsNext (h : History) (test : ApplicationRequest → Bool) (entry : PendingEntryValue → Bool) (by : Responder)
    (response : Message) (left : List PendingEntryValue) : Type 0 where
  pub passing : (r : ApplicationRequest) → test r ≡ true → (waits r ≡ true) × (r.request.token ≡ response.token)
  pub same : (r : ApplicationRequest) → waits r ≡ true → test r ≡ entry (entry_of r)
  pub may : (r : ApplicationRequest) → test r ≡ true → r.handed ≡ true → MayAnswer r by response (length h.queued)
  pub of_application : (e : PendingEntryValue) → entry e ≡ true → is_of_application e ≡ true
  pub some : list_any entry h.pending ≡ true
  pub left_is : without_passing entry h.pending ≡ left
  pub codes : (is_response response ≡ true) × (is_response (bare_response response) ≡ true)

module _ (a : Option ApplicationsValue) (s : Connection) (rs : List ApplicationRequest)
    (test : ApplicationRequest → Bool) (entry : PendingEntryValue → Bool) (by : Responder) (response : Message)
    (left : List PendingEntryValue) (next : IsNext s.history test entry by response left) (is : Accounted a s rs)
    (on : answers s.history.phase ≡ true) where
  abbrev fate : Fate
  fate = fate_by by s.history response

  abbrev effect : ReactionResult
  effect = send (record (state_now s.history) { pending = left }) response (bare_response response)

  abbrev t : Connection
  t = with_history s (with_effect s.history effect)

  sent : IsSent s.history by response left effect fate
  sent = sent_so s.history by response left next.codes on

  running : has_stopped s.history.phase ≡ false
  running = grind arith

  stays_calm : (token : List ℕ) → Calm token s → Calm token t
  stays_calm token calm = search (rules, calm_so, sent, all_less)

  pub one_waits : list_any test rs ≡ true
  one_waits =
      any_waiting test entry next.same rs
      (grind (arith, is.pending, running, any_filter, next.of_application))

  -- Another request, if it is not current while it has the token.
  other_kept : (f : ApplicationRequest) → (f.request.token ≡ response.token → IsCurrent s.history f → ⊥) → IsKept s f
      → IsKept t f
  other_kept f none = kept_on s t (record {
    fixed = (refl, refl);
    handled = sym (append-nil s.history.handled);
    more = messages_of fate;
    queued = ap (λ ms. s.history.queued ++ ms) sent.queued;
    running = λ live. running;
  }) f (λ current asks calm. (
    stays_calm f.request.token calm,
    elim (cases_Bool (same_bytes response.token f.request.token)) [
      | inl so ↦ absurd (none (sym ((bytes_decides response.token f.request.token).0 so)) current)
      | inr other ↦ none_respond f.request.token response.token (messages_of fate) other
          (all_to _ (λ m. m.token ≡ response.token) (λ m so. so.1) (messages_of fate) sent.responses)
    ],
  ))

  module _ (r : ApplicationRequest) (passes : test r ≡ true) (kept : IsKept s r) where
    -- An earlier request with the token is followed by this one.
    earlier_kept : (f : ApplicationRequest) → IsKept s f × Apart f r → IsKept t f
    earlier_kept f so = other_kept f (λ same current. both_ways (asks_with f.request.token r.request)
        (kept_at (λ m. asks_with f.request.token m ≡ false) (suc f.handled) r.handled s.history.handled r.request
        (omega (arith, so.1.1)) kept.there current.1)
        (grind (arith, and_from, kept.asks, bytes_decides, next.passing))) so.0

    -- A later one with the token was not alone.
    later_kept : (g : ApplicationRequest) → IsKept s g × Apart r g → IsKept t g
    later_kept g so = search (rules, other_kept, both_ways, waits)

    unanswered_none : (fate : Fate) → is_unanswered fate ≡ true → messages_of fate ≡ []
    unanswered_none Unanswered so = refl
    unanswered_none (Answered by response sent handled place) so = absurd cc

    its_kept : IsKept t (record r { fate = fate })
    its_kept =
        let token : List ℕ = r.request.token in
        let its = next.passing r passes in
        let all : AllByRecursion (λ m. responds token m ≡ true) (messages_of fate) =
        all_to (λ m. (is_response m ≡ true) × (m.token ≡ response.token)) (λ m. responds token m ≡ true)
        (λ m so. and_from _ _ so.0 ((bytes_decides m.token token).1 (so.1 ∙ sym its.1))) (messages_of fate)
        sent.responses in
        record {
          has =
              sent.has (record r { fate = fate }) (next.may r passes (kept.handed running its.0)) kept.few
              (at_place s r kept);
          few = omega (arith, kept.few, length-append s.history.queued effect.queued);
          there = kept.there;
          asks = kept.asks;
          handed = λ live waiting. absurd (cc (sent.answered live).0);
          only = λ current. (
              let before = kept.only current in (
                stays_calm token before.0,
                rw (
                  filter_more (responds token) r.queued s.history.queued effect.queued kept.few,
                  before.1,
                  unanswered_none r.fate its.0,
                  sent.queued,
                ) (filter_whole (responds token) (messages_of fate) all),
              ));
        }

  each_kept : (qs : List ApplicationRequest) → list_any test qs ≡ true → AllByRecursion (IsKept s) qs → AreApart qs
      → AllByRecursion (IsKept t) (with_fate test fate qs) × AreApart (with_fate test fate qs)
  unfolding with_fate
  each_kept [] some kept apart = absurd cc
  each_kept (q ∷ qs) some kept apart =
      let both = all_both (IsKept s) (Apart q) qs kept.1 apart.0 in
      elim (cases_Bool (test q)) [
        | inl passes ↦ rw passes (grind (
          arith,
          its_kept,
          all_to,
          later_kept,
          new_then_old,
          sent.new,
          old_fate,
          next.passing,
        ))
        | inr other ↦ (
            let one = found_one (λ r. IsKept s r × Apart q r) test qs (rw other at some) both in
            let rest = each_kept qs (rw other at some) kept.1 apart.1 in
            rw other (
              (earlier_kept one.0 one.1 one.2.0 q (kept.0, one.2.1), rest.0),
              (
                fate_all (Apart q) (Apart q) test fate (λ r so. so) (λ r passes so. (
                  old_then_new (length s.history.queued) q.fate fate (old_fate s.history q q.fate kept.0.has) sent.new,
                  so.1,
                  so.2,
                )) qs apart.0,
                rest.1,
              ),
            ))
      ]

  all_waiting : (qs : List ApplicationRequest) → AllByRecursion (λ r. test r ≡ entry (entry_of r)) (filter waits qs)
  all_waiting [] = tt
  all_waiting (q ∷ qs) = search (rules, cond_both, waits, all_waiting qs)

  pub answer_keeps : Accounted a t (with_fate test fate rs)
  answer_keeps = grind (
    arith,
    each_kept,
    one_waits,
    fate_requests,
    waiting_without,
    sent,
    map_without,
    waits,
    all_waiting,
    filter_without,
  )
