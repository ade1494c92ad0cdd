-- After any events, the last request with an observer's token is its registration. The last response with the token
-- reports the state that its entry records, if no request for a delayed response had the token.
use Rattle.std.proofs.Common.{◌≡◌, ◌≢◌, ℕ, Bool, true, false, List, [], ◌∷◌, ◌++◌, Option, Some, None, refl, sym, subst}
use Rattle.std.proofs.Common.{filter, find, not, ◌&&◌, if◌then◌else◌, arith, ◌∙◌, inl, inr, rules}
use Rattle.coap_model.specs.Prelude.{list_any, Responder, Engine, Application, asks_pending, ApplicationsValue}
use Rattle.coap_model.specs.Prelude.{AllByRecursion, Message, LimitValues, is_open, fit, bare_response}
use Rattle.coap_model.specs.Prelude.{PendingEntryValue, Answer, Pong, first_due, History, limit_now, after, same_bytes}
use Rattle.coap_model.specs.Prelude.{StoreValue, state_of, prompt_answer, response_with_observe, ConfigValues, Observer}
use Rattle.coap_model.specs.Prelude.{is_due, without_token, has_place, entry_for, is_whole, with_entry, goes_on}
use Rattle.coap_model.specs.Prelude.{notification, notification_message, left_of, first_becomes, Connection, side_with}
use Rattle.coap_model.specs.Prelude.{with_history, side_answered, side_handled, side_after, next_due, notified}
use Rattle.coap_model.specs.Prelude.{late_message, after_sent, side_of, AcceptedCall, world_after, responds}
use Rattle.coap_model.specs.Prelude.{is_response, ReportsState, requested_late, IsLastNotification, TokensAreDistinct}
use Rattle.coap_model.specs.Prelude.{CorrespondTo, side_responded, response_refusal, link_of, with_effect, send}
use Rattle.coap_model.specs.Prelude.{state_without, state_now, answers, Representation, takes_messages, Server}
use Rattle.coap_model.specs.Prelude.{asks_answer, asks_with, is_asking, last_request, IsRegistered}
use Rattle.std.proofs.lemmas.Bool.{cases_Bool, cond_both, and_parts, and_left, eqb-true}
use Rattle.std.proofs.lemmas.List.{append-nil}
use Rattle.coap_store.specs.Answer.{is_number}
use Rattle.coap_store.specs.declared.plan.Watch.TheVariants as watch
use Rattle.coap_model.proofs.world.ResponseLaws.{watch_registers}
use Rattle.std.proofs.lemmas.List.Folds.{list_any-append}
use lib.Pointwise.{bytes_decides}
use Rattle.coap_conn.specs.Calls as call
use Rattle.coap_conn.proofs.PendingLaws.{due_answer}
use Rattle.coap_model.proofs.world.EntryLemmas.{asks_to_enter, all_to, all_append, all_filter, all_become, found_all}
use Rattle.coap_model.proofs.world.SideLaws.{settled_cases, pending_room, next_due_found, handles_parts}
use Rattle.coap_model.proofs.world.WalkLaws.{PlainCall, observers_plain}
use Rattle.coap_model.proofs.world.GoingOn.{kept_after, IsSide, Keeps}
use Rattle.coap_model.proofs.world.QueuedMessages.{last_stays, message_queues, due_queues, reply_queues, whole_last}
use Rattle.coap_model.proofs.world.QueuedMessages.{Queues, queues_these, sent_all, last_of_longer, plain_queues}
use Rattle.coap_model.proofs.world.QueuedMessages.{QueuesOn, NoneAsk, request_stays, request_of_longer}
use Rattle.coap_model.proofs.world.AnsweredRequests.{answered_is_request, requested_or_over}
use Rattle.coap_conn.proofs.ReactionLaws.{IsNoResponse, IsPlain}
use Rattle.coap_model.proofs.world.CustodyLaws.{corresponds_plain, Corresponds, each_requested, corresponds_keeps}
use Rattle.coap_model.proofs.world.CustodyLaws.{handled_cases}
use Rattle.coap_conn.proofs.AskingLaws.{none_where}
use Rattle.coap_model.proofs.world.RespondedLaws.{answered_request}
use Rattle.std.specs.Prelude.{is_none}
use Rattle.coap_model.proofs.world.KnownLaws.{reports_responds, entry_reports, notification_reports_observer}

-- ---- lists of observers

abbrev pub HaveOtherTokens : List ℕ → List Observer → Type 0
HaveOtherTokens token os = AllByRecursion (λ o. token ≢ o.token) os

own_filter : (test : Observer → Bool) (os : List Observer) → TokensAreDistinct os → TokensAreDistinct (filter test os)
own_filter test [] own = tt
own_filter test (o ∷ os) own = grind (arith, all_filter, own_filter test os own.1)

own_last : (os : List Observer) (e : Observer) → HaveOtherTokens e.token os → TokensAreDistinct os
    → TokensAreDistinct (os ++ e ∷ [])
own_last [] e others own = (tt, tt)
own_last (o ∷ os) e others own = grind (arith, all_append, own_last os e others.1 own.1)

-- The remaining observers have other tokens.
pub filter_others : (token : List ℕ) (os : List Observer)
    → HaveOtherTokens token (filter (λ o. not (same_bytes o.token token)) os)
filter_others token [] = tt
filter_others token (o ∷ os) = grind (arith, bytes_decides o.token token, filter_others token os)

-- ---- requests

-- The observers with other tokens than that of a message, and all of them if the message is no request.
pub others_unasked : (m : Message) (os : List Observer) → HaveOtherTokens m.token os
    → AllByRecursion (λ o. asks_with o.token m ≡ false) os
others_unasked m [] others = tt
others_unasked m (o ∷ os) others = (grind (arith, bytes_decides m.token o.token), others_unasked m os others.1)

pub all_unasked : (m : Message) (os : List Observer) → is_asking m ≡ false
    → AllByRecursion (λ o. asks_with o.token m ≡ false) os
all_unasked m [] other = tt
all_unasked m (o ∷ os) other = (and_left (is_asking m) _ other, all_unasked m os other)

module _ (s : Connection) (m : Message) where
  -- A message that the caller answers is a request, and the last one with its token.
  pub asked_last : takes_messages s.history.phase ≡ true → asks_answer s m ≡ true
      → last_request m.token (after s.history (call.Handle m)).handled ≡ Some m
  asked_last takes asks = grind (arith, request_of_longer, answered_is_request, bytes_decides)

  -- Another message is no request, or stops the connection.
  pub other_unasked : s.history.role ≡ Server → takes_messages s.history.phase ≡ true → asks_answer s m ≡ false
      → is_open (after s.history (call.Handle m)).phase ≡ true → is_asking m ≡ false
  other_unasked server takes other opened =
      grind (arith, cases_Bool (is_asking m), requested_or_over (state_now s.history) m server takes)

-- ---- registrations

-- More messages are handled, but no request with the token.
registered_longer : (handled received : List Message) (o : Observer) → NoneAsk o.token received
    → IsRegistered handled o → IsRegistered (handled ++ received) o
registered_longer handled received o none is = grind (arith, request_stays o.token handled received none)

number_is : (n : ℕ) (value : Option ℕ) → is_number value n ≡ true → value ≡ Some n
number_is n value is = grind (arith, eqb-true)

-- A request that adds an observer is its registration.
entry_registered : (store : StoreValue) (now : ℕ) (m : Message) (handled : List Message)
    → last_request m.token handled ≡ Some m → (prompt_answer store now m).watch ≡ watch.Add
    → IsRegistered handled (entry_for store now m)
entry_registered store now m handled last adds =
    let is = and_parts _ _ (and_parts _ _ (watch_registers store now m adds)).0 in
    record { request = m; last = last; get = is.0; observe = number_is 0 _ is.1; path = refl }

-- ---- messages

-- A message that reports the recorded state is queued.
reported_by_last : (handled : List Message) (o : Observer) (queued : List Message) (m : Message)
    → ReportsState handled o o.reported m → IsLastNotification handled (queued ++ m ∷ []) o
reported_by_last handled o queued m reports =
    grind (arith, last_of_longer o.token queued m, reports_responds handled o o.reported m reports)

-- More messages are handled, but no request with the token.
reports_longer : (handled received : List Message) (o : Observer) (state : Option Representation) (m : Message)
    → NoneAsk o.token received → ReportsState handled o state m → ReportsState (handled ++ received) o state m
reports_longer handled received o None m none reports = reports
reports_longer handled received o (Some r) m none (inl e) = inl e
reports_longer handled received o (Some r) m none (inr e) =
    inr (e.0, e.1, (e.2.0, request_stays o.token handled received none ∙ e.2.1, e.2.2))

-- And more are queued, but no response with the token.
last_longer : (o : Observer) (handled received queued more : List Message) → NoneAsk o.token received
    → AllByRecursion (λ m. responds o.token m ≡ false) more → IsLastNotification handled queued o
    → IsLastNotification (handled ++ received) (queued ++ more) o
last_longer o handled received queued more asks none is =
    (grind (arith, last_stays, reports_longer))

abbrev HasToken : List ℕ → Message → Type 0
HasToken token m = m.token ≡ token

-- A message that asks for a delayed response asks for one of the engine or of the application.
late_requested : (a : Option ApplicationsValue) (by : Responder) (token : List ℕ) (moment : ℕ) (ms : List Message)
    → list_any (λ m. asks_pending a m (Answer by token moment)) ms ≡ true → requested_late a token ms ≡ true
late_requested a by token moment [] e = e
late_requested a Engine token moment (m ∷ ms) e = grind (arith, late_requested a Engine token moment ms)
late_requested a Application token moment (m ∷ ms) e = grind (arith, late_requested a Application token moment ms)

module _ (a : Option ApplicationsValue) where
  -- ---- reported states are kept

  -- The last request with the observer's token is its registration. The last response reports the recorded state, if no
  -- request for a delayed response had the token.
  abbrev pub ReportedOn : History → Observer → Type 0
  ReportedOn h o =
      IsRegistered h.handled o
      × (requested_late a o.token h.handled ≡ false → IsLastNotification h.handled h.queued o)

  -- This holds of each observer, and no two have the same token.
  pub record AreReported (h : History) (os : List Observer) : Type 0 where
    pub own : TokensAreDistinct os
    pub reported : AllByRecursion (ReportedOn h) os

  abbrev pub AllReported : Connection → Type 0
  AllReported s = AreReported s.history s.observers

  -- From h to k, no request with the token of an observer is handled, and no response with it is queued.
  abbrev LeavesOf : History → History → Observer → Type 0
  LeavesOf h k o = ReportedOn h o → ReportedOn k o

  leaves : (P : Message → Type 0) (received : List Message) (h k : History) (o : Observer) → QueuesOn P received h k
      → NoneAsk o.token received
      → (requested_late a o.token h.handled ≡ false → (m : Message) → P m → responds o.token m ≡ false) → LeavesOf h k o
  leaves P received h k o queues asks other reported = (
    rw queues.handled (registered_longer h.handled received o asks reported.0),
    λ none. grind (arith, list_any-append, last_longer o h.handled received h.queued queues.more asks, all_to P),
  )

  all_left : (h k : History) (os : List Observer) → ((o : Observer) → LeavesOf h k o) → AreReported h os
      → AreReported k os
  all_left h k os each are = grind (arith, all_to (ReportedOn h))

  -- Messages that are no responses keep it.
  signalled : (h k : History) (os : List Observer) → Queues IsNoResponse h k → AreReported h os → AreReported k os
  signalled h k os queues = grind (arith, all_left h k os, leaves IsNoResponse [] h k, and_left)

  -- So does a message that is handled, if it is no request with the token of an observer.
  heard_left : (h k : History) (m : Message) (os : List Observer) → QueuesOn IsNoResponse (m ∷ []) h k
      → AllByRecursion (λ o. asks_with o.token m ≡ false) os → AllByRecursion (ReportedOn h) os
      → AllByRecursion (ReportedOn k) os
  heard_left h k m [] queues asks reported = tt
  heard_left h k m (o ∷ os) queues asks reported =
      search (rules, leaves, and_left, heard_left h k m os queues asks.1 reported.1)

  -- Responses with another token keep it, and those with the token of a request for a delayed response.
  other_left : (token : List ℕ) (h k : History) (o : Observer) → Queues (HasToken token) h k → token ≢ o.token
      → LeavesOf h k o
  other_left token h k o queues apart = grind (arith, leaves (HasToken token) [] h k o queues, bytes_decides)

  others_left : (token : List ℕ) (h k : History) (os : List Observer) → Queues (HasToken token) h k
      → HaveOtherTokens token os → AllByRecursion (ReportedOn h) os → AllByRecursion (ReportedOn k) os
  others_left token h k [] queues others reported = tt
  others_left token h k (o ∷ os) queues others reported =
      (other_left token h k o queues others.0 reported.0, others_left token h k os queues others.1 reported.1)

  late_left : (by : Responder) (token : List ℕ) (moment : ℕ) (h k : History) (os : List Observer)
      → Queues (HasToken token) h k → (before after : List PendingEntryValue)
      → CorrespondTo a h.handled (before ++ Answer by token moment ∷ after) → AreReported h os → AreReported k os
  late_left by token moment h k os queues before after stand =
      let requested = late_requested a by token moment h.handled
      (each_requested a h.handled before (Answer by token moment) after stand) in
      all_left h k os (λ o. leaves (HasToken token) [] h k o queues tt
      (λ none m e. grind (arith, (bytes_decides m.token o.token).0)))

  -- ---- answers

  -- If the connection is open, the observers stay; otherwise they are removed.
  kept_reported : (h : History) (os : List Observer) → (is_open h.phase ≡ true → AreReported h os)
      → AllReported (side_with h os)
  kept_reported h os go = grind arith

  -- The entry of a request is appended if the response reports its state.
  entered_reported : (h : History) (os : List Observer) (entry : Observer) (enters : Bool)
      → HaveOtherTokens entry.token os → AreReported h os
      → (enters ≡ true → ReportedOn h entry)
      → AreReported h (with_entry enters os entry)
  entered_reported h os entry enters others are new = grind (arith, own_last, all_append)

  -- The response to the last request reports it.
  reported_with_answer : (store : StoreValue) (now : ℕ) (h : History) (os : List Observer) (m : Message)
      → last_request m.token h.handled ≡ Some m → HaveOtherTokens m.token os → AreReported h os
      → AllReported (side_answered store now h os m (prompt_answer store now m))
  reported_with_answer store now h os m last others are =
      let r = prompt_answer store now m in
      let observes = has_place h.limits.observers os r.watch in
      let response = response_with_observe m.token observes r.response in
      let entry = entry_for store now m in
      let k = after h (call.Reply response) in
      kept_reported k _ (λ opened. entered_reported k os entry _ others
      (record { own = are.own; reported = others_left m.token h k os (reply_queues h response) others are.reported })
      (λ e. (
      let both = and_parts observes (is_whole (fit (limit_now h) response (bare_response response))) e in
      let asks = asks_to_enter r.watch (and_parts _ _ both.0).0 in
      grind (
        arith,
        append-nil h.handled,
        entry_registered store now m h.handled last asks,
        whole_last h response both.1 opened,
        reported_by_last h.handled entry h.queued response,
        entry_reports store now h.handled m last asks,
      ))))

  -- ---- messages

  module _ (limits : LimitValues) (store : StoreValue) (now : ℕ) (s : Connection) (m : Message) (is : IsSide limits s)
      (takes : takes_messages s.history.phase ≡ true) (are : AllReported s) where
    abbrev k : History
    k = after s.history (call.Handle m)

    heard : QueuesOn IsNoResponse (m ∷ []) s.history k
    heard = message_queues s.history m is.is_server takes

    abbrev others : List Observer
    others = without_token m.token s.observers

    others_reported : AreReported k others
    unfolding without_token
    others_reported = record {
      own = own_filter _ s.observers are.own;
      reported = heard_left s.history k m others heard
          (others_unasked m others (filter_others m.token s.observers)) (all_filter _ _ s.observers are.reported);
    }

    handled_reported : AllReported (side_handled store now s m)
    unfolding without_token
    handled_reported =
        handled_cases store now s m AllReported
        (λ other. kept_reported k s.observers (λ opened. record {
          own = are.own;
          reported = heard_left s.history k m s.observers heard
              (all_unasked m s.observers (other_unasked s m is.is_server takes other opened)) are.reported;
        }))
        (λ asks by moment requested. kept_reported _ others (λ opened. record {
          own = others_reported.own;
          reported = others_reported.reported;
        }))
        (λ asks. grind (arith, reported_with_answer, asked_last, filter_others, others_reported))

  -- ---- notifications

  -- The entry after a notification has the token of the first due observer.
  module _ (store : StoreValue) (now : ℕ) (h k : History) (o : Observer) (queues : Queues (HasToken o.token) h k)
      (stays : Bool) (new : AllByRecursion (ReportedOn k) (left_of store now o stays)) (due : Observer → Bool) where
    own_left : (os : List Observer) → HaveOtherTokens o.token os → TokensAreDistinct os
        → TokensAreDistinct (left_of store now o stays ++ os)
    own_left os others own = grind arith

    left_apart : (token : List ℕ) → token ≢ o.token → HaveOtherTokens token (left_of store now o stays)
    left_apart token apart = grind arith

    reported_become : (os : List Observer) → find due os ≡ Some o → AreReported h os
        → AreReported k (first_becomes due (left_of store now o stays) os)
    unfolding first_becomes
    reported_become [] e are = absurd cc
    reported_become (p ∷ os) e are =
        let left = left_of store now o stays in
        elim (due p) as (λ b. (if b then Some p else find due os) ≡ Some o
        → AreReported k (if b then left ++ os else p ∷ first_becomes due left os)) [
          | true ↦ λ is. (
              let same : p ≡ o = cc in
              let others = subst (λ q. HaveOtherTokens q.token os) same are.own.0 in
              record {
                own = own_left os others are.own.1;
                reported = all_append (ReportedOn k) left os new
                    (others_left o.token h k os queues others are.reported.1);
              }
              )
          | false ↦ λ is. (
              let apart : p.token ≢ o.token = found_all (λ q. p.token ≢ q.token) due os o are.own.0 is in
              let later = reported_become os is (record { own = are.own.1; reported = are.reported.1 }) in
              record {
                own = grind (arith, all_become, left_apart p.token apart);
                reported = (other_left o.token h k p queues (λ same. apart (sym same)) are.reported.0, later.reported);
              }
              )
        ] e

  -- The notification reports the state that the updated entry records. The entry has the same token and path.
  left_reported : (store : StoreValue) (now : ℕ) (h : History) (o : Observer) (stays : Bool) → IsRegistered h.handled o
      → let m = notification_message o.token (notification store now o) in
      (stays ≡ true → (goes_on (notification store now o) && is_whole (fit (limit_now h) m (bare_response m))) ≡ true)
      → is_open (after h (call.Reply m)).phase ≡ true
      → AllByRecursion (ReportedOn (after h (call.Reply m))) (left_of store now o stays)
  left_reported store now h o true registered both opened =
      let m = notification_message o.token (notification store now o) in
      let is = and_parts _ _ (both refl) in
      let left = record o { reported = state_of store now o.path } in
      grind (
        arith,
        append-nil h.handled,
        whole_last h m is.1 opened,
        reported_by_last h.handled left h.queued m (notification_reports_observer h.handled store now o is.0),
      )
  left_reported store now h o false registered both opened = tt

  notified_reported : (store : StoreValue) (now : ℕ) (s : Connection) (found : Option Observer)
      → ((o : Observer) → found ≡ Some o → find (is_due store now) s.observers ≡ Some o) → AllReported s
      → AllReported (notified store now s found)
  notified_reported store now s None there are = are
  notified_reported store now s (Some o) there are =
      let m = notification_message o.token (notification store now o) in
      let h = after s.history (call.Reply m) in
      grind (
        arith,
        kept_reported h,
        reported_become store now s.history h o (reply_queues s.history m),
        reply_queues s.history m,
        left_reported store now s.history o,
        found_all (ReportedOn s.history) (is_due store now) s.observers o are.reported (there o refl),
      )

  -- ---- pending entries

  -- The token of a delayed response is that of a request for one.
  sent_reported : (s : Connection) (now : ℕ) (e : PendingEntryValue) → first_due now s.history.pending ≡ Some e
      → Corresponds a s.history → AllReported s → AllReported (with_history s (after_sent s.history now e))
  sent_reported s now (Answer by token moment) found stand are =
      let h = after s.history (call.Due now) in
      let first = due_answer now s.history.pending by token moment found in
      grind (
        arith,
        kept_reported,
        late_left by token moment h,
        reply_queues h (late_message by token),
        signalled s.history h s.observers (due_queues s.history now) are,
      )
  sent_reported s now (Pong token) found stand are =
      grind (arith, kept_reported, signalled s.history, due_queues s.history now)

  -- A response of the application has the token of a request that it answers.
  responded_reported : (s : Connection) (m : Message) → Corresponds a s.history → AllReported s
      → AllReported (side_responded s m)
  unfolding side_responded
  responded_reported s m stand are =
      let h = s.history in
      let none = is_none (response_refusal (link_of h) m) in
      let k = with_effect h (send (state_without m.token (state_now h)) m (bare_response m)) in
      kept_reported (after h (call.Respond m)) s.observers
      (λ opened. cond_both (answers h.phase && none) k h (λ g. AreReported g s.observers) (λ so. (
      let first = answered_request (link_of h) m
      (none_where (response_refusal (link_of h) m) (and_parts (answers h.phase) none so).1) in
      late_left Application m.token first.moment h k s.observers
      (queues_these (HasToken m.token) h k _ refl refl (sent_all (HasToken m.token)
      (state_without m.token (state_now h)) m (bare_response m) (fit (limit_now h) m (bare_response m)) refl refl))
      first.before first.after (subst (CorrespondTo a h.handled) first.there stand) are)) (λ off. are))

  -- ---- properties of every connection

  abbrev pub IsReportedSide : Connection → Type 0
  IsReportedSide s = Corresponds a s.history × AllReported s

  -- Only plain messages are queued, and the observers stay or are removed.
  plain_reported : (s t : Connection) → PlainCall s t → IsReportedSide s → IsReportedSide t
  plain_reported s t call of =
      let queues = plain_queues s t call in (
        corresponds_plain a s t call of.0,
        observers_plain (AreReported t.history) (record { own = tt; reported = tt }) s t call
            (all_left s.history t.history s.observers (λ o. leaves IsPlain [] s.history t.history o queues tt
            (λ none m is. and_left (is_response m) _ is.0)) of.1),
      )

  reported_side_keeps : (limits : LimitValues) → Keeps limits a IsReportedSide
  unfolding side_after
  reported_side_keeps limits =
      let corresponds = corresponds_keeps limits a in
      record {
        first = grind arith;
        handled = λ store now s m same is of. grind (arith, cond_both, handled_reported, handles_parts);
        plain = plain_reported;
        responded = λ s m of. grind (arith, responded_reported s m of.0 of.1);
        reported = λ store now s of.
            grind (
              arith,
              settled_cases store now s AllReported,
              sent_reported s now,
              pending_room now s,
              notified_reported store now s (next_due store now s) (next_due_found store now s) of.1,
            );
      }

pub are_reported : (c : ConfigValues) (es : List AcceptedCall) (id : ℕ) (s : Connection)
    → side_of id (world_after c es).sides ≡ Some s
    → IsReportedSide c.applications s
are_reported c = kept_after c (IsReportedSide c.applications) (reported_side_keeps c.applications c.limits)
