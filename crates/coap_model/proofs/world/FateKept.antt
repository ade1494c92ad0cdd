-- Each effect on a connection keeps the account of the requests that the application answers.
use Rattle.std.proofs.Common.{Bool, List, None, Option, Some, [], ap, arith, cond, false, filter, find, inl, inr}
use Rattle.std.proofs.Common.{is_none, length, not, refl, rules, slice_get, subst, sym, true, ℕ, ◌&&◌, ◌++◌, ◌∙◌, ◌∷◌}
use Rattle.std.proofs.Common.{◌≡◌, ◌≢◌}
use Rattle.std.proofs.lemmas.Bool.{and_from, and_left, and_parts, both_ways, cases_Bool, cond-true, cond_both, eq-eqb}
use Rattle.std.proofs.lemmas.List.{append-nil, length-append}
use Rattle.std.proofs.lemmas.List.Folds.{list_any-append}
use Rattle.std.proofs.lemmas.List.Elements.{filter-append}
use lib.Pointwise.{bytes_decides}
use Rattle.coap_model.specs.Prelude.{AcceptedCall, AllByRecursion, Answer, Application, ApplicationRequest}
use Rattle.coap_model.specs.Prelude.{ApplicationsValue, ConfigValues, Connection, Delay, Engine, Fate, HasFate}
use Rattle.coap_model.specs.Prelude.{HasOnlyAnswer, History, LimitValues, Message, Observer, PendingEntryValue, Phase}
use Rattle.coap_model.specs.Prelude.{Pong, Reaction, ReactionResult, Reason, ReleasedHere, Server, StoreValue}
use Rattle.coap_model.specs.Prelude.{Unanswered, after, after_sent, answers, application_deadline, asks_answer, awaits}
use Rattle.coap_model.specs.Prelude.{bare_response, delay_for, delay_of, end_reason, fate_by, first_due, first_fate}
use Rattle.coap_model.specs.Prelude.{fit, handles, has_place, has_stopped, hold_call, is_asking, is_due}
use Rattle.coap_model.specs.Prelude.{is_for_application, is_of_application, is_open, is_unanswered, is_unanswered_with}
use Rattle.coap_model.specs.Prelude.{late_message, left_of, limit_now, link_of, list_any, may_hold, messages_of}
use Rattle.coap_model.specs.Prelude.{moment_after, new_request, next_due, next_pending, notification}
use Rattle.coap_model.specs.Prelude.{notification_message, notified, own_csm, pong_with, react, reaction_unless}
use Rattle.coap_model.specs.Prelude.{refusal_of, reject_reason, release, requests_after, requests_due, requests_on}
use Rattle.coap_model.specs.Prelude.{requests_once, requests_responded, responds, response_refusal}
use Rattle.coap_model.specs.Prelude.{response_with_observe, same_bytes, send, settled_once, side_after, side_answered}
use Rattle.coap_model.specs.Prelude.{side_handled, side_of, side_responded, side_with, state_now, stop, stop_of}
use Rattle.coap_model.specs.Prelude.{takes_messages, with_effect, with_history, without_due, without_request}
use Rattle.coap_model.specs.Prelude.{without_token, world_after}
use Rattle.coap_store.proofs.ApplicationLaws.{prompt_handed}
use Rattle.coap_conn.proofs.ReactionLaws.{IsNoResponse, IsPlain, abort_plain, live_so}
use Rattle.coap_conn.proofs.PendingLaws.{due_answer, due_pong}
use Rattle.coap_conn.proofs.RequestLemmas.{react_asks}
use Rattle.coap_conn.specs.PendingEntries.{is_answer_at, is_request_for}
use Rattle.coap_conn.proofs.AskingLaws.{none_where}
use Rattle.coap_conn.specs.Calls as call
use Rattle.coap_store.specs.Answer as answer
use Rattle.coap_model.proofs.world.CustodyLaws.{handled_cases, pending_where, request_quiet}
use Rattle.coap_model.proofs.world.WalkLaws.{answer_goes, due_is, holding, kept_open_has, observers_plain, pending_is}
use Rattle.coap_model.proofs.world.WalkLaws.{plain_between, received, said_request, sent, there_or_not, without_first}
use Rattle.coap_model.proofs.world.QueuedMessages.{Queues, open_answers, reply_either, reply_queues, sent_all, NoneAsk}
use Rattle.coap_model.proofs.world.QueuedMessages.{sent_either}
use Rattle.coap_model.proofs.world.LastNotificationLaws.{HaveOtherTokens, filter_others}
use Rattle.coap_model.proofs.world.RespondedLaws.{allowed, answered_request, plain_codes}
use Rattle.coap_model.proofs.world.EntryLemmas.{all_append, all_become, all_entered, all_filter, all_to, found_all}
use Rattle.coap_model.proofs.world.SideLaws.{handles_parts, next_due_found, pending_room, replied_cases, settled_cases}
use Rattle.coap_model.proofs.OptionLemmas.{same_there}
use Rattle.coap_model.proofs.world.FateLists.{Extends, IsNew, all_parts, filter_none, filter_whole, waits}
use Rattle.coap_model.proofs.world.FateLists.{without_found, without_passing}
use Rattle.coap_model.proofs.world.FateLaws.{Accounted, AddsRequest, Calm, IsKept, IsNext, IsSent, NoEngine}
use Rattle.coap_model.proofs.world.FateLaws.{NoneRespond, Passes, Spares, StillPending, adds_keep, answer_keeps}
use Rattle.coap_model.proofs.world.FateLaws.{calm_so, is_engine_for, none_respond, passes_keep, pending_gone}
use Rattle.coap_model.proofs.world.FateLaws.{pending_over, pending_same, request_with, sent_so}
use Rattle.coap_model.proofs.world.AnsweredRequests.{answered_is_request, requested_or_over}
use Rattle.coap_model.proofs.world.FateWalk.{KeepsRequests, expires, requests_kept}

-- The history after a message.
abbrev pub after_message : Connection → Message → History
after_message s m = after s.history (call.Handle m)

pub running_live : (p : Phase) → takes_messages p ≡ true → has_stopped p ≡ false
running_live p live = grind arith

pub off_over : (p : Phase) → has_stopped p ≡ true → answers p ≡ false
off_over p over = grind arith

-- Messages that are no responses.
no_response : (token : List ℕ) (ms : List Message) → AllByRecursion IsNoResponse ms → NoneRespond token ms
no_response token ms none = search (rules, all_to, and_left)

-- ---- errors, the end of input, releases, announcements and written bytes

-- Only plain messages are queued, and the entries stay or the connection stops.
record IsPlainOver (h k : History) : Type 0 where
  extends : Extends [] h k
  plain : AllByRecursion IsPlain extends.more
  pending : StillPending h.pending h.phase k.pending k.phase
  engine : (token : List ℕ) → NoEngine token h.pending → NoEngine token k.pending

stays_plain : (h k : History) (more : List Message) → k.queued ≡ h.queued ++ more → AllByRecursion IsPlain more
    → (k.limits ≡ h.limits) × (k.role ≡ h.role) → k.handled ≡ h.handled → k.pending ≡ h.pending → k.phase ≡ h.phase
    → IsPlainOver h k
stays_plain h k more queued plain fixed handled pending phase = record {
  extends = grind (arith, append-nil);
  plain = plain;
  pending = rw (pending, phase) (pending_same h.pending h.phase);
  engine = λ token none. rw pending none;
}

same_plain : (h : History) → IsPlainOver h h
same_plain h = stays_plain h h [] (sym (append-nil h.queued)) tt (refl, refl) refl refl refl

stops_plain : (h : History) (why : Reason) (farewell : List Message) → AllByRecursion IsPlain farewell
    → IsPlainOver h (with_effect h (stop (state_now h) why farewell))
stops_plain h why farewell plain = record {
  extends = grind (arith, append-nil);
  plain = plain;
  pending = pending_over h.pending h.phase why;
  engine = λ token none. tt;
}

-- ---- a response of the application, and the deadline of a request

request_of_application : (token : List ℕ) (e : PendingEntryValue) → is_request_for token e ≡ true
    → is_of_application e ≡ true
request_of_application token (Answer Engine other moment) is = absurd cc
request_of_application token (Answer Application other moment) is = refl
request_of_application token (Pong other) is = absurd cc

has_token : (token : List ℕ) (r : ApplicationRequest) → is_unanswered_with token r ≡ true
    → (waits r ≡ true) × (r.request.token ≡ token)
has_token token r is = search rules

pub response_next : (h : History) (m : Message) → response_refusal (link_of h) m ≡ None
    → IsNext h (is_unanswered_with m.token) (is_request_for m.token) Application m
    (without_request m.token h.pending)
response_next h m none =
    let is = allowed (link_of h) m none in
    let first = answered_request (link_of h) m none in
    record {
      passing = has_token m.token;
      same = λ r waiting. rw waiting refl;
      may = λ r passes handed. (handed, sym (has_token m.token r passes).1, is.plain);
      of_application = request_of_application m.token;
      some = is.requested;
      left_is = grind (arith, without_passing, without_found, bytes_decides);
      codes = plain_codes m is.plain;
    }

-- If the connection sends no responses, no request is pending.
pub answers_if_allowed : (h : History) (m : Message) → (answers h.phase ≡ false → h.pending ≡ [])
    → response_refusal (link_of h) m ≡ None → answers h.phase ≡ true
answers_if_allowed h m quiet none = grind (arith, quiet, (allowed (link_of h) m none).requested)

deadline_next : (h : History) (now : ℕ) (token : List ℕ) (moment : ℕ)
    → first_due now h.pending ≡ Some (Answer Application token moment)
    → IsNext h (expires token moment)
    (λ e. is_request_for token e && is_answer_at moment e) Engine (late_message Application token)
    (without_due now h.pending)
deadline_next h now token moment is =
    let first = due_answer now h.pending Application token moment is in
    let entry : PendingEntryValue → Bool = λ e. is_request_for token e && is_answer_at moment e in
    let due : entry (Answer Application token moment) ≡ true = grind (arith, and_from, bytes_decides, eq-eqb) in
    let passing : (r : ApplicationRequest) → expires token moment r ≡ true
    → (waits r ≡ true) × (r.request.token ≡ token) =
    λ r so. has_token token r (and_parts (is_unanswered_with token r) _ so).0 in
    record {
      passing = passing;
      same = λ r so. rw so refl;
      may = λ r so handed. grind arith;
      of_application = λ e so. request_of_application token e (and_parts (is_request_for token e) _ so).0;
      some = grind (arith, first.there, due, list_any-append);
      left_is = grind (arith, without_passing, without_found, all_to);
      codes = (refl, refl);
    }

-- ---- parts of effects

no_engine_without : (token : List ℕ) (before : List PendingEntryValue) (e : PendingEntryValue)
    (later : List PendingEntryValue) → NoEngine token (before ++ e ∷ later)
    → (is_engine_for token e ≡ false) × NoEngine token (before ++ later)
no_engine_without token before e later none =
    let parts = all_parts _ before (e ∷ later) none in (parts.1.0, all_append _ before later parts.0 parts.1.1)

left_others : (token : List ℕ) (store : StoreValue) (now : ℕ) (o : Observer) (stays : Bool) → token ≢ o.token
    → HaveOtherTokens token (left_of store now o stays)
left_others token store now o true apart = (apart, tt)
left_others token store now o false apart = tt

module _ (a : Option ApplicationsValue) where
  plain_passes : (s t : Connection) → IsPlainOver s.history t.history
      → ((token : List ℕ) → HaveOtherTokens token s.observers → HaveOtherTokens token t.observers) → Passes a s t
  plain_passes s t is others = record {
    received = [];
    none = refl;
    extends = is.extends;
    spares = λ token none calm. (
      record { others = others token calm.others; engine = is.engine token calm.engine },
      no_response token _ (all_to IsPlain IsNoResponse (λ m so. so.0) _ is.plain),
    );
    pending = is.pending;
  }

  -- ---- settling

  -- A reply with a token that is not calm, after messages that queued nothing.
  module _ (s : Connection) (received : List Message) (none : filter (is_for_application a) received ≡ [])
      (g : History) (fixed : (g.limits ≡ s.history.limits) × (g.role ≡ s.history.role))
      (handled : g.handled ≡ s.history.handled ++ received)
      (queued : g.queued ≡ s.history.queued)
      (pending : StillPending s.history.pending s.history.phase g.pending g.phase) (m : Message) (os : List Observer)
      (apart : (token : List ℕ) → NoneAsk token received → Calm token s
      → HaveOtherTokens token os × NoEngine token g.pending × (same_bytes m.token token ≡ false)) where
    reply_passes : Passes a s (side_with (after g (call.Reply m)) os)
    reply_passes =
        let k : History = after g (call.Reply m) in
        let queues : Queues (λ n. n.token ≡ m.token) g k = reply_queues g m in
        let still : StillPending s.history.pending s.history.phase k.pending k.phase =
        grind (arith, reply_either, pending_over) in
        record {
          received = received;
          none = none;
          extends = grind (arith, cond_both, reply_either, received);
          spares = λ token asks calm. grind (arith, calm_so, reply_either, none_respond);
          pending = still;
        }

  engine_passes : (s : Connection) (now : ℕ) (own : List ℕ) (moment : ℕ)
      → first_due now s.history.pending ≡ Some (Answer Engine own moment)
      → Passes a s (with_history s (after_sent s.history now (Answer Engine own moment)))
  engine_passes s now own moment is =
      let h : History = s.history in
      let first = due_answer now h.pending Engine own moment is in
      subst (λ g. Passes a s (with_history s (after g (call.Reply (late_message Engine own)))))
      (sym (answer_goes h now Engine own moment is))
      (reply_passes s [] refl (without_first h now) (refl, refl) (sym (append-nil h.handled)) refl
      (grind (arith, pending_gone))
      (late_message Engine own) s.observers (λ token none calm. grind (arith, no_engine_without)))

  pong_passes : (s : Connection) (now : ℕ) (own : List ℕ) → first_due now s.history.pending ≡ Some (Pong own)
      → Passes a s (with_history s (after s.history (call.Due now)))
  pong_passes s now own is =
      let h : History = s.history in
      let g : History = without_first h now in
      let there = due_pong now h.pending own is in
      let m : Message = pong_with true own in
      let less : Message = pong_with false own in
      let pending : StillPending h.pending h.phase g.pending g.phase = grind (arith, pending_gone) in
      let still : StillPending h.pending h.phase (sent g m less).pending (sent g m less).phase =
      grind (arith, sent_either, pending_over) in
      subst (λ k. Passes a s (with_history s k)) (sym (due_is h now (Some (Pong own)) is)) (record {
        received = [];
        none = refl;
        extends = grind (arith, append-nil);
        spares = λ token none calm. grind (arith, calm_so, sent, calm.others, sent_either, no_response, sent_all);
        pending = still;
      })

  notified_passes : (store : StoreValue) (now : ℕ) (s : Connection) (found : Option Observer)
      → ((o : Observer) → found ≡ Some o → find (is_due store now) s.observers ≡ Some o)
      → Passes a s (notified store now s found)
  notified_passes store now s None there = plain_passes s s (same_plain s.history) (λ token others. others)
  notified_passes store now s (Some o) there =
      reply_passes s [] refl s.history (refl, refl) (sym (append-nil s.history.handled)) refl
      (pending_same s.history.pending s.history.phase)
      (notification_message o.token (notification store now o)) _ (λ token none calm. (
      let apart = found_all (λ p. token ≢ p.token) (is_due store now) s.observers o calm.others (there o refl) in (
        all_become (λ p. token ≢ p.token) (is_due store now) _ s.observers calm.others
            (left_others token store now o _ apart),
        calm.engine,
        grind (arith, (bytes_decides o.token token).0),
      )))

  responded_kept : (s : Connection) (m : Message) (rs : List ApplicationRequest) → Accounted a s rs
      → Accounted a (side_responded s m) (requests_responded s m rs)
  unfolding side_responded requests_responded
  responded_kept s m rs is =
      let h : History = s.history in
      elim (cases_Bool (is_none (response_refusal (link_of h) m))) [
        | inl so ↦ (
            let none = none_where (response_refusal (link_of h) m) so in
            let on = answers_if_allowed h m is.quiet none in
            rw (so, cond-true (answers h.phase && true) _ h (and_from _ _ on refl)) (answer_keeps a s rs
            (is_unanswered_with m.token) (is_request_for m.token) Application m (without_request m.token h.pending)
            (response_next h m none) is on))
        | inr refused ↦ rw refused (cond_both (answers h.phase && false) _ h
            (λ k. Accounted a (with_history s k) rs) (λ bad. absurd (grind arith))
            (λ off. passes_keep a s (with_history s h) rs (plain_passes s (with_history s h) (same_plain h)
            (λ token. kept_open_has (HaveOtherTokens token) tt h s.observers)) is))
      ]

  -- ---- one round of settling

  due_kept : (s : Connection) (now : ℕ) (e : PendingEntryValue) (rs : List ApplicationRequest)
      → first_due now s.history.pending ≡ Some e → Accounted a s rs
      → Accounted a (with_history s (after_sent s.history now e)) (requests_due s (Some e) rs)
  due_kept s now (Answer Engine token moment) rs is account =
      passes_keep a s _ rs (engine_passes s now token moment is) account
  due_kept s now (Answer Application token moment) rs is account =
      let h : History = s.history in
      let first = due_answer now h.pending Application token moment is in
      let on : answers h.phase ≡ true =
      grind (arith, account.quiet, first.there, length-append first.before) in
      let m : Message = late_message Application token in
      let g : History = without_first h now in
      let same : after_sent h now (Answer Application token moment) ≡ sent g m (bare_response m) =
      grind (arith, answer_goes, cond-true, sent) in
      subst (λ k. Accounted a (with_history s k) (requests_due s (Some (Answer Application token moment)) rs))
      (sym same)
      (answer_keeps a s rs (expires token moment) _ Engine m (without_due now h.pending)
      (deadline_next h now token moment is) account on)
  due_kept s now (Pong token) rs is account = passes_keep a s _ rs (pong_passes s now token is) account

  reported_kept : (store : StoreValue) (now : ℕ) (s : Connection) (rs : List ApplicationRequest)
      → Accounted a s rs → Accounted a (settled_once store now s) (requests_once now s rs)
  unfolding requests_once
  reported_kept store now s rs is =
      settled_cases store now s (λ t. Accounted a t (requests_due s (next_pending now s) rs))
      (λ e found. rw found (due_kept s now e rs (pending_room now s e found).1 is))
      (λ none. rw none
      (passes_keep a s _ rs (notified_passes store now s (next_due store now s) (next_due_found store now s)) is))

-- ---- a message

-- The message was handled, and nothing was queued.
record IsRequested (h : History) (m : Message) (g : History) : Type 0 where
  fixed : (g.limits ≡ h.limits) × (g.role ≡ h.role)
  handled : g.handled ≡ h.handled ++ m ∷ []
  queued : g.queued ≡ h.queued
  pending : g.pending ≡ h.pending
  opened : is_open g.phase ≡ true

-- The reaction queues no response, and the requests stay pending or the connection stops.
record ReactsSo (h : History) (r : Reaction) : Type 0 where
  pending : StillPending h.pending h.phase r.effect.pending r.effect.phase
  engine : (token : List ℕ) → NoEngine token h.pending → NoEngine token r.effect.pending
  silent : AllByRecursion IsNoResponse r.effect.queued

reacts_so : (h : History) (m : Message) → h.role ≡ Server → takes_messages h.phase ≡ true
    → ReactsSo h (react (state_now h) m)
unfolding react
reacts_so h m server live = by (stop_of h.phase) live
  where
    by : (over : Option Reason) → is_none over ≡ true → ReactsSo h (reaction_unless (state_now h) m over)
    by None none = live_so (state_now h) m (ReactsSo h) (record {
      requested = record { pending = pending_same h.pending h.phase; engine = λ token none. none; silent = tt };
      silent = λ now outstanding what other may on. record {
        pending = record { running = λ off. (running_live h.phase live, refl); quiet = λ quiet off. quiet (on off) };
        engine = λ token none. none;
        silent = tt;
      };
      stops = λ why farewell what plain one may. record {
        pending = pending_over h.pending h.phase why;
        engine = λ token none. tt;
        silent = all_to IsPlain IsNoResponse (λ n is. is.0) farewell plain;
      };
      queues = λ n what may. record {
        pending = pending_same h.pending h.phase;
        engine = λ token none. none;
        silent = ((may.plain server).0, tt);
      };
      keeps = λ now other ping custody some. record {
        pending = record {
          running = λ off. (off, rw (filter-append, append-nil) refl);
          quiet =
              λ quiet off. absurd (omega (arith, some, ap length (quiet off)));
        };
        engine = λ token none. all_append _ h.pending (Pong m.token ∷ []) none (refl, tt);
        silent = tt;
      };
    })
    by (Some why) none = absurd cc

no_engine_awaits : (token : List ℕ) (es : List PendingEntryValue)
    → list_any (awaits token) es ≡ false → NoEngine token es
no_engine_awaits token [] none = tt
no_engine_awaits token (Answer Engine own moment ∷ es) none = (grind arith, no_engine_awaits token es (grind arith))
no_engine_awaits token (Answer Application own moment ∷ es) none = (refl, no_engine_awaits token es (grind arith))
no_engine_awaits token (Pong own ∷ es) none = (refl, no_engine_awaits token es none)

module _ (store : StoreValue) (now : ℕ) (s : Connection) (m : Message) (server : s.history.role ≡ Server)
    (live : takes_messages s.history.phase ≡ true) where
  abbrev h : History
  h = s.history

  abbrev a : Option ApplicationsValue
  a = store.applications

  abbrev others : List Observer
  others = without_token m.token s.observers

  on_before : has_stopped h.phase ≡ false
  on_before = running_live h.phase live

  -- ---- a message that the server need not answer

  reacts : ReactsSo h (react (state_now h) m)
  reacts = reacts_so h m server live

  abbrev after_it : Connection
  after_it = with_history s (received h m)

  abbrev it_extends : Extends (m ∷ []) h (received h m)
  it_extends = record {
    fixed = (refl, refl);
    handled = refl;
    more = (react (state_now h) m).effect.queued;
    queued = refl;
    running = λ on. on_before;
  }

  it_spares : (token : List ℕ) → Spares (m ∷ []) s after_it it_extends.more token
  it_spares token none calm = (
    calm_so token (received h m) s.observers calm.others (reacts.engine token calm.engine),
    no_response token _ reacts.silent,
  )

  other_passes : is_for_application a m ≡ false → Passes a s after_it
  other_passes other = record {
    received = m ∷ [];
    none = rw other refl;
    extends = it_extends;
    spares = it_spares;
    pending = reacts.pending;
  }

  -- The connection stops.
  over_adds : (seconds : ℕ) → has_stopped (received h m).phase ≡ true
      → AddsRequest s after_it (request_with now s m seconds Unanswered)
  over_adds seconds over =
      let closed : is_open (received h m).phase ≡ false = grind arith in
      record {
        extends = it_extends;
        spares = it_spares;
        has = tt;
        new = tt;
        pending = λ on. absurd cc;
        handed = λ on. absurd cc;
        quiet = reacts.pending.quiet;
        calm = λ apart. record {
          others = rw closed tt;
          engine = reacts.engine m.token (no_engine_awaits m.token h.pending apart);
        };
        only = filter_none (responds m.token) _ (no_response m.token _ reacts.silent);
      }

  -- ---- a request that the server must answer

  module _ (asks : asks_answer s m ≡ true) (g : History) (is : IsRequested h m g) where
    on : answers g.phase ≡ true
    on = open_answers g.phase is.opened

    -- The token of the request is another one.
    other_token : (token : List ℕ) → NoneAsk token (m ∷ []) → same_bytes m.token token ≡ false
    other_token token none = rw (answered_is_request (state_now h) m asks) at none.0

    others_left : (token : List ℕ) → HaveOtherTokens token s.observers → HaveOtherTokens token others
    unfolding without_token
    others_left token is = all_filter (λ o. token ≢ o.token) (λ o. not (same_bytes o.token m.token)) s.observers is

    others_none : HaveOtherTokens m.token others
    unfolding without_token
    others_none = filter_others m.token s.observers

    -- A pending entry is appended.
    abbrev with_late : PendingEntryValue → History
    with_late e = holding g (g.pending ++ e ∷ [])

    abbrev late_extends : (e : PendingEntryValue) → Extends (m ∷ []) h (with_late e)
    late_extends e = record {
      fixed = is.fixed;
      handled = is.handled;
      more = [];
      queued = is.queued ∙ sym (append-nil h.queued);
      running = λ live. on_before;
    }

    late_spares : (e : PendingEntryValue)
        → ((token : List ℕ) → same_bytes m.token token ≡ false → is_engine_for token e ≡ false) → (token : List ℕ)
        → Spares (m ∷ []) s (side_with (with_late e) others) [] token
    late_spares e new token none calm = search (rules, calm_so, others_left, all_append, other_token)

    engine_late : (moment : ℕ) → is_for_application a m ≡ false
        → Passes a s (side_with (with_late (Answer Engine m.token moment)) others)
    engine_late moment other = record {
      received = m ∷ [];
      none = rw other refl;
      extends = late_extends (Answer Engine m.token moment);
      spares = late_spares (Answer Engine m.token moment) (λ token apart. apart);
      pending = grind (arith, on_before, filter-append, append-nil, on);
    }

    pending_adds : (seconds : ℕ) → may_hold (after_message s m) ≡ true
        → AddsRequest s (side_with (with_late (Answer Application m.token (moment_after now seconds))) others)
        (request_with now s m seconds Unanswered)
    pending_adds seconds may = record {
      extends = late_extends (Answer Application m.token (moment_after now seconds));
      spares = search (rules, late_spares);
      has = tt;
      new = tt;
      pending = λ on. rw (is.pending, filter-append) refl;
      handed = λ on waiting. and_from (asks_answer s m) (may_hold (after_message s m)) asks may;
      quiet = λ quiet off. absurd (cc on);
      calm = λ apart. search (rules, calm_so, others_none, all_append, is.pending, no_engine_awaits);
      only = refl;
    }

    prompt_passes : (r : answer.Answer) → is_for_application a m ≡ false
        → Passes a s (side_answered store now g others m r)
    prompt_passes r other =
        let observes : Bool = has_place g.limits.observers others r.watch in
        let response : Message = response_with_observe m.token observes r.response in
        reply_passes a s (m ∷ []) (rw other refl) g is.fixed is.handled is.queued
        (grind (arith, is.pending, on_before, on))
        response _ (λ token none calm. grind (
          arith,
          other_token,
          all_entered,
          others_left,
          both_ways,
          bytes_decides,
          is.pending,
        ))

    -- The list is full.
    refused_adds : (seconds : ℕ) → may_hold (after_message s m) ≡ false
        → AddsRequest s (side_with (after g (call.Reply (refusal_of m))) others)
        (request_with now s m seconds (fate_by Engine g (refusal_of m)))
    refused_adds seconds full =
        let fate : Fate = fate_by Engine g (refusal_of m) in
        let response : Message = refusal_of m in
        let e : ReactionResult = send (state_now g) response (bare_response response) in
        let k : History = with_effect g e in
        let sent : IsSent g Engine response g.pending e fate = sent_so g Engine response g.pending (refl, refl) on in
        let more : k.queued ≡ h.queued ++ messages_of fate = grind arith in
        let apart : (asks_answer s m && may_hold (after_message s m)) ≡ false = grind (arith, full) in
        subst (λ b. AddsRequest s (side_with (cond b k g) others) (request_with now s m seconds fate))
        (sym on) (record {
          extends = record {
            fixed = is.fixed;
            handled = is.handled;
            more = messages_of fate;
            queued = more;
            running = λ live. on_before;
          };
          spares = λ token none calm. (grind (
            arith,
            calm_so,
            others_left,
            sent.engine,
            is.pending,
            none_respond,
            other_token,
            all_to,
          ));
          has = sent.has (request_with now s m seconds fate)
              ((λ handed. absurd (cc apart)), (λ none. (refl, ap length is.queued)))
              (omega (arith, ap length is.queued))
              (omega (arith, ap length is.handled, length-append h.handled (m ∷ [])));
          new = subst (λ (n : ℕ). IsNew n fate) (ap length is.queued) sent.new;
          pending = λ live. rw ((sent.answered live).0, (sent.answered live).1, is.pending, append-nil) refl;
          handed = λ live waiting. absurd (cc (sent.answered live).0);
          quiet = λ quiet. sent.quiet;
          calm = λ alone. calm_so m.token k others others_none
              (sent.engine m.token (rw is.pending (no_engine_awaits m.token h.pending alone)));
          only = filter_whole (responds m.token) (messages_of fate)
              (grind (arith, all_to, and_from, bytes_decides));
        })

  requested : asks_answer s m ≡ true → IsRequested h m (after_message s m)
  requested asks = search (rules, request_quiet, react_asks, said_request, append-nil)

  handled_passes : is_for_application a m ≡ false → Passes a s (side_handled store now s m)
  handled_passes other =
      handled_cases store now s m (Passes a s) (λ none. rw live (other_passes other)) (λ asks by moment. grind (
        arith,
        engine_late,
        requested,
        both_ways,
        and_from,
        answered_is_request,
      ))
      (λ asks. grind (arith, prompt_passes, requested))

  no_place : (f : History) (d : Delay) → delay_for f (Some d) ≡ None → may_hold f ≡ false
  no_place f d none = grind arith

  handled_adds : (seconds : ℕ) → is_for_application a m ≡ true → application_deadline a m ≡ Some seconds
      → AddsRequest s (side_handled store now s m) (request_with now s m seconds (first_fate (after_message s m) m))
  handled_adds seconds is_for deadline =
      let g : History = after_message s m in
      let fate : Bool → Fate = λ may. cond may Unanswered (fate_by Engine g (refusal_of m)) in
      let IsAdded : Connection → Type 0 = λ t. AddsRequest s t (request_with now s m seconds (first_fate g m)) in
      let by_place : (may : Bool) (t : Connection) → may_hold g ≡ may
      → AddsRequest s t (request_with now s m seconds (fate may))
      → IsAdded t = λ may t is. grind (arith, request_with) in
      let d : Delay = record { by = Application; seconds = seconds } in
      let delay : delay_of store now m ≡ Some d = rw deadline refl in
      cond_both (asks_answer s m) _ _ IsAdded (λ asks.
      replied_cases store now g others m (delay_of store now m) IsAdded (λ f found. (
      let both = pending_where g (delay_of store now m) f found in
      let entry = pending_is g Application m.token (moment_after now seconds)
      ∙ cond-true _ _ g (and_from _ _ (requested asks).opened both.0) in
      subst (λ (e : Delay). IsAdded (side_with (after g (hold_call e.by m.token (moment_after now e.seconds))) others))
      (same_there d f (sym delay ∙ both.1)) (rw entry (by_place true _ both.0 (pending_adds asks g (requested asks)
      seconds both.0)))))
      (λ none. (
      let full = no_place g d (rw delay at none) in
      rw (prompt_handed store now m seconds deadline)
      (by_place false _ full (refused_adds asks g (requested asks) seconds full)))))
      (λ other. elim (requested_or_over (state_now h) m server live (and_parts (is_asking m) _ is_for).0) [
        | inl asks ↦ absurd cc
        | inr over ↦ (
            let got = cond-true (takes_messages h.phase) (received h m) h live in
            let off = off_over g.phase (rw got over) in
            subst (λ k. IsAdded (with_history s k)) (sym got)
            (subst (λ f. AddsRequest s after_it (request_with now s m seconds f))
            (sym (unanswered_over (may_hold g) off))
            (over_adds seconds over)))
      ])
    where
      unanswered_over : (b : Bool) → answers (after_message s m).phase ≡ false
          → cond b Unanswered (fate_by Engine (after_message s m) (refusal_of m)) ≡ Unanswered
      unanswered_over true off = refl
      unanswered_over false off = rw off refl

handled_kept : (store : StoreValue) (now : ℕ) (s : Connection) (m : Message)
    (rs : List ApplicationRequest) → Accounted store.applications s rs
    → Accounted store.applications (side_after store now s m) (requests_after store now s m rs)
unfolding side_after requests_after
handled_kept store now s m rs is =
    let a : Option ApplicationsValue = store.applications in
    let t : Connection = side_handled store now s m in
    elim (cases_Bool (handles s)) [
      | inl does ↦ (
          let live = (handles_parts s does).0 in
          let passed : is_for_application a m ≡ false → Accounted a t rs =
          λ other. passes_keep a s t rs (handled_passes store now s m is.server live other) is in
          rw does (there_or_not (application_deadline a m)
          (λ o. Accounted a t (cond (is_asking m) (rs ++ new_request now s m o) rs))
          (λ none. rw append-nil (cond_both (is_asking m) rs rs (Accounted a t) (λ asks. passed (rw (asks, none) refl))
          (λ other. passed (rw other refl))))
          (λ seconds some. cond_both (is_asking m) (rs ++ new_request now s m (Some seconds)) rs (Accounted a t)
          (λ asks. (let for : is_for_application a m ≡ true = rw (asks, some) refl in
          adds_keep a s t rs now m seconds _ for (running_live s.history.phase live)
          (handled_adds store now s m is.server live seconds for some) is))
          (λ other. passed (rw other refl)))))
      | inr off ↦ rw off is
    ]

-- ---- every effect

accounts_keep : (limits : LimitValues) (a : Option ApplicationsValue) → KeepsRequests limits a (Accounted a)
accounts_keep limits a = record {
  first = record { server = refl; requests = refl; pending = λ on. refl; quiet = λ off. refl; each = tt; apart = tt };
  handled = λ store now s m rs same. subst (λ b. Accounted b s rs
      → Accounted b (side_after store now s m) (requests_after store now s m rs)) same
      (handled_kept store now s m rs);
  plain = λ s t rs call. passes_keep a s t rs (plain_passes a s t (plain_between IsPlainOver same_plain
      (λ h r takes room. stops_plain h (reject_reason r) _ (abort_plain (limit_now h) (reject_reason r)))
      (λ h k within. stays_plain h _ [] (sym (append-nil h.queued)) tt (refl, refl) refl refl refl)
      (λ h cut takes. stops_plain h (end_reason cut) [] tt)
      (λ h opened none. stops_plain h ReleasedHere (release ∷ []) ((refl, refl), tt))
      (λ h n opened room fit. stays_plain h _ (own_csm n ∷ []) refl ((refl, refl), tt) (refl, refl) refl refl refl)
      s t call) (λ token. observers_plain (HaveOtherTokens token) tt s t call));
  responded = responded_kept a;
  reported = reported_kept a;
}

-- ---- after any events

module _ (c : ConfigValues) (es : List AcceptedCall) (id : ℕ) (s : Connection)
    (there : side_of id (world_after c es).sides ≡ Some s) where
  -- The requests that the application answers are accounted for.
  pub requests_accounted : Accounted c.applications s (requests_on c id es)
  requests_accounted = requests_kept c (Accounted c.applications) (accounts_keep c.limits c.applications) es id s there

  each_request : (P : ApplicationRequest → Type 0) → ((r : ApplicationRequest) → IsKept s r → P r)
      → AllByRecursion P (requests_on c id es)
  each_request P to = all_to (IsKept s) P to (requests_on c id es) requests_accounted.each

  pub requests_at : AllByRecursion (λ r. slice_get s.history.handled r.handled ≡ Some r.request) (requests_on c id es)
  requests_at = each_request _ (λ r is. is.there)

  pub requests_answered : AllByRecursion (λ r. HasFate s.history r r.fate) (requests_on c id es)
  requests_answered = each_request _ (λ r is. is.has)

  pub requests_handed : has_stopped s.history.phase ≡ false
      → AllByRecursion (λ r. is_unanswered r.fate ≡ true → r.handed ≡ true) (requests_on c id es)
  requests_handed live = each_request _ (λ r is. is.handed live)

  -- The answer to each request is the only response with its token.
  pub only_answers : AllByRecursion (HasOnlyAnswer s.history.handled s.history.queued) (requests_on c id es)
  only_answers = each_request _ (λ r is alone none. (is.only (alone, none)).1)
