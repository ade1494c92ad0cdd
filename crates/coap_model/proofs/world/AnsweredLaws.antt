-- When a Pong with Custody is queued, each request handled before its Ping already has its response, whatever happens
-- to a connection. No two such Pongs have the same Ping.
use Rattle.std.proofs.Common.{Bool, IfSome, List, None, Option, Some, [], ap, arith, false, is_none, refl, rules, subst}
use Rattle.std.proofs.Common.{sym, true, ℕ, ◌&&◌, ◌++◌, ◌==◌, ◌∙◌, ◌∷◌, ◌≡◌, ◌≤◌}
use Rattle.std.proofs.lemmas.Bool.{both_ways, cases_Bool, cond-true, cond_both, or_left}
use Rattle.std.proofs.lemmas.List.{append-nil, length-append}
use Rattle.std.proofs.lemmas.Grind.{common_steps}
use lib.Pointwise.{bytes_decides}
use Rattle.coap_model.specs.Prelude.{AcceptedCall, AllByRecursion, Answer, Application, ApplicationsValue, Bare}
use Rattle.coap_model.specs.Prelude.{ConfigValues, Connection, CorrespondTo, Engine, FollowsAnswers, History}
use Rattle.coap_model.specs.Prelude.{LimitValues, Message, Observer, PendingEntryValue, Phase, Pong, Reaction, Reason}
use Rattle.coap_model.specs.Prelude.{Reply, Responder, Response, Server, Stopped, StoreValue, Whole, after, after_sent}
use Rattle.coap_model.specs.Prelude.{answers, asks_answer, asks_custody, asks_with, awaits, bare_response, first_due}
use Rattle.coap_model.specs.Prelude.{fit, goes_on, is_asking, is_custody_pong, is_request, is_response, late_message}
use Rattle.coap_model.specs.Prelude.{late_response, limit_now, link_of, list_any, next_due, notification, notified}
use Rattle.coap_model.specs.Prelude.{own_csm, pong_with, prompt_answer, react, reaction_unless, reject_reason, release}
use Rattle.coap_model.specs.Prelude.{responds, response_refusal, response_with_observe, same_bytes, send, send_as}
use Rattle.coap_model.specs.Prelude.{side_after, side_handled, side_of, state_now, state_without, stop_of, takes}
use Rattle.coap_model.specs.Prelude.{takes_messages, with_effect, without_due, without_request, world_after}
use Rattle.coap_conn.proofs.PendingLaws.{custody_at_once, due_answer, due_pong}
use Rattle.coap_conn.proofs.ReactionLaws.{IsNoPong, IsPlain, MayFollow, abort_plain, live_so}
use Rattle.coap_conn.specs.Calls as call
use Rattle.coap_wire.specs.Codes as code
use Rattle.coap_model.proofs.world.WalkLaws.{answer_goes, due_is, plain_between, received, responded_between}
use Rattle.coap_model.proofs.world.WalkLaws.{without_first}
use Rattle.coap_model.proofs.world.GoingOn.{Keeps, kept_after}
use Rattle.coap_model.proofs.world.SideLaws.{handles_parts, pending_room, settled_cases}
use Rattle.coap_model.proofs.world.QueuedMessages.{open_answers}
use Rattle.coap_model.proofs.world.CustodyLaws.{bare_no_pong, handled_cases, request_quiet, response_no_pong}
use Rattle.coap_model.proofs.world.AnswerCounts.{AllFollow, AtMost, FollowsPing, Tally, all_asked, count_more}
use Rattle.coap_model.proofs.world.AnswerCounts.{follow_at, follow_grows, follow_longer, follow_then, follow_without}
use Rattle.coap_model.proofs.world.AnswerCounts.{one, own_answers, pending, pending_count, plus, pong_claim, pong_token}
use Rattle.coap_model.proofs.world.AnswerCounts.{pongs_after, pongs_are, pongs_in, pongs_more, pongs_none, pongs_other}
use Rattle.coap_model.proofs.world.AnswerCounts.{queue, requests, responses}
use Rattle.coap_model.proofs.world.AnswerCodes.{bare_coded, coded, prompt_coded}
use Rattle.coap_model.proofs.world.EntryLemmas.{all_to}
use Rattle.coap_model.proofs.world.RespondedLaws.{allowed, answered_request, plain_codes, response_is_no_pong}

abbrev nothing : Tally
nothing token = 0

-- ---- a history with responses still to be queued

-- `first` counts those to be queued before the pending entries, `total` counts all.
record FollowsBut (first total : Tally) (handled queued : List Message) (entries : List PendingEntryValue)
    (now : Phase) : Type 0 where
  pongs : AllFollow queue handled nothing [] queued
  rest : AllFollow pending handled (plus first (responses queued)) (pongs_in queued) entries
  all : takes_messages now ≡ true → AtMost (requests handled)
      (plus (plus total (responses queued)) (pending_count entries))
  quiet : answers now ≡ false → entries ≡ []

abbrev OwesStill : Tally → Tally → History → Type 0
OwesStill first total h = FollowsBut first total h.handled h.queued h.pending h.phase

abbrev PongsFollow : History → Type 0
PongsFollow h = OwesStill nothing nothing h

-- Messages without such a Pong are queued before the pending entries.
rest_after : (n : Tally) (ms qs more : List Message) (es : List PendingEntryValue) → AllByRecursion IsNoPong more
    → AllFollow pending ms n (pongs_in qs) es → AllFollow pending ms n (pongs_in (qs ++ more)) es
rest_after n ms qs more es others =
    subst (λ ps. AllFollow pending ms n ps es)
    (sym (pongs_more queue [] qs more ∙ pongs_none (pongs_in qs) more others))

-- More messages are queued, with a Pong with Custody only if one may be queued.
module _ {b d : Tally} {ms qs : List Message} {es : List PendingEntryValue} {p : Phase} (is : FollowsBut b d ms qs es p)
    (more : List Message) where
  pongs_may : AllFollow queue ms (responses qs) (pongs_in qs) more → AllFollow queue ms nothing [] (qs ++ more)
  pongs_may may = follow_then queue ms nothing (responses qs) [] qs more (omega arith) is.pongs may

  -- An owed response is among them, or is still owed.
  more_follows : {c f : Tally} {q : Phase} → AllFollow queue ms (responses qs) (pongs_in qs) more
      → AllFollow pending ms (plus b (responses qs)) (pongs_in (qs ++ more)) es
      → (answers q ≡ false → answers p ≡ false) → (takes_messages q ≡ true → takes_messages p ≡ true)
      → AtMost b (plus c (responses more)) → AtMost d (plus f (responses more)) → FollowsBut c f ms (qs ++ more) es q
  more_follows {c} may rest on takes first total =
      grind (arith, pongs_may, follow_grows, pending, responses, count_more, is.all, is.quiet)

  -- There is no such Pong among them.
  none_follow : {c f : Tally} {q : Phase} → AllByRecursion IsNoPong more → (answers q ≡ false → answers p ≡ false)
      → (takes_messages q ≡ true → takes_messages p ≡ true) → AtMost b (plus c (responses more))
      → AtMost d (plus f (responses more)) → FollowsBut c f ms (qs ++ more) es q
  none_follow others = search (rules, more_follows, pongs_other, responses, rest_after)

  -- The phase of the connection is unchanged.
  same_follows : {c f : Tally} → AllByRecursion IsNoPong more → AtMost b (plus c (responses more))
      → AtMost d (plus f (responses more)) → FollowsBut c f ms (qs ++ more) es p
  same_follows others = none_follow others (λ off. off) (λ live. live)

  -- Or the connection stops.
  over_follows : {c f : Tally} {q : Phase} → AllByRecursion IsPlain more → takes_messages q ≡ false
      → FollowsBut c f ms (qs ++ more) [] q
  over_follows plain over = grind (arith, pongs_may, pongs_other, responses, all_to, both_ways)

-- One more entry is pending.
pending_follows : {b d f : Tally} {ms qs : List Message} {es : List PendingEntryValue} {p : Phase}
    → FollowsBut b d ms qs es p → (e : PendingEntryValue)
    → IfSome (pong_token e) (FollowsPing ms (plus (plus b (responses qs)) (pending_count es))
    (pongs_after pending (pongs_in qs) es))
    → answers p ≡ true → AtMost d (plus f (pending_count (e ∷ []))) → FollowsBut b f ms qs (es ++ e ∷ []) p
pending_follows {b} {ms = ms} {qs = qs} {es = es} {p = p} is e may on total = record {
  pongs = is.pongs;
  rest =
      follow_then pending ms (plus b (responses qs)) (plus (plus b (responses qs)) (pending_count es)) (pongs_in qs) es
      (e ∷ []) (omega arith) is.rest (may, tt);
  all = λ takes t. omega (arith, is.all takes t, total t, count_more (awaits t) es (e ∷ []));
  quiet = λ off. absurd (both_ways (answers p) off on);
}

-- ---- a response

-- A response with this token is still to be queued.
abbrev OwesToken : Tally → List ℕ → Type 0
OwesToken d token = (other : List ℕ) → d other ≤ one (same_bytes token other)

-- The message may be queued before these entries, and reduces both counts.
record IsPaying (b d : Tally) (h : History) (es : List PendingEntryValue) (m : Message) : Type 0 where
  may : AllFollow queue h.handled (responses h.queued) (pongs_in h.queued) (m ∷ [])
  rest : AllFollow pending h.handled (plus b (responses h.queued)) (pongs_in (h.queued ++ m ∷ [])) es
  first : AtMost b (plus nothing (responses (m ∷ [])))
  total : AtMost d (plus nothing (responses (m ∷ [])))

module _ {b d : Tally} (h : History) (es : List PendingEntryValue)
    (is : FollowsBut b d h.handled h.queued es h.phase) where
  -- A message that is no Pong with Custody.
  other_pays : (m : Message) → IsNoPong m → AtMost b (plus nothing (responses (m ∷ [])))
      → AtMost d (plus nothing (responses (m ∷ []))) → IsPaying b d h es m
  other_pays m other first total = search (rules, pongs_other, responses, rest_after)

  paid_follows : (m : Message) → IsPaying b d h es m
      → FollowsBut nothing nothing h.handled (h.queued ++ m ∷ []) es h.phase
  paid_follows m pays =
      more_follows is (m ∷ []) pays.may pays.rest (λ off. off) (λ live. live) pays.first pays.total

  -- A message is sent when these entries are pending.
  send_follows : (m less : Message) → IsPaying b d h es m → IsPaying b d h es less → (r : Reply)
      → PongsFollow (with_effect h (send_as (record (state_now h) { pending = es }) m less r))
  send_follows m less whole bare Whole = paid_follows m whole
  send_follows m less whole bare Bare = paid_follows less bare
  send_follows m less whole bare Stopped = over_follows is [] tt refl

token_pays : (b : Tally) (m : Message) → OwesToken b m.token → is_response m ≡ true
    → AtMost b (plus nothing (responses (m ∷ [])))
token_pays b m owes is = grind arith

-- A response that is owed.
response_pays : (b d : Tally) (h : History) (es : List PendingEntryValue) → FollowsBut b d h.handled h.queued es h.phase
    → (m : Message) → OwesToken b m.token → OwesToken d m.token → is_response m ≡ true → IsPaying b d h es m
response_pays b d h es is m first total responds =
    other_pays h es is m (response_is_no_pong m responds) (token_pays b m first responds)
    (token_pays d m total responds)

owed_follows : (b d : Tally) (h : History) → OwesStill b d h → (token : List ℕ) (observe : Bool) (r : Response)
    → answers h.phase ≡ true → coded r.code ≡ true → OwesToken b token → OwesToken d token
    → PongsFollow (after h (call.Reply (response_with_observe token observe r)))
owed_follows b d h is token observe r on is_coded first total =
    search (rules, cond-true, send_follows, response_pays, bare_coded)

-- ---- a message that is handled

module _ (h : History) (m : Message) (server : h.role ≡ Server) (live : takes_messages h.phase ≡ true)
    (is : PongsFollow h) where
  abbrev now_handled : List Message
  now_handled = h.handled ++ m ∷ []

  -- If the message is a request, a response is owed.
  request_follows : FollowsBut nothing (λ t. one (asks_with t m)) now_handled h.queued h.pending h.phase
  request_follows = grind (arith, follow_longer, queue, pending, responses, is.all, count_more)

  -- The messages handled before asked for the Pongs that are queued or pending.
  queued_asked : CorrespondTo None h.handled (pongs_in h.queued)
  unfolding CorrespondTo
  queued_asked = all_asked queue h.handled nothing [] h.queued is.pongs tt

  pending_asked : CorrespondTo None h.handled (pongs_after pending (pongs_in h.queued) h.pending)
  pending_asked =
      all_asked pending h.handled (plus nothing (responses h.queued)) (pongs_in h.queued) h.pending is.rest queued_asked

  -- The reaction leaves a response owed only for a request.
  abbrev owed : Reaction → Tally
  owed r t = one (is_request r.verdict && asks_with t m)

  abbrev Claim : Reaction → Type 0
  Claim r = (list_any is_custody_pong r.effect.queued ≡ true → h.pending ≡ [])
      → FollowsBut nothing (owed r) now_handled (h.queued ++ r.effect.queued) r.effect.pending r.effect.phase

  unrequested : (n : Tally) → is_asking m ≡ false → AtMost (λ t. one (asks_with t m)) n
  unrequested n other t = omega (arith, ap (λ (b : Bool). one (b && same_bytes m.token t)) other)

  ping_follows : (n : Tally) (ps : List PendingEntryValue) → AtMost (requests h.handled) n
      → CorrespondTo None h.handled ps → (m.code == code.ping) ≡ true → asks_custody m ≡ true
      → FollowsPing now_handled n ps m.token
  ping_follows n ps few own ping custody = search (rules, bytes_decides)

  -- A Pong with Custody is queued at once only if nothing is pending.
  module _ (n : Message) (may : MayFollow (state_now h) m n) (alone : is_custody_pong n ≡ true → h.pending ≡ []) where
    may_follow : is_custody_pong n ≡ true → FollowsPing now_handled (responses h.queued) (pongs_in h.queued) n.token
    may_follow custody = grind (arith, may.pong, ping_follows, responses, is.all, queued_asked)

    rest_follows : AllFollow pending now_handled (plus nothing (responses h.queued)) (pongs_in (h.queued ++ n ∷ []))
        h.pending
    rest_follows = grind (arith, cases_Bool, rest_after, responses, request_follows.rest)

    alone_follows : {f : Tally} → is_asking m ≡ false
        → FollowsBut nothing f now_handled (h.queued ++ n ∷ []) h.pending h.phase
    alone_follows other =
        search (rules, more_follows, request_follows, pong_claim, may_follow, rest_follows, unrequested)

  unless_follows : (over : Option Reason) → is_none over ≡ true → Claim (reaction_unless (state_now h) m over)
  unless_follows None none = live_so (state_now h) m Claim (record {
    requested = λ first. same_follows request_follows [] tt (omega arith) (omega arith);
    silent = λ now outstanding what other may on first. none_follow request_follows [] tt on (λ takes. live)
        (omega arith) (unrequested _ other);
    stops = λ why farewell what plain one may first. over_follows request_follows farewell plain refl;
    queues = λ n what may first. alone_follows n may (λ custody. first (or_left _ false custody)) (may.plain server).1;
    keeps = λ now other ping custody some first. (
        let still : FollowsBut nothing nothing now_handled (h.queued ++ []) h.pending h.phase =
        same_follows request_follows [] tt (omega arith) (unrequested nothing other) in
        pending_follows still (Pong m.token)
        (ping_follows _ _ (λ t. omega (arith, is.all live t, count_more (responds t) h.queued []))
        (subst (λ qs. CorrespondTo None h.handled (pongs_after pending (pongs_in qs) h.pending))
        (sym (append-nil h.queued)) pending_asked) ping custody)
        (grind arith) (omega arith)
        );
  })
  unless_follows (Some why) none = absurd cc

  -- The history after the message.
  received_follows : OwesStill nothing (owed (react (state_now h) m)) (after h (call.Handle m))
  unfolding react
  received_follows =
      subst (OwesStill nothing (owed (react (state_now h) m)))
      (sym (cond-true (takes_messages h.phase) (received h m) h live))
      (unless_follows (stop_of h.phase) live (custody_at_once (state_now h) m))

-- ---- a request and its response

module _ (store : StoreValue) (now : ℕ) (s : Connection) (m : Message) (server : s.history.role ≡ Server)
    (is : PongsFollow s.history) where
  abbrev received_so : History
  received_so = after s.history (call.Handle m)

  -- A request owes at most one response with its own token.
  abbrev owed_so : Bool → Tally
  owed_so asks t = one (asks && asks_with t m)

  owed_token : (asks : Bool) → OwesToken (owed_so asks) m.token
  owed_token asks t = grind arith

  handled_follows : OwesStill nothing (owed_so (asks_answer s m)) received_so
      → PongsFollow (side_handled store now s m).history
  handled_follows received =
      handled_cases store now s m (λ t. PongsFollow t.history)
      (λ other. grind (arith, received))
      (λ asks by moment requested. pending_follows received (Answer by m.token moment) tt
      (open_answers received_so.phase (request_quiet s m asks).1)
      (λ t. omega (arith, owed_token (asks_answer s m) t)))
      (λ asks. owed_follows nothing (owed_so (asks_answer s m)) received_so received m.token _
      (prompt_answer store now m).response
      (open_answers received_so.phase (request_quiet s m asks).1) (prompt_coded store now m) (omega arith)
      (owed_token (asks_answer s m)))

  after_follows : PongsFollow (side_after store now s m).history
  unfolding side_after
  after_follows = grind (arith, common_steps, cond_both, handled_follows, received_follows, handles_parts)

-- ---- settling

module _ (h : History) (is : PongsFollow h) (before : List PendingEntryValue) (e : PendingEntryValue)
    (rest : List PendingEntryValue) (there : h.pending ≡ before ++ e ∷ rest) where
  -- If an entry is pending, responses are sent.
  pending_on : answers h.phase ≡ true
  pending_on = grind (arith, is.quiet, length-append before (e ∷ rest))

  -- The response of a removed entry is still to be queued.
  let_go : FollowsBut (pending_count (e ∷ [])) (pending_count (e ∷ [])) h.handled h.queued (before ++ rest) h.phase
  let_go = grind (arith, follow_without, pending, responses, is.all, count_more, both_ways, pending_on)

late_coded : (by : Responder) → coded (late_response by).code ≡ true
late_coded Engine = refl
late_coded Application = refl

sent_due : (h : History) (now : ℕ) (e : PendingEntryValue) → first_due now h.pending ≡ Some e → PongsFollow h
    → PongsFollow (after_sent h now e)
sent_due h now (Answer by token moment) due is =
    let first = due_answer now h.pending by token moment due in
    let e : PendingEntryValue = Answer by token moment in
    let n : Tally = pending_count (e ∷ []) in
    let left : OwesStill n n (without_first h now) = grind (arith, let_go) in
    subst (λ (g : History). PongsFollow (after g (call.Reply (late_message by token))))
    (sym (answer_goes h now by token moment due))
    (owed_follows n n (without_first h now) left token false (late_response by)
    (pending_on h is first.before e first.after first.there) (late_coded by) (omega arith) (omega arith))
sent_due h now (Pong token) due is =
    let there = due_pong now h.pending token due in
    let later : List PendingEntryValue = without_due now h.pending in
    let n : Tally = pending_count (Pong token ∷ []) in
    let queued : Tally = responses h.queued in
    let left = let_go h is [] (Pong token) later there in
    let whole : IsPaying n n h later (pong_with true token) =
    grind (arith, follow_at, pending, pongs_more, queue, follow_grows) in
    subst PongsFollow (sym (due_is h now (Some (Pong token)) due))
    (send_follows h later left (pong_with true token) (pong_with false token) whole
    (other_pays h later left (pong_with false token) refl (omega arith) (omega arith))
    (fit (state_now h).limit (pong_with true token) (pong_with false token)))

-- A response of the application answers a request that is pending.
responded_follows : (h : History) (m : Message) → response_refusal (link_of h) m ≡ None → PongsFollow h
    → PongsFollow (with_effect h (send (state_without m.token (state_now h)) m (bare_response m)))
responded_follows h m none is =
    let first = answered_request (link_of h) m none in
    let e : PendingEntryValue = Answer Application m.token first.moment in
    let codes = plain_codes m (allowed (link_of h) m none).plain in
    let n : Tally = pending_count (e ∷ []) in
    let left : FollowsBut n n h.handled h.queued (without_request m.token h.pending) h.phase = grind (arith, let_go) in
    let others = without_request m.token h.pending in
    send_follows h others left m (bare_response m)
    (response_pays n n h others left m (omega arith) (omega arith) codes.0)
    (response_pays n n h others left (bare_response m) (omega arith) (omega arith) codes.1)
    (fit (limit_now h) m (bare_response m))

-- A notification is a response that nobody is owed.
notified_follows : (store : StoreValue) (now : ℕ) (s : Connection) (found : Option Observer) → PongsFollow s.history
    → PongsFollow (notified store now s found).history
notified_follows store now s None is = is
notified_follows store now s (Some o) is =
    let r : Response = notification store now o in
    let h : History = s.history in
    let m : Message = response_with_observe o.token (goes_on r) r in
    let pays : (n : Message) → IsNoPong n → IsPaying nothing nothing h h.pending n =
    λ n none. other_pays h h.pending is n none (omega arith) (omega arith) in
    cond_both (answers h.phase) _ h PongsFollow
    (λ does. send_follows h h.pending is m (bare_response m) (pays m (response_no_pong o.token (goes_on r) r))
    (pays (bare_response m) (bare_no_pong m)) (fit (limit_now h) m (bare_response m))) (λ off. is)

-- ---- properties of every connection

follows_keeps : (limits : LimitValues) (a : Option ApplicationsValue) → Keeps limits a (λ s. PongsFollow s.history)
follows_keeps limits a = let R : History → History → Type 0 = λ h k. PongsFollow h → PongsFollow k in record {
  first = record { pongs = (tt, tt); rest = tt; all = λ takes t. omega arith; quiet = λ off. refl };
  handled = λ store now s m same side is. after_follows store now s m side.is_server is;
  plain = plain_between R (λ h is. is)
      (λ h fault takes room is. over_follows is _ (abort_plain (limit_now h) (reject_reason fault)) refl)
      (λ h n within is. is) (λ h cut takes is. over_follows is [] tt refl)
      (λ h opened none is. over_follows is (release ∷ []) ((refl, refl), tt) refl)
      (λ h size opened room fit is. same_follows is (own_csm size ∷ []) (refl, tt) (omega arith) (omega arith));
  responded = responded_between R (λ h is. is) (λ h m answering none is. responded_follows h m none is);
  reported = λ store now s is. settled_cases store now s (λ t. PongsFollow t.history)
      (λ e found. sent_due s.history now e (pending_room now s e found).1 is)
      (λ none. notified_follows store now s (next_due store now s) is);
}

-- After any events, a Pong with Custody follows the responses to all requests before its Ping.
pub pong_follows_answers : (c : ConfigValues) (es : List AcceptedCall) (id : ℕ) (s : Connection) (before : List Message)
    (pong : Message) (rest : List Message) → side_of id (world_after c es).sides ≡ Some s
    → s.history.queued ≡ before ++ pong ∷ rest → is_custody_pong pong ≡ true
    → FollowsAnswers s.history.handled pong before
pong_follows_answers c es id s before pong rest there queued custody =
    let is : PongsFollow s.history =
    kept_after c (λ t. PongsFollow t.history) (follows_keeps c.limits c.applications) es id s there in
    let at : FollowsPing s.history.handled (responses before) (pongs_in before) pong.token =
    rw custody at (follow_at queue s.history.handled nothing (responses before) [] before pong rest (omega arith)
    (subst (AllFollow queue s.history.handled nothing []) queued is.pongs)) in
    record {
      earlier = at.earlier;
      ping = at.ping;
      later = at.later;
      there = at.there;
      asks = at.asks;
      own = subst (CorrespondTo None at.earlier) (pongs_are [] before) at.own;
      answered = own_answers at.earlier before at.few;
    }
