-- The histories of the parts of a turn.
use Rattle.std.proofs.Common.{ℕ, is_some, ◌≡◌, ◌≢◌, ◌+◌, ◌<◌, ◌||◌, not, nat_lt, true, false, List, [], ◌∷◌, ◌++◌, take}
use Rattle.std.proofs.Common.{length, drop, Option, Some, None, IfSome, append_assoc, arith, option_map, refl, ◌∙◌, inl}
use Rattle.std.proofs.Common.{inr, ◌≤◌, ◌==◌, Bool, add-one, is_none}
use Rattle.std.proofs.lemmas.Bool.{and_parts, ltb-true}
use Rattle.std.proofs.lemmas.Bool.Decides.{nat_tests}
use Rattle.std.proofs.lemmas.Bool.{eqb-true}
use Rattle.std.proofs.lemmas.List.{append-nil, length-drop, length-take, nil_from_length}
use Rattle.std.proofs.Math.Bool.{or_assoc}
use Rattle.coap_serve.specs.Prelude.{ShowsMore, FollowsMore, Following, opening, ServerValue, count_taken, server_taken}
use Rattle.coap_serve.specs.Prelude.{ConnectionWork, IsReasonFor, SessionValue, session_work, AcceptedCall, Took, Got}
use Rattle.coap_serve.specs.Prelude.{Answering, AnswersMore, Exchange, HasServed, HasTurned, AreSteps, IsTakenWith, End}
use Rattle.coap_serve.specs.Prelude.{AddsCalls, DoorCall, door_only, AreCallsBetween, Continues, HasAccepted, History}
use Rattle.coap_serve.specs.Prelude.{IsAccepted, Journal, calls_only, history_then, journal, no_history, one_drop, Peer}
use Rattle.coap_serve.specs.Prelude.{Bytes, read_events, AreOpened, HasSwept, LoopState, NotOpened, Sweep, VisitsMade}
use Rattle.coap_serve.specs.Prelude.{Closed, drop_one, opened_for, open_refusal, is_there, server_read, server_wrote}
use Rattle.coap_serve.specs.Prelude.{wrote_events, Reason, handed_by, NoStep, OneMore, IsTakenInPart, have_moved, moves}
use Rattle.coap_serve.specs.Prelude.{kept_unless, kept_rest, BytesTaken, BytesWritten, ConnectionDropped, InputEnded}
use Rattle.coap_serve.specs.Prelude.{Message, DropReason, AreMade, ask_result, asking, message_limit, offered_events}
use Rattle.coap_serve.specs.Prelude.{served, IsPartlyServed, AreRequestedLater, IsRequestedLater, AreGivenLater}
use Rattle.coap_serve.specs.Prelude.{NothingGiven, OneMoreGiven}
use Rattle.coap_io.specs.streams.DeviceTraces.{Requested}
use Rattle.coap_io.proofs.streams.DeviceLemmas.{no_calls, calls_then}
use Rattle.coap_server_engine.specs.values.ApplicationCalls.{IsServed as IsServedWith}
use Rattle.coap_server_engine.proofs.scripting.ShownLemmas.{shows_same, shows_then}
use Rattle.coap_server_engine.proofs.scripting.FollowLemmas.{followed_none, followed_then}

-- ---- exchanges one after the other

pub answered_none : (p : Answering) → AnswersMore p p []
unfolding AnswersMore
answered_none p earlier so_far = rw append-nil so_far

pub answered_then : (p q r : Answering) (xs ys : List Exchange) → AnswersMore p q xs → AnswersMore q r ys
    → AnswersMore p r (xs ++ ys)
unfolding AnswersMore
answered_then p q r xs ys one two earlier so_far =
    rw (← append_assoc earlier xs ys) (two (earlier ++ xs) (one earlier so_far))

-- ---- histories one after another

pub then_none : {W : Type 0} {h : History W} → history_then h no_history ≡ h
then_none = rw (append-nil, append-nil, append-nil) refl

pub then_assoc : {W : Type 0} (h k l : History W)
    → history_then (history_then h k) l ≡ history_then h (history_then k l)
then_assoc h k l = rw (append_assoc, append_assoc, append_assoc) refl

pub continued_none : {W : Type 0} (a : Journal W) → Continues a a no_history
continued_none a = search (followed_none, answered_none, no_calls)

pub continued_then : {W : Type 0} {a b c : Journal W} (h more : History W) → Continues a b h → Continues b c more
    → Continues a c (history_then h more)
continued_then h more one two = search (followed_then, answered_then, calls_then)

pub accepted_none : {W : Type 0} (a : Journal W) (v after : ServerValue) → after ≡ v
    → IsAccepted (Continues a a) v after no_history
accepted_none a v after is = search (shows_same, continued_none)

pub accepted_then : {W : Type 0} {a b c : Journal W} {u v w : ServerValue} {h more : History W}
    → IsAccepted (Continues a b) u v h → IsAccepted (Continues b c) v w more
    → IsAccepted (Continues a c) u w (history_then h more)
accepted_then one two = search (shows_then, continued_then)

-- ---- calls of the server or the listener alone

module _ {W : Type 0} {a b : Following} {p : Answering} {d : Option (List (DoorCall W))} where
  pub calls_known : {events : List AcceptedCall} → FollowsMore a b events
      → Continues (journal a p d) (journal b p d) (calls_only events)
  calls_known follows = search (answered_none, no_calls)

  pub calls_accepted : {v after : ServerValue} {events : List AcceptedCall} → AreCallsBetween a b v after events
      → IsAccepted (Continues (journal a p d) (journal b p d)) v after (calls_only events)
  calls_accepted made = search calls_known

pub door_known : {W : Type 0} {a : Following} {p : Answering} {d e : Option (List (DoorCall W))}
    {calls : List (DoorCall W)} → AddsCalls d e calls → Continues (journal a p d) (journal a p e) (door_only calls)
door_known called = search (followed_none, answered_none)

module _ {W : Type 0} {a b : Following} {p q : Answering} {d e : Option (List (DoorCall W))} {calls : List (DoorCall W)}
    (called : AddsCalls d e calls) where
  -- The listener had the calls that it was to have.
  accepted_called : {v after : ServerValue} {h : History W}
      → IsAccepted (Continues (journal a p (Some [])) (journal b q (Some calls))) v after h
      → IsAccepted (Continues (journal a p d) (journal b q e)) v after h
  accepted_called {h = h} one =
      let is : calls ≡ h.calls = cc one.known.called in
      let called = rw is at called in
      search called

  pub made_called : {Made : History W → Type 0} {v after : ServerValue}
      → HasAccepted Made (Continues (journal a p (Some [])) (journal b q (Some calls))) v after
      → HasAccepted Made (Continues (journal a p d) (journal b q e)) v after
  made_called one = search accepted_called

  pub swept_called : {s : Sweep W} {v after : ServerValue}
      → HasSwept (Continues (journal a p (Some [])) (journal b q (Some calls))) s v after
      → HasSwept (Continues (journal a p d) (journal b q e)) s v after
  swept_called one = search accepted_called

-- ---- steps one after the other

module _ {W : Type 0} {Step : ServerValue → ServerValue → History W → Type 0} where
  pub steps_then : {u v w : ServerValue} {h k : History W} → AreSteps Step u v h → AreSteps Step v w k
      → AreSteps Step u w (history_then h k)
  steps_then one NoStep = rw then_none one
  steps_then {h = h} one (OneMore w after g more so_far step) =
      rw (← then_assoc h g more) (OneMore w after (history_then h g) more (steps_then one so_far) step)

  pub one_step : {v after : ServerValue} {h : History W} → Step v after h → AreSteps Step v after h
  one_step {v = v} {after = after} {h = h} step = OneMore v after no_history h NoStep step

  pub both_made : {a b c : Journal W} {u v w : ServerValue} → HasAccepted (AreSteps Step u v) (Continues a b) u v
      → HasAccepted (AreSteps Step v w) (Continues b c) v w → HasAccepted (AreSteps Step u w) (Continues a c) u w
  both_made one two = record {
    history = history_then one.history two.history;
    made = steps_then one.made two.made;
    accepted = accepted_then one.accepted two.accepted;
  }

  pub none_made : (a : Journal W) {v after : ServerValue} → after ≡ v
      → HasAccepted (AreSteps Step v after) (Continues a a) v after
  none_made a {v = v} {after = after} is =
      record { history = no_history; made = rw is NoStep; accepted = accepted_none a v after is }

  -- Steps without an exchange.
  pub calls_made : {a b : Following} {p : Answering} {d : Option (List (DoorCall W))} {v after : ServerValue}
      {events : List AcceptedCall} → AreSteps Step v after (calls_only events) → AreCallsBetween a b v after events
      → HasAccepted (AreSteps Step v after) (Continues (journal a p d) (journal b p d)) v after
  calls_made steps made = record { history = _; made = steps; accepted = calls_accepted made }

-- The connection was dropped.
pub dropped_served : {W : Type 0} {Known : History W → Type 0} {v after : ServerValue} (e : ℕ × Peer W)
    → HasSwept Known (drop_one v e) v after → HasServed Known v after
dropped_served e one = record {
  history = one_drop e.0 e.1.wire;
  made = rw one.server (one_step (ConnectionDropped e.0 e.1.wire));
  accepted = one.accepted;
}

-- ---- reads and writes

pub none_called : {a : Following} {v after : ServerValue} → after ≡ v → AreCallsBetween a a v after []
none_called is = search (shows_same, followed_none)

-- A read that did not find the end.
pub read_called : {a : Following} {v after : ServerValue} (id : ℕ) (got : Got) → got ≢ End → after ≡ v
    → AreCallsBetween a a v after (read_events id got)
read_called id End apart is = absurd (apart refl)
read_called {a = a} {v = v} {after = after} id got apart is = none_called is

module _ {W : Type 0} {a b : Following} {p : Answering} {d : Option (List (DoorCall W))} {v after : ServerValue} where
  pub read_served : (id : ℕ) (got : Got) → after ≡ server_read v id got
      → AreCallsBetween a b v after (read_events id got) → HasServed (Continues (journal a p d) (journal b p d)) v after
  read_served id End is made = calls_made (rw is (one_step (InputEnded id))) made
  read_served id got is made = calls_made (rw is NoStep) made

  pub wrote_served : (id : ℕ) (wrote : Got) → after ≡ server_wrote v id wrote
      → AreCallsBetween a b v after (wrote_events id wrote)
      → HasServed (Continues (journal a p d) (journal b p d)) v after
  wrote_served id (Bytes n) is made = calls_made (rw is (one_step (BytesWritten id n))) made
  wrote_served id wrote is made = calls_made (rw is NoStep) made

-- ---- dropped connections

-- The reason of a drop is right for the work left on the connection.
pub reason_left : (now : ℕ) (o : Option SessionValue) (why : DropReason) → is_there o ≡ true
    → IfSome (option_map (session_work now) o) (IsReasonFor why)
    → (work : ConnectionWork) × (option_map (session_work now) o ≡ Some work) × IsReasonFor why work
reason_left now o why there is = grind arith

-- A connection that exists has some work left.
pub work_left : (now : ℕ) (o : Option SessionValue) → is_there o ≡ true
    → (work : ConnectionWork) × (option_map (session_work now) o ≡ Some work) × Unit {0}
work_left now None there = absurd cc
work_left now (Some s) there = (session_work now s, refl, tt)

-- ---- transfers

pub moved_then : (xs ys : List AcceptedCall) → have_moved (xs ++ ys) ≡ (have_moved xs || have_moved ys)
moved_then [] ys = refl
moved_then (x ∷ xs) ys = rw (moved_then xs ys, or_assoc (moves x) (have_moved xs) (have_moved ys)) refl

-- A response transfers no byte.
none_offered : (v : ServerValue) (id : ℕ) (bytes : List ℕ) → have_moved (offered_events v id bytes) ≡ false
none_offered v id bytes = grind arith

none_requested : (v : ServerValue) (id limit : ℕ) (response : List ℕ) (o : Option Message)
    → have_moved (asking v id limit response o).events ≡ false
none_requested v id limit response o = grind (arith, none_offered)

-- Some bytes are left, and a take accepted `k` of them.
some_taken : (c k : ℕ) (left : List ℕ) → 0 < length left
    → (nat_lt 0 c || (nat_lt 0 (length (take k left)) || false)) ≡ nat_lt 0 (c + k)
some_taken c k left some = grind (arith, nat_tests, length-take k left)

-- The takes of a connection transfer bytes if they accept some.
served_moved : (v : ServerValue) (id : ℕ) (bytes : List ℕ) (responses : List (List ℕ)) → AreMade v id bytes responses
    → have_moved (served v id bytes responses).events ≡ nat_lt 0 (served v id bytes responses).fed.count
unfolding served
served_moved v id bytes [] made = refl
served_moved v id bytes (response ∷ responses) made =
    let f = (served v id bytes responses).fed in
    let more = ltb-true f.count (length bytes) (and_parts (nat_lt f.count (length bytes)) (not f.done) made.0).0 in
    let left = drop f.count bytes in
    let k = count_taken f.server id left in
    moved_then (served v id bytes responses).events
    (Took id (take k left) ∷ (ask_result f.server id left response).events)
    ∙ rw (
      served_moved v id bytes responses made.1,
      none_requested (server_taken f.server id left) id (message_limit f.server id) response
          (handed_by f.server id left),
    )
    (some_taken f.count k left (omega (arith, more, length-drop f.count bytes)))

-- ---- calls of take for an application

-- The bytes that are kept, if the connection processes further messages.
pub rest_kept : (stop : Option Reason) {left rest : List ℕ} → is_some stop ≡ false → left ≡ rest
    → left ≡ kept_unless stop rest
rest_kept stop going is = grind arith

pub none_left : (stop : Option Reason) {left rest : List ℕ} → (length left == 0) ≡ true → left ≡ rest
    → left ≡ kept_unless stop rest
none_left stop {left = left} empty is =
    let none = nil_from_length left (eqb-true (length left) 0 empty) in grind (arith, none)

pub none_kept : (stop : Option Reason) {left : List ℕ} (rest : List ℕ) → is_some stop ≡ true → left ≡ []
    → left ≡ kept_unless stop rest
none_kept stop rest stopped is = grind arith

-- The history of takes for an application.
abbrev answered : {W : Type 0} → ServerValue → ℕ → List ℕ → List (List ℕ) → History W
answered v id bytes responses = record {
  events = (served v id bytes responses).events;
  exchanges = (served v id bytes responses).exchanges;
  calls = [];
}

-- The same takes, whose history is known.
served_so : {v after : ServerValue} {id count : ℕ} {bytes : List ℕ} {monitor : List AcceptedCall → Type 0}
    {asks told : List Exchange → Type 0} (part : IsServedWith v id bytes count after monitor asks)
    → told (served v id bytes part.responses).exchanges
    → IsServedWith v id bytes count after (λ all. (served v id bytes part.responses).events ≡ all) told
served_so part exchanged = search part

pub taken_in_part : {A W : Type 0} (follows : A → Answering) (one other : A) (a b : Following) {v after : ServerValue}
    (id count : ℕ) (bytes : List ℕ) {left : List ℕ} {d : Option (List (DoorCall W))}
    → IsServedWith v id bytes count after (FollowsMore a b) (AnswersMore (follows one) (follows other))
    → left ≡ kept_rest after id count bytes → HasAccepted
    (λ h. IsTakenInPart (IsTakenWith follows) v id bytes left (record { server = after; count = count; history = h }))
    (Continues (journal a (follows one) d) (journal b (follows other) d)) v after
taken_in_part follows one other a b {v = v} id count bytes {d = d} part rest = record {
  history = answered v id bytes part.responses;
  made = record {
    took = (refl, served_so part (refl, one, other, part.exchanged));
    rest = rest;
    moved = rw part.counted (served_moved v id bytes part.responses part.made);
  };
  accepted = search no_calls;
}

module _ {W : Type 0} {a b : Following} {p q : Answering} {d : Option (List (DoorCall W))} {v after : ServerValue} where
  pub with_served : (id count : ℕ) (bytes : List ℕ)
      → IsServedWith v id bytes count after (FollowsMore a b) (AnswersMore p q)
      → HasServed (Continues (journal a p d) (journal b q d)) v after
  with_served id count bytes part = record {
    history = answered v id bytes part.responses;
    made = one_step (BytesTaken after _ (record {
      id = id;
      bytes = bytes;
      how = inl (count, served_so part refl);
      uncalled = refl;
    }));
    accepted = search no_calls;
  }

  pub with_part_served : (id : ℕ) (bytes : List ℕ) → IsPartlyServed v id bytes after (FollowsMore a b) (AnswersMore p q)
      → HasServed (Continues (journal a p d) (journal b q d)) v after
  with_part_served id bytes part =
      let so_far = served v id bytes part.responses in
      record {
        history = record {
          events = so_far.events ++ Took id (take part.count (drop so_far.fed.count bytes)) ∷ [];
          exchanges = so_far.exchanges;
          calls = [];
        };
        made = one_step (BytesTaken after _ (record {
          id = id;
          bytes = bytes;
          how = inr (search part);
          uncalled = refl;
        }));
        accepted = search no_calls;
      }

-- ---- a turn

module _ {W : Type 0} {a b : Following} {d e : Option (List (DoorCall W))} {v after : ServerValue} where
  -- No application was called when a connection was opened.
  pub opening_known : {p : Answering} (handed : Option W)
      → IsAccepted (λ h. FollowsMore a b h.events × AddsCalls d e h.calls) v after (opening v handed)
      → IsAccepted (Continues (journal a p d) (journal b p e)) v after (opening v handed)
  opening_known handed one = search answered_none

  -- An allocation failed for a wire, and the listener got it back.
  pub not_turned : {p : Answering} (wire : W) → after ≡ v → b ≡ a → is_none (open_refusal v) ≡ true
      → AddsCalls d e (Requested (Some wire) ∷ Closed wire ∷ [])
      → HasTurned (Continues (journal a p d) (journal b p e)) v after
  not_turned wire is same may called = record {
    history = door_only (Requested (Some wire) ∷ Closed wire ∷ []);
    made = rw is (NotOpened wire may);
    accepted = record { shows = shows_same v after is; known = rw same (door_known called) };
  }

-- The listener was not asked, or had no wire.
pub none_opened : {W : Type 0} (a : Following) (d e : Option (List (DoorCall W))) {v : ServerValue}
    → AddsCalls d e (opening {W = W} v None).calls
    → IsAccepted (λ h. FollowsMore a a h.events × AddsCalls d e h.calls) v v (opening v None)
none_opened a d e called = search (shows_same, followed_none)

opened_so : {W : Type 0} (second : ℕ) (handed : Option W) (s after : LoopState W) → AreOpened second handed s after
    → after.server ≡ opened_for s.server handed
opened_so second None s after opened = opened.0
opened_so second (Some wire) s after opened = opened.server

pub turned_further : {W : Type 0} {a b c : Journal W} (second : ℕ) (s between : LoopState W) {w : ServerValue}
    (handed : Option W) → AreOpened second handed s between
    → IsAccepted (Continues a b) s.server between.server (opening s.server handed)
    → HasServed (Continues b c) between.server w → HasTurned (Continues a c) s.server w
turned_further second s between {w = w} handed opened one two = record {
  history = history_then (opening s.server handed) two.history;
  made = VisitsMade handed w two.history (rw (opened_so second handed s between opened) at two.made);
  accepted = accepted_then one two.accepted;
}

-- ---- later responses

-- This number of later responses was given, with these events and exchanges.
pub record HasGivenLater (v : ServerValue) (number : ℕ) (after : ServerValue) (a b : Following)
    (p q : Answering) : Type 0 where
  pub events : List AcceptedCall
  pub exchanges : List Exchange
  pub given : AreGivenLater v number after events exchanges
  pub shows : ShowsMore v after events
  pub reports : FollowsMore a b events
  pub exchanged : AnswersMore p q exchanges

pub none_given : {a : Following} {p : Answering} {v : ServerValue} → HasGivenLater v 0 v a a p p
none_given {a = a} {p = p} {v = v} = record {
  events = [];
  exchanges = [];
  given = NothingGiven;
  shows = shows_same v v refl;
  reports = followed_none a;
  exchanged = answered_none p;
}

-- The application was not asked.
pub not_requested : (a : Following) (p : Answering) {v : ServerValue}
    → AreRequestedLater v 256 false v (FollowsMore a a) (AnswersMore p p)
not_requested a p {v = v} = record {
  number = 0;
  events = [];
  exchanges = [];
  given = NothingGiven;
  within = omega arith;
  over = refl;
  shows = shows_same v v refl;
  reports = followed_none a;
  exchanged = answered_none p;
}

-- One more response was given.
pub one_more_given : {a b c : Following} {p q r : Answering} {v u w : ServerValue} {n : ℕ} (id : Option ℕ)
    {is_one : Bool} → HasGivenLater v n u a b p q → is_one ≡ is_some id
    → IsRequestedLater u id w (FollowsMore b c) (AnswersMore q r) → is_one ≡ true → HasGivenLater v (n + 1) w a c p r
one_more_given None so_far is requested one = absurd (cc (is, one))
one_more_given {n = n} (Some id) so_far is requested one = record {
  events = so_far.events ++ _;
  exchanges = so_far.exchanges ++ _;
  given =
      rw (add-one n, requested.server) (OneMoreGiven n _ so_far.events so_far.exchanges id requested.bytes
      requested.outcome so_far.given requested.refused requested.reply);
  shows = shows_then _ _ _ _ _ so_far.shows requested.shows;
  reports = followed_then _ _ _ _ _ so_far.reports requested.reports;
  exchanged = answered_then _ _ _ _ _ so_far.exchanged requested.exchanged;
}

-- The application had no more.
pub no_more_given : {a b : Following} (c : Following) {p q : Answering} (r : Answering) {v u w : ServerValue}
    {n most : ℕ} (id : Option ℕ) {is_one : Bool} → HasGivenLater v n u a b p q → is_one ≡ is_some id
    → IsRequestedLater u id w (FollowsMore b c) (AnswersMore q r) → is_one ≡ false
    → n ≤ most → AreRequestedLater v most (n == most) w (FollowsMore a c) (AnswersMore p r)
no_more_given c r (Some id) so_far is requested none within = absurd (cc (is, none))
no_more_given c r {u = u} {w = w} {n = n} None so_far is requested none within = record {
  number = n;
  events = so_far.events ++ [];
  exchanges = so_far.exchanges ++ [];
  given = rw (append-nil, append-nil, requested.0) so_far.given;
  within = within;
  over = refl;
  shows = shows_then _ u w _ [] so_far.shows (shows_same u w requested.0);
  reports = followed_then _ _ _ _ [] so_far.reports requested.1.0;
  exchanged = answered_then _ _ _ _ [] so_far.exchanged requested.1.1;
}
