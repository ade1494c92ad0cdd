-- The takes that accept the bytes of a connection, with the responses of the application.
use Rattle.std.proofs.Common.{◌≡◌, ◌≢◌, ℕ, ◌+◌, ◌<◌, ◌≤◌, true, false, ◌&&◌, ◌==◌, List, [], ◌∷◌, length, take, drop}
use Rattle.std.proofs.Common.{Option, Some, None, refl, sym, ◌∙◌, arith, nat_lt, lt-ltb, suc, Bool, not, ◌++◌, ap, inl}
use Rattle.std.proofs.Common.{inr}
use Rattle.std.proofs.lemmas.Bool.{ne_eqb, le-ltb, ltb-true, eqb-false, cases_Bool}
use Rattle.std.proofs.lemmas.List.{length-drop}
use Rattle.std.proofs.Math.Bool.{and-false}
use Rattle.coap_server_engine.specs.Prelude.{ServerValue, session_of, is_there, count_taken, Took, ShowsMore, Following}
use Rattle.coap_server_engine.specs.Prelude.{FollowsMore, Answering, AnswersMore, AreUnanswered, ask_result, served}
use Rattle.coap_server_engine.specs.Prelude.{AreMade, IsServed, IsPartlyServed, IsTakenFor, IsNotTakenFor, asking}
use Rattle.coap_server_engine.specs.Prelude.{asks_for, handed_by, message_limit, server_offered, offered_events}
use Rattle.coap_server_engine.specs.Prelude.{response_for, Message, LiesAt, keys_of, server_taken, server_taken_on}
use Rattle.coap_server_engine.specs.Prelude.{AcceptedCall, taking, InResult, in_result, fed_turns, took, took_turns}
use Rattle.coap_server_engine.specs.Prelude.{where_there, Exchange, SessionValue}
use Rattle.coap_server_engine.proofs.values.ServerLemmas.{keys_where_settled, lies_still}
use Rattle.coap_server_engine.specs.values.InResults.{goes_on}
use Rattle.coap_server_engine.proofs.scripting.ShownLemmas.{shows_same, shows_then, none_taken_there}
use Rattle.coap_server_engine.proofs.scripting.FollowLemmas.{followed_none, followed_then}
use Rattle.coap_server_engine.proofs.values.ResponseLemmas.{answers_none, answers_then, nothing_offered, offers_nothing}
use Rattle.coap_server_engine.proofs.world.AtOnceLaws.{becomes_settled}
use Rattle.coap_server_engine.proofs.scripting.ReplayLemmas.{all_turns_made, fed_nothing}

-- Some takes accepted bytes, and the server is `now`.
pub record Serves (v : ServerValue) (id : ℕ) (bytes : List ℕ) (now : ServerValue) (taken : ℕ) (a b : Following)
    (x y : Answering) : Type 0 where
  pub there : true ≡ is_there (session_of id v.sessions)
  pub responses : List (List ℕ)
  pub made : AreMade v id bytes responses
  pub within : taken ≤ length bytes
  pub so_far : (served v id bytes responses).fed ≡ record { server = now; count = taken; done = false }
  pub shows : ShowsMore v now (served v id bytes responses).events
  pub reports : FollowsMore a b (served v id bytes responses).events
  pub exchanged : AnswersMore x y (served v id bytes responses).exchanges

pub serves_nothing : (v : ServerValue) (id : ℕ) (bytes : List ℕ) (a : Following) (x : Answering)
    → true ≡ is_there (session_of id v.sessions) → Serves v id bytes v 0 a a x x
unfolding served
serves_nothing v id bytes a x there = record {
  there = there;
  responses = [];
  made = tt;
  within = omega arith;
  so_far = refl;
  shows = shows_same v v refl;
  reports = followed_none a;
  exchanged = answers_none x;
}

-- No connection has this id.
pub serves_nobody : (v : ServerValue) (id : ℕ) (bytes : List ℕ) (a : Following) (x : Answering)
    → session_of id v.sessions ≡ None → IsServed v id bytes 0 v (FollowsMore a a) (AnswersMore x x)
unfolding served
serves_nobody v id bytes a x nobody = record {
  responses = [];
  made = tt;
  over = λ going. nobody;
  nobody = λ _. refl;
  counted = refl;
  server = refl;
  shows = shows_same v v refl;
  reports = followed_none a;
  exchanged = answers_none x;
}

module _ {v : ServerValue} {id : ℕ} {bytes : List ℕ} {now : ServerValue} {taken : ℕ} {a b : Following}
    {x y : Answering} (so : Serves v id bytes now taken a b x y) where
  present : {P : Type 0} → session_of id v.sessions ≡ None → P
  present none = absurd (let gone = rw none at so.there in cc gone)

  -- No byte is left.
  pub serves_all : length bytes ≤ taken → IsServed v id bytes taken now (FollowsMore a b) (AnswersMore x y)
  serves_all none = record {
    responses = so.responses;
    made = so.made;
    over = λ going. absurd (let more = rw so.so_far at going in
        cc (le-ltb taken (length bytes) none, more));
    nobody = present;
    counted = rw so.so_far;
    server = rw so.so_far;
    shows = so.shows;
    reports = so.reports;
    exchanged = so.exchanged;
  }

  module _ (left : taken < length bytes) (c : Following) where
    going : goes_on bytes (served v id bytes so.responses).fed ≡ true
    going = rw (so.so_far, lt-ltb taken _ left)

    -- Allocation failed in the next take.
    pub serves_partly : (after : ServerValue) → IsNotTakenFor now id (drop taken bytes) after (FollowsMore b c)
        → IsPartlyServed v id bytes after (FollowsMore a c) (AnswersMore x y)
    serves_partly after one = record {
      responses = so.responses;
      made = so.made;
      going = going;
      count = one.count;
      refused = rw so.so_far one.refused;
      shows = rw so.so_far (shows_then v now after (served v id bytes so.responses).events _ so.shows one.shows);
      reports = rw so.so_far (followed_then a b c (served v id bytes so.responses).events _ so.reports one.reports);
      exchanged = so.exchanged;
    }

    module _ (z : Answering) {response : List ℕ} {k : ℕ} {after : ServerValue}
        (counted : k ≡ count_taken now id (drop taken bytes))
        (one : IsTakenFor now id (drop taken bytes) response k after (FollowsMore b c) (AnswersMore y z)) where
      abbrev more : List (List ℕ)
      more = response ∷ so.responses

      more_fed : (served v id bytes more).fed
          ≡ record { server = after; count = taken + k; done = count_taken now id (drop taken bytes) == 0 }
      unfolding served
      more_fed = rw (so.so_far, one.server, counted)

      more_made : ShowsMore v after (served v id bytes more).events
          × FollowsMore a c (served v id bytes more).events × AnswersMore x z (served v id bytes more).exchanges
      unfolding served
      more_made = rw (so.so_far, ← counted) (
        shows_then v now after (served v id bytes so.responses).events _ so.shows one.shows,
        followed_then a b c (served v id bytes so.responses).events _ so.reports one.reports,
        answers_then x y z (served v id bytes so.responses).exchanges _ so.exchanged one.exchanged,
      )

      -- A take accepted some bytes.
      pub serves_more : k ≤ length (drop taken bytes) → k ≢ 0 → Serves v id bytes after (taken + k) a c x z
      serves_more within some = record {
        there = so.there;
        responses = more;
        made = (going, so.made);
        within = omega (arith, within, length-drop taken bytes);
        so_far = more_fed ∙ cc (ne_eqb k 0 some, counted);
        shows = more_made.0;
        reports = more_made.1;
        exchanged = more_made.2;
      }

      -- A take accepted none.
      pub serves_stopped : k ≡ 0 → IsServed v id bytes taken after (FollowsMore a c) (AnswersMore x z)
      serves_stopped none =
          let same : taken + k ≡ taken = omega arith in
          let fed : (served v id bytes more).fed ≡ record { server = after; count = taken; done = true } =
          more_fed ∙ cc (same, none, counted) in
          record {
            responses = more;
            made = (going, so.made);
            over = λ goes. absurd (let more_left : (nat_lt taken (length bytes) && false) ≡ true = rw fed at goes in
                cc (and-false (nat_lt taken (length bytes)), more_left));
            nobody = present;
            counted = rw fed;
            server = rw fed;
            shows = more_made.0;
            reports = more_made.1;
            exchanged = more_made.2;
          }

-- ---- the connection stays at its index

pub taken_keys : (v : ServerValue) (id : ℕ) (piece : List ℕ)
    → keys_of (server_taken v id piece).sessions ≡ keys_of v.sessions
unfolding server_taken
taken_keys v id piece = grind (arith, keys_where_settled)

pub taken_stays : (v : ServerValue) (id i : ℕ) (piece : List ℕ) → LiesAt id i v.sessions
    → LiesAt id i (server_taken v id piece).sessions
taken_stays v id i piece = lies_still id i _ (server_taken v id piece).sessions (taken_keys v id piece)

-- ---- one take

-- If no byte was written, nothing is given.
unrequested : (v : ServerValue) (id limit : ℕ) (o : Option Message)
    → ((asking v id limit [] o).server ≡ v) × ((asking v id limit [] o).events ≡ [])
    × ((asking v id limit [] o).exchanges ≡ asks_for id limit [] o)
unrequested v id limit o = grind (arith, nothing_offered v id, offers_nothing v id)

-- The application wrote no byte.
pub asks_unanswered : (id limit : ℕ) (o : Option Message) → AreUnanswered (asks_for id limit [] o)
asks_unanswered id limit None = tt
asks_unanswered id limit (Some m) = (refl, tt)

module _ {v u : ServerValue} {id : ℕ} {left response : List ℕ} {k : ℕ} (a b c : Following) (x y : Answering)
    (took : u ≡ server_taken v id left) (shows : ShowsMore v u (Took id (take k left) ∷ []))
    (reported : FollowsMore a b (Took id (take k left) ∷ []))
    (requested : AnswersMore x y (asks_for id (message_limit v id) response (handed_by v id left))) where
  -- A request was handed over, and the application was asked.
  pub taken_requested : {after : ServerValue} (m : Message) (token : List ℕ) → handed_by v id left ≡ Some m
      → token ≡ m.token → after ≡ server_offered u id (response_for u id token response)
      → ShowsMore u after (offered_events u id (response_for u id token response))
      → FollowsMore b c (offered_events u id (response_for u id token response))
      → IsTakenFor v id left response k after (FollowsMore a c) (AnswersMore x y)
  taken_requested {after = after} m token handed same is gives reports =
      let effect : ask_result v id left response ≡ asking u id (message_limit v id) response (Some m) =
      rw (handed, took) in
      record {
        server = rw (effect, ← same) is;
        shows = rw (effect, ← same) (shows_then v u after (Took id (take k left) ∷ []) _ shows gives);
        reports = rw (effect, ← same) (followed_then a b c (Took id (take k left) ∷ []) _ reported reports);
        exchanged = rw effect (rw handed at requested);
      }

  -- The application wrote no byte, or no request was handed over.
  pub taken_silent : response ≡ [] → IsTakenFor v id left response k u (FollowsMore a b) (AnswersMore x y)
  taken_silent empty =
      let nothing = unrequested _ id (message_limit v id) _ in
      rw empty (record {
        server = took ∙ sym nothing.0;
        shows = rw nothing.1 shows;
        reports = rw nothing.1 reported;
        exchanged = rw nothing.2 (rw empty at requested);
      })

-- Takes for an application that writes no byte have the effect of takes without one.

pub unanswered_parts : (xs ys : List Exchange) → AreUnanswered (xs ++ ys) → AreUnanswered xs × AreUnanswered ys
unanswered_parts [] ys all = (tt, all)
unanswered_parts (x ∷ xs) ys all = let more = unanswered_parts xs ys all.1 in ((all.0, more.0), more.1)

-- A take whose request got no response at once.
abbrev pub IsTakenAlone : ServerValue → ℕ → List ℕ → List ℕ → Type 0
IsTakenAlone v id left response =
    ((ask_result v id left response).server ≡ server_taken v id left) × ((ask_result v id left response).events ≡ [])

pub unanswered_take : (v : ServerValue) (id : ℕ) (left response : List ℕ)
    → AreUnanswered (ask_result v id left response).exchanges → IsTakenAlone v id left response
unanswered_take v id left response = by _
  where
    u : ServerValue
    u = server_taken v id left

    by : (o : Option Message) → AreUnanswered (asking u id (message_limit v id) response o).exchanges
        → ((asking u id (message_limit v id) response o).server ≡ u)
        × ((asking u id (message_limit v id) response o).events ≡ [])
    by None none = (refl, refl)
    by (Some m) none = rw none.0 (nothing_offered u id, offers_nothing u id)

-- The connection is still there after a take.
taken_there : (v : ServerValue) (id : ℕ) (piece : List ℕ) → is_there (session_of id v.sessions) ≡ true
    → is_there (session_of id (server_taken v id piece).sessions) ≡ true
unfolding server_taken
taken_there v id piece there = by _ refl there
  where
    by : (o : Option SessionValue) → session_of id v.sessions ≡ o → is_there o ≡ true
        → is_there (session_of id (server_taken_on v id piece o).sessions) ≡ true
    by None is there = absurd cc
    by (Some s) is there =
        rw (becomes_settled _ id (λ _. (taking v.shared s piece).session) _ s is)

-- The same number of takes without an application.
record HasTaken (v : ServerValue) (id : ℕ) (bytes : List ℕ) (responses : List (List ℕ)) : Type 0 where
  turns : ℕ
  fed : (served v id bytes responses).fed ≡ fed_turns turns v id bytes
  events : (served v id bytes responses).events ≡ took_turns turns v id bytes
  within : turns ≤ length bytes
  few : (fed_turns turns v id bytes).done ≡ false → turns ≤ (fed_turns turns v id bytes).count
  there : is_there (session_of id (fed_turns turns v id bytes).server.sessions) ≡ true

not_done : (a b : Bool) → (a && not b) ≡ true → (a ≡ true) × (b ≡ false)
not_done a b is = grind arith

there_reported : (id : ℕ) (call : AcceptedCall) (o : Option SessionValue) → is_there o ≡ true
    → where_there o (λ s. call) ≡ call ∷ []
there_reported id call o there = grind arith

-- One more take, to be made, whose request got no response at once.
module _ (v : ServerValue) (id : ℕ) (bytes : List ℕ) (responses : List (List ℕ)) (response : List ℕ)
    (so_far : HasTaken v id bytes responses) where
  abbrev before : InResult
  before = fed_turns so_far.turns v id bytes

  abbrev left : List ℕ
  left = drop before.count bytes

  module _ (goes : goes_on bytes before ≡ true) (alone : IsTakenAlone before.server id left response) where
    turn_fed : (served v id bytes (response ∷ responses)).fed ≡ fed_turns (suc so_far.turns) v id bytes
    unfolding served fed_turns
    turn_fed = rw (so_far.fed, goes, alone.0)

    turn_events : (served v id bytes (response ∷ responses)).events ≡ took_turns (suc so_far.turns) v id bytes
    unfolding served took_turns
    turn_events = rw (
      so_far.fed,
      so_far.events,
      goes,
      alone.1,
      there_reported id (Took id (take (count_taken before.server id left) left))
          (session_of id before.server.sessions) so_far.there,
    )

    has_more : HasTaken v id bytes (response ∷ responses)
    unfolding fed_turns
    has_more =
        let going = not_done (nat_lt before.count (length bytes)) before.done goes in
        let some = ltb-true before.count (length bytes) going.0 in
        record {
          turns = suc so_far.turns;
          fed = turn_fed;
          events = turn_events;
          within = omega (arith, so_far.few going.1);
          few =
              rw goes
              (λ accepted. omega (arith, so_far.few going.1, eqb-false (count_taken before.server id left) 0 accepted));
          there = rw goes (taken_there before.server id left so_far.there);
        }

has_taken : (v : ServerValue) (id : ℕ) (bytes : List ℕ) (responses : List (List ℕ))
    → is_there (session_of id v.sessions) ≡ true → AreMade v id bytes responses
    → AreUnanswered (served v id bytes responses).exchanges → HasTaken v id bytes responses
unfolding served fed_turns took_turns
has_taken v id bytes [] there made none =
    record { turns = 0; fed = refl; events = refl; within = omega arith; few = λ _. omega arith; there = there }
has_taken v id bytes (response ∷ responses) there made none =
    let s = served v id bytes responses in
    let split = unanswered_parts _ (ask_result _ id _ response).exchanges none in
    let so_far = has_taken v id bytes responses there made.1 split.0 in
    let f = fed_turns _ v id bytes in
    has_more v id bytes responses response so_far (rw so_far.fed at made.0)
    (unanswered_take f.server id _ response (rw so_far.fed at split.1))

pub unanswered_is_alone : (v after : ServerValue) (id count : ℕ) (bytes : List ℕ)
    (reported : List AcceptedCall → Type 0) → IsServed v id bytes count after reported (λ xs. AreUnanswered xs)
    → (after ≡ (in_result v id bytes).server) × (count ≡ (in_result v id bytes).count) × reported (took v id bytes)
unfolding served
unanswered_is_alone v after id count bytes reported part = by _ refl
  where
    by : (o : Option SessionValue) → session_of id v.sessions ≡ o → (after ≡ (in_result v id bytes).server)
        × (count ≡ (in_result v id bytes).count) × reported (took v id bytes)
    by None is =
        let none = part.nobody is in
        let nothing = fed_nothing v id is bytes in
        let events : took v id bytes ≡ [] = none_taken_there v id (ap is_there is) bytes (length bytes) in (
          rw none at part.server ∙ sym nothing.1,
          rw none at part.counted ∙ sym nothing.0,
          rw events (rw none at part.reports),
        )
    by (Some s) is =
        let alone = has_taken v id bytes part.responses (ap is_there is) part.made part.exchanged in
        let over : goes_on bytes (fed_turns alone.turns v id bytes) ≡ false = elim (cases_Bool (goes_on bytes
        (fed_turns alone.turns v id bytes))) [
          | inr over ↦ over
          | inl goes ↦ absurd (let gone : None ≡ Some s = sym (part.over (rw alone.fed goes)) ∙ is in cc gone)
        ] in
        let all = all_turns_made v id bytes alone.turns over (length bytes) alone.within in
        let fed : (served v id bytes part.responses).fed ≡ in_result v id bytes = alone.fed ∙ sym all.0 in
        (rw fed at part.server, rw fed at part.counted, rw (alone.events ∙ sym all.1) at part.reports)
