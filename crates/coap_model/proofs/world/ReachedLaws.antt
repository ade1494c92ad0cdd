-- Properties of the world after any accepted events: each id is used once, and the stream of a connection that accepts
-- messages has no error.
use Rattle.std.proofs.Common.{◌≡◌, ℕ, ◌+◌, ◌<◌, ◌≤◌, true, cond, List, [], ◌∷◌, length, map, Option, Some, None, refl}
use Rattle.std.proofs.Common.{sym, ap, ◌∙◌, arith, ◌++◌, take, Result, Ok, Err, inl, inr, rules}
use Rattle.coap_model.specs.Prelude.{AllByRecursion, StreamFault, Stream, frame_then, LimitValues, takes_messages}
use Rattle.coap_model.specs.Prelude.{ConfigValues, Connection, handles, side_after, side_faulted, side_written}
use Rattle.coap_model.specs.Prelude.{side_ended, side_released, side_announced, side_responded, settled, may_raise}
use Rattle.coap_model.specs.Prelude.{ConnectionEntry, World, Step, side_of, acted, AcceptedCall, world_after, taken_in}
use Rattle.coap_model.specs.Prelude.{size_on, stream_on, spelled_on, steps_by, takes, IfSide, IsAccepted, AreAccepted}
use Rattle.coap_model.specs.Prelude.{Message, message_of, FormatFault, FrameEventValue, AFrame, AFault, link_of}
use Rattle.coap_model.specs.Prelude.{may_announce, StoreValue, settled_once}
use Rattle.std.proofs.lemmas.List.Sums.{length-filter, count_by-le-length}
use Rattle.std.proofs.lemmas.List.{length-append, length-map, nil_from_length}
use Rattle.std.proofs.lemmas.Bool.Decides.{nat_tests}
use Rattle.std.proofs.lemmas.Bool.{cases_Bool, cases_eq, both_ways}
use Rattle.coap_model.specs.world.Events.{front_of}
use Rattle.coap_model.proofs.world.PlaceLaws.{but, changed_id, AreDistinct, distinct_mapped, distinct_more}
use Rattle.coap_model.proofs.world.PlaceLaws.{distinct_but, of_number, nobody}
use Rattle.coap_model.proofs.world.EntryLemmas.{all_to, all_append, all_filter, all_map}
use Rattle.coap_model.proofs.world.AcrossLaws.{opened_world, faulted_there, settles_there, HoldsOf, step_across}
use Rattle.coap_model.proofs.world.AcrossLaws.{all_across, world_keeps}
use Rattle.coap_model.proofs.world.GoingOn.{settled_goes_on, faulted_stops, all_go_on, was_live, GoesOn}
use Rattle.coap_model.proofs.OptionLemmas.{same_there}
use Rattle.coap_frame.specs.Framing.{Nothing}
use Rattle.coap_frame.proofs.FrontLaws.{added_by, front_whole}
use Rattle.coap_conn.proofs.AskingLaws.{none_where}
use Rattle.coap_model.proofs.world.StepLaws.{world_first, world_same, world_step, by_events, stream_same, size_then}
use Rattle.coap_model.proofs.world.StepLaws.{size_stays, announced_elsewhere, nothing_spelled, first_spelled}
use Rattle.coap_model.proofs.world.StepLaws.{spelled_same, taken_elsewhere, rest_unfinished}
use Rattle.coap_model.proofs.world.TookLaws.{no_bytes_stream, no_bytes_steps, Adds, adds_frame}
use Rattle.coap_model.proofs.world.WalkLaws.{settled_keeps, Between}
use Rattle.coap_wire.proofs.NumberLaws.{none_or_some}
use Rattle.coap_model.specs.world.World as world
use Rattle.coap_model.specs.world.Events as event

-- ---- properties that any step keeps

-- The property is kept when a connection is opened, changed under its id or removed, and when the store or the time
-- changes.
pub record KeptByStep (P : World → Type 0) (limits : LimitValues) (w : World) (st : Step) : Type 0 where
  pub opened : (id : ℕ) → st ≡ world.Opened id → side_of id w.sides ≡ None → P (opened_world limits w id)
  pub changed : (v : World) (g : ConnectionEntry → ConnectionEntry) → ((p : ConnectionEntry) → (g p).id ≡ p.id) → P v
      → P (record v { sides = map g v.sides })
  pub reported : (v : World) (store : StoreValue) (now : ℕ) → P v → P (record v { store = store; now = now })
  pub dropped : (id : ℕ) → st ≡ world.Dropped id → P (record w { sides = but id w.sides })

module _ (P : World → Type 0) (limits : LimitValues) (w : World) (holds : P w) where
  acted_keeps : (st : Step) → KeptByStep P limits w st → P (acted limits w st)
  unfolding acted
  acted_keeps (world.Opened id) keeps = grind (arith, none_where)
  acted_keeps (world.Handled id m) keeps = keeps.reported _ _ w.now (keeps.changed w _ (changed_id id _) holds)
  acted_keeps (world.Ticked now) keeps = grind arith
  acted_keeps (world.Stored path format bytes) keeps = grind arith
  acted_keeps (world.Removed path) keeps = grind arith
  acted_keeps (world.Dropped id) keeps = keeps.dropped id refl
  acted_keeps _ keeps = grind (arith, changed_id)

  pub step_keeps : (st : Step) → KeptByStep P limits w st → P (world.step limits w st)
  unfolding world.step
  step_keeps st keeps = grind (arith, acted_keeps)

-- The ids of connections are distinct.
pub step_distinct : (limits : LimitValues) (w : World) (s : Step) → AreDistinct w.sides
    → AreDistinct (world.step limits w s).sides
step_distinct limits w s distinct = step_keeps (λ v. AreDistinct v.sides) limits w distinct s (grind (
  arith,
  distinct_more,
  distinct_mapped,
  distinct_but,
))

-- The same after any events, accepted or not.
pub events_distinct : (c : ConfigValues) (es : List AcceptedCall) → AreDistinct (world_after c es).sides
events_distinct c = world_keeps c (λ w. AreDistinct w.sides) (step_distinct c.limits) tt

-- ---- after steps that use each id once

-- A connection is opened with the next id, and only below the connection limit.
abbrev pub OpensNext : ConfigValues → World → Step → Type 0
OpensNext c w (world.Opened id) = (id ≡ w.ids + 1) × (length w.sides < c.connections)
OpensNext c w other = Unit {0}

-- The id was assigned, if `last` is the id assigned last.
pub record IsGivenNumber (last id : ℕ) : Type 0 where
  pub within : id ≤ last

-- Every id was assigned, and the connection limit is not exceeded.
pub record IsNumbered (c : ConfigValues) (w : World) : Type 0 where
  pub low : c.starts.ids ≤ w.ids
  pub each : AllByRecursion (λ p. IsGivenNumber w.ids p.id) w.sides
  pub few : length w.sides ≤ c.connections

module _ (c : ConfigValues) (w : World) where
  -- The id of an existing connection was assigned.
  pub number_given : (id : ℕ) (s : Connection) → IsNumbered c w → side_of id w.sides ≡ Some s
      → IsGivenNumber w.ids id
  number_given id s is = of_number (λ n t. IsGivenNumber w.ids n) id s w.sides is.each

  -- The next id is free, so it opens a connection.
  pub opens : (id : ℕ) → IsNumbered c w → id ≡ w.ids + 1
      → acted c.limits w (world.Opened id) ≡ opened_world c.limits w id
  unfolding acted
  opens id is next = grind (arith, number_given id)

  -- The last id never decreases.
  pub ids_grow : (s : Step) → OpensNext c w s → w.ids ≤ (world.step c.limits w s).ids
  ids_grow s next = step_keeps (λ v. w.ids ≤ v.ids) c.limits w (omega arith) s (grind arith)

  step_numbered : (s : Step) → IsNumbered c w → OpensNext c w s → IsNumbered c (world.step c.limits w s)
  step_numbered s is next = step_keeps (IsNumbered c) c.limits w is s (record {
    opened = λ id opened free.
        grind (arith, all_append, all_to, length-append);
    changed = λ v g keeps still. record {
      low = still.low;
      each = all_map (λ p. IsGivenNumber v.ids p.id) _ g (λ p given. rw (keeps p) given) v.sides still.each;
      few = grind (arith, length-map);
    };
    reported = λ v store now still. grind arith;
    dropped = λ id at. grind (arith, all_filter, length-filter, count_by-le-length);
  })

-- ---- worlds after accepted events

-- The world after accepted events has these properties:
-- - a connection that is not yet opened has an empty stream;
-- - if a connection accepts messages, its stream has no error;
-- - it accepts messages of the size that was announced last on it.
pub record IsReached (c : ConfigValues) (es : List AcceptedCall) : Type 0 where
  pub numbered : IsNumbered c (world_after c es)
  pub silent : (id : ℕ) → (world_after c es).ids < id
      → spelled_on c.limits.max_message id es ≡ nothing_spelled c.limits.max_message
  pub goes_on : (id : ℕ) (s : Connection) → side_of id (world_after c es).sides ≡ Some s
      → takes_messages s.history.phase ≡ true → (stream_on c.limits.max_message id es).fault ≡ None
  pub sizes : (id : ℕ) (s : Connection) → side_of id (world_after c es).sides ≡ Some s
      → s.history.own_max ≡ size_on c.limits.max_message id es

first_reached : (c : ConfigValues) → IsReached c []
first_reached c = grind (arith, world_first, first_spelled, none_or_some, nobody)

-- ---- a step

-- The step is no announcement of this connection.
abbrev IsUnannounced : Step → ℕ → Type 0
IsUnannounced st id = (size : ℕ) → st ≡ world.Announced id size → ⊥

-- A connection that accepts messages did so before, and only an announcement changes the size.
abbrev Follows : Step → ℕ → Connection → Connection → Type 0
Follows st id s t =
    (takes_messages t.history.phase ≡ true → takes_messages s.history.phase ≡ true)
    × (IsUnannounced st id → t.history.own_max ≡ s.history.own_max)

once_sized : (store : StoreValue) (now : ℕ) (s : Connection)
    → (settled_once store now s).history.own_max ≡ s.history.own_max
unfolding settled_once
once_sized store now s = grind arith

settled_sized : (store : StoreValue) (now : ℕ) (s : Connection)
    → (settled store now s).history.own_max ≡ s.history.own_max
settled_sized store now s =
    settled_keeps (λ t. t.history.own_max ≡ s.history.own_max) store now (λ t is. once_sized store now t ∙ is) s refl

all_on : (w : World) (st : Step) (id : ℕ) → HoldsOf (Between GoesOn) w st id
all_on = all_across GoesOn all_go_on

follows_of : (w : World) (st : Step) (id : ℕ) → HoldsOf (Follows st id) w st id
unfolding side_after side_faulted side_written side_ended side_released side_announced side_responded
follows_of w st id = record {
  same = λ s. grind arith;
  handled = λ m is s. (was_live _ _ ((all_on w st id).handled m is s), λ _. grind arith);
  faulted = λ fault is s. grind (arith, was_live, all_on);
  written = λ s n. grind (arith, was_live, all_on);
  ended = λ s cut. grind (arith, was_live, all_on);
  released = λ s. grind (arith, was_live, all_on);
  announced = λ size is s. grind (arith, was_live, all_on);
  responded = λ s m. grind (arith, was_live, all_on);
  reported = λ store now s t is. (
    λ takes. is.0 (was_live _ _ ((all_on w st id).reported store now t t ((all_on w st id).same t)) takes),
    λ none. once_sized store now t ∙ is.1 none,
  );
}

-- The connection agrees with its stream and with the size announced last.
abbrev Matches : Stream × ℕ → Connection → Type 0
Matches spelled t =
    (takes_messages t.history.phase ≡ true → spelled.0.fault ≡ None) × (t.history.own_max ≡ spelled.1)

module _ (c : ConfigValues) (es : List AcceptedCall) (before : IsReached c es) where
  abbrev w : World
  w = world_after c es

  abbrev M : ℕ
  M = c.limits.max_message

  -- A connection after a step agrees with the stream before it, but for an announced size.
  seen : (st : Step) → OpensNext c w st → (k : ℕ) (t : Connection) → side_of k (world.step c.limits w st).sides ≡ Some t
      → (takes_messages t.history.phase ≡ true → (stream_on M k es).fault ≡ None)
      × (IsUnannounced st k → t.history.own_max ≡ size_on M k es)
  seen st next k t at =
      elim (step_across (Follows st k) c.limits w st k (follows_of w st k) t at) [
        | inl old ↦ grind arith
        | inr new ↦
            grind arith
      ]

  -- The event e leads to a world v with such connections.
  abbrev LeadsTo : AcceptedCall → World → Type 0
  LeadsTo e v =
      (k : ℕ) (t : Connection) → side_of k v.sides ≡ Some t → Matches (spelled_on M k (es ++ e ∷ [])) t

  reached_by : (e : AcceptedCall) (v : World) → world_after c (es ++ e ∷ []) ≡ v → IsNumbered c v → w.ids ≤ v.ids
      → ((k : ℕ) → w.ids < k → (taken_in k e ≡ []) × size_stays k e) → LeadsTo e v → IsReached c (es ++ e ∷ [])
  reached_by e v is numbered grow quiet leads = record {
    numbered = rw is numbered;
    silent = grind (arith, spelled_same M);
    goes_on = grind arith;
    sizes = rw is (λ k t at. (leads k t at).1);
  }

  step_reached : (e : AcceptedCall) (st : Step) → steps_by M es e ≡ st ∷ [] → OpensNext c w st
      → ((k : ℕ) → w.ids < k → (taken_in k e ≡ []) × size_stays k e) → LeadsTo e (world.step c.limits w st)
      → IsReached c (es ++ e ∷ [])
  step_reached e st one next = grind (arith, reached_by e, world_step, step_numbered, ids_grow)

  -- An event that brings a connection no bytes and no size.
  quiet_matches : (e : AcceptedCall) (k : ℕ) (t : Connection) → taken_in k e ≡ [] → size_stays k e
      → Matches (spelled_on M k es) t → Matches (spelled_on M k (es ++ e ∷ [])) t
  quiet_matches e k t none stays = grind (arith, spelled_same M k)

  step_matches : (e : AcceptedCall) (st : Step) (k : ℕ) → OpensNext c w st → IsUnannounced st k → taken_in k e ≡ []
      → size_stays k e → (t : Connection) → side_of k (world.step c.limits w st).sides ≡ Some t
      → Matches (spelled_on M k (es ++ e ∷ [])) t
  step_matches e st k next unannounced none stays t at =
      grind (arith, seen st next k t, quiet_matches e k t none stays)

  -- An event that brings no bytes and no size to any connection.
  plain_reached : (e : AcceptedCall) (st : Step) → steps_by M es e ≡ st ∷ [] → OpensNext c w st
      → ((k : ℕ) → taken_in k e ≡ []) → ((k : ℕ) → size_stays k e) → ((k : ℕ) → IsUnannounced st k)
      → IsReached c (es ++ e ∷ [])
  plain_reached e st one next none stays quiet =
      step_reached e st one next (λ k h. (none k, stays k))
      (λ k. step_matches e st k next (quiet k) (none k) (stays k))

  -- After an announcement, the announced size is the one that applies.
  announced_leads : (id size : ℕ) (s : Connection) → side_of id w.sides ≡ Some s → may_raise s size ≡ true
      → LeadsTo (event.Announced id size) (world.step c.limits w (world.Announced id size))
  unfolding world.step acted side_announced
  announced_leads id size s there may k t at =
      let e = event.Announced id size in
      let st = world.Announced id size in
      elim (cases_eq id k) [
        | inl same ↦
            let now = same_there _ t (sym (settles_there id w.store w.now (λ u. side_announced u size) w.sides s there)
            ∙ rw (← same) at at) in
            let lower : s.history.own_max ≤ size = grind (arith, nat_tests, may) in
            let reported : may_announce (link_of s.history) size ≡ true = grind (arith, nat_tests, may) in
            let raised : (side_announced s size).history.own_max ≡ size = rw (may, reported) refl in
            let own = ap (λ u. u.history.own_max) (sym now) ∙ settled_sized w.store w.now (side_announced s size)
            ∙ raised in
            let risen : size_on M id es ≤ size = omega (arith, before.sizes id s there, lower) in
            grind (arith, stream_same M k, seen st tt k t, size_then M id, nat_tests)
        | inr apart ↦
            step_matches e st k tt (λ other is. apart (let here : id ≡ k = cc in here)) refl
            (announced_elsewhere k id size apart) t at
      ]

-- ---- a take

-- If a connection handles messages, its stream has no error.
pub handling_goes_on : (c : ConfigValues) (es : List AcceptedCall) (id : ℕ) (s : Connection) → IsReached c es
    → side_of id (world_after c es).sides ≡ Some s → handles s ≡ true
    → (stream_on c.limits.max_message id es).fault ≡ None
handling_goes_on c es id s is there does = grind arith

-- The number of bytes of an input slice that are accepted, if the connection exists.
pub takes_there : (c : ConfigValues) (es : List AcceptedCall) (id : ℕ) (piece : List ℕ) (s : Connection)
    → side_of id (world_after c es).sides ≡ Some s → takes c es id piece ≡ cond (handles s)
    (front_of (size_on c.limits.max_message id es) (stream_on c.limits.max_message id es).rest piece) 0
unfolding takes
takes_there c es id piece s there = rw there refl

module _ (c : ConfigValues) (es : List AcceptedCall) (id : ℕ) (bytes : List ℕ) (s : Connection)
    (before : IsReached c es) (there : side_of id (world_after c es).sides ≡ Some s) where
  abbrev e : AcceptedCall
  e = event.Took id bytes

  -- The stream of the connection has no error if the connection accepts messages in the world v.
  abbrev NoFault : World → Type 0
  NoFault v =
      (t : Connection) → side_of id v.sides ≡ Some t → takes_messages t.history.phase ≡ true
      → (stream_on c.limits.max_message id (es ++ e ∷ [])).fault ≡ None

  quiet_elsewhere : (k : ℕ) → (world_after c es).ids < k → (taken_in k e ≡ []) × size_stays k e
  quiet_elsewhere k h = (
    taken_elsewhere k id bytes (λ same. omega (
      arith,
      (number_given c (world_after c es) id s before.numbered there).within,
      h,
      same,
    )),
    λ N. refl,
  )

  took_matches : (v : World) → NoFault v → (k : ℕ) (t : Connection) → side_of k v.sides ≡ Some t
      → Matches (spelled_on c.limits.max_message k es) t
      → Matches (spelled_on c.limits.max_message k (es ++ e ∷ [])) t
  took_matches v own k t at old = grind (arith, size_then, quiet_matches, taken_elsewhere k)

  -- A take that makes no step.
  quiet_reached : steps_by c.limits.max_message es e ≡ [] → NoFault (world_after c es) → IsReached c (es ++ e ∷ [])
  quiet_reached none own = search (
    rules,
    reached_by,
    world_same,
    before.numbered,
    quiet_elsewhere,
    took_matches,
    before.goes_on,
    before.sizes,
  )

  -- A take that makes a step.
  stepped_reached : (st : Step) → steps_by c.limits.max_message es e ≡ st ∷ [] → OpensNext c (world_after c es) st
      → ((k : ℕ) → IsUnannounced st k) → NoFault (world.step c.limits (world_after c es) st)
      → IsReached c (es ++ e ∷ [])
  stepped_reached st one next unannounced own =
      step_reached c es before e st one next quiet_elsewhere (λ k t at.
      let old = seen c es before st next k t at in
      took_matches (world.step c.limits (world_after c es) st) own k t at (old.0, old.1 (unannounced k)))

  -- An error, which stops the connection.
  fault_reached : (rest : List ℕ) (fault : StreamFault) → handles s ≡ true
      → Adds c.limits.max_message id es bytes (record { messages = []; rest = rest; fault = Some fault })
      → IsReached c (es ++ e ∷ [])
  fault_reached rest fault does adds =
      let w = world_after c es in
      stepped_reached (world.Faulted id fault) adds.steps tt (λ n size is. cc) (λ t at takes.
      let same = same_there _ t (sym (faulted_there c.limits w id fault s there) ∙ at) in
      absurd (grind (arith, both_ways, settled_goes_on, faulted_stops)))

  -- A frame, with the message that it encodes or its error.
  frame_reached : (frame : List ℕ) (read : Result Message FormatFault) → handles s ≡ true → Adds c.limits.max_message id
      es bytes (frame_then frame read (record { messages = []; rest = []; fault = None })) → IsReached c (es ++ e ∷ [])
  frame_reached frame (Ok m) does adds =
      stepped_reached (world.Handled id m) adds.steps tt (λ n size is. cc)
      (λ t at takes. ap (λ u. u.fault) adds.stream)
  frame_reached frame (Err f) does adds = fault_reached frame _ does adds

  found_reached : (found : FrameEventValue) → handles s ≡ true
      → Adds c.limits.max_message id es bytes (added_by (stream_on c.limits.max_message id es).rest bytes found)
      → IsReached c (es ++ e ∷ [])
  found_reached Nothing does adds = grind (arith, quiet_reached)
  found_reached (AFrame frame) does adds = frame_reached frame (message_of frame) does adds
  found_reached (AFault fault) does adds = fault_reached _ _ does adds

  -- All bytes that the connection accepts.
  took_reached : takes c es id bytes ≡ length bytes → IsReached c (es ++ e ∷ [])
  took_reached all =
      let taken = rw (takes_there c es id bytes s there) at all in
      grind (
        arith,
        found_reached,
        adds_frame,
        handling_goes_on,
        nil_from_length,
        quiet_reached,
        no_bytes_steps,
        no_bytes_stream,
      )

-- ---- any event

-- The connection that exists.
pub on_one : (P : Connection → Type 0) (there : Option Connection) → IfSide there P
    → (s : Connection) × (there ≡ Some s) × P s
on_one P there holds = grind arith

event_reached : (c : ConfigValues) (es : List AcceptedCall) (e : AcceptedCall) → IsReached c es → IsAccepted c es e
    → IsReached c (es ++ e ∷ [])
unfolding IsAccepted steps_by
event_reached c es (event.Opened id) before is =
    plain_reached c es before (event.Opened id) _ refl (is.0, is.2) (λ k. refl) (λ k N. refl) (λ k size is. cc)
event_reached c es (event.Took id bytes) before is =
    let at = on_one _ (side_of id (world_after c es).sides) is in took_reached c es id bytes at.0 before at.1 at.2
event_reached c es (event.Announced id size) before is =
    let at = on_one _ (side_of id (world_after c es).sides) is in
    let given = (number_given c (world_after c es) id at.0 before.numbered at.1).within in
    step_reached c es before (event.Announced id size) _ refl tt
    (λ k h. grind (arith, announced_elsewhere))
    (announced_leads c es before id size at.0 at.1 at.2)
event_reached c es e before is =
    plain_reached c es before e _ refl tt (λ k. refl) (λ k N. refl) (λ k size is. cc)

-- Each list of accepted events leads to such a world.
pub accepted_is : (c : ConfigValues) (es : List AcceptedCall) → AreAccepted c es → IsReached c es
accepted_is c =
    by_events c (λ es. IsReached c es) (first_reached c) (λ es e accepted is before. event_reached c es e before is)

-- ---- takes that are accepted

-- The bytes that a connection accepts of any input slice make an accepted event.
pub piece_accepted : (c : ConfigValues) (es : List AcceptedCall) (id : ℕ) (piece : List ℕ) (s : Connection)
    → IsReached c es → side_of id (world_after c es).sides ≡ Some s
    → IsAccepted c es (event.Took id (take (takes c es id piece) piece))
unfolding IsAccepted
piece_accepted c es id piece s is there =
    let M = c.limits.max_message in
    let N = size_on M id es in
    let rest = (stream_on M id es).rest in
    rw (there, takes_there c es id piece s there) (elim (cases_Bool (handles s)) [
      | inl does ↦
          rw does (takes_there c es id (take (front_of N rest piece) piece) s there
          ∙ rw does (front_whole N rest piece (rest_unfinished M id es (handling_goes_on c es id s is there does))))
      | inr stopped ↦ rw stopped (takes_there c es id [] s there ∙ rw stopped refl)
    ])
