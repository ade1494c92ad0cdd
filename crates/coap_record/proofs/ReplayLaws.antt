-- A replay of the events of a record leaves the server that accepted the calls.
use Rattle.std.proofs.Common.{◌≡◌, ℕ, ◌+◌, ◌<◌, ◌≤◌, Bool, false, List, [], ◌∷◌, ◌++◌, length, subst, take, take_all}
use Rattle.std.proofs.Common.{Some, None, Ok, refl, sym, ap, ◌∙◌, append_assoc, append-nil, arith, All}
use Rattle.std.proofs.lemmas.Bool.Decides.{nat_tests}
use Rattle.std.proofs.lemmas.List.{append_cancel_left, length-map, length-take-le, map-append}
use Rattle.std.proofs.lemmas.List.Elements.{All-cons, All-head, All-nil, All-tail}
use Rattle.coap_wire.specs.Spelling.{spelling}
use Rattle.coap_conn.specs.Release.{release_refusal}
use Rattle.coap_conn.specs.Responses.{response_refusal}
use Rattle.coap_conn.specs.History.{link_of}
use Rattle.coap_store.specs.Refusals.{put_refusal, remove_refusal}
use Rattle.coap_script.specs.script.Events.{ScriptEventValue, Drain}
use Rattle.coap_script.specs.script.Lines.{out_line}
use Rattle.coap_model.specs.Configs.{ConfigValues}
use Rattle.coap_model.specs.streams.Output.{waiting_of}
use Rattle.coap_model.specs.world.Connections.{Connection, waiting_on}
use Rattle.coap_model.specs.world.World.{side_of}
use Rattle.coap_model.specs.world.Events.{AcceptedCall, world_after, stream_on, takes, IsAccepted, AreAcceptedAfter}
use Rattle.coap_model.specs.world.Events as call
use Rattle.coap_model.proofs.world.StepLaws.{world_same, streams_same, accepted_more}
use Rattle.coap_model.proofs.world.TookLaws.{no_bytes_steps}
use Rattle.coap_model.proofs.world.ReachedLaws.{on_one}
use Rattle.coap_server_engine.specs.Prelude.{session_shown, map}
use Rattle.coap_server_engine.specs.script.Replay.{event_ran, replayed, tick_refusal}
use Rattle.coap_server_engine.specs.values.InResults.{in_result, fed_turns, goes_on}
use Rattle.coap_server_engine.specs.values.ServerAnswers.{open_refusal, released_refusal, responded_refusal}
use Rattle.coap_server_engine.specs.values.Servers.{ServerValue, new_server, session_of, server_taken, count_taken}
use Rattle.coap_server_engine.specs.world.Shows.{Shows, server_of, place_shown, server_shown}
use Rattle.coap_server_engine.proofs.world.ShowLaws.{side_there, shared_shown, takes_shown, shows_opened, shows_taken}
use Rattle.coap_server_engine.proofs.world.ShowLaws.{shows_written, shows_ticked, shows_put, shows_removed, shows_ended}
use Rattle.coap_server_engine.proofs.world.ShowLaws.{shows_released, shows_responded, shows_dropped, new_shows}
use Rattle.coap_server_engine.proofs.values.ServerLemmas.{opens}
use Rattle.coap_server_engine.proofs.scripting.ShownLemmas.{config_stays}
use Rattle.coap_server_engine.proofs.scripting.ReplayLemmas.{all_turns_made, replayed_on}
use Rattle.coap_record.specs.Prelude.{lines_of, events_said, all_events_said, AnnouncesNoSize, CanReplay, HasLines}
use Rattle.coap_record.specs.Prelude.{IsRecordable, IsRecordOf, AreWholeLines, SaysNoEvent, with_turns}
use Rattle.coap_record.specs.Prelude.{server_with_turns, write_in, writes_of, lines_of_writes, drains_of, ReplaysTo}
use Rattle.coap_record.proofs.LineLaws.{lines_read_back}
use Rattle.coap_record.proofs.RecordLemmas.{any_part, are_in_range}
use Rattle.coap_record.proofs.PartLaws.{whole_lines}
use Rattle.coap_wire.specs.Stream.{Stream}

-- ---- accepted bytes

-- A call that accepted no byte.
no_byte_shows : (v : ServerValue) (es : List AcceptedCall) (id : ℕ) → Shows v es
    → IsAccepted v.config es (call.Took id []) → Shows v (es ++ call.Took id [] ∷ [])
unfolding server_of
no_byte_shows v es id shows accepted =
    let c : ConfigValues = v.config in
    let e : AcceptedCall = call.Took id [] in
    let none : (k : ℕ) → call.taken_in k e ≡ [] = λ k. grind (arith, nat_tests) in
    record {
      accepted = accepted_more c es e shows.accepted accepted;
      same =
          rw (world_same c es e (no_bytes_steps c.limits.max_message id es))
          (shows.same ∙ sym (ap (λ (streams : ℕ → Stream). record (server_shown c es (world_after c es)) {
            sessions = map (λ p. (p.id, session_shown (streams p.id).rest p.side)) (world_after c es).sides;
          })
          (streams_same c.limits.max_message es e none)));
      moment = shows.moment;
      deadline = shows.deadline;
    }

-- The first take of an `in` accepts all its bytes, if it accepts that many.
one_take : (v : ServerValue) (id : ℕ) (byte : ℕ) (bytes : List ℕ)
    → count_taken v id (byte ∷ bytes) ≡ length (byte ∷ bytes)
    → (in_result v id (byte ∷ bytes)).server ≡ server_taken v id (byte ∷ bytes)
unfolding fed_turns
one_take v id byte bytes counted =
    let piece : List ℕ = byte ∷ bytes in
    let over : goes_on piece (fed_turns 1 v id piece) ≡ false = rw counted (grind (arith, nat_tests)) in
    rw (all_turns_made v id piece 1 over (length piece) (omega arith)).0 (grind (arith, nat_tests))

-- ---- one call

-- The server `next` has the configuration of `v`, and shows these calls.
abbrev pub ShowsLike : ServerValue → ServerValue → List AcceptedCall → Type 0
ShowsLike v next es = Shows next es × (next.config ≡ v.config)

-- A session of the server for a connection of the model.
record There (v : ServerValue) (es : List AcceptedCall) (id : ℕ) (P : Connection → Type 0) : Type 0 where
  side : Connection
  at : side_of id (world_after v.config es).sides ≡ Some side
  holds : P side
  session : session_of id v.sessions ≡ Some (session_shown (stream_on v.config.limits.max_message id es).rest side)

there : (v : ServerValue) (es : List AcceptedCall) (id : ℕ) (P : Connection → Type 0) → Shows v es
    → call.OnSide id (world_after v.config es) P → There v es id P
there v es id P shows on =
    let one = on_one P (side_of id (world_after v.config es).sides) on in
    record { side = one.0; at = one.1; holds = one.2; session = side_there v es id one.0 shows one.1 }

no_open_refusal : (v : ServerValue) (es : List AcceptedCall) (id : ℕ) → Shows v es
    → IsAccepted v.config es (call.Opened id) → (open_refusal v ≡ None) × (id ≡ v.ids + 1)
    × (length v.sessions < v.config.connections)
unfolding IsAccepted server_of
no_open_refusal v es id shows accepted =
    let ids : v.ids ≡ (world_after v.config es).ids = ap (λ (u : ServerValue). u.ids) shows.same in
    let few : length v.sessions < v.config.connections = omega (
      arith,
      ap (λ (u : ServerValue). length u.sessions) shows.same,
      length-map (world_after v.config es).sides (place_shown v.config.limits.max_message es),
    ) in
    (opens v few (λ spent. omega arith), omega arith, few)

no_tick_refusal : (v : ServerValue) (es : List AcceptedCall) (now : ℕ) → Shows v es
    → IsAccepted v.config es (call.Ticked now)
    → (tick_refusal v now ≡ None) × (v.shared.now ≤ now) × (now ≤ 18446744073709551615)
unfolding IsAccepted
no_tick_refusal v es now shows accepted =
    let later : v.shared.now ≤ now = grind (arith, nat_tests, shared_shown v es shows) in
    (grind (arith, nat_tests), later, grind (arith, nat_tests))

-- The server after the events of a call shows the call.
call_replays : (v : ServerValue) (es : List AcceptedCall) (e : AcceptedCall) → Shows v es → IsAccepted v.config es e
    → CanReplay e → ShowsLike v (replayed v (events_said e)).server (es ++ e ∷ [])
unfolding IsAccepted events_said replayed event_ran
call_replays v es (call.Opened id) shows accepted can =
    let opens = no_open_refusal v es id shows accepted in
    rw (opens.0, opens.1) (shows_opened v es shows (omega arith) opens.2, refl)
call_replays v es (call.Took id []) shows accepted can = (no_byte_shows v es id shows accepted, refl)
call_replays v es (call.Took id (byte ∷ bytes)) shows accepted can =
    let piece : List ℕ = byte ∷ bytes in
    let here = there v es id (λ s. takes v.config es id piece ≡ length piece) shows accepted in
    let counted : count_taken v id piece ≡ length piece = takes_shown v es id piece shows ∙ here.holds in
    let taken = shows_taken v es id piece _ shows here.session in
    rw (here.session, one_take v id byte bytes counted)
    (rw (counted, take_all (length piece) piece (omega arith)) at taken, config_stays v id piece)
call_replays v es (call.Wrote id n) shows accepted can =
    let here = there v es id (λ s. n ≤ length (waiting_on s)) shows accepted in
    rw (here.session, length-take-le n (waiting_on here.side) here.holds)
    (shows_written v es id n _ shows here.session here.holds, refl)
call_replays v es (call.Ticked now) shows accepted can =
    let ticks = no_tick_refusal v es now shows accepted in
    rw ticks.0 (shows_ticked v es now shows ticks.1 ticks.2, refl)
call_replays v es (call.Stored path format bytes) shows accepted can =
    let none : put_refusal v.shared.store path bytes ≡ None = rw (shared_shown v es shows) accepted in
    rw none (shows_put v es path format bytes shows none, refl)
call_replays v es (call.Removed path) shows accepted can =
    let none : remove_refusal v.shared.store path ≡ None = rw (shared_shown v es shows) accepted in
    rw none (shows_removed v es path shows none, refl)
call_replays v es (call.Ended id) shows accepted can =
    let here = there v es id (λ s. Unit {0}) shows accepted in
    rw here.session (shows_ended v es id _ shows here.session, refl)
call_replays v es (call.Released id) shows accepted can =
    let here = there v es id (λ s. release_refusal (link_of s.history) ≡ None) shows accepted in
    let none : released_refusal v id ≡ None = rw (here.session, here.holds) in
    rw none (shows_released v es id _ shows here.session here.holds, refl)
call_replays v es (call.Announced id size) shows accepted can = absurd can.0
call_replays v es (call.Responded id m) shows accepted can =
    let here = there v es id (λ s. response_refusal (link_of s.history) m ≡ None) shows accepted in
    let none : responded_refusal v id (spelling m) ≡ None = rw (here.session, can.1, here.holds) in
    rw (none, can.1) (shows_responded v es id m _ shows here.session here.holds, refl)
call_replays v es (call.Dropped id) shows accepted can =
    let here = there v es id (λ s. Unit {0}) shows accepted in
    rw here.session (shows_dropped v es id _ shows here.session, refl)

-- ---- written bytes

-- The line of a drain has the bytes that the call writes.
drain_line_is : (v : ServerValue) (es : List AcceptedCall) (id n : ℕ) → Shows v es
    → IsAccepted v.config es (call.Wrote id n)
    → (event_ran v (Drain id (Some n))).text
    ≡ out_line id (take n (waiting_of (side_of id (world_after v.config es).sides)))
unfolding IsAccepted event_ran
drain_line_is v es id n shows accepted =
    let here = there v es id (λ s. n ≤ length (waiting_on s)) shows accepted in rw (here.session, here.at)

-- The lines of drains in a replay of events in sequence.
drains_on : (v : ServerValue) (es fs : List ScriptEventValue)
    → drains_of v (es ++ fs) ≡ drains_of v es ++ drains_of (replayed v es).server fs
unfolding drains_of replayed
drains_on v [] fs = refl
drains_on v (e ∷ es) fs = rw (drains_on (event_ran v e).server es fs, append_assoc)

-- The lines of drains of one call.
call_drains : (v : ServerValue) (es : List AcceptedCall) (e : AcceptedCall) → Shows v es → IsAccepted v.config es e
    → drains_of v (events_said e) ≡ lines_of_writes (write_in (world_after v.config es) e)
unfolding drains_of events_said
call_drains v es (call.Wrote id n) shows accepted = rw (drain_line_is v es id n shows accepted)
call_drains v es (call.Took id []) shows accepted = refl
call_drains v es (call.Took id (byte ∷ bytes)) shows accepted = refl
call_drains v es e shows accepted = refl

-- ---- all calls

-- The server after the events of calls shows them, and the drains wrote the bytes that the calls write.
calls_replay : (v : ServerValue) (es cs : List AcceptedCall) → Shows v es → AreAcceptedAfter v.config es cs
    → All CanReplay cs → ShowsLike v (replayed v (all_events_said cs)).server (es ++ cs)
    × (drains_of v (all_events_said cs) ≡ lines_of_writes (writes_of v.config es cs))
unfolding AreAcceptedAfter all_events_said replayed drains_of writes_of
calls_replay v es [] shows accepted can = rw append-nil ((shows, refl), refl)
calls_replay v es (e ∷ cs) shows accepted can =
    let one = call_replays v es e shows accepted.0 (All-head CanReplay e cs can) in
    let next : ServerValue = (replayed v (events_said e)).server in
    let rest = calls_replay next (es ++ e ∷ []) cs one.0 (rw one.1 accepted.1) (All-tail CanReplay e cs can) in (
      rw replayed_on (rw (append_assoc es (e ∷ []) cs) at rest.0.0, rest.0.1 ∙ one.1),
      rw (drains_on, call_drains v es e shows accepted.0, rest.1, one.1, map-append),
    )

-- A new server shows no calls.
first_shows : (v : ServerValue) (cs : List AcceptedCall) → Shows v cs → Shows (new_server v.config) []
first_shows v cs shows =
    new_shows {F = Unit {0}} (Ok (new_server v.config)) v.config (omega (arith, shows.moment)) shows.deadline refl

-- The calls before others were accepted.
front_accepted : (c : ConfigValues) (earlier es fs : List AcceptedCall) → AreAcceptedAfter c earlier (es ++ fs)
    → AreAcceptedAfter c earlier es × AreAcceptedAfter c (earlier ++ es) fs
unfolding AreAcceptedAfter
front_accepted c earlier [] fs all = (tt, rw append-nil all)
front_accepted c earlier (e ∷ es) fs all =
    let rest = front_accepted c (earlier ++ e ∷ []) es fs all.1 in
    ((all.0, rest.0), rw (append_assoc earlier (e ∷ []) es) at rest.1)

-- ---- the limit of turns

-- A call is accepted whatever the limit of turns is.
accepted_at : (turns : ℕ) (c : ConfigValues) (es : List AcceptedCall) (e : AcceptedCall) → IsAccepted c es e
    → IsAccepted (with_turns turns c) es e
unfolding IsAccepted world_after takes
accepted_at turns c es (call.Opened id) is = is
accepted_at turns c es e is = is

all_accepted_at : (turns : ℕ) (c : ConfigValues) (earlier es : List AcceptedCall) → AreAcceptedAfter c earlier es
    → AreAcceptedAfter (with_turns turns c) earlier es
unfolding AreAcceptedAfter
all_accepted_at turns c earlier [] are = tt
all_accepted_at turns c earlier (e ∷ es) are =
    (accepted_at turns c earlier e are.0, all_accepted_at turns c (earlier ++ e ∷ []) es are.1)

shows_at : (turns : ℕ) (v : ServerValue) (cs : List AcceptedCall) → Shows v cs → Shows (server_with_turns turns v) cs
unfolding server_of world_after
shows_at turns v cs shows = record {
  accepted = all_accepted_at turns v.config [] cs shows.accepted;
  same = ap (server_with_turns turns) shows.same;
  moment = shows.moment;
  deadline = shows.deadline;
}

-- The bytes that calls write, whatever the limit of turns is.
writes_at : (turns : ℕ) (c : ConfigValues) (earlier cs : List AcceptedCall)
    → writes_of (with_turns turns c) earlier cs ≡ writes_of c earlier cs
unfolding writes_of world_after
writes_at turns c earlier [] = refl
writes_at turns c earlier (e ∷ es) = rw (writes_at turns c (earlier ++ e ∷ []) es)

-- ---- a replay on a new server

-- The server after the events of all calls is the one that accepted them, and the drains wrote the same bytes.
pub replays_on_new : (v : ServerValue) (cs : List AcceptedCall) (turns : ℕ) → Shows v cs → All CanReplay cs
    → ((replayed (new_server (with_turns turns v.config)) (all_events_said cs)).server ≡ server_with_turns turns v)
    × (drains_of (new_server (with_turns turns v.config)) (all_events_said cs)
    ≡ lines_of_writes (writes_of v.config [] cs))
replays_on_new v cs turns shows can =
    let shown = shows_at turns v cs shows in
    let all = calls_replay _ [] cs (first_shows _ cs shown) shown.accepted can in (
      all.0.0.same ∙ ap (λ c. server_of c cs) all.0.1 ∙ sym shown.same,
      all.1 ∙ ap lines_of_writes (writes_at turns v.config [] cs),
    )

pub drained_alike : (v : ServerValue) (before later : List AcceptedCall) (id n turns : ℕ)
    → Shows v (before ++ call.Wrote id n ∷ later) → All CanReplay before
    → (event_ran (replayed (new_server (with_turns turns v.config)) (all_events_said before)).server
    (Drain id (Some n))).text ≡ out_line id (take n (waiting_of (side_of id (world_after v.config before).sides)))
unfolding AreAcceptedAfter world_after
drained_alike v before later id n turns shows can =
    let shown = shows_at turns v (before ++ call.Wrote id n ∷ later) shows in
    let parts = front_accepted (with_turns turns v.config) [] before (call.Wrote id n ∷ later) shown.accepted in
    let all = calls_replay (new_server (with_turns turns v.config)) [] before (first_shows _ _ shown) parts.0 can in
    rw all.0.1 at (drain_line_is (replayed (new_server (with_turns turns v.config)) (all_events_said before)).server
    before id n all.0.0 (rw all.0.1 parts.1.0))

-- ---- the text of a record

-- The calls of a record can be made again, if they announce no message size.
can_replay : (cs : List AcceptedCall) → All AnnouncesNoSize cs → All IsRecordable cs → All CanReplay cs
can_replay [] none are = All-nil CanReplay
can_replay (c ∷ cs) none are =
    All-cons CanReplay c cs (All-head AnnouncesNoSize c cs none, (All-head IsRecordable c cs are).1)
    (can_replay cs (All-tail AnnouncesNoSize c cs none) (All-tail IsRecordable c cs are))

-- A header and lines of calls replay to the server that shows the calls.
pub lines_replay : (v : ServerValue) (header text : List ℕ) (cs : List AcceptedCall) (turns : ℕ) → SaysNoEvent header
    → HasLines header text cs → Shows v cs → All AnnouncesNoSize cs
    → ReplaysTo (with_turns turns v.config) text (server_with_turns turns v) (writes_of v.config [] cs)
lines_replay v header text cs turns silent has shows none =
    let on_new = replays_on_new v cs turns shows (can_replay cs none has.1) in
    record {
      events = all_events_said cs;
      read = rw has.0 (silent (lines_of cs) (all_events_said cs) (lines_read_back cs (are_in_range cs has.1)));
      server = on_new.0;
      drains = on_new.1;
    }

-- A property of all calls is one of the first calls.
all_front : (P : AcceptedCall → Type 0) (front later : List AcceptedCall) → All P (front ++ later) → All P front
all_front P [] later all = All-nil P
all_front P (c ∷ cs) later all =
    All-cons P c cs (All-head P c (cs ++ later) all) (all_front P cs later (All-tail P c (cs ++ later) all))

-- A header and lines of the first calls.
pub front_replays : (v : ServerValue) (header text : List ℕ) (cs front later : List AcceptedCall) (turns : ℕ)
    → SaysNoEvent header → cs ≡ front ++ later → HasLines header text front → Shows v cs
    → All AnnouncesNoSize cs
    → ReplaysTo (with_turns turns v.config) text (server_of (with_turns turns v.config) front)
    (writes_of v.config [] front)
unfolding server_of world_after
front_replays v header text cs front later turns silent all has shows none =
    let both : Shows v (front ++ later) = rw all at shows in
    let shown : Shows (server_of v.config front) front = record {
      accepted = (front_accepted v.config [] front later both.accepted).0;
      same = refl;
      moment = shows.moment;
      deadline = shows.deadline;
    } in
    lines_replay (server_of v.config front) header text front turns silent has shown
    (all_front AnnouncesNoSize front later (rw all at none))

-- Whole lines of a record.
pub part_replays : (v : ServerValue) (header text lines part : List ℕ) (cs : List AcceptedCall) (failed full : Bool)
    (turns : ℕ) → SaysNoEvent header → IsRecordOf header failed full (Some text) cs
    → text ≡ header ++ (lines ++ part) → AreWholeLines lines → Shows v cs
    → All AnnouncesNoSize cs
    → (front later : List AcceptedCall) × (cs ≡ front ++ later) × ReplaysTo (with_turns turns v.config)
    (header ++ lines) (server_of (with_turns turns v.config) front) (writes_of v.config [] front)
part_replays v header text lines part cs failed full turns silent is same whole shows none =
    let has = any_part header text cs failed full is in
    let begins : header ++ lines_of has.front ≡ header ++ (lines ++ (part ++ has.missing)) =
    has.lines ∙ ap (λ t. t ++ has.missing) same ∙ simp append_assoc in
    let found = whole_lines has.front (are_in_range has.front has.ranges) (part ++ has.missing) lines whole
    (append_cancel_left header _ _ begins) in
    let all : cs ≡ found.0 ++ (found.1 ++ has.later) =
    has.all ∙ ap (λ ds. ds ++ has.later) found.2 ∙ append_assoc found.0 found.1 has.later in
    let ranges = all_front IsRecordable found.0 found.1 (subst (All IsRecordable) found.2 has.ranges) in (
      found.0,
      found.1 ++ has.later,
      all,
      front_replays v header _ cs found.0 (found.1 ++ has.later) turns silent all
          (ap (λ t. header ++ t) found.3, ranges) shows none,
    )
