-- The parts of a run, one after another.
use Rattle.std.proofs.Common.{ℕ, ◌≡◌, ◌==◌, Bool, true, false, length, is_none, List, [], ◌∷◌, Option, Some, None, Ok}
use Rattle.std.proofs.Common.{Result, Err, OnOk, OnErr, refl, sym, ap, arith, inl, inr, le-leb, is_ok, if◌then◌else◌}
use Rattle.std.specs.Prelude.{nat_le, nat_lt}
use Rattle.std.proofs.lemmas.List.{append-nil, map-append}
use Rattle.std.proofs.lemmas.Bool.Decides.{nat_tests}
use Rattle.coap_io.proofs.streams.DeviceLemmas.{no_calls, calls_then}
use Rattle.coap_model.specs.declared.config.Config.{Config}
use Rattle.coap_server_engine.proofs.values.ServerLemmas.{all_settled_stay}
use Rattle.coap_server_engine.proofs.scripting.ShownLemmas.{shows_same}
use Rattle.coap_server_engine.proofs.scripting.FollowLemmas.{followed_none, followed_then}
use Rattle.coap_serve.specs.Prelude.{config_of, new_server}
use Rattle.coap_serve.specs.Prelude.{AcceptedCall, Exchange, HasAccepted, IsAccepted, Answering, AnswersMore, AreSteps}
use Rattle.coap_serve.specs.Prelude.{AreRequestedLater, AreCallsBetween, Continues, Following, FollowsMore, HasTurned}
use Rattle.coap_serve.specs.Prelude.{History, Journal, calls_only, history_then, journal, AreSettled, DoorCall, IoFault}
use Rattle.coap_serve.specs.Prelude.{IsMemory, IsMemoryOrTurns, Memory, Peer, ServerValue, ShowsMore}
use Rattle.coap_serve.specs.Prelude.{AddsCalls, Views, Wait, door_only, open_refusal, server_ticked, EndsRun, HasRun}
use Rattle.coap_serve.specs.Prelude.{Environment, HasSwept, IsBegun, IsCutRun, IsRun, IsRunStep, IsTurnFor}
use Rattle.coap_serve.specs.Prelude.{KnownOfRun, Matches, closings, RunTrace, ServiceConfig, ServiceValue, Sweep, Times}
use Rattle.coap_serve.specs.Prelude.{acted, due_sweep, environment, ended, known_of_run, moved_calls, moved_to, swept}
use Rattle.coap_serve.specs.Prelude.{no_trace, plain_config, released_refusal, silence_action, some_waits, status_of}
use Rattle.coap_serve.specs.Prelude.{swept_one, ticked_calls, trace_then, turn_trace, unswept, waited_after, Read}
use Rattle.coap_serve.specs.Prelude.{ReleaseFault, Write, Turns, NoStep, SilentReleased, SilentDropped, TimeSet, Waited}
use Rattle.coap_serve.specs.Prelude.{LaterGiven, TurnMade, DoorWaited, SilenceAction, WireReturned}
use Rattle.coap_serve.specs.declared.door.silence.SilenceAction.TheVariants.{Keep, Release, Drop}
use Rattle.coap_serve.proofs.listener.ServingLemmas.{accepted_then, calls_accepted, calls_made, continued_none}
use Rattle.coap_serve.proofs.listener.ServingLemmas.{continued_then, door_known, one_step, steps_then}

-- ---- the time of the server

-- The server has this time already.
pub same_time : {v : ServerValue} {now : ℕ} → AreSettled v.shared v.sessions → now ≡ v.shared.now → v ≡ moved_to v now
same_time {v = v} settled is =
    let same : v ≡ server_ticked v v.shared.now =
    sym (ap (λ es. record v { sessions = es }) (all_settled_stay v.shared v.sessions
    settled)) in
    rw (is, le-leb v.shared.now v.shared.now (omega arith)) same

pub none_ticked : (v : ServerValue) {now : ℕ} → now ≡ v.shared.now → ticked_calls v now ≡ []
none_ticked v is = grind (arith, nat_tests)

-- ---- the history

-- The call of the clock. If the time was earlier, nothing changed.
pub time_called : {T E M : Type 0} (calls : M → Following) (m n : M) (r : Result T E) {v w : ServerValue} (moment : ℕ)
    → is_ok r ≡ nat_le v.shared.now moment
    → OnOk r (ShowsMore v w (ticked_calls v moment)) → OnOk r (FollowsMore (calls m) (calls n) (ticked_calls v moment))
    → OnErr r ((w ≡ v) × (n ≡ m)) → AreCallsBetween (calls m) (calls n) v w (moved_calls v moment)
time_called calls m n (Ok x) moment answer shows received err =
    record { shows = rw (← answer) shows; follows = rw (← answer) received }
time_called calls m n (Err e) {v = v} {w = w} moment answer shows received err = record {
  shows = rw (← answer) (shows_same v w err.0);
  follows = rw (← answer, err.1) (followed_none (calls m));
}

pub time_ran : {W : Type 0} {a b : Following} {p : Answering} {d : Option (List (DoorCall W))} {v w : ServerValue}
    (moment : ℕ) → w ≡ moved_to v moment → AreCallsBetween a b v w (moved_calls v moment)
    → HasRun (Continues (journal a p d) (journal b p d)) v w
time_ran moment moved made = calls_made (rw moved (one_step (TimeSet moment))) made

-- Silent connections were released or dropped.
acted_steps : {W : Type 0} (action : SilenceAction) (refusal : Option ReleaseFault) (now : ℕ)
    {v : ServerValue} (e : ℕ × Peer W)
    → AreSteps IsRunStep v (acted action refusal now v e).server (acted action refusal now v e).history
acted_steps Keep refusal now e = NoStep
acted_steps Release None now e = one_step (SilentReleased e.0)
acted_steps Release (Some fault) now e = one_step (SilentDropped e.0 e.1.wire)
acted_steps Drop refusal now e = one_step (SilentDropped e.0 e.1.wire)

swept_steps : {W : Type 0} (idle now : ℕ) (v : ServerValue) (es : List (ℕ × Peer W))
    → AreSteps IsRunStep v (swept idle now v es).server (swept idle now v es).history
unfolding swept
swept_steps idle now v [] = NoStep
swept_steps idle now v (e ∷ es) =
    steps_then (acted_steps (silence_action idle now (status_of v e.0) e.1.activity) (released_refusal v e.0) now e)
    (swept_steps idle now (swept_one idle now v e).server es)

due_steps : {W : Type 0} (idle : Option ℕ) (last second : ℕ) (v : ServerValue) (es : List (ℕ × Peer W))
    → AreSteps IsRunStep v (due_sweep idle last second v es).server (due_sweep idle last second v es).history
due_steps None last second v es = NoStep
due_steps (Some idle) last second v es =
    elim (second == last) as (λ b. let s : Sweep _ = if b then unswept v es else swept idle second v es in
    AreSteps IsRunStep v s.server s.history) [
      | true ↦ NoStep
      | false ↦ swept_steps idle second v es
    ]

pub sweep_ran : {W : Type 0} {Known : History W → Type 0} (idle : Option ℕ) (last second : ℕ) {v after : ServerValue}
    (es : List (ℕ × Peer W)) → HasSwept Known (due_sweep idle last second v es) v after → HasRun Known v after
sweep_ran idle last second {v = v} es swept = record {
  history = _;
  made = rw swept.server (due_steps idle last second v es);
  accepted = swept.accepted;
}

-- The same later responses, whose history is known.
requested_so : {v after : ServerValue} {most : ℕ} {is_full : Bool} {monitor : List AcceptedCall → Type 0}
    {asks told : List Exchange → Type 0} (given : AreRequestedLater v most is_full after monitor asks)
    → told given.exchanges → AreRequestedLater v most is_full after (λ all. given.events ≡ all) told
requested_so given exchanged = search given

-- Later responses were given.
pub later_ran : {W : Type 0} {a b : Following} {p q : Answering} {d : Option (List (DoorCall W))} {v w : ServerValue}
    {is_full : Bool} → AreRequestedLater v 256 is_full w (FollowsMore a b) (AnswersMore p q)
    → HasRun (Continues (journal a p d) (journal b q d)) v w
later_ran {w = w} {is_full = is_full} given = record {
  history = record { events = given.events; exchanges = given.exchanges; calls = [] };
  made = one_step (LaterGiven w _ is_full (requested_so given refl) refl);
  accepted = search no_calls;
}

-- A turn was made, in full or in part.
pub turn_ran : {W : Type 0} {Known : History W → Type 0} {v w : ServerValue} → HasTurned Known v w → HasRun Known v w
turn_ran turned = search (turned, one_step, TurnMade)

-- The turn ended.
pub made_to_end : {W : Type 0} {Made : History W → Type 0} {a : Journal W} {b c : Following} {p : Answering}
    {d : Option (List (DoorCall W))} {v w : ServerValue} → HasAccepted Made (Continues a (journal b p d)) v w
    → FollowsMore b c [] → HasAccepted Made (Continues a (journal c p d)) v w
made_to_end {a = a} {b = b} {c = c} one ends =
    let calls = rw append-nil at (followed_then a.calls b c one.history.events [] one.accepted.known.calls ends) in
    search (one, calls)

-- ---- calls of the listener

-- The listener waited between two turns.
pub wait_ran : {W : Type 0} {a : Following} {p : Answering} {d e : Option (List (DoorCall W))} {v : ServerValue}
    (turns : ℕ) (wait : Wait) (opens : Bool) → AddsCalls d e (waited_after turns wait opens)
    → HasRun (Continues (journal a p d) (journal a p e)) v v
wait_ran {W = W} {v = v} turns wait opens waited = record {
  history = door_only (waited_after turns wait opens);
  made = elim (nat_lt 0 turns)
      as (λ b. AreSteps {W = W} IsRunStep v v (door_only (if b then Waited wait opens ∷ [] else []))) [
        | true ↦ one_step (DoorWaited wait opens)
        | false ↦ NoStep
      ];
  accepted = search (shows_same, door_known);
}

closing_steps : {W : Type 0} (v : ServerValue) (es : List (ℕ × Peer W))
    → AreSteps IsRunStep v v (door_only (closings es))
closing_steps v [] = NoStep
closing_steps v (e ∷ es) = steps_then (one_step (WireReturned e.1.wire)) (closing_steps v es)

-- The listener got back the wires of these connections.
pub closed_ran : {W : Type 0} {a : Following} {p : Answering} {d e : Option (List (DoorCall W))} {v : ServerValue}
    (es : List (ℕ × Peer W)) → AddsCalls d e (closings es) → HasRun (Continues (journal a p d) (journal a p e)) v v
closed_ran {v = v} es closed = record {
  history = door_only (closings es);
  made = closing_steps v es;
  accepted = search (shows_same, door_known);
}

-- ---- traces one after the other

pub nothing_matches : {W : Type 0} (c u : Option (List ℕ)) (a : Journal W)
    → Matches (known_of_run (AddsCalls c c) (AddsCalls u u) (Continues a a)) no_trace
nothing_matches c u a = (no_calls c, no_calls u, continued_none a)

-- One more turn.
pub turn_matches : {W : Type 0} (c0 c1 c2 u0 u1 u2 : Option (List ℕ)) {a : Journal W} {m n : Following}
    {p q : Answering} {d e f : Option (List (DoorCall W))} (t : RunTrace W) {turns : ℕ} (wait : Wait)
    (s : ServiceValue W) (times : Times) (h : History W) {opens : Bool}
    → Matches (known_of_run (AddsCalls c0 c1) (AddsCalls u0 u1) (Continues a (journal m p d))) t
    → length t.times ≡ turns → opens ≡ is_none (open_refusal s.state.server) → AddsCalls c1 c2 (times.now ∷ [])
    → AddsCalls u1 u2 (times.second ∷ []) → AddsCalls d e (waited_after turns wait opens)
    → Continues (journal m p e) (journal n q f) h
    → Matches (known_of_run (AddsCalls c0 c2) (AddsCalls u0 u2) (Continues a (journal n q f)))
    (trace_then t (turn_trace (length t.times) wait s times h))
turn_matches c0 c1 c2 u0 u1 u2 t wait s times h so_far counted is clock uptime waited known = (
  rw (map-append (λ (x : Times). x.now) t.times (times ∷ [])) (calls_then c0 c1 c2 _ _ so_far.0 clock),
  rw (map-append (λ (x : Times). x.second) t.times (times ∷ [])) (calls_then u0 u1 u2 _ _ so_far.1 uptime),
  continued_then t.history _ so_far.2 (continued_then _ h (door_known (rw (← counted, is) at waited)) known),
)

-- The end of a run.
pub end_matches : {W : Type 0} (c0 c1 u0 u1 : Option (List ℕ)) {a : Journal W} {m : Following} {p : Answering}
    {d e : Option (List (DoorCall W))} (t : RunTrace W) (es : List (ℕ × Peer W))
    → Matches (known_of_run (AddsCalls c0 c1) (AddsCalls u0 u1) (Continues a (journal m p d))) t
    → AddsCalls d e (closings es)
    → Matches (known_of_run (AddsCalls c0 c1) (AddsCalls u0 u1) (Continues a (journal m p e))) (ended t es)
end_matches c0 c1 u0 u1 t es so_far closed =
    (so_far.0, so_far.1, continued_then t.history _ so_far.2 (door_known closed))

-- ---- the parts of a turn before its visits

-- These parts, and what is known of them.
pub record HasBegun {A W : Type 0} (follows : A → Answering) (rests : A → Type 0) (times : Times) (s : ServiceValue W)
    (Known : History W → Type 0) (answered : ServerValue) (is_full : Bool) : Type 0 where
  pub history : History W
  pub begun : IsBegun follows rests times s (record { server = answered; is_full = is_full; history = history })
  pub accepted : IsAccepted Known s.state.server answered history

pub parts_begin : {A W : Type 0} {follows : A → Answering} {rests : A → Type 0} {times : Times} {s : ServiceValue W}
    {m0 m1 m2 m3 : Following} {x : Answering} (one other : A) {v1 v2 v3 : ServerValue}
    {d e : Option (List (DoorCall W))} {is_full : Bool}
    → HasSwept (Continues (journal m0 x d) (journal m1 (follows one) e))
    (due_sweep s.idle s.second times.second s.state.server s.state.entries) s.state.server v1
    → v2 ≡ moved_to v1 times.now → AreCallsBetween m1 m2 v1 v2 (moved_calls v1 times.now)
    → AreRequestedLater v2 256 is_full v3 (FollowsMore m2 m3) (AnswersMore (follows one) (follows other))
    → (is_full ≡ false → rests other)
    → HasBegun follows rests times s (Continues (journal m0 x d) (journal m3 (follows other) e)) v3 is_full
parts_begin {W = W} {times = times} {s = s} one other {e = e} swept moved ticked given idle =
    let sweep = due_sweep s.idle s.second times.second s.state.server s.state.entries in
    let later : History W = record { events = given.events; exchanges = given.exchanges; calls = [] } in
    record {
      history = history_then sweep.history (history_then (calls_only (moved_calls sweep.server times.now)) later);
      begun = record {
        sweep = sweep;
        is_swept = refl;
        later = later;
        given = rw (← swept.server, ← moved) (requested_so given (refl, one, other, idle, given.exchanged));
        uncalled = refl;
        all = refl;
      };
      accepted =
          accepted_then swept.accepted (rw (← swept.server) (accepted_then (calls_accepted ticked) (search no_calls)));
    }

-- ---- whole turns

-- The same turn, if some application lets the listener wait so long.
pub turn_allowed : {A W : Type 0} (follows : A → Answering) (rests : A → Type 0) (waits : A → ℕ → Wait → Type 0)
    (views : Views W) (one : A) {times : Times} {s after : ServiceValue W} {wait : Wait} {h : History W}
    → IsTurnFor (environment follows rests (waits one) views) times s after wait h
    → IsTurnFor (environment follows rests (some_waits waits) views) times s after wait h
turn_allowed follows rests waits views one turn = search turn

-- ---- the error of a run

pub cut_ends : {A W : Type 0} (T : Type 0) {E : Environment A W} {c : ServiceConfig} {K : KnownOfRun W}
    {last : ServerValue} (fault : IoFault) → IsMemory fault → HasRun K.history (new_server (config_of c)) last
    → IsCutRun E c K last
    → IsRun {T = T} E c K (Err fault)
cut_ends T {last = last} Memory is ran cut = record { last = last; ran = ran; ends = inr cut }
cut_ends T fault is ran cut = absurd is

-- A failed allocation is one of the two errors that end a run over a listener.
pub memory_ends : (T : Type 0) (fault : IoFault) → IsMemory fault → IsMemoryOrTurns {T = T} (Err fault)
memory_ends T Memory is = tt
memory_ends T fault is = absurd is

-- ---- a run of which less is known

-- The configuration without an application and without a limit of silence.
pub is_plain : {c : ServiceConfig} (config : Config) → (c.config ≡ config) × (c.applications ≡ None) × (c.idle ≡ None)
    → c ≡ plain_config config
is_plain config is = grind arith

module _ {A W : Type 0} (E : Environment A W) (c : ServiceConfig) (s t : KnownOfRun W)
    (clock : (l : List ℕ) → s.clock l → t.clock l) (uptime : (l : List ℕ) → s.uptime l → t.uptime l)
    (history : (h : History W) → s.history h → t.history h)
  where
    matches_too : (x : RunTrace W) → Matches s x → Matches t x
    matches_too x m = (clock _ m.0, uptime _ m.1, history _ m.2)

    ends_too : (last : ServerValue) (fault : IoFault) → EndsRun E c s last fault → EndsRun E c t last fault
    ends_too last Memory (inl none) = inl (matches_too no_trace none.0, none.1)
    ends_too last Memory (inr cut) = inr (search (cut, matches_too))
    ends_too last Turns whole = search (whole, matches_too)
    ends_too last Read never = never
    ends_too last Write never = never

    pub run_too : {T : Type 0} (r : Result T IoFault) → IsRun E c s r → IsRun E c t r
    run_too (Ok x) never = never
    run_too (Err fault) run = search (run, ends_too)
