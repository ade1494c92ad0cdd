-- The calls of a run, one after the other, and the report of them to a monitor. A flush of a server that shows a world
-- is the flush of that world, and no byte is queued after it.
use Rattle.std.proofs.Common.{◌≡◌, ℕ, ◌+◌, List, [], ◌∷◌, ◌++◌, length, None, refl, sym, ap, ◌∙◌, append_assoc, arith}
use Rattle.std.proofs.Common.{◌⊎◌, zero, suc, ◌≤◌, ◌==◌, map, Some, subst, inl, inr, add-zero}
use Rattle.std.proofs.lemmas.Bool.{eq-eqb, cond_both}
use Rattle.std.proofs.lemmas.List.{append-nil, length-append, length-map}
use Rattle.coap_serve.specs.Prelude.{ConfigValues, ServerValue, AcceptedCall, Opened, Took, Wrote, only_id, outcome}
use Rattle.coap_serve.specs.Prelude.{stdio_output, taken_on, written_on, written_in, AreTransfers, IsTransfer}
use Rattle.coap_serve.specs.Prelude.{IsAfterOutput, AreAfterOutput, waiting_of, side_of, world_after, AreTransfersOf}
use Rattle.coap_serve.specs.Prelude.{HasReported, HasReportedStop, IsAtBytes, SessionValue, session_of, session_written}
use Rattle.coap_serve.specs.Prelude.{session_becomes, settled_entry, server_written, waiting_in, waiting_at, more_in}
use Rattle.coap_serve.specs.Prelude.{more_at, flush_turns, IsFlushed, Connection, waiting_on, side_written, settled}
use Rattle.coap_serve.specs.Prelude.{stream_on, steps_by, spelled_on, Shows, session_shown, stream_of, more_of}
use Rattle.coap_serve.specs.Prelude.{written_times, flushed, world_for, IsReportedFlush, FollowsMore}
use Rattle.coap_serve.specs.Prelude.{Following, calls_of_flush}
use Rattle.coap_model.proofs.world.EntryLemmas.{all_append}
use Rattle.coap_model.proofs.world.StepLaws.{taken_then, taken_here, world_step, spelled_same}
use Rattle.std.proofs.lemmas.Bool.Decides.{nat_tests}
use Rattle.coap_model.specs.world.Events.{taken_in}
use Rattle.coap_model.specs.world.World as world
use Rattle.coap_model.proofs.world.EndOfInputLaws.{world_hears}
use Rattle.coap_model.proofs.streams.FlushLaws.{flushed_so, times_further, flush_leaves}
use Rattle.coap_model.proofs.streams.OutputLaws.{world_for_written, outcome_there}
use Rattle.coap_server_engine.proofs.world.ShowLaws.{side_there, shows_written, no_session}
use Rattle.coap_model.proofs.world.GoingOn.{GoesOn, as_before, written_goes_on, side_is}
use Rattle.coap_model.proofs.world.GrowLaws.{front_written, same_front, none_waits_all_written, written_all}
use Rattle.coap_model.proofs.world.GrowLaws.{settled_grows}
use Rattle.coap_model.proofs.world.WalkLaws.{written_between}
use Rattle.coap_model.proofs.world.AcrossLaws.{written_there}
use Rattle.coap_server_engine.proofs.scripting.FollowLemmas.{followed_then}

-- A statement on calls.
abbrev pub OnCalls : Type 1
OnCalls = List AcceptedCall → Type 0

-- ---- transfers

written_then : (id : ℕ) (es : List AcceptedCall) (e : AcceptedCall)
    → written_on id (es ++ e ∷ []) ≡ written_on id es + written_in id e
unfolding written_on
written_then id [] e = omega arith
written_then id (d ∷ es) e = omega (arith, written_then id es e)

written_here : (id n : ℕ) → written_in id (Wrote id n) ≡ n
written_here id n = rw (eq-eqb id id refl) refl

after_output_more : (c : ConfigValues) (earlier es : List AcceptedCall) (e : AcceptedCall) → AreAfterOutput c earlier es
    → IsAfterOutput c (earlier ++ es) e → AreAfterOutput c earlier (es ++ e ∷ [])
unfolding AreAfterOutput
after_output_more c earlier [] e before last = (rw append-nil at last, tt)
after_output_more c earlier (d ∷ es) e before last =
    (before.0, after_output_more c (earlier ++ d ∷ []) es e before.1 (rw (append_assoc earlier (d ∷ []) es) last))

pub transfers_opened : (c : ConfigValues) (id : ℕ) → AreTransfers c id [] 0 (Opened id ∷ [])
unfolding taken_on written_on AreAfterOutput
transfers_opened c id =
    record { calls = []; opened = refl; each = tt; bytes = refl; count = refl; after_output = (tt, tt) }

module _ (c : ConfigValues) (id : ℕ) {taken : List ℕ} {written : ℕ} (es : List AcceptedCall)
    (so_far : AreTransfers c id taken written es) where
  -- One more transfer.
  transfers_then : (e : AcceptedCall) {more : List ℕ} {count : ℕ} → IsTransfer id e → IsAfterOutput c es e
      → taken_in id e ≡ more → written_in id e ≡ count
      → AreTransfers c id (taken ++ more) (written + count) (es ++ e ∷ [])
  transfers_then e is after more_is count_is = record {
    calls = so_far.calls ++ e ∷ [];
    opened = ap (λ fs. fs ++ e ∷ []) so_far.opened;
    each = all_append (IsTransfer id) so_far.calls (e ∷ []) so_far.each (is, tt);
    bytes = taken_then id es e ∙ rw (so_far.bytes, more_is) refl;
    count = omega (arith, written_then id es e, so_far.count, count_is);
    after_output = after_output_more c [] es e so_far.after_output after;
  }

  -- No byte is queued before the connection accepts these bytes.
  pub transfers_taken : (bytes : List ℕ) → waiting_of (side_of id (world_after c es).sides) ≡ []
      → AreTransfers c id (taken ++ bytes) written (es ++ Took id bytes ∷ [])
  transfers_taken bytes waits =
      rw add-zero at (transfers_then (Took id bytes) refl waits (taken_here id bytes) refl)

  pub transfers_written : (n : ℕ) → AreTransfers c id taken (written + n) (es ++ Wrote id n ∷ [])
  transfers_written n = rw append-nil at (transfers_then (Wrote id n) refl tt refl (written_here id n))

-- ---- a server that has accepted some bytes

-- All of these bytes were accepted.
pub all_transferred : (c : ConfigValues) (bytes : List ℕ) {es : List AcceptedCall}
    → AreTransfers c (only_id c) bytes (length (stdio_output c bytes)) es → AreTransfersOf c bytes es
all_transferred c bytes all =
    record { taken = bytes; later = []; all = sym (append-nil bytes); whole = λ _. refl; same = refl; transfers = all }

-- Nothing stops the connection, so it accepted all bytes.
pub whole_transfers : {c : ConfigValues} {bytes : List ℕ} {es : List AcceptedCall} → AreTransfersOf c bytes es
    → (outcome c bytes).stop ≡ None → AreTransfers c (only_id c) bytes (length (stdio_output c bytes)) es
whole_transfers {bytes = bytes} of none =
    let is : of.taken ≡ bytes = sym (of.all ∙ rw (of.whole none) (append-nil of.taken)) in
    rw is at of.transfers

module _ {c : ConfigValues} {v : ServerValue} {bytes : List ℕ} {monitor : OnCalls}
    (is_at : IsAtBytes c v bytes monitor) where
  -- The monitor received these transfers.
  reported_so : {taken : List ℕ} {written : ℕ} → AreTransfers c (only_id c) taken written is_at.events
      → HasReported c monitor taken written
  reported_so transfers = record {
    server = v;
    config = is_at.config;
    events = is_at.events;
    shows = is_at.shows;
    transfers = transfers;
    monitor_reports = is_at.reports;
  }

  pub running_reported : (outcome c bytes).stop ≡ None → HasReported c monitor bytes (length (stdio_output c bytes))
  running_reported none = reported_so (whole_transfers is_at.transfers none)

  pub stopped_reported : HasReportedStop c monitor bytes (length (stdio_output c bytes))
  stopped_reported =
      let of = is_at.transfers in
      record { taken = of.taken; later = of.later; all = of.all; same = of.same; reported = reported_so of.transfers }

-- ---- flushes

-- The server after some iterations of a flush shows this world by these events, and these bytes were written. `es` are
-- the events before the flush.
pub record FlushShown (c : ConfigValues) (es : List AcceptedCall) (id : ℕ) (s : Connection) (turns : ℕ)
    (after : ServerValue) (text : List ℕ) (events : List AcceptedCall) : Type 0 where
  pub config : after.config ≡ c
  pub shows : Shows after events
  pub world : world_after c events ≡ written_times c.limits id turns (world_after c es)
  pub spelled : spelled_on c.limits.max_message id events ≡ spelled_on c.limits.max_message id es
  pub side : Connection
  pub there : side_of id (world_after c events).sides ≡ Some side
  pub said : front_written side ≡ front_written s ++ text
  pub transfers : (taken : List ℕ) (written : ℕ) → AreTransfers c id taken written es
      → AreTransfers c id taken (written + length text) events

-- A server of this configuration shows a world in which the connection with this number is this one.
pub record ShowsSide (c : ConfigValues) (v : ServerValue) (id : ℕ) (s : Connection) : Type 0 where
  pub config : v.config ≡ c
  pub events : List AcceptedCall
  pub shows : Shows v events
  pub there : side_of id (world_after c events).sides ≡ Some s

-- The same for the only connection. A flush leads from this world to the world for these bytes, and the connection
-- received the stream that they encode. The monitor received the calls that led to this world.
pub record LeadsTo (c : ConfigValues) (v : ServerValue) (s : Connection) (bytes : List ℕ)
    (monitor : OnCalls) : Type 0 where
  pub from : ShowsSide c v (only_id c) s
  pub open from use *
  pub flushes : flushed c.limits (only_id c) (world_after c from.events) ≡ world_for c bytes
  pub spelled : spelled_on c.limits.max_message (only_id c) from.events ≡ (stream_of c bytes, c.limits.max_message)
  pub transfers : AreTransfers c (only_id c) bytes (length (front_written s)) from.events
  pub reports : monitor from.events

-- The server has accepted these bytes. After the prefix `front` of their output, the whole rest of it was written.
pub record FlushedRest (c : ConfigValues) (bytes front : List ℕ) (after : ServerValue) (wrote : List ℕ → Type 0)
    (monitor : OnCalls) : Type 0 where
  pub is_at : IsAtBytes c after bytes monitor
  pub text : List ℕ
  pub says : stdio_output c bytes ≡ front ++ text
  pub written : wrote text

module _ {c : ConfigValues} {v : ServerValue} {id : ℕ} {s : Connection} (from : ShowsSide c v id s) where
  abbrev es : List AcceptedCall
  es = from.events

  -- One more iteration.
  module _ {turns : ℕ} {now : ServerValue} {text : List ℕ} {fs : List AcceptedCall}
      (so_far : FlushShown c es id s turns now text fs) where
    session_is : session_of id now.sessions
        ≡ Some (session_shown (stream_on now.config.limits.max_message id fs).rest so_far.side)
    session_is = side_there now fs id so_far.side so_far.shows (rw so_far.config so_far.there)

    waits_shown : waiting_at id now ≡ waiting_on so_far.side
    waits_shown = ap waiting_in session_is

    turn_shown : FlushShown c es id s (suc turns) (server_written now id (length (waiting_at id now)))
        (text ++ waiting_at id now) (fs ++ Wrote id (length (waiting_at id now)) ∷ [])
    unfolding written_times steps_by
    turn_shown =
        let w = world_after c fs in
        let t = so_far.side in
        let count = length (waiting_at id now) in
        let wrote = side_written t count in
        let next = settled w.store w.now wrote in
        let next_step : world_after c (fs ++ Wrote id count ∷ []) ≡ world.step c.limits w (world.Written id count) =
        world_step c fs (Wrote id count) (world.Written id count) refl in
        record {
          config = so_far.config;
          shows = shows_written now fs id count _ so_far.shows session_is (omega (arith, ap length waits_shown));
          world = rw (← so_far.world, so_far.there, ← waits_shown) next_step;
          spelled = spelled_same c.limits.max_message id fs (Wrote id count) refl (λ N. refl) ∙ so_far.spelled;
          side = next;
          there = rw next_step (written_there c.limits w id count t so_far.there);
          said =
              same_front wrote next ((written_between GoesOn as_before written_goes_on t count).history
              (side_is c fs id t so_far.there).is_history) (settled_grows w.store w.now wrote)
              ∙ rw (waits_shown, written_all, so_far.said) (append_assoc (front_written s) text (waiting_on t));
          transfers = λ taken written before.
              subst (λ (n : ℕ). AreTransfers c id taken n (fs ++ Wrote id count ∷ []))
              (omega (arith, length-append text (waiting_at id now)))
              (transfers_written c id fs (so_far.transfers taken written before) count);
        }

  -- All iterations.
  pub flushing : (turns : ℕ) → FlushShown c es id s turns (flush_turns turns id v).server (flush_turns turns id v).text
      (es ++ calls_of_flush turns id v)
  unfolding flush_turns written_times calls_of_flush
  flushing zero = rw (append-nil es) (record {
    config = from.config;
    shows = from.shows;
    world = refl;
    spelled = refl;
    side = s;
    there = from.there;
    said = sym (append-nil (front_written s));
    transfers = λ taken written before. rw add-zero before;
  })
  flushing (suc turns) = rw (← append_assoc es (calls_of_flush turns id v) _) (turn_shown (flushing turns))

  more_there : more_at id v ≡ more_of (Some s)
  more_there =
      ap more_in (side_there v es id s from.shows
      (ap (λ k. side_of id (world_after k es).sides) from.config ∙ from.there))
      ∙ ap (λ n. length s.history.pending + n) (length-map s.observers _)

  -- All iterations were made, or those after which no byte is queued.
  module _ (turns : ℕ) (within : turns ≤ suc (more_at id v))
      (done : (waiting_at id (flush_turns turns id v).server ≡ []) ⊎ (turns ≡ suc (more_at id v))) where
    whole : written_times c.limits id turns (world_after c es) ≡ flushed c.limits id (world_after c es)
    whole =
        let f = flushing turns in
        let w = world_after c es in
        elim done [
          | inl none ↦
              times_further c.limits id turns (suc (more_of (Some s))) w f.side (world_hears c es)
              (rw (← f.world) f.there) (sym (waits_shown f) ∙ none) (omega (arith, within, more_there))
          | inr all ↦ ap (λ n. written_times c.limits id n w) (all ∙ ap (λ n. suc n) more_there)
        ]
        ∙ sym (flushed_so c.limits id w s from.there)

    none_waits : waiting_at id (flush_turns turns id v).server ≡ []
    none_waits =
        let f = flushing turns in
        let left = flush_leaves c.limits id (world_after c es) s from.there in
        let flushed_there : side_of id (flushed c.limits id (world_after c es)).sides ≡ Some f.side =
        rw (← whole, ← f.world) f.there in
        let none : waiting_on f.side ≡ [] = cc (flushed_there, left.0.there, left.1) in
        waits_shown f ∙ none

  pub leaves_nothing : {after : ServerValue} {wrote : List ℕ → Type 0} → IsFlushed id v after wrote
      → waiting_at id after ≡ []
  leaves_nothing did = rw did.server (none_waits did.turns did.within (rw did.server at did.done))

-- ---- any connection

-- If no connection has the number, none has it after iterations of a flush.
absent_entries : (id : ℕ) (f : ℕ × SessionValue → ℕ × SessionValue) (es : List (ℕ × SessionValue))
    → ((e : ℕ × SessionValue) → (f e).0 ≡ e.0) → session_of id es ≡ None → session_of id (map f es) ≡ None
unfolding session_of
absent_entries id f [] keeps none = refl
absent_entries id f (e ∷ es) keeps none = grind (arith, nat_tests, keeps e, none, absent_entries id f es keeps)

absent_turns : (id : ℕ) (v : ServerValue) (turns : ℕ) → session_of id v.sessions ≡ None
    → session_of id (flush_turns turns id v).server.sessions ≡ None
unfolding flush_turns
absent_turns id v zero none = none
absent_turns id v (suc turns) none =
    let u : ServerValue = (flush_turns turns id v).server in
    let becomes : ℕ × SessionValue → ℕ × SessionValue =
    session_becomes id (λ s. session_written s (length (waiting_at id u))) in
    absent_entries id (settled_entry u.shared) (map becomes u.sessions) (λ e. refl)
    (absent_entries id becomes u.sessions
    (λ e. cond_both (e.0 == id) _ _ (λ (x : ℕ × SessionValue). x.0 ≡ e.0) (λ is. refl) (λ apart. refl))
    (absent_turns id v turns none))

-- A flush leaves no byte queued on the connection with this number, if there is one.
pub flush_empties : (v after : ServerValue) (es : List AcceptedCall) (id : ℕ) (wrote : List ℕ → Type 0) → Shows v es
    → IsFlushed id v after wrote → waiting_at id after ≡ []
flush_empties v after es id wrote shows did =
    elim (side_of id (world_after v.config es).sides) as (λ found. side_of id (world_after v.config es).sides ≡ found
    → waiting_at id after ≡ []) [
      | Some s ↦ λ there. leaves_nothing (record { config = refl; events = es; shows = shows; there = there }) did
      | None ↦ λ absent.
          rw did.server (ap waiting_in (absent_turns id v did.turns (no_session v es id shows absent)))
    ] refl

-- ---- the only connection

module _ {c : ConfigValues} {v : ServerValue} {s : Connection} {bytes : List ℕ} {monitor : OnCalls}
    (leads : LeadsTo c v s bytes monitor) where
  abbrev id : ℕ
  id = only_id c

  -- The calls of these iterations follow those before the flush.
  module _ (turns : ℕ) (later : OnCalls)
      (reports : later (leads.events ++ calls_of_flush turns id v)) where
    -- After all iterations, or those after which no byte is queued, the world is that for the bytes.
    turns_stand : turns ≤ suc (more_at id v)
        → (waiting_at id (flush_turns turns id v).server ≡ []) ⊎ (turns ≡ suc (more_at id v))
        → IsAtBytes c (flush_turns turns id v).server bytes later
        × (stdio_output c bytes ≡ front_written s ++ (flush_turns turns id v).text)
    turns_stand within done =
        let f = flushing leads.from turns in
        let ends = f.world ∙ whole leads.from turns within done ∙ leads.flushes in
        let all = world_for_written c bytes in
        let is_there : side_of id (world_for c bytes).sides ≡ Some f.side = rw (← ends) f.there in
        let none : waiting_on f.side ≡ [] = cc (is_there, all.there, all.waits) in
        let said = ap (λ o. o.output) (outcome_there c bytes f.side is_there)
        ∙ sym (none_waits_all_written f.side none) ∙ f.said in
        let count : length (front_written s) + length (flush_turns turns id v).text ≡ length (stdio_output c bytes) =
        rw (said, length-append) refl in (
          record {
            config = f.config;
            events = _;
            shows = f.shows;
            world = ends;
            spelled = λ still. f.spelled ∙ leads.spelled;
            transfers = all_transferred c bytes (rw count at (f.transfers bytes _ leads.transfers));
            reports = reports;
          },
          said,
        )

    -- The report of these iterations.
    pub turns_reported :
        (r : HasReported c later bytes (length (front_written s) + length (flush_turns turns id v).text))
        × (r.server ≡ (flush_turns turns id v).server)
    turns_reported =
        let f = flushing leads.from turns in (
          record {
            server = (flush_turns turns id v).server;
            config = f.config;
            events = _;
            shows = f.shows;
            transfers = f.transfers bytes (length (front_written s)) leads.transfers;
            monitor_reports = reports;
          },
          refl,
        )

  -- The output for the bytes is at most that of all iterations.
  pub turns_said : stdio_output c bytes ≡ front_written s ++ (flush_turns (suc (more_at id v)) id v).text
  turns_said = (turns_stand (suc (more_at id v)) (λ _. Unit {0}) tt (omega arith) (inr refl)).1

pub flush_is_at : {c : ConfigValues} {v : ServerValue} {s : Connection} {bytes : List ℕ} (a m n : Following)
    → LeadsTo c v s bytes (FollowsMore a m) → {after : ServerValue} {wrote : List ℕ → Type 0}
    → IsReportedFlush (only_id c) v after wrote (FollowsMore m n)
    → FlushedRest c bytes (front_written s) after wrote (FollowsMore a n)
flush_is_at a m n leads report =
    let did = report.flushed in
    let both = turns_stand leads did.turns (FollowsMore a n) (followed_then _ _ _ _ _ leads.reports report.reports)
    did.within (rw did.server at did.done) in
    rw did.server (record { is_at = both.0; text = _; says = both.1; written = did.written })
