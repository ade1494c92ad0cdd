-- A run, one turn after the other.
use Rattle.std.proofs.Common.{◌≡◌, ◌≢◌, ℕ, ◌≤◌, List, [], ◌∷◌, ◌++◌, length, take, Ok, Err, refl, sym, ap, ◌∙◌, arith}
use Rattle.std.proofs.Common.{subst, inr, ◌+◌, ◌<◌, Option, Some, None, Result, append_assoc, inl, true, false}
use Rattle.std.proofs.lemmas.List.{length-take-le, append-nil, length-append}
use Rattle.std.proofs.lemmas.List.Folds.{concat-append}
use Rattle.coap_serve.specs.Prelude.{concat, AllByRecursion, Reason, end_reason, AreInRange, stop_of}
use Rattle.coap_serve.specs.Prelude.{ConfigValues, IoFault, Read, Write, Memory, Turns, Report, Turn, FollowsMore}
use Rattle.coap_serve.specs.Prelude.{Following, IsReportedFlush, IsCutFlush, HasReportedEnd, EndsReport, IsReportedRun}
use Rattle.coap_serve.specs.Prelude.{ServerValue, session_of, new_server, server_opened, is_there, stop_on, DeviceTrace}
use Rattle.coap_serve.specs.Prelude.{HasGiven, pieces_read, AddsBytes, only_id, outcome, stream_of, stdio_output}
use Rattle.coap_serve.specs.Prelude.{IsRunningAt, IsWhole, Says, HasRead, IsTurn, AreNotEmpty, GoesOn, IsStdioRun}
use Rattle.coap_serve.specs.Prelude.{AcceptedCall, Opened, steps_by, world_after, Ended, stream_on, Shows, is_cut}
use Rattle.coap_serve.specs.Prelude.{new_side, side_ended, settled, side_of, step, is_read_fault}
use Rattle.coap_serve.specs.Prelude.{LeavesNothing, LeavesNothingWaiting, HasReportedCut, IsAtBytes}
use Rattle.coap_serve.specs.streams.StdioRun.{EndsRun}
use Rattle.coap_serve.specs.streams.StdioProgress.{IsServed}
use Rattle.coap_model.specs.world.World as world
use Rattle.coap_model.proofs.world.AcrossLaws.{ended_there}
use Rattle.coap_model.proofs.world.EntryLemmas.{all_append}
use Rattle.coap_model.proofs.world.BecameLaws.{HasStopped, settled_handles_none}
use Rattle.coap_server_engine.proofs.world.ShowLaws.{side_there}
use Rattle.coap_model.proofs.world.StepLaws.{world_first, world_step}
use Rattle.coap_io.proofs.streams.DeviceLemmas.{bytes_none, bytes_then, given_none, given_then}
use Rattle.coap_model.proofs.streams.OutputLaws.{world_for_written, world_for_none, takes_unless_stopped}
use Rattle.coap_model.proofs.streams.OutputLaws.{outcome_at_first, opened_alone, nothing_yet, outcome_there}
use Rattle.coap_serve.proofs.streams.CallLemmas.{LeadsTo, flush_is_at, transfers_opened, whole_transfers}
use Rattle.coap_serve.proofs.streams.CallLemmas.{running_reported, stopped_reported, OnCalls}
use Rattle.coap_serve.proofs.streams.TakeLemmas.{cut_flush_leads, stop_reported, session_going}
use Rattle.coap_server_engine.proofs.scripting.FollowLemmas.{followed_none, followed_then}

-- ---- a turn

pub has_read : (a b : DeviceTrace) (buffer : List ℕ) (n : ℕ) → length buffer ≡ 4096 → n ≤ length buffer → n ≢ 0
    → HasGiven a b (pieces_read buffer n) → HasRead (HasGiven a b) (take n buffer)
has_read a b buffer n room within some gave = record {
  given = rw room at gave;
  some = λ none. some (sym (length-take-le n buffer within) ∙ ap length none);
  few = omega (arith, length-take-le n buffer within, within, room);
}

pub turn_fault : (c : ConfigValues) (bytes : List ℕ) {piece : List ℕ} (after : ServerValue)
    {gave : List (List ℕ) → Type 0} (wrote : List ℕ → Type 0) (monitor : OnCalls) (e : IoFault)
    → HasRead gave piece → IsServed c bytes piece after wrote monitor (Err e)
    → IsTurn c bytes after gave wrote monitor (Err e)
turn_fault c bytes after wrote monitor Read has did = absurd did
turn_fault c bytes after wrote monitor Write has did = (_, has, did)
turn_fault c bytes after wrote monitor Memory has did = (_, has, did)
turn_fault c bytes after wrote monitor Turns has did = absurd did

pub turn_piece : {c : ConfigValues} {id : ℕ} {bytes piece : List ℕ} {after : ServerValue} {gave : List (List ℕ) → Type
    0}
    {wrote : List ℕ → Type 0} {monitor : OnCalls} (t : Turn) → id ≡ only_id c → HasRead gave piece
    → IsWhole c bytes piece after wrote monitor t.messages → t.read ≡ length piece
    → t.stop ≡ stop_on (session_of id after.sessions) → IsTurn c bytes after gave wrote monitor (Ok t)
turn_piece {piece = piece} t number has did read_is stop_is =
    inr (record {
      piece = piece;
      has = has;
      served = did;
      read = read_is;
      reason = rw number at stop_is ∙ stop_reported did.is_at;
    })

-- An error of a chunk is no failed read.
pub not_unread : (c : ConfigValues) (bytes piece : List ℕ) (after : ServerValue) (wrote : List ℕ → Type 0)
    (monitor : OnCalls) (e : IoFault) → IsServed c bytes piece after wrote monitor (Err e)
    → is_read_fault {T = Turn} (Err e) ≡ false
not_unread c bytes piece after wrote monitor Read did = absurd did
not_unread c bytes piece after wrote monitor other did = grind arith

-- ---- a run that continues

not_empty-push : (ps : List (List ℕ)) (p : List ℕ) → AreNotEmpty ps → p ≢ [] → AreNotEmpty (ps ++ p ∷ [])
not_empty-push [] p each some = (some, tt)
not_empty-push (q ∷ ps) p each some = (each.0, not_empty-push ps p each.1 some)

-- After `turns` turns, `read` bytes were read and `messages` messages were processed. `a` and `b` are the records of
-- the source before the run and now; `x` and `y` are those of the outlet.
pub record RunsOn (c : ConfigValues) (id turns read messages : ℕ) (v : ServerValue) (a b : DeviceTrace)
    (x y : Option (List ℕ)) (monitor : OnCalls) : Type 0 where
  pub pieces : List (List ℕ)
  pub output : List ℕ
  pub reported : HasGiven a b pieces
  pub few : AllByRecursion (λ p. length p ≤ 4096) pieces
  pub written : AddsBytes x y output
  pub counted : length pieces ≡ turns
  pub given : AreNotEmpty pieces
  pub goes : IsRunningAt c v id (concat pieces) monitor
  pub read_is : read ≡ length (concat pieces)
  pub messages_are : messages ≡ (outcome c (concat pieces)).messages
  pub text : stdio_output c [] ++ output ≡ stdio_output c (concat pieces)

-- The rest of a run that ended, after the output `front` was written.
abbrev pub Ran : ConfigValues → List ℕ → DeviceTrace → DeviceTrace → Option (List ℕ) → Option (List ℕ)
    → (monitor : OnCalls) → Result Report IoFault → Type 0
Ran c front a b x y monitor result =
    (pieces : List (List ℕ)) × (output : List ℕ) × HasGiven a b pieces × AllByRecursion (λ p. length p ≤ 4096) pieces
    × AddsBytes x y output × IsStdioRun c pieces (front ++ output) result
    × IsReportedRun c pieces (front ++ output) monitor result

pub run_begins : {c : ConfigValues} {id : ℕ} {v : ServerValue} {a : DeviceTrace} {x : Option (List ℕ)}
    {monitor : OnCalls} → IsRunningAt c v id [] monitor → RunsOn c id 0 0 0 v a a x x monitor
run_begins {c = c} {a = a} {x = x} goes = record {
  pieces = [];
  output = [];
  reported = given_none a;
  few = tt;
  written = bytes_none x;
  counted = refl;
  given = tt;
  goes = goes;
  read_is = refl;
  messages_are = sym (outcome_at_first c).0;
  text = append-nil (stdio_output c []);
}

-- The limit of turns was reached.
pub out_of_turns : {c : ConfigValues} {id turns read messages : ℕ} {v : ServerValue} {a b : DeviceTrace}
    {x y : Option (List ℕ)} {monitor : OnCalls} → RunsOn c id turns read messages v a b x y monitor
    → turns ≡ c.turns → Ran c (stdio_output c []) a b x y monitor (Err Turns)
out_of_turns so_far all = (
  so_far.pieces,
  so_far.output,
  so_far.reported,
  so_far.few,
  so_far.written,
  (
    so_far.counted ∙ all,
    record { goes_on = record { given = so_far.given; no_stop = so_far.goes.going }; written = so_far.text },
  ),
  rw so_far.text (running_reported so_far.goes.is_at so_far.goes.going),
)

-- The monitor received no call since it received these.
passed_on : {c : ConfigValues} {v : ServerValue} {bytes : List ℕ} {monitor later : OnCalls}
    → ((calls : List AcceptedCall) → monitor calls → later calls) → IsAtBytes c v bytes monitor
    → IsAtBytes c v bytes later
passed_on passed at = search (at, passed)

-- One more turn. `b` and `y` are the records of the devices before it; `d` and `z` are those after it. `earlier` states
-- the calls that the monitor received before it, and `monitor` those after it.
module _ {c : ConfigValues} {id turns read messages : ℕ} {v : ServerValue} {a b : DeviceTrace} {x y : Option (List ℕ)}
    {earlier : OnCalls} (so_far : RunsOn c id turns read messages v a b x y earlier)
    (after : ServerValue) (d : DeviceTrace) (z : Option (List ℕ)) (monitor : OnCalls) where
  abbrev bytes : List ℕ
  bytes = concat so_far.pieces

  -- The chunks with one more.
  abbrev longer : List ℕ → List (List ℕ)
  longer piece = so_far.pieces ++ piece ∷ []

  longer_bytes : (piece : List ℕ) → concat (longer piece) ≡ bytes ++ piece
  longer_bytes piece = rw (concat-append, append-nil) refl

  counted_more : (piece : List ℕ) → length (longer piece) ≡ turns + 1
  counted_more piece = omega (arith, length-append so_far.pieces (piece ∷ []), so_far.counted)

  read_more : (piece : List ℕ) {more : ℕ} → more ≡ length piece → read + more ≡ length (concat (longer piece))
  read_more piece is = rw (longer_bytes piece, length-append) (omega (arith, so_far.read_is, is))

  messages_more : (piece : List ℕ) (more : ℕ)
      → (outcome c (bytes ++ piece)).messages ≡ (outcome c bytes).messages + more
      → messages + more ≡ (outcome c (concat (longer piece))).messages
  messages_more piece more is = rw (longer_bytes piece) (omega (arith, so_far.messages_are, is))

  pieces_go_on : GoesOn c so_far.pieces
  pieces_go_on = record { given = so_far.given; no_stop = so_far.goes.going }

  -- The output so far, and more of it.
  more_text : {text : List ℕ} (more : List ℕ) → text ≡ stdio_output c bytes ++ more
      → stdio_output c [] ++ (so_far.output ++ more) ≡ text
  more_text more is = rw (← append_assoc, so_far.text, is) refl

  said_more : (piece more : List ℕ) → Says c bytes piece more
      → stdio_output c [] ++ (so_far.output ++ more) ≡ stdio_output c (concat (longer piece))
  said_more piece more is = more_text more (ap (stdio_output c) (longer_bytes piece) ∙ is)

  -- The run with one more chunk, for which these bytes were written.
  ran : (piece text : List ℕ) (result : Result Report IoFault) → HasGiven b d (piece ∷ []) → length piece ≤ 4096
      → AddsBytes y z text → IsStdioRun c (longer piece) (stdio_output c [] ++ (so_far.output ++ text)) result
      → IsReportedRun c (longer piece) (stdio_output c [] ++ (so_far.output ++ text)) monitor result
      → Ran c (stdio_output c []) a d x z monitor result
  ran piece text result gave few wrote did reported = (
    longer piece,
    so_far.output ++ text,
    given_then a b d so_far.pieces (piece ∷ []) so_far.reported gave,
    all_append (λ p. length p ≤ 4096) so_far.pieces (piece ∷ []) so_far.few (few, tt),
    bytes_then x y z so_far.output text so_far.written wrote,
    did,
    reported,
  )

  pub next_turn : (between : OnCalls) → ((calls : List AcceptedCall) → between calls → monitor calls)
      → (t : Turn) → IsTurn c bytes after (HasGiven b d) (AddsBytes y z) between (Ok t) → t.stop ≡ None
      → RunsOn c id (turns + 1) (read + t.read) (messages + t.messages) after a d x z monitor
  next_turn between passed t did none =
      elim did [
        | inl end ↦ absurd cc
        | inr did ↦ (
            let piece = did.piece in
            let whole = did.served in
            record {
              pieces = longer piece;
              output = so_far.output ++ whole.text;
              reported = given_then a b d so_far.pieces (piece ∷ []) so_far.reported did.has.given;
              few = all_append (λ p. length p ≤ 4096) so_far.pieces (piece ∷ []) so_far.few (did.has.few, tt);
              written = bytes_then x y z so_far.output whole.text so_far.written whole.written;
              counted = counted_more piece;
              given = not_empty-push so_far.pieces piece so_far.given did.has.some;
              goes = rw (longer_bytes piece) (record {
                number = so_far.goes.number;
                ranges = so_far.goes.ranges;
                is_at = passed_on passed whole.is_at;
                going = sym did.reason ∙ none;
              });
              read_is = read_more piece did.read;
              messages_are = messages_more piece _ whole.counted;
              text = said_more piece whole.text whole.says;
            })
      ]

  -- ---- the run ends in this turn

  abbrev report_of : Turn → Reason → Report
  report_of t why = record { read = read + t.read; messages = messages + t.messages; reason = why }

  ran_whole : (t : Turn) (why : Reason) (piece text : List ℕ) → turns < c.turns → HasGiven b d (piece ∷ [])
      → length piece ≤ 4096 → AddsBytes y z text → t.read ≡ length piece
      → (outcome c (bytes ++ piece)).messages ≡ (outcome c bytes).messages + t.messages → Says c bytes piece text
      → EndsRun (stream_of c (bytes ++ piece)).rest piece why (outcome c (bytes ++ piece)).stop
      → EndsReport c monitor (bytes ++ piece) (length (stdio_output c (bytes ++ piece)))
      (outcome c (bytes ++ piece)).stop → Ran c (stdio_output c []) a d x z monitor (Ok (report_of t why))
  ran_whole t why piece text lt gave few wrote read_is counted says ends reported =
      ran piece text (Ok (report_of t why)) gave few wrote (record {
        before = so_far.pieces;
        last = piece;
        all = refl;
        within = omega (arith, counted_more piece, lt);
        goes_on = pieces_go_on;
        ended = rw (longer_bytes piece) ends;
        read = read_more piece read_is;
        messages = messages_more piece _ counted;
        written = said_more piece text says;
      })
      (rw (said_more piece text says, longer_bytes piece) reported)

  pub run_ends_at_turn : (between : OnCalls)
      → ((calls : List AcceptedCall) → between calls → monitor calls) → (t : Turn) (why : Reason) → turns < c.turns
      → IsTurn c bytes after (HasGiven b d) (AddsBytes y z) between (Ok t) → t.stop ≡ Some why
      → Ran c (stdio_output c []) a d x z monitor (Ok (report_of t why))
  run_ends_at_turn between passed t why lt did stops =
      elim did [
        | inl end ↦ (
            ran_whole t why [] [] lt end.given (omega arith) end.written end.read
            (rw append-nil (omega (arith, end.messages))) (simp append-nil)
            (rw (append-nil, so_far.goes.going) (refl, cc))
            (rw (append-nil, so_far.goes.going) (search (end.reported, passed))))
        | inr did ↦ (
            let over : (outcome c (bytes ++ did.piece)).stop ≡ Some why = sym did.reason ∙ stops in
            ran_whole t why did.piece did.served.text lt did.has.given did.has.few did.served.written did.read
            did.served.counted did.served.says (rw over refl)
            (rw over (stopped_reported (passed_on passed did.served.is_at))))
      ]

  -- ---- an error ends the run in this turn

  -- The result of a run that an error of a turn ends.
  pub faulted : (e : IoFault) → turns < c.turns → IsTurn c bytes after (HasGiven b d) (AddsBytes y z) monitor (Err e)
      → Ran c (stdio_output c []) a d x z monitor (Err e)
  faulted Read lt t = (
    so_far.pieces,
    so_far.output,
    rw (append-nil so_far.pieces) at (given_then a b d so_far.pieces [] so_far.reported t.0),
    so_far.few,
    rw (append-nil so_far.output) at (bytes_then x y z so_far.output [] so_far.written t.1),
    (omega (arith, so_far.counted, lt), record { goes_on = pieces_go_on; written = so_far.text }),
    rw so_far.text t.2,
  )
  faulted Write lt t =
      let cut = t.2 in
      ran t.0 cut.part (Err Write) t.1.given t.1.few cut.written (
        omega (arith, counted_more t.0, lt),
        inr (so_far.pieces, t.0, refl, pieces_go_on, (cut.part, more_text cut.part refl)),
        record {
          missing = cut.missing;
          some = cut.some;
          written = rw (append_assoc, append_assoc) (said_more t.0 (cut.part ++ cut.missing) cut.says);
        },
      )
      (rw (more_text cut.part refl, length-append, longer_bytes t.0) cut.reported)
  faulted Memory lt t =
      let did = t.2 in
      ran t.0 did.text (Err Memory) t.1.given t.1.few did.written (inr (record {
        before = so_far.pieces;
        front = did.front;
        last = did.last;
        later = did.later;
        all = ap longer did.all;
        within = omega (arith, counted_more t.0, lt);
        goes_on = pieces_go_on;
        refused = did.refused;
        written = more_text did.text did.says;
      }))
      (inr (record {
        taken = bytes ++ did.front;
        last = did.last;
        later = did.later;
        all =
            longer_bytes t.0 ∙ ap (λ b. bytes ++ b) did.all
            ∙ sym (append_assoc bytes did.front (did.last ∷ did.later));
        refused = did.refused;
        reported = rw (more_text did.text did.says) did.reported;
      }))
  faulted Turns lt t = absurd t

-- A run after the server's CSM was written.
pub greeted : (c : ConfigValues) (a d : DeviceTrace) (x y z : Option (List ℕ)) (monitor : OnCalls)
    (result : Result Report IoFault) → AddsBytes x y (stdio_output c [])
    → Ran c (stdio_output c []) a d y z monitor result → Ran c [] a d x z monitor result
greeted c a d x y z monitor result wrote ran = (
  ran.0,
  stdio_output c [] ++ ran.1,
  ran.2,
  ran.3,
  bytes_then x y z (stdio_output c []) ran.1 wrote ran.4,
  ran.5,
  ran.6,
)

-- A run that did not begin.
pub not_begun : (c : ConfigValues) (a : DeviceTrace) (x : Option (List ℕ)) (m : Following)
    → Ran c [] a a x x (FollowsMore m m) (Err Memory)
not_begun c a x m = ([], [], given_none a, tt, bytes_none x, inl (refl, refl), inl ((refl, refl), followed_none m))

-- ---- the beginning of a run: a connection is opened, and the server's CSM is written

-- The contracts of `new` and `open` for a server with its first connection.
pub record Opens (c : ConfigValues) (new v : ServerValue) (id : ℕ) : Type 0 where
  pub new_is : new ≡ new_server c
  pub begins : Shows new []
  pub id_is : id ≡ new.ids + 1
  pub v_is : v ≡ server_opened new
  pub ranges : AreInRange new.config.limits
  pub shows : (events : List AcceptedCall) → Shows new events → Shows v (events ++ Opened id ∷ [])

module _ {c : ConfigValues} {new v : ServerValue} {id : ℕ} (opens : Opens c new v id) (a m : Following)
    (reported : FollowsMore a m (Opened id ∷ [])) where
  number : id ≡ only_id c
  number = rw opens.new_is at opens.id_is

  opening_leads : LeadsTo c v (new_side c.limits) [] (FollowsMore a m)
  unfolding steps_by
  opening_leads =
      let n = only_id c in
      let world_is = world_step c [] (Opened n) (world.Opened n) refl
      ∙ ap (λ w. step c.limits w (world.Opened n)) (world_first c) in
      record {
        from = record {
          config = rw (opens.v_is, opens.new_is) refl;
          events = Opened n ∷ [];
          shows = rw number at (opens.shows [] opens.begins);
          there = rw world_is (opened_alone c);
        };
        flushes = rw world_is (sym (world_for_none c));
        spelled = nothing_yet c;
        transfers = transfers_opened c n;
        reports = rw number at reported;
      }

  -- The state in which a run begins.
  pub goes_at_first : (k : Following) {after : ServerValue} (wrote : List ℕ → Type 0)
      → IsReportedFlush id v after wrote (FollowsMore m k)
      → IsRunningAt c after id [] (FollowsMore a k) × wrote (stdio_output c [])
  goes_at_first k wrote did =
      let now = flush_is_at a m k opening_leads (rw number at did) in (
        record {
          number = number;
          ranges = rw opens.new_is at opens.ranges;
          is_at = now.is_at;
          going = (outcome_at_first c).1;
        },
        rw now.says now.written,
      )

  -- The bytes queued on a new connection were not written in full.
  pub cut_at_first : (k : Following) (b : DeviceTrace) (x z : Option (List ℕ))
      → IsCutFlush id v (AddsBytes x z) (FollowsMore m k) → Ran c [] b b x z (FollowsMore a k) (Err Write)
  cut_at_first k b x z did =
      let cut = cut_flush_leads a m k opening_leads (rw number at did) in (
        [],
        cut.part,
        given_none b,
        tt,
        cut.written,
        (omega arith, inl refl, record { missing = cut.missing; some = cut.some; written = sym cut.says }),
        subst (λ (n : ℕ). HasReportedCut c (FollowsMore a k) [] n) (omega arith) cut.reported,
      )

-- ---- the end of input

-- The connection processes messages, so the end of input stops it, and pending entries are discarded.
pub end_stops : {c : ConfigValues} {v v1 : ServerValue} {id : ℕ} {bytes : List ℕ}
    {monitor : OnCalls} → IsRunningAt c v id bytes monitor → v1.config ≡ v.config
    → ((events : List AcceptedCall) → Shows v events → Shows v1 (events ++ Ended id ∷ []))
    → stop_on (session_of id v1.sessions) ≡ Some (end_reason (is_cut (stream_of c bytes).rest))
unfolding steps_by side_ended
end_stops {c = c} {v1 = v1} {bytes = bytes} goes config shows =
    let n = only_id c in
    let es = goes.is_at.events in
    let w = world_after c es in
    let all = world_for_written c bytes in
    let cut = is_cut (stream_on c.limits.max_message n es).rest in
    let t = settled w.store w.now (side_ended all.side cut) in
    let there : side_of n w.sides ≡ Some all.side = rw goes.is_at.world all.there in
    let then : side_of n (world_after c (es ++ Ended n ∷ [])).sides ≡ Some t =
    rw (world_step c es (Ended n) (world.Ended n cut) refl) (ended_there c.limits w n cut all.side there) in
    let stopped : HasStopped (side_ended all.side cut).history (end_reason cut) =
    rw (takes_unless_stopped c bytes, goes.going) (refl, refl) in
    rw goes.number
    (ap stop_on (side_there v1 (es ++ Ended n ∷ []) n t (rw goes.number at (shows es goes.is_at.shows))
    (rw (config, goes.is_at.config) then))
    ∙ ap stop_of ((settled_handles_none w.store w.now (side_ended all.side cut)).stopped (end_reason cut) stopped).0
    ∙ ap (λ s. Some (end_reason (is_cut s.0.rest))) (goes.is_at.spelled goes.going))

-- The monitor received the end of input after all other calls.
pub end_reported : {c : ConfigValues} {v v1 : ServerValue} {id : ℕ} {bytes : List ℕ} (a m k : Following)
    → IsRunningAt c v id bytes (FollowsMore a m) → v1.config ≡ v.config
    → ((events : List AcceptedCall) → Shows v events → Shows v1 (events ++ Ended id ∷ []))
    → FollowsMore m k (Ended id ∷ []) → HasReportedEnd c (FollowsMore a k) bytes (length (stdio_output c bytes))
end_reported a m k goes config shows reported = record {
  server = _;
  config = config ∙ goes.is_at.config;
  before = goes.is_at.events;
  transfers = whole_transfers goes.is_at.transfers goes.going;
  shows = rw goes.number at (shows _ goes.is_at.shows);
  monitor_reports = followed_then a m k _ _ goes.is_at.reports (rw goes.number at reported);
}

-- The connection exists.
pub not_there : {c : ConfigValues} {v : ServerValue} {id : ℕ} {bytes : List ℕ} (a m : Following)
    → IsRunningAt c v id bytes (FollowsMore a m) → false ≡ is_there (session_of id v.sessions) → ⊥
not_there a m goes none = let bad : false ≡ true = rw (session_going a m goes).1 at none in cc

-- ---- the end of a turn

-- A monitor received no further call.
pub followed_stays : (a b d : Following) → FollowsMore b d [] → (xs : List AcceptedCall) → FollowsMore a b xs
    → FollowsMore a d xs
followed_stays a b d more xs reported = rw append-nil at (followed_then a b d xs [] reported more)

-- ---- no byte is left

module _ (c : ConfigValues) where
  -- The output defined for these bytes is everything that the connection queued for them, and none of it is still
  -- queued.
  pub all_written : {bytes output : List ℕ} → output ≡ stdio_output c bytes → LeavesNothing c bytes output
  all_written {bytes = bytes} whole =
      let all = world_for_written c bytes in
      record {
        side = all.side;
        there = all.there;
        none_waits = all.waits;
        written = whole ∙ ap (λ o. o.output) (outcome_there c bytes all.side all.there);
      }

  -- A run leaves no byte queued, unless a write failed.
  pub run_leaves_nothing : (pieces : List (List ℕ)) (output : List ℕ) (result : Result Report IoFault)
      → IsStdioRun c pieces output result → LeavesNothingWaiting c pieces output result
  run_leaves_nothing pieces output (Ok report) run = all_written run.written
  run_leaves_nothing pieces output (Err Read) run = all_written run.1.written
  run_leaves_nothing pieces output (Err Turns) run = all_written run.1.written
  run_leaves_nothing pieces output (Err Write) run = tt
  run_leaves_nothing pieces output (Err Memory) run = elim run [
    | inl none ↦ inl none
    | inr refused ↦
        inr (record {
          taken = concat refused.before ++ refused.front;
          others = refused.last ∷ refused.later;
          all = rw (refused.all, concat-append, append-nil, append_assoc) refl;
          leaves = all_written refused.written;
        })
  ]
