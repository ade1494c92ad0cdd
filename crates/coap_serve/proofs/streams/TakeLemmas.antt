-- A call of `take` in a run and the flush after it: together they write the output defined for the bytes accepted.
use Rattle.std.proofs.Common.{◌≡◌, ◌≢◌, ◌⊎◌, ℕ, suc, ◌+◌, ◌<◌, ◌≤◌, true, cond, List, [], ◌∷◌, ◌++◌, length, take}
use Rattle.std.proofs.Common.{Option, Some, None, refl, sym, ap, subst, ◌∙◌, append_assoc, arith, inl, inr, drop, false}
use Rattle.std.proofs.Common.{◌==◌}
use Rattle.std.proofs.lemmas.Bool.{le-leb, eqb-true, eqb-false}
use Rattle.std.proofs.lemmas.List.{append-nil, length-append, take-append-drop, nil_from_length}
use Rattle.coap_serve.specs.Prelude.{split_on, ConfigValues, SessionValue, ServerValue, session_of}
use Rattle.coap_serve.specs.Prelude.{server_taken, stop_on, RefusesPieceOn, waiting_at, more_at, flush_turns}
use Rattle.coap_serve.specs.Prelude.{IsReportedFlush, IsCutFlush, Taken, AddsBytes, FollowsMore, Following, HasReported}
use Rattle.coap_serve.specs.Prelude.{HasReportedCut, waiting_of, AreTransfers, only_id, stream_of, flushed}
use Rattle.coap_serve.specs.Prelude.{flushed_after, world_for, outcome_on, outcome, stdio_output, IsLastByte}
use Rattle.coap_serve.specs.Prelude.{IsAtBytes, IsRunningAt, Says, IsWhole, IsCut, Connection, has_room, handles}
use Rattle.coap_serve.specs.Prelude.{Step, side_of, step, AcceptedCall, Took, stream_on, beyond, steps_by, world_after}
use Rattle.coap_serve.specs.Prelude.{takes, size_on, Shows, session_shown, handled_in, count_of, Reason, IsNotTaken}
use Rattle.coap_serve.specs.Prelude.{IsRefused, ShowsRefused}
use Rattle.coap_wire.proofs.StreamSteps.{split_goes_on}
use Rattle.coap_frame.proofs.FrontLaws.{some_in_front}
use Rattle.coap_model.specs.declared.answers.Handled.{Handled}
use Rattle.coap_model.specs.world.Events.{front_of}
use Rattle.coap_model.proofs.world.StepLaws.{world_same, world_step, rest_unfinished}
use Rattle.coap_model.proofs.world.GoingOn.{side_is}
use Rattle.coap_model.proofs.world.ReachedLaws.{IsReached, accepted_is, takes_there, handling_goes_on}
use Rattle.coap_server_engine.proofs.world.RefusedLaws.{RefusesLast, refuses_last}
use Rattle.coap_server_engine.proofs.world.ShowLaws.{side_there}
use Rattle.coap_server_engine.proofs.world.HandledLaws.{messages_counted, one_step_at_most}
use Rattle.coap_model.proofs.world.GrowLaws.{SideGrows, front_written, same_front, none_waits_all_written, took_grows}
use Rattle.coap_model.proofs.streams.FlushLaws.{from_there_on, quiet_flush, flush_leaves}
use Rattle.coap_model.proofs.streams.OutputLaws.{world_for_written, world_goes_on, outcome_there, takes_unless_stopped}
use Rattle.coap_model.proofs.streams.OutputLaws.{spelled_more, steps_taken, output_grows, stopped_output}
use Rattle.coap_model.proofs.streams.OutputLaws.{stopped_outcome}
use Rattle.coap_serve.proofs.streams.CallLemmas.{whole_transfers, transfers_taken, OnCalls, LeadsTo, turns_said}
use Rattle.coap_serve.proofs.streams.CallLemmas.{FlushedRest}
use Rattle.coap_serve.proofs.streams.CallLemmas.{turns_reported, flush_is_at}
use Rattle.coap_server_engine.proofs.scripting.ShownLemmas.{config_stays}
use Rattle.coap_server_engine.proofs.scripting.FollowLemmas.{followed_then}
use Rattle.coap_model.specs.declared.answers.TakeFault.TheVariants as taking
use Rattle.coap_io.proofs.streams.DeviceLemmas.{bytes_none, bytes_then}

-- ---- more iterations write more

text_grows : (id : ℕ) (v : ServerValue) (few many : ℕ) → few ≤ many → (more : List ℕ) ×
    ((flush_turns (suc many) id v).text
    ≡ (flush_turns few id v).text ++ (waiting_at id (flush_turns few id v).server ++ more))
unfolding flush_turns
text_grows id v few many within =
    let front : List ℕ = (flush_turns few id v).text in
    let queued = waiting_at id (flush_turns few id v).server in
    from_there_on (λ n. (more : List ℕ) × ((flush_turns (suc n) id v).text ≡ front ++ (queued ++ more))) few many within
    ([], simp append-nil)
    (λ n before. (before.0 ++ waiting_at id (flush_turns (suc n) id v).server, rw before.1 (simp append_assoc)))

front_of_nothing : (xs ys : List ℕ) → xs ++ ys ≡ [] → xs ≡ []
front_of_nothing [] ys none = refl
front_of_nothing (x ∷ xs) ys none = absurd cc

-- ---- a flush that ends in the world for some bytes

-- A write failed. After the prefix `front` of the output for the bytes, the outlet recorded a proper prefix of the
-- rest. The monitor received the calls before this write.
pub record CutOff (c : ConfigValues) (front bytes : List ℕ) (x y : Option (List ℕ)) (monitor : OnCalls) : Type 0 where
  pub part : List ℕ
  pub missing : List ℕ
  pub some : missing ≢ []
  pub says : stdio_output c bytes ≡ front ++ (part ++ missing)
  pub written : AddsBytes x y part
  pub reported : HasReportedCut c monitor bytes (length front + length part)

pub cut_flush_leads : {c : ConfigValues} {v : ServerValue} {s : Connection} {bytes : List ℕ} (a m n : Following)
    → LeadsTo c v s bytes (FollowsMore a m) → {x y : Option (List ℕ)}
    → IsCutFlush (only_id c) v (AddsBytes x y) (FollowsMore m n)
    → CutOff c (front_written s) bytes x y (FollowsMore a n)
cut_flush_leads {c = c} {v = v} {s = s} {bytes = bytes} a m n leads did =
    let id = only_id c in
    let text : List ℕ = (flush_turns did.turns id v).text in
    let more = text_grows id v did.turns (more_at id v) did.within in
    let reported =
    turns_reported leads did.turns (FollowsMore a n) (followed_then _ _ _ _ _ leads.reports did.reports) in
    record {
      part = text ++ did.part;
      missing = did.missing ++ more.0;
      some = λ none. did.some (front_of_nothing did.missing more.0 none);
      says = rw (turns_said leads, more.1, did.all) (simp append_assoc);
      written = did.written;
      reported = record {
        taken = bytes;
        later = [];
        all = sym (append-nil bytes);
        before = length (front_written s) + length text;
        reported = reported.0;
        part = did.part;
        missing = did.missing;
        some = did.some;
        queued = ap (waiting_at id) reported.1 ∙ did.all;
        count = omega (arith, length-append text did.part);
      };
    }

-- The messages processed before the flush.
flush_counts : {c : ConfigValues} {v : ServerValue} {s : Connection} {bytes : List ℕ}
    {monitor : OnCalls} → LeadsTo c v s bytes monitor → (outcome c bytes).messages ≡ length s.history.handled
flush_counts {c = c} {s = s} {bytes = bytes} leads =
    let left = flush_leaves c.limits (only_id c) (world_after c leads.events) s leads.there in
    rw (outcome_there c bytes left.0.side (rw (← leads.flushes) left.0.there)) (ap length left.0.handled)

-- The server returns the reason for which the bytes stop its connection.
pub stop_reported : {c : ConfigValues} {v : ServerValue} {bytes : List ℕ} {monitor : OnCalls}
    → IsAtBytes c v bytes monitor → stop_on (session_of (only_id c) v.sessions) ≡ (outcome c bytes).stop
stop_reported {c = c} {v = v} {bytes = bytes} is_at =
    let all = world_for_written c bytes in
    ap stop_on (side_there v is_at.events (only_id c) all.side is_at.shows (rw (is_at.config, is_at.world) all.there))
    ∙ ap (λ o. o.stop) (sym (outcome_there c bytes all.side all.there))

-- ---- some bytes are accepted

-- The first `n` bytes of a chunk have no output, and the next byte is the last of a message that stores a
-- representation.
pub record FrontRefused (c : ConfigValues) (bytes piece : List ℕ) (n : ℕ) : Type 0 where
  pub last : ℕ
  pub later : List ℕ
  pub all : piece ≡ take n piece ++ last ∷ later
  pub refused : IsLastByte c (bytes ++ take n piece) last
  pub says : Says c bytes (take n piece) []

-- A prefix of a chunk was processed, and the server returns whether it stops the connection.
pub record FrontServed (c : ConfigValues) (id : ℕ) (bytes front : List ℕ) (after : ServerValue)
    (wrote : List ℕ → Type 0) (monitor : OnCalls) (messages : ℕ) : Type 0 where
  pub rest : FlushedRest c (bytes ++ front) (stdio_output c bytes) after wrote monitor
  pub open rest use *
  pub counted : (outcome c (bytes ++ front)).messages ≡ (outcome c bytes).messages + messages
  pub stop : stop_on (session_of id after.sessions) ≡ (outcome c (bytes ++ front)).stop

-- The contract of a call of `take` that returned no error.
pub record WasTaken (v after : ServerValue) (id : ℕ) (piece : List ℕ) (t : Taken) : Type 0 where
  pub after_is : after ≡ server_taken v id piece
  pub takes_so : (events : List AcceptedCall) → Shows v events → t.bytes ≡ takes v.config events id piece
  pub says : (events : List AcceptedCall) → Shows v events
      → t.handled ≡ handled_in v.config events (Took id (take t.bytes piece)) id
  pub shows : (events : List AcceptedCall) → Shows v events → Shows after (events ++ Took id (take t.bytes piece) ∷ [])

module _ {v : ServerValue} {bytes : List ℕ} (a m : Following)
    (goes : IsRunningAt v.config v (only_id v.config) bytes (FollowsMore a m)) where
  abbrev c : ConfigValues
  c = v.config

  abbrev M : ℕ
  M = c.limits.max_message

  abbrev id : ℕ
  id = only_id c

  abbrev es : List AcceptedCall
  es = goes.is_at.events

  abbrev before : Connection
  before = (world_for_written c bytes).side

  was_there : side_of id (world_after c es).sides ≡ Some before
  was_there = rw goes.is_at.world (world_for_written c bytes).there

  reached : IsReached c es
  reached = accepted_is c es goes.is_at.shows.accepted

  outcome_before : outcome c bytes ≡ outcome_on (Some before)
  outcome_before = outcome_there c bytes before (world_for_written c bytes).there

  handling : handles before ≡ true
  handling =
      let is = side_is c es id before was_there in
      let room : has_room before ≡ true = le-leb before.history.limits.max_sent _ (omega (
        arith,
        goes.ranges.queue_low,
        ap (λ l. l.max_sent) is.same_limits,
        ap (λ l. l.queue) is.same_limits,
        ap length (world_for_written c bytes).waits,
      )) in
      rw (takes_unless_stopped c bytes, goes.going, room) refl

  session_was : session_of id v.sessions ≡ Some (session_shown (stream_on M id es).rest before)
  session_was = side_there v es id before goes.is_at.shows was_there

  transfers_before : AreTransfers c id bytes (length (stdio_output c bytes)) es
  transfers_before = whole_transfers goes.is_at.transfers goes.going

  waits_before : waiting_of (side_of id (world_after c es).sides) ≡ []
  waits_before = ap waiting_of was_there ∙ (world_for_written c bytes).waits

  -- ---- an allocation fails

  front_refused_by : {piece : List ℕ} {n : ℕ} → RefusesLast v es id piece n → FrontRefused c bytes piece n
  unfolding outcome flushed_after
  front_refused_by {piece = piece} {n = n} last =
      let front = take n piece in
      let spelled = goes.is_at.spelled goes.going in
      let stream_is = ap (λ s. s.0) spelled in
      let size_is = ap (λ s. s.1) spelled in
      let further : split_on M (stream_of c bytes) front ≡ stream_of c (bytes ++ front) =
      sym (split_goes_on M bytes front) in
      let quiet : beyond id (stream_of c bytes) (stream_of c (bytes ++ front)) ≡ [] =
      rw (stream_is, size_is, further) at last.quiet in
      let same : world_for c (bytes ++ front) ≡ world_for c bytes =
      world_goes_on c bytes front ∙ ap (flushed_after c.limits id (world_for c bytes)) quiet in
      record {
        last = last.last;
        later = last.later;
        all = last.all;
        refused = record {
          no_stop = ap (λ w. (outcome_on (side_of id w.sides)).stop) same ∙ goes.going;
          message = last.message;
          one_more =
              split_goes_on M (bytes ++ front) (last.last ∷ []) ∙ rw (stream_is, size_is, further) at last.one_more;
          stores = rw (same, ← goes.is_at.world) last.stores;
        };
        says =
            ap (λ w. (outcome_on (side_of id w.sides)).output) same ∙ sym (append-nil (stdio_output c bytes));
      }

  -- The report of this call, which accepted the first `n` bytes.
  refused_reported : {piece : List ℕ} {n : ℕ} {v1 : ServerValue} (k : Following) → FrontRefused c bytes piece n
      → v1 ≡ server_taken v id (take n piece)
      → ((events : List AcceptedCall) → Shows v events → Shows v1 (events ++ Took id (take n piece) ∷ []))
      → FollowsMore m k (Took id (take n piece) ∷ [])
      → HasReported c (FollowsMore a k) (bytes ++ take n piece) (length (stdio_output c (bytes ++ take n piece)))
  refused_reported {piece = piece} {n = n} k refused is shows reported = record {
    server = _;
    config = ap (λ u. u.config) is ∙ config_stays v id (take n piece);
    events = _;
    shows = shows es goes.is_at.shows;
    transfers = rw (
      refused.says,
      append-nil (stdio_output c bytes),
    ) (transfers_taken c id es transfers_before (take n piece) waits_before);
    monitor_reports = followed_then a m k es _ goes.is_at.reports reported;
  }

  -- ---- the call of take

  front_some_by : {piece : List ℕ} {v1 : ServerValue} {t : Taken} → WasTaken v v1 id piece t → 0 < length piece
      → 1 ≤ t.bytes
  front_some_by {piece = piece} took some =
      let unfinished = rest_unfinished M id es (handling_goes_on c es id before reached was_there handling) in
      let front = some_in_front (size_on M id es) (stream_on M id es).rest piece unfinished some in
      let count = takes_there c es id piece before was_there
      ∙ ap (λ b. cond b (front_of (size_on M id es) (stream_on M id es).rest piece) 0) handling in
      omega (arith, front, count, took.takes_so es goes.is_at.shows)

  module _ {piece : List ℕ} {v1 : ServerValue} {t : Taken} (took : WasTaken v v1 id piece t) (k : Following)
      (reported : FollowsMore m k (Took id (take t.bytes piece) ∷ [])) where
    abbrev T : List ℕ
    T = take t.bytes piece

    bytes_are : T ≡ take (takes c es id piece) piece
    bytes_are = ap (λ n. take n piece) (took.takes_so es goes.is_at.shows)

    -- The world after the call, once it is flushed, is that for the bytes.
    flushed_world : flushed c.limits id (world_after c (es ++ Took id T ∷ [])) ≡ world_for c (bytes ++ T)
    unfolding flushed_after steps_by
    flushed_world =
        let all = world_for_written c bytes in
        let on = world_goes_on c bytes T ∙ ap (flushed_after c.limits id (world_for c bytes))
        (sym (steps_taken c es bytes T (goes.is_at.spelled goes.going))) in
        let steps : (steps_by M es (Took id T) ≡ []) ⊎ ((st : Step) × (steps_by M es (Took id T) ≡ st ∷ [])) =
        rw bytes_are (one_step_at_most c es id piece before reached was_there) in
        elim steps [
          | inl none ↦
              ap (flushed c.limits id) (world_same c es (Took id T) none ∙ goes.is_at.world)
              ∙ quiet_flush c.limits id (world_for c bytes) before all.takes_input all.there all.waits
              ∙ sym (on ∙ ap (flushed_after c.limits id (world_for c bytes)) none)
          | inr one ↦
              ap (flushed c.limits id)
              (world_step c es (Took id T) one.0 one.1 ∙ ap (λ w. step c.limits w one.0) goes.is_at.world)
              ∙ sym (on ∙ ap (flushed_after c.limits id (world_for c bytes)) one.1)
        ]

    abbrev grown : (s : Connection) × (side_of id (world_after c (es ++ Took id T ∷ [])).sides ≡ Some s)
        × SideGrows before s
    grown = took_grows c es id T before was_there

    said_before : front_written grown.0 ≡ stdio_output c bytes
    said_before =
        cc (
          same_front before grown.0 (side_is c es id before was_there).is_history grown.2,
          none_waits_all_written before (world_for_written c bytes).waits,
          outcome_before,
        )

    leads : LeadsTo c v1 grown.0 (bytes ++ T) (FollowsMore a k)
    leads = record {
      from = record {
        config = ap (λ u. u.config) took.after_is ∙ config_stays v id piece;
        events = es ++ Took id T ∷ [];
        shows = took.shows es goes.is_at.shows;
        there = grown.1;
      };
      flushes = flushed_world;
      spelled = spelled_more c es bytes T (goes.is_at.spelled goes.going);
      transfers = rw said_before (transfers_taken c id es transfers_before T waits_before);
      reports = followed_then a m k es _ goes.is_at.reports reported;
    }

    -- The call and its flush did everything that is defined for the bytes accepted.
    front_served_by : {after : ServerValue} {wrote : List ℕ → Type 0} {messages : ℕ} (n : Following)
        → messages ≡ count_of t.handled → IsReportedFlush id v1 after wrote (FollowsMore k n)
        → FrontServed c id bytes T after wrote (FollowsMore a n) messages
    front_served_by n counted did =
        let now = flush_is_at a k n leads did in
        let there = subst (λ (b : List ℕ). side_of id (world_after c (es ++ Took id b ∷ [])).sides ≡ Some grown.0)
        bytes_are grown.1 in
        let all = messages_counted c es id piece before grown.0 goes.is_at.shows.accepted was_there there in
        let reported : t.handled ≡ handled_in c es (Took id (take (takes c es id piece) piece)) id =
        rw bytes_are at (took.says es goes.is_at.shows) in
        record {
          rest = rw said_before at now;
          counted = omega (
            arith,
            flush_counts leads,
            all,
            ap count_of reported,
            ap (λ o. o.messages) outcome_before,
            counted,
          );
          stop = stop_reported now.is_at;
        }

    -- A write failed: a part of the output defined for the bytes accepted was written.
    front_cut_by : (n : Following) (x y : Option (List ℕ)) → IsCutFlush id v1 (AddsBytes x y) (FollowsMore k n)
        → CutOff c (stdio_output c bytes) (bytes ++ T) x y (FollowsMore a n)
    front_cut_by n x y did = rw said_before at (cut_flush_leads a k n leads did)

-- ---- any name of the configuration and of the number

module _ {c : ConfigValues} {v : ServerValue} {id : ℕ} {bytes : List ℕ} (a m : Following)
    (goes : IsRunningAt c v id bytes (FollowsMore a m)) where
  named : IsRunningAt v.config v (only_id v.config) bytes (FollowsMore a m)
  named =
      subst (λ (k : ConfigValues). IsRunningAt k v (only_id k) bytes (FollowsMore a m)) (sym goes.is_at.config)
      (rw goes.number at goes)

  -- The connection exists.
  pub session_going : (s : SessionValue) × (session_of id v.sessions ≡ Some s)
  session_going = rw (goes.number, ← goes.is_at.config) (_, session_was a m named)

  pub front_refused : {piece : List ℕ} {n : ℕ} → RefusesPieceOn v piece n (session_of id v.sessions)
      → FrontRefused c bytes piece n
  front_refused =
      let there = session_was a m named in
      rw (goes.number, ← goes.is_at.config) (λ refused. front_refused_by a m named (refuses_last v _ _ _ _ _
      named.is_at.shows there (rw there at refused)))

  -- The monitor received the call for which an allocation failed.
  pub front_reported : {piece : List ℕ} {n : ℕ} {v1 : ServerValue} (k : Following) → FrontRefused c bytes piece n
      → v1 ≡ server_taken v id (take n piece)
      → ((events : List AcceptedCall) → Shows v events → Shows v1 (events ++ Took id (take n piece) ∷ []))
      → FollowsMore m k (Took id (take n piece) ∷ [])
      → HasReported c (FollowsMore a k) (bytes ++ take n piece) (length (stdio_output c (bytes ++ take n piece)))
  front_reported = rw (goes.number, ← goes.is_at.config) (refused_reported a m named)

  module _ {piece : List ℕ} {v1 : ServerValue} {t : Taken} where
    pub front_served : WasTaken v v1 id piece t → (k : Following) → FollowsMore m k (Took id (take t.bytes piece) ∷ [])
        → {after : ServerValue} {wrote : List ℕ → Type 0} {messages : ℕ} (n : Following)
        → messages ≡ count_of t.handled → IsReportedFlush id v1 after wrote (FollowsMore k n)
        → FrontServed c id bytes (take t.bytes piece) after wrote (FollowsMore a n) messages
    front_served = rw (goes.number, ← goes.is_at.config) (front_served_by a m named)

    pub front_cut : WasTaken v v1 id piece t → (k : Following) → FollowsMore m k (Took id (take t.bytes piece) ∷ [])
        → (n : Following) (x y : Option (List ℕ)) → IsCutFlush id v1 (AddsBytes x y) (FollowsMore k n)
        → CutOff c (stdio_output c bytes) (bytes ++ take t.bytes piece) x y (FollowsMore a n)
    front_cut = rw (goes.number, ← goes.is_at.config) (front_cut_by a m named)

    pub front_some : WasTaken v v1 id piece t → 0 < length piece → 1 ≤ t.bytes
    front_some = rw (goes.number, ← goes.is_at.config) (front_some_by a m named)

-- A call of `take` processes at most one message.
pub handled_few : (what : Handled) → count_of what ≤ 1
handled_few what = grind arith

-- ---- a chunk, one call of `take` and one flush after the other

-- A prefix of a chunk was processed and this rest is left. `x` and `y` are the records of the outlet before the chunk
-- and now.
pub record Serves (c : ConfigValues) (id : ℕ) (bytes piece : List ℕ) (v : ServerValue) (rest : List ℕ)
    (x y : Option (List ℕ)) (monitor : OnCalls) (messages : ℕ) : Type 0 where
  pub taken : List ℕ
  pub all : piece ≡ taken ++ rest
  pub goes : IsRunningAt c v id (bytes ++ taken) monitor
  pub text : List ℕ
  pub says : Says c bytes taken text
  pub written : AddsBytes x y text
  pub counted : (outcome c (bytes ++ taken)).messages ≡ (outcome c bytes).messages + messages

pub serves_none : {c : ConfigValues} {v : ServerValue} {id : ℕ} {bytes piece : List ℕ} {x : Option (List ℕ)}
    {monitor : OnCalls} → IsRunningAt c v id bytes monitor → Serves c id bytes piece v piece x x monitor 0
serves_none {c = c} {bytes = bytes} {x = x} goes = record {
  taken = [];
  all = refl;
  goes = rw append-nil goes;
  text = [];
  says = simp append-nil;
  written = bytes_none x;
  counted = omega (arith, ap (λ b. (outcome c b).messages) (append-nil bytes));
}

module _ {c : ConfigValues} {id : ℕ} {bytes piece : List ℕ} {v : ServerValue} {rest : List ℕ} {x y : Option (List ℕ)}
    (a m : Following) {messages : ℕ} (so_far : Serves c id bytes piece v rest x y (FollowsMore a m) messages) where
  abbrev here : List ℕ
  here = bytes ++ so_far.taken

  -- Nothing is left.
  pub served_all : rest ≡ [] → IsWhole c bytes piece v (AddsBytes x y) (FollowsMore a m) messages
  served_all none = rw (so_far.all, none, append-nil) (search so_far)

  -- A prefix of the rest, and the bytes after it.
  module _ (n : ℕ) where
    split_so : piece ≡ (so_far.taken ++ take n rest) ++ drop n rest
    split_so = rw (append_assoc, take-append-drop) so_far.all

    further_bytes : bytes ++ (so_far.taken ++ take n rest) ≡ here ++ take n rest
    further_bytes = sym (append_assoc bytes so_far.taken (take n rest))

    whole_bytes : bytes ++ piece ≡ (here ++ take n rest) ++ drop n rest
    whole_bytes = ap (λ b. bytes ++ b) split_so ∙ simp append_assoc

    -- The prefix was processed, and the connection processes further messages.
    pub serves_more : {z : Option (List ℕ)} {monitor : OnCalls} {after : ServerValue} {more : ℕ}
        → FrontServed c id here (take n rest) after (AddsBytes y z) monitor more
        → stop_on (session_of id after.sessions) ≡ None
        → Serves c id bytes piece after (drop n rest) x z monitor (messages + more)
    serves_more {z = z} said going =
        record {
          taken = so_far.taken ++ take n rest;
          all = split_so;
          goes = rw further_bytes (record {
            number = so_far.goes.number;
            ranges = so_far.goes.ranges;
            is_at = said.is_at;
            going = sym said.stop ∙ going;
          });
          text = so_far.text ++ said.text;
          says = rw (further_bytes, said.says, so_far.says, append_assoc) refl;
          written = bytes_then x y z so_far.text said.text so_far.written said.written;
          counted =
              omega (arith, said.counted, so_far.counted, ap (λ b. (outcome c b).messages) further_bytes);
        }

    -- The prefix was processed, and the connection processes no further message.
    pub serves_last : (z : Option (List ℕ)) {monitor : OnCalls} {after : ServerValue} {more : ℕ}
        {why : Reason} → FrontServed c id here (take n rest) after (AddsBytes y z) monitor more
        → stop_on (session_of id after.sessions) ≡ Some why
        → IsWhole c bytes piece after (AddsBytes x z) monitor (messages + more)
    serves_last z {why = why} said stopped =
        let of = said.is_at.transfers in
        let over : (outcome c (here ++ take n rest)).stop ≡ Some why = sym said.stop ∙ stopped in
        let same : outcome c (bytes ++ piece) ≡ outcome c (here ++ take n rest) =
        rw whole_bytes (stopped_outcome c (here ++ take n rest) (drop n rest) why over) in
        record {
          is_at = record {
            config = said.is_at.config;
            events = said.is_at.events;
            shows = said.is_at.shows;
            world = said.is_at.world ∙ sym (rw whole_bytes (stopped_output c _ (drop n rest) why over));
            spelled = λ none. absurd (cc (ap (λ o. o.stop) same));
            transfers = record {
              taken = of.taken;
              later = of.later ++ drop n rest;
              all = rw (whole_bytes, of.all) (append_assoc of.taken of.later (drop n rest));
              whole = λ none. absurd (cc (ap (λ o. o.stop) same));
              same = of.same ∙ sym same;
              transfers = rw (ap (λ o. o.output) same) of.transfers;
            };
            reports = said.is_at.reports;
          };
          text = so_far.text ++ said.text;
          says = rw (ap (λ o. o.output) same, said.says, so_far.says, append_assoc) refl;
          written = bytes_then x y z so_far.text said.text so_far.written said.written;
          counted = omega (arith, said.counted, so_far.counted, ap (λ o. o.messages) same);
        }

    -- The output for the prefix was not written in full.
    pub cut_off : (z : Option (List ℕ)) {monitor : OnCalls}
        → CutOff c (stdio_output c here) (here ++ take n rest) y z monitor
        → IsCut c bytes piece (AddsBytes x z) monitor
    cut_off z did =
        let more = output_grows c (here ++ take n rest) (drop n rest) in
        let r = did.reported in
        record {
          part = so_far.text ++ did.part;
          missing = did.missing ++ more.0;
          some = λ none. did.some (front_of_nothing did.missing more.0 none);
          says = rw (whole_bytes, more.1, did.says, so_far.says) (simp append_assoc);
          written = bytes_then x y z so_far.text did.part so_far.written did.written;
          reported = record {
            taken = r.taken;
            later = r.later ++ drop n rest;
            all = rw (whole_bytes, r.all) (append_assoc r.taken r.later (drop n rest));
            before = r.before;
            reported = r.reported;
            part = r.part;
            missing = r.missing;
            some = r.some;
            queued = r.queued;
            count = omega (
              arith,
              r.count,
              ap length so_far.says,
              length-append (stdio_output c bytes) so_far.text,
              length-append so_far.text did.part,
            );
          };
        }

  -- An allocation failed for a message in the rest.
  pub piece_refused : {after : ServerValue} (n : ℕ) (k : Following) → IsNotTaken v id rest (taking.Memory n) after
      → ((events : List AcceptedCall) → Shows v events → ShowsRefused events id rest (taking.Memory n) after)
      → FollowsMore m k (Took id (take n rest) ∷ []) → IsRefused c bytes piece (AddsBytes x y) (FollowsMore a k)
  piece_refused n k not shows reported =
      let last = front_refused a m so_far.goes not.0 in
      record {
        front = so_far.taken ++ take n rest;
        last = last.last;
        later = last.later;
        all = rw (append_assoc, ← last.all) so_far.all;
        refused = rw (further_bytes n) last.refused;
        text = so_far.text;
        says = rw (further_bytes n, last.says, append-nil, so_far.says) refl;
        written = so_far.written;
        reported = rw (further_bytes n) (front_reported a m so_far.goes k last not.1 shows reported);
      }

-- ---- results of tests

pub is_filled : (xs : List ℕ) → false ≡ (length xs == 0) → 0 < length xs
is_filled xs e = omega (arith, eqb-false (length xs) 0 (sym e))

pub is_used_up : {xs : List ℕ} → true ≡ (length xs == 0) → xs ≡ []
is_used_up {xs = xs} e = nil_from_length xs (eqb-true (length xs) 0 (sym e))
