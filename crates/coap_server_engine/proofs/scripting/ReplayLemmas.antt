-- The results of events, of each one and of several in order.
use Rattle.std.proofs.Common.{[], ◌≡◌, ◌≢◌, ℕ, zero, suc, ◌+◌, ◌-◌, ◌<◌, ◌≤◌, true, false, ◌==◌, List, ◌∷◌, ◌++◌}
use Rattle.std.proofs.Common.{length, get_or, take, drop, map, Option, Some, None, Result, Ok, Err, is_none, refl, ◌∙◌}
use Rattle.std.proofs.Common.{append_assoc, arith, lt-ltb, add-suc, add-zero, add-one, ◌⊎◌, inl, inr, sym}
use Rattle.std.proofs.lemmas.Bool.{le-ltb, ne_eqb}
use Rattle.std.proofs.lemmas.List.{append-nil, take-append-drop, length-drop, length-take-le, length-map}
use Rattle.std.proofs.Math.Seq.{take-suc, drop-cons}
use Rattle.std.proofs.Math.ListN.{get_or-map}
use Rattle.std.proofs.Math.Bool.{and-false}
use Rattle.coap_server_engine.specs.Prelude.{IsErr, AllocError, Path, StoreValue, remove_refusal, NoSuch}
use Rattle.coap_server_engine.specs.Prelude.{ScriptEventValue, event_value, EventResult, fed_turns, in_result}
use Rattle.coap_server_engine.specs.Prelude.{event_ran, replayed, IsPartialIn, IsUnrun, IsRefusedAt, IsCutAt}
use Rattle.coap_server_engine.specs.Prelude.{where_there, took_turns, took, events_ran, ShowsMore, ShowsPartlyFed}
use Rattle.coap_server_engine.specs.Prelude.{ShowsPart, events_made, ShowsRefusedAt, AddsBytes, WritesPart, ServerValue}
use Rattle.coap_server_engine.specs.Prelude.{server_taken, count_taken, session_of, IsNotTaken, IsRun, Took, OutputLine}
use Rattle.coap_server_engine.specs.Prelude.{Shows, AcceptedCall, request_lines, request_turns, In, handed_frame}
use Rattle.coap_server_engine.specs.Prelude.{request_text, IsTakeRefused, IsLineRefused, IsUnlisted, IsUnfinishedIn}
use Rattle.coap_script.specs.declared.event.Event.{Event}
use Rattle.coap_server_engine.specs.script.Replay.{result_after}
use Rattle.coap_server_engine.specs.values.InResults.{goes_on}
use Rattle.coap_io.proofs.streams.DeviceLemmas.{bytes_then}
use Rattle.coap_server_engine.proofs.scripting.ShownLemmas.{shows_same, shows_then, events_ran_on, absent_stuck}
use Rattle.coap_server_engine.proofs.scripting.ShownLemmas.{none_taken_there, stuck_turns}
use Rattle.coap_server_engine.proofs.world.ShowLaws.{refused_on}
use Rattle.coap_server_session.proofs.values.TakenLemmas.{refused_within}
use Rattle.coap_model.specs.world.Events as world
use Rattle.coap_model.specs.declared.answers.TakeFault.TheVariants as taking

-- ---- one event

-- The server and the line are the result of an event.
abbrev pub IsWhat : EventResult → ServerValue → List ℕ → Type 0
IsWhat r after line = (after ≡ r.server) × (line ≡ r.text)

-- Allocation failed for an event.
pub unrun : (v : ServerValue) (e : ScriptEventValue) (after : ServerValue) (r : Result OutputLine AllocError) → IsErr r
    → IsUnrun v e after → IsRun v e after r
unrun v e after (Ok line) is so = absurd cc
unrun v e after (Err fault) is so = so

-- ---- `remove`

-- `NoSuch` is the only error.
pub no_such_path : (s : StoreValue) (path : Path) → is_none (remove_refusal s path) ≡ false
    → remove_refusal s path ≡ Some NoSuch
unfolding remove_refusal
no_such_path s path refused = grind arith

-- ---- takes

-- A take for which allocation failed accepted a prefix of the slice.
pub not_taken_within : (v : ServerValue) (id : ℕ) (piece : List ℕ) (count : ℕ) (after : ServerValue)
    → IsNotTaken v id piece (taking.Memory count) after → (count ≤ length piece) × (length (take count piece) ≡ count)
not_taken_within v id piece count after refused =
    let found = refused_on v piece count _ refused.0 in
    let fewer : count ≤ length piece = omega (arith, refused_within v.shared found.0 piece count found.2) in
    (fewer, length-take-le count piece fewer)

-- Some takes accepted bytes, and the server is `now`.
pub record Feeds (v : ServerValue) (id : ℕ) (bytes : List ℕ) (now : ServerValue) (taken : ℕ) : Type 0 where
  pub turns : ℕ
  pub few : turns ≤ taken
  pub within : taken ≤ length bytes
  pub so_far : fed_turns turns v id bytes ≡ record { server = now; count = taken; done = false }
  pub shows : ShowsMore v now (took_turns turns v id bytes)

-- Two numbers of iterations lead to the same value, make the same takes and list the same requests.
abbrev pub AreTurnsOf : ServerValue → ℕ → List ℕ → ℕ → ℕ → Type 0
AreTurnsOf v id bytes m n =
    (fed_turns m v id bytes ≡ fed_turns n v id bytes) × (took_turns m v id bytes ≡ took_turns n v id bytes)
    × (request_turns m v id bytes ≡ request_turns n v id bytes)

-- After the last take, further iterations do nothing.
turns_stay : (v : ServerValue) (id : ℕ) (bytes : List ℕ) (n : ℕ) → goes_on bytes (fed_turns n v id bytes) ≡ false
    → (k : ℕ) → AreTurnsOf v id bytes (n + k) n
unfolding fed_turns took_turns request_turns
turns_stay v id bytes n is zero = rw add-zero (refl, refl, refl)
turns_stay v id bytes n is (suc k) =
    let before = turns_stay v id bytes n is k in
    rw add-suc (
      rw (before.0, is),
      rw (before.1, before.0, is) (append-nil (took_turns n v id bytes)),
      rw (before.2, before.0, is) (append-nil (request_turns n v id bytes)),
    )

pub all_turns_made : (v : ServerValue) (id : ℕ) (bytes : List ℕ) (n : ℕ)
    → goes_on bytes (fed_turns n v id bytes) ≡ false → (m : ℕ) → n ≤ m → AreTurnsOf v id bytes m n
all_turns_made v id bytes n is m few =
    let same : n + (m - n) ≡ m = omega arith in
    rw same at (turns_stay v id bytes n is (m - n))

-- The server after one more take shows it.
abbrev pub ShowsTake : ServerValue → ℕ → List ℕ → ServerValue → Type 0
ShowsTake now id left after =
    ShowsMore now after (where_there (session_of id now.sessions) (λ s. Took id (take (count_taken now id left) left)))

module _ {v : ServerValue} {id : ℕ} {bytes : List ℕ} {now : ServerValue} {taken : ℕ}
    (feeds : Feeds v id bytes now taken) (left : taken < length bytes) where
  pub turn_more_feeds : fed_turns (feeds.turns + 1) v id bytes ≡ record {
    server = server_taken now id (drop taken bytes);
    count = taken + count_taken now id (drop taken bytes);
    done = count_taken now id (drop taken bytes) == 0;
  }
  unfolding fed_turns
  turn_more_feeds = rw (add-one, feeds.so_far, lt-ltb taken _ left)

  pub shows_more : (after : ServerValue) → ShowsTake now id (drop taken bytes) after
      → ShowsMore v after (took_turns (feeds.turns + 1) v id bytes)
  unfolding took_turns
  shows_more after more =
      rw (add-one, feeds.so_far, lt-ltb taken _ left)
      (shows_then v now after (took_turns feeds.turns v id bytes) _ feeds.shows more)

  -- A take accepted some bytes.
  unfoldable pub feeds_more : (k : ℕ) (after : ServerValue) → k ≤ length (drop taken bytes)
      → k ≡ count_taken now id (drop taken bytes) → k ≢ 0 → after ≡ server_taken now id (drop taken bytes)
      → ShowsTake now id (drop taken bytes) after → Feeds v id bytes after (taken + k)
  feeds_more k after within counted some is more = record {
    turns = feeds.turns + 1;
    few = omega (arith, feeds.few);
    within = omega (arith, within, length-drop taken bytes);
    so_far = cc (turn_more_feeds, ne_eqb k 0 some);
    shows = shows_more after more;
  }

  -- A take accepted none.
  pub stops_there : (after : ServerValue) → count_taken now id (drop taken bytes) ≡ 0
      → after ≡ server_taken now id (drop taken bytes)
      → (in_result v id bytes ≡ record { server = after; count = taken; done = true })
      × (took v id bytes ≡ took_turns (feeds.turns + 1) v id bytes)
      × (request_lines v id bytes ≡ request_turns (feeds.turns + 1) v id bytes)
  stops_there after none is =
      let turn : fed_turns (feeds.turns + 1) v id bytes ≡ record { server = after; count = taken; done = true } =
      cc (turn_more_feeds, add-zero taken) in
      let all = all_turns_made v id bytes (feeds.turns + 1) (rw (turn, and-false)) (length bytes)
      (omega (arith, feeds.few)) in
      (all.0 ∙ turn, all.1, all.2)

  pub stopped_shows : (after : ServerValue) → count_taken now id (drop taken bytes) ≡ 0
      → after ≡ server_taken now id (drop taken bytes) → ShowsTake now id (drop taken bytes) after
      → ShowsMore v after (took v id bytes)
  stopped_shows after none is more = rw (stops_there after none is).1 (shows_more after more)

  -- Allocation failed.
  pub short : (count : ℕ) (after : ServerValue) → IsNotTaken now id (drop taken bytes) (taking.Memory count) after
      → IsPartialIn v id bytes after
  short count after refused = record {
    turns = feeds.turns;
    count = count;
    going = rw (feeds.so_far, lt-ltb taken _ left);
    refused = rw feeds.so_far refused;
  }

  pub short_shown : (count : ℕ) (after : ServerValue) → IsNotTaken now id (drop taken bytes) (taking.Memory count) after
      → ShowsMore now after (Took id (take count (drop taken bytes)) ∷ []) → ShowsPartlyFed v id bytes after
  unfolding short
  short_shown count after refused more = record {
    more = _;
    part = record { in_result = short count after refused; made = rw feeds.so_far };
    shows = shows_then v now after _ _ feeds.shows more;
  }

-- No byte is left.
module _ {v : ServerValue} {id : ℕ} {bytes : List ℕ} {now : ServerValue} {taken : ℕ}
    (feeds : Feeds v id bytes now taken) (none : length bytes ≤ taken) where
  pub all_used : AreTurnsOf v id bytes (length bytes) feeds.turns
  all_used =
      all_turns_made v id bytes _ (rw (feeds.so_far, le-ltb taken _ none)) _ (omega (arith, feeds.few, feeds.within))

  pub used_up : in_result v id bytes ≡ record { server = now; count = taken; done = false }
  used_up = all_used.0 ∙ feeds.so_far

  pub used_up_shows : ShowsMore v now (took v id bytes)
  used_up_shows = rw all_used.1 feeds.shows

-- No take was made yet.
unfoldable pub feeds_nothing : (v : ServerValue) (id : ℕ) (bytes : List ℕ) → Feeds v id bytes v 0
unfolding fed_turns took_turns
feeds_nothing v id bytes =
    record { turns = 0; few = omega arith; within = omega arith; so_far = refl; shows = shows_same v v refl }

-- No connection has this id.
pub fed_nothing : (v : ServerValue) (id : ℕ) → session_of id v.sessions ≡ None → (bytes : List ℕ)
    → ((in_result v id bytes).count ≡ 0) × ((in_result v id bytes).server ≡ v) × ShowsMore v v (took v id bytes)
fed_nothing v id none bytes =
    let stuck = stuck_turns v id (absent_stuck v id none) bytes (length bytes) in (
      stuck.count,
      stuck.server,
      rw (none_taken_there v id (rw none) bytes (length bytes)) (shows_same v v refl),
    )

-- ---- several events

-- Events after others are replayed on the server after these.
pub replayed_on : (v : ServerValue) (es fs : List ScriptEventValue)
    → replayed v (es ++ fs) ≡ result_after (replayed v es).text (replayed (replayed v es).server fs)
unfolding replayed
replayed_on v [] fs = refl
replayed_on v (e ∷ es) fs = rw (replayed_on (event_ran v e).server es fs, append_assoc)

-- The first events ran, their lines were written, and the server shows their calls.
pub record Replays (v : ServerValue) (all : List ScriptEventValue) (index : ℕ) (now : ServerValue)
    (x y : Option (List ℕ)) : Type 0 where
  pub server_is : now ≡ (replayed v (take index all)).server
  pub written : AddsBytes x y (replayed v (take index all)).text
  pub shown : ShowsMore v now (events_ran v (take index all))

-- One event at its index in a list.
pub record IsEventAt (all : List ScriptEventValue) (index : ℕ) (e : ScriptEventValue) : Type 0 where
  pub within : index < length all
  pub all_is : all ≡ take index all ++ e ∷ drop (index + 1) all
  pub more : take (index + 1) all ≡ take index all ++ e ∷ []
  pub counted : length (take index all) ≡ index

pub is_at : (events : List Event) (index : ℕ) (x : Event) → index < length events → x ≡ get_or events index x
    → IsEventAt (map event_value events) index (event_value x)
is_at events index x lt is =
    let all : List ScriptEventValue = map event_value events in
    let within : index < length all = omega (arith, length-map events event_value) in
    let found : get_or all index (event_value x) ≡ event_value x = rw (get_or-map event_value events index x, ← is) in
    let next = add-one index in
    record {
      within = within;
      all_is = cc (take-append-drop index all, drop-cons all index (event_value x) within);
      more = cc (take-suc all index (event_value x) within);
      counted = length-take-le index all (omega (arith, within));
    }

module _ {v : ServerValue} {all : List ScriptEventValue} {index : ℕ} {now : ServerValue} {x y : Option (List ℕ)}
    (so_far : Replays v all index now x y) {e : ScriptEventValue} (is_at : IsEventAt all index e) where
  -- Allocation failed for the event.
  pub refused_at : (number : ℕ) (after : ServerValue) → number ≡ index + 1 → IsUnrun now e after
      → IsRefusedAt v all number after (AddsBytes x y)
  refused_at number after counted unrun = record {
    before = take index all;
    event = e;
    others = drop _ all;
    all = is_at.all_is;
    counted = cc (counted, is_at.counted);
    written = so_far.written;
    unrun = rw so_far.server_is at unrun;
  }

  pub refused_shown : (before : List world.AcceptedCall) → Shows v before → (number : ℕ) (after : ServerValue)
      → number ≡ index + 1 → ShowsPart now e after → ShowsRefusedAt before v all number after
  refused_shown before shows number after counted refused = record {
    ran = take index all;
    event = e;
    others = drop (index + 1) all;
    all = is_at.all_is;
    counted = cc (counted, is_at.counted);
    more = refused.more;
    part = rw so_far.server_is at refused.part;
    shows = refused.shows (before ++ events_ran v (take index all)) (so_far.shown before shows);
  }

  -- The event ran.
  ran_shown : (after : ServerValue) → ShowsMore now after (events_made now e)
      → ShowsMore v after (events_ran v (take index all ++ e ∷ []))
  unfolding events_ran
  ran_shown after more =
      rw (events_ran_on v _ (e ∷ []), append-nil, ← so_far.server_is)
      (shows_then v now after (events_ran v (take index all)) (events_made now e) so_far.shown more)

  -- Its line is incomplete.
  pub cut_at : (after : ServerValue) (line : List ℕ) (z : Option (List ℕ)) → IsWhat (event_ran now e) after line
      → ShowsMore now after (events_made now e) → WritesPart y z line → IsCutAt v all after (AddsBytes x z)
  cut_at after line z ran more wrote = record {
    before = take index all;
    event = e;
    others = drop (index + 1) all;
    all = is_at.all_is;
    ran = cc (ran.0, so_far.server_is);
    part = wrote.0;
    missing = wrote.1;
    some = wrote.2;
    cut = cc (ran.1, so_far.server_is, wrote.3);
    written = bytes_then x y z (replayed v (take index all)).text wrote.0 so_far.written wrote.4;
    shows = ran_shown after more;
  }

  -- Its line was written.
  pub one_replayed : (after : ServerValue) (line : List ℕ) (z : Option (List ℕ)) → IsWhat (event_ran now e) after line
      → ShowsMore now after (events_made now e) → AddsBytes y z line → Replays v all (index + 1) after x z
  unfolding replayed
  one_replayed after line z ran more wrote =
      let next : replayed v (take (index + 1) all) ≡ result_after (replayed v (take index all)).text (event_ran now e) =
      rw (is_at.more, replayed_on v (take index all) (e ∷ []), append-nil, so_far.server_is) in
      record {
        server_is = cc (ran.0, next);
        written = rw (next, ← ran.1) (bytes_then x y z (replayed v (take index all)).text line so_far.written wrote);
        shown = rw is_at.more (ran_shown after more);
      }

-- The lines of the requests that the takes of an `in` hand to the application.

-- Some takes accepted bytes, and the lines of their requests follow `front`.
pub record Lists (v : ServerValue) (id : ℕ) (bytes : List ℕ) (now : ServerValue) (taken : ℕ)
    (front lines : List ℕ) : Type 0 where
  pub feeds : Feeds v id bytes now taken
  pub so_far : lines ≡ front ++ request_turns feeds.turns v id bytes

pub lists_nothing : (v : ServerValue) (id : ℕ) (bytes front : List ℕ) → Lists v id bytes v 0 front front
unfolding feeds_nothing request_turns
lists_nothing v id bytes front = record { feeds = feeds_nothing v id bytes; so_far = sym (append-nil front) }

module _ {v : ServerValue} {id : ℕ} {bytes : List ℕ} {now : ServerValue} {taken : ℕ} {front lines : List ℕ}
    (lists : Lists v id bytes now taken front lines) (left : taken < length bytes) where
  next_lines : (next : List ℕ) → next ≡ lines ++ request_text id (handed_frame now id (drop taken bytes))
      → next ≡ front ++ request_turns (lists.feeds.turns + 1) v id bytes
  unfolding request_turns
  next_lines next is =
      rw (is, lists.so_far, add-one, lists.feeds.so_far, lt-ltb taken _ left)
      (append_assoc front (request_turns lists.feeds.turns v id bytes) _)

  -- A take accepted some bytes.
  pub lists_more : (k : ℕ) (after : ServerValue) (next : List ℕ) → k ≤ length (drop taken bytes)
      → k ≡ count_taken now id (drop taken bytes) → k ≢ 0 → after ≡ server_taken now id (drop taken bytes)
      → ShowsTake now id (drop taken bytes) after
      → next ≡ lines ++ request_text id (handed_frame now id (drop taken bytes))
      → Lists v id bytes after (taken + k) front next
  unfolding feeds_more
  lists_more k after next within counted some is more listed =
      let feeds = feeds_more lists.feeds left k after within counted some is more in
      record { feeds = feeds; so_far = next_lines next listed }

  -- A take accepted none.
  pub listed_and_stopped : (after : ServerValue) (next : List ℕ) → count_taken now id (drop taken bytes) ≡ 0
      → after ≡ server_taken now id (drop taken bytes)
      → next ≡ lines ++ request_text id (handed_frame now id (drop taken bytes))
      → next ≡ front ++ request_lines v id bytes
  listed_and_stopped after next none is listed =
      rw (stops_there lists.feeds left after none is).2 (next_lines next listed)

  -- Allocation failed.
  unlisted : (after : ServerValue) → IsLineRefused now id (drop taken bytes) after → IsUnlisted v id bytes after
  unlisted after refused = record {
    turns = lists.feeds.turns;
    going = rw (lists.feeds.so_far, lt-ltb taken _ left);
    handed = rw lists.feeds.so_far refused.handed;
    server = rw (turn_more_feeds _ left) refused.server;
  }

  pub unfinished : (after : ServerValue)
      → IsTakeRefused now id (drop taken bytes) after ⊎ IsLineRefused now id (drop taken bytes) after
      → IsUnfinishedIn v id bytes after × ShowsPart v (In id bytes) after
  unfolding unlisted
  unfinished after (inl refused) =
      let partly = short_shown lists.feeds left refused.count after refused.refused refused.shows in (
        inl (short lists.feeds left refused.count after refused.refused),
        record { more = partly.more; part = inl partly.part; shows = partly.shows },
      )
  unfinished after (inr refused) = (
    inr (unlisted after refused),
    record {
      more = took_turns (lists.feeds.turns + 1) v id bytes;
      part = inr (record { unlisted = unlisted after refused; made = refl });
      shows = shows_more lists.feeds left after refused.shows;
    },
  )

-- No byte is left.
pub listed_all : {v : ServerValue} {id : ℕ} {bytes : List ℕ} {now : ServerValue} {taken : ℕ} {front lines : List ℕ}
    (lists : Lists v id bytes now taken front lines) → length bytes ≤ taken → lines ≡ front ++ request_lines v id bytes
listed_all lists none = rw (all_used lists.feeds none).2 lists.so_far
