-- Scripts that divide the bytes of their `in`s differently leave the same server, and write the same lines apart from
-- those of the `in`s.
use Rattle.std.proofs.Common.{◌≡◌, ◌⊎◌, ℕ, zero, suc, ◌+◌, ◌-◌, ◌<◌, ◌≤◌, Bool, true, false, cond, List, [], ◌∷◌, ◌++◌}
use Rattle.std.proofs.Common.{length, take, drop, map, Option, Some, None, refl, sym, ap, ◌∙◌, append_assoc, arith, inl}
use Rattle.std.proofs.Common.{inr, lt-ltb, add_assoc, add-zero, zero-add, ◌≢◌, ◌^◌, ◌==◌, codes}
use Rattle.std.proofs.lemmas.Bool.{ne_eqb, eqb-true, cond_both}
use Rattle.std.proofs.lemmas.List.{append-nil, length-append, length-drop, drop-append-le, drop-drop, take-append-le}
use Rattle.std.proofs.lemmas.List.{length-take}
use Rattle.std.proofs.Math.Seq.{drop-length, drop-append-add, take-append-add, take-length}
use Rattle.coap_server_engine.specs.Prelude.{Stream, StreamPrefix, Unfinished, Faulty, prefix_kind, fault_bytes}
use Rattle.coap_server_engine.specs.Prelude.{framing_at, framing, ConfigValues, InResult, unfed, fed_once, fed_turns}
use Rattle.coap_server_engine.specs.Prelude.{in_result, SessionValue, ServerValue, session_of, server_taken}
use Rattle.coap_server_engine.specs.Prelude.{count_taken, Connection, handles, side_of, AcceptedCall, Took, stream_on}
use Rattle.coap_server_engine.specs.Prelude.{world_after, size_on, session_shown, server_shown, server_of, Shows}
use Rattle.coap_server_engine.specs.Prelude.{concat, ScriptEventValue, Open, In, Drain, Tick, Remove, Release, Drop}
use Rattle.coap_server_engine.specs.Prelude.{Status, EventResult, open_number, store_number, release_number}
use Rattle.coap_server_engine.specs.Prelude.{unless_refused, on_connection, in_ran, request_lines, drained, event_ran}
use Rattle.coap_server_engine.specs.Prelude.{replayed, in_before, joined, DifferInCuts, lines_of, other_lines, IsInTime}
use Rattle.coap_server_engine.specs.Prelude.{AreInTime, open_refusal, released_refusal_on, Respond, response_number}
use Rattle.coap_server_engine.specs.Prelude.{release_fault, comes_to, server_opened, server_ticked, server_put}
use Rattle.coap_server_engine.specs.Prelude.{server_removed, server_ended, server_released, server_given}
use Rattle.coap_server_engine.specs.Prelude.{server_dropped, open_line, drain_ran, tick_line, put_line, remove_line}
use Rattle.coap_server_engine.specs.Prelude.{word_line, status_ran}
use Rattle.coap_wire.specs.StreamPrefix.{Whole}
use Rattle.coap_wire.proofs.StreamSteps.{whole_more, faulty_more, fault_bytes_more}
use Rattle.coap_frame.proofs.FrontLaws.{some_in_front}
use Rattle.coap_frame.proofs.GivenLaws.{taken_within, nothing_taken, frame_taken, fault_taken}
use Rattle.coap_server_engine.specs.values.InResults.{goes_on}
use Rattle.coap_model.specs.world.Events.{front_of}
use Rattle.coap_model.proofs.world.StepLaws.{world_same, size_then, rest_unfinished, spelled_same}
use Rattle.coap_model.proofs.world.CutLaws.{cut_worlds, SpellAlike, stream_alike, spelled_twice}
use Rattle.coap_model.proofs.world.TookLaws.{no_bytes_steps, Adds, adds_nothing}
use Rattle.coap_model.proofs.world.ReachedLaws.{accepted_is, handling_goes_on, takes_there}
use Rattle.coap_server_engine.proofs.world.ShowLaws.{session_there, side_there, takes_shown, shows_taken, shows_opened}
use Rattle.coap_server_engine.proofs.world.ShowLaws.{shows_written, shows_ticked, shows_put, shows_removed, shows_ended}
use Rattle.coap_server_engine.proofs.world.ShowLaws.{shows_released, shows_dropped, shows_given, where_free}
use Rattle.coap_server_engine.proofs.scripting.ShownLemmas.{config_stays, IsStuck, absent_stuck, stuck_turns}
use Rattle.coap_server_engine.proofs.scripting.ShownLemmas.{turns_keep}
use Rattle.coap_server_engine.proofs.scripting.ReplayLemmas.{all_turns_made}
use Rattle.std.proofs.lemmas.Bool.Decides.{nat_tests}
use Rattle.coap_model.specs.declared.answers.ReleaseFault.TheVariants as releasing
use Rattle.coap_script.specs.script.Events.{Put, End}
use Rattle.coap_model.proofs.OptionLemmas.{none_made}

-- The division of a connection's bytes into `in`s does not matter: takes without a write between them lead to the same
-- server.

-- ---- servers that show equal histories

-- A server is determined by the events that it shows.
same_where_alike : (u v : ServerValue) (es fs : List AcceptedCall) → u.config ≡ v.config → Shows u es → Shows v fs
    → SpellAlike v.config.limits.max_message es fs → world_after v.config es ≡ world_after v.config fs → u ≡ v
unfolding server_of
same_where_alike u v es fs config first second alike same =
    let M = v.config.limits.max_message in
    let streams : ◌≡◌ {A = ℕ → Stream} (λ id. stream_on M id es) (λ id. stream_on M id fs) =
    λ i id. stream_alike M id es fs alike i in
    first.same ∙ ap (λ (c : ConfigValues). server_of c es) config ∙ ap (server_shown v.config es) same
    ∙ ap (λ s. record (server_shown v.config es (world_after v.config fs)) {
      sessions = map (λ p. (p.id, session_shown (s p.id).rest p.side)) (world_after v.config fs).sides;
    }) streams ∙ sym second.same

-- ---- a take that accepts no byte, or some bytes

no_bytes_alike : (M : ℕ) (es : List AcceptedCall) (id : ℕ) → SpellAlike M (es ++ Took id [] ∷ []) es
no_bytes_alike M es id k = spelled_same M k es _ (grind arith) (λ N. refl)

-- The current message size of a connection, and the bytes of its unfinished frame.
abbrev size_here : ServerValue → List AcceptedCall → ℕ → ℕ
size_here v es id = size_on v.config.limits.max_message id es

abbrev rest_here : ServerValue → List AcceptedCall → ℕ → List ℕ
rest_here v es id = (stream_on v.config.limits.max_message id es).rest

record Goes (v : ServerValue) (es : List AcceptedCall) (id : ℕ) : Type 0 where
  pub side : Connection
  pub there : side_of id (world_after v.config es).sides ≡ Some side
  pub handling : handles side ≡ true
  pub no_fault : (stream_on v.config.limits.max_message id es).fault ≡ None
  pub unfinished : prefix_kind (size_here v es id) (rest_here v es id) ≡ Unfinished
  pub counts : (bytes : List ℕ) → count_taken v id bytes ≡ front_of (size_here v es id) (rest_here v es id) bytes

module _ (v : ServerValue) (es : List AcceptedCall) (id : ℕ) (shows : Shows v es) (t : Connection)
    (there : side_of id (world_after v.config es).sides ≡ Some t) where
  counts : (does : Bool) → handles t ≡ does → (bytes : List ℕ)
      → count_taken v id bytes ≡ cond does (front_of (size_here v es id) (rest_here v es id) bytes) 0
  counts does is bytes = rw (takes_shown v es id bytes shows, takes_there v.config es id bytes t there, is)

  stuck_or_handles : (does : Bool) → handles t ≡ does → IsStuck v id ⊎ Goes v es id
  stuck_or_handles true does =
      let no_fault = handling_goes_on v.config es id t (accepted_is v.config es shows.accepted) there does in
      inr (record {
        side = t;
        there = there;
        handling = does;
        no_fault = no_fault;
        unfinished = rest_unfinished v.config.limits.max_message id es no_fault;
        counts = counts true does;
      })
  stuck_or_handles false stops = inl (record {
    none = counts false stops;
    stays = λ bytes. same_where_alike (server_taken v id bytes) v (es ++ Took id [] ∷ []) es (config_stays v id bytes)
        (rw (counts false stops bytes) at (shows_taken v es id bytes _ shows (side_there v es id t shows there)))
        shows (no_bytes_alike v.config.limits.max_message es id)
        (world_same v.config es (Took id []) (no_bytes_steps v.config.limits.max_message id es));
  })

stuck_or_there : (v : ServerValue) (es : List AcceptedCall) (id : ℕ) → Shows v es → (found : Option SessionValue)
    → session_of id v.sessions ≡ found → IsStuck v id ⊎ Goes v es id
stuck_or_there v es id shows None at = inl (absent_stuck v id at)
stuck_or_there v es id shows (Some s) at =
    let found = session_there v es id s shows at in
    stuck_or_handles v es id shows found.side found.there (handles found.side) refl

-- ---- the number of accepted bytes of a longer slice

-- Prefixes of two slices have corresponding lengths if they are the same bytes after the kept ones.
same_lengths : (kept before xs ys : List ℕ) (n k : ℕ) → n ≤ length xs → k ≤ length ys
    → kept ++ take n xs ≡ before ++ take k ys → length kept + n ≡ length before + k
same_lengths kept before xs ys n k few less same = grind (arith, length-append {A = ℕ}, length-take {A = ℕ})

-- The bytes of the first frame or error, or all bytes if there is neither.
abbrev bytes_in_front : List ℕ → StreamPrefix → List ℕ
bytes_in_front bytes Unfinished = bytes
bytes_in_front bytes (Whole frame left) = frame
bytes_in_front bytes (Faulty fault) = fault_bytes bytes

module _ (M : ℕ) (kept piece : List ℕ) where
  finding_at : (b : StreamPrefix) → prefix_kind M (kept ++ piece) ≡ b
      → (framing M kept piece).finding ≡ (framing_at kept piece b).finding
  unfolding framing
  finding_at b is = rw is

  all_at : prefix_kind M kept ≡ Unfinished → prefix_kind M (kept ++ piece) ≡ Unfinished
      → front_of M kept piece ≡ length piece
  all_at unfinished is = nothing_taken M kept piece unfinished (finding_at Unfinished is)

  -- These bytes are the accepted ones.
  bytes_taken_are : prefix_kind M kept ≡ Unfinished → (b : StreamPrefix) → prefix_kind M (kept ++ piece) ≡ b
      → kept ++ take (front_of M kept piece) piece ≡ bytes_in_front (kept ++ piece) b
  bytes_taken_are unfinished Unfinished is = rw (all_at unfinished is, take-length)
  bytes_taken_are unfinished (Whole frame left) is = sym (frame_taken M kept piece frame unfinished (finding_at _ is))
  bytes_taken_are unfinished (Faulty fault) is = (fault_taken M kept piece fault unfinished (finding_at _ is)).1

module _ (M : ℕ) (kept xs zs : List ℕ) (unfinished : prefix_kind M kept ≡ Unfinished) where
  -- If a frame or an error is found, later bytes make no difference.
  same_front_taken : (b : StreamPrefix) → b ≢ Unfinished → prefix_kind M (kept ++ xs) ≡ b
      → front_of M kept (xs ++ zs) ≡ front_of M kept xs
  same_front_taken b found is =
      let within = taken_within M kept (xs ++ zs) unfinished in
      omega (
        arith,
        same_lengths kept kept (xs ++ zs) xs _ _ within (taken_within M kept xs unfinished) (bytes_alike b found is),
      )
    where
      bytes_alike : (b : StreamPrefix) → b ≢ Unfinished → prefix_kind M (kept ++ xs) ≡ b
          → kept ++ take (front_of M kept (xs ++ zs)) (xs ++ zs) ≡ kept ++ take (front_of M kept xs) xs
      bytes_alike Unfinished found is = absurd (found refl)
      bytes_alike (Whole frame left) found is =
          bytes_taken_are M kept (xs ++ zs) unfinished _ (rw append_assoc at (whole_more M _ zs frame left is))
          ∙ sym (bytes_taken_are M kept xs unfinished _ is)
      bytes_alike (Faulty fault) found is =
          bytes_taken_are M kept (xs ++ zs) unfinished _ (rw append_assoc at (faulty_more M _ zs fault is))
          ∙ rw append_assoc at (fault_bytes_more M _ zs fault is) ∙ sym (bytes_taken_are M kept xs unfinished _ is)

  -- If neither is found, later bytes are read as if the earlier ones were kept.
  later_front : prefix_kind M (kept ++ xs) ≡ Unfinished
      → front_of M kept (xs ++ zs) ≡ length xs + front_of M (kept ++ xs) zs
  later_front still =
      let b = prefix_kind M (kept ++ (xs ++ zs)) in
      let whole = bytes_taken_are M kept (xs ++ zs) unfinished b refl in
      let part = bytes_taken_are M (kept ++ xs) zs still b (rw append_assoc) in
      let within = taken_within M kept (xs ++ zs) unfinished in
      let same = same_lengths kept (kept ++ xs) (xs ++ zs) zs _ _ within (taken_within M (kept ++ xs) zs still)
      (cc (whole, part, append_assoc kept xs zs)) in
      omega (arith, length-append kept xs)

-- ---- consecutive takes

-- The same value after `n` bytes were accepted before.
abbrev shifted : ℕ → InResult → InResult
shifted n f = record f { count = n + f.count }

once_shifted : (id : ℕ) (bytes : List ℕ) (n : ℕ) (f : InResult) → n ≤ length bytes
    → fed_once id bytes (shifted n f) ≡ shifted n (fed_once id (drop n bytes) f)
once_shifted id bytes n f within = grind (arith, nat_tests, length-drop n bytes, drop-drop f.count n bytes)

turns_shifted : (v : ServerValue) (id : ℕ) (bytes : List ℕ) (n turns : ℕ) → count_taken v id bytes ≡ n
    → 1 ≤ n → n ≤ length bytes
    → fed_turns (suc turns) v id bytes ≡ shifted n (fed_turns turns (server_taken v id bytes) id (drop n bytes))
unfolding fed_turns
turns_shifted v id bytes n zero counted some within =
    let less = lt-ltb 0 (length bytes) (omega arith) in
    let goes = ne_eqb n 0 (λ none. omega arith) in
    rw (less, counted, zero-add n, add-zero n, goes)
turns_shifted v id bytes n (suc turns) counted some within =
    rw (turns_shifted v id bytes n turns counted some within)
    (once_shifted id bytes n (fed_turns turns (server_taken v id bytes) id (drop n bytes)) within)

-- Each iteration that continues has accepted a byte.
turn_takes : (id : ℕ) (bytes : List ℕ) (turns : ℕ) (f : InResult) → (goes_on bytes f ≡ true → turns ≤ f.count)
    → goes_on bytes (fed_once id bytes f) ≡ true → suc turns ≤ (fed_once id bytes f).count
turn_takes id bytes turns f few goes = grind (arith, nat_tests)

turns_take : (v : ServerValue) (id : ℕ) (bytes : List ℕ) (turns : ℕ) → goes_on bytes (fed_turns turns v id bytes) ≡ true
    → turns ≤ (fed_turns turns v id bytes).count
unfolding fed_turns
turns_take v id bytes zero goes = omega arith
turns_take v id bytes (suc turns) goes =
    turn_takes id bytes turns _ (turns_take v id bytes turns) goes

is_over : (v : ServerValue) (id : ℕ) (bytes : List ℕ) → goes_on bytes (in_result v id bytes) ≡ false
is_over v id bytes = grind (arith, nat_tests, turns_take v id bytes (length bytes))

-- The first take, followed by those of the remaining bytes.
fed_by : (v : ServerValue) (id : ℕ) (bytes : List ℕ) (n : ℕ) → count_taken v id bytes ≡ n → 1 ≤ n → n ≤ length bytes
    → in_result v id bytes ≡ shifted n (in_result (server_taken v id bytes) id (drop n bytes))
fed_by v id bytes n counted some within =
    let all : length bytes ≡ suc (length bytes - 1) = omega arith in
    let left : length (drop n bytes) ≤ length bytes - 1 = omega (arith, length-drop n bytes) in
    let over = is_over (server_taken v id bytes) id (drop n bytes) in
    let enough =
    all_turns_made (server_taken v id bytes) id (drop n bytes) (length (drop n bytes)) over (length bytes - 1) left in
    cc (all, turns_shifted v id bytes n (length bytes - 1) counted some within, enough.0)

-- ---- a divided `in`

pub record IsFedInParts (v : ServerValue) (id : ℕ) (xs ys : List ℕ) : Type 0 where
  pub server : (in_result v id (xs ++ ys)).server ≡ (in_result (in_result v id xs).server id ys).server
  pub count : (in_result v id (xs ++ ys)).count
      ≡ (in_result v id xs).count + (in_result (in_result v id xs).server id ys).count

-- If the connection accepts no byte, it accepts none of the whole and none of the parts.
stuck_parts : (v : ServerValue) (id : ℕ) (xs ys : List ℕ) → IsStuck v id → IsFedInParts v id xs ys
stuck_parts v id xs ys stuck =
    let whole = stuck_turns v id stuck (xs ++ ys) (length (xs ++ ys)) in
    let first = stuck_turns v id stuck xs (length xs) in
    let second = stuck_turns v id stuck ys (length ys) in
    record { server = cc (whole.server, first.server, second.server); count = cc (first.server, second.count) }

-- One of the parts is empty.
no_first_part : (v : ServerValue) (id : ℕ) (ys : List ℕ) → IsFedInParts v id [] ys
unfolding fed_turns
no_first_part v id ys = record { server = refl; count = omega arith }

no_second_part : (v : ServerValue) (id : ℕ) (xs : List ℕ) → IsFedInParts v id xs []
unfolding fed_turns
no_second_part v id xs = record { server = rw append-nil; count = rw append-nil (omega arith) }

module _ (v : ServerValue) (es : List AcceptedCall) (id : ℕ) (xs ys : List ℕ) (shows : Shows v es)
    (goes : Goes v es id) where
  abbrev size_now : ℕ
  size_now = size_here v es id

  abbrev rest_now : List ℕ
  rest_now = rest_here v es id

  abbrev whole_taken : ServerValue
  whole_taken = server_taken v id (xs ++ ys)

  abbrev part_taken : ServerValue
  part_taken = server_taken v id xs

  took_shows : (bytes : List ℕ) (n : ℕ) → count_taken v id bytes ≡ n
      → Shows (server_taken v id bytes) (es ++ Took id (take n bytes) ∷ [])
  took_shows bytes n counted =
      rw counted at (shows_taken v es id bytes _ shows (side_there v es id goes.side shows goes.there))

  -- A frame or an error is found in the first part: the first take is the same.
  found_parts : 0 < length xs → front_of size_now rest_now (xs ++ ys) ≡ front_of size_now rest_now xs
      → ((w : ServerValue) (fs : List AcceptedCall) (zs : List ℕ) → Shows w fs → length zs < length xs
      → IsFedInParts w id zs ys) → IsFedInParts v id xs ys
  found_parts some same again =
      let n : ℕ = front_of size_now rest_now xs in
      let takes_some : 1 ≤ n = some_in_front size_now rest_now xs goes.unfinished some in
      let within : n ≤ length xs = taken_within size_now rest_now xs goes.unfinished in
      let whole_count : count_taken v id (xs ++ ys) ≡ n = goes.counts (xs ++ ys) ∙ same in
      let part_shows = took_shows xs n (goes.counts xs) in
      let server_same : whole_taken ≡ part_taken =
      same_where_alike whole_taken part_taken _ _ (config_stays v id (xs ++ ys) ∙ sym (config_stays v id xs))
      (rw (take-append-le n xs ys within) at (took_shows (xs ++ ys) n whole_count)) part_shows (λ id. refl) refl in
      let parts = again part_taken _ (drop n xs) part_shows (omega (arith, length-drop n xs)) in
      let whole : in_result v id (xs ++ ys) ≡ shifted n (in_result part_taken id (drop n xs ++ ys)) = cc (
        fed_by v id (xs ++ ys) n whole_count takes_some (omega (arith, length-append xs ys)),
        server_same,
        drop-append-le n xs ys within,
      ) in
      let first = fed_by v id xs n (goes.counts xs) takes_some within in
      record { server = rw (whole, parts.server, first); count = rw (whole, parts.count, first, add_assoc n) }

  -- Neither is found in the first part: all of it is accepted, and the next take continues after it.
  later_parts : prefix_kind size_now (rest_now ++ xs) ≡ Unfinished → 0 < length xs
      → 0 < length ys → IsFedInParts v id xs ys
  later_parts still some more =
      let M : ℕ = v.config.limits.max_message in
      let now : List AcceptedCall = es ++ Took id xs ∷ [] in
      let n : ℕ = front_of size_now (rest_now ++ xs) ys in
      let takes_some : 1 ≤ n = some_in_front size_now (rest_now ++ xs) ys still more in
      let within : n ≤ length ys = taken_within size_now (rest_now ++ xs) ys still in
      let part_count : count_taken v id xs ≡ length xs =
      goes.counts xs ∙ all_at size_now rest_now xs goes.unfinished still in
      let part_shows : Shows part_taken now = rw take-length at (took_shows xs (length xs) part_count) in
      let added : Adds M id es xs (record { messages = []; rest = rest_now ++ xs; fault = None }) =
      adds_nothing M id es xs goes.no_fault (finding_at size_now rest_now xs Unfinished still) in
      let there : side_of id (world_after v.config now).sides ≡ Some goes.side =
      rw (world_same v.config es (Took id xs) added.steps) goes.there in
      let takes_next = takes_there v.config now id ys goes.side there in
      let next_count : count_taken part_taken id ys ≡ n = rw (
        takes_shown part_taken now id ys part_shows,
        config_stays v id xs,
        takes_next,
        goes.handling,
        size_then M id es (Took id xs),
        added.stream,
      ) in
      let whole_count = goes.counts (xs ++ ys) ∙ later_front size_now rest_now xs ys goes.unfinished still in
      let next_taken : ServerValue = server_taken part_taken id ys in
      let next_there : side_of id (world_after part_taken.config now).sides ≡ Some goes.side =
      rw (config_stays v id xs) there in
      let next_session = side_there part_taken now id goes.side part_shows next_there in
      let next_shows = rw next_count at (shows_taken part_taken now id ys _ part_shows next_session) in
      let next_config : next_taken.config ≡ v.config = config_stays part_taken id ys ∙ config_stays v id xs in
      let server_same : whole_taken ≡ next_taken =
      same_where_alike whole_taken next_taken _ _ (config_stays v id (xs ++ ys) ∙ sym next_config)
      (rw (take-append-add xs ys n) at (took_shows (xs ++ ys) (length xs + n) whole_count)) next_shows
      (spelled_twice next_taken.config.limits.max_message es id xs (take n ys))
      (rw append_assoc (cut_worlds next_taken.config es [] id xs (take n ys))) in
      let whole : in_result v id (xs ++ ys) ≡ shifted (length xs + n) (in_result next_taken id (drop n ys)) =
      let longer : length xs + n ≤ length (xs ++ ys) = omega (arith, length-append xs ys) in
      cc (
        fed_by v id (xs ++ ys) (length xs + n) whole_count (omega arith) longer,
        server_same,
        drop-append-add xs ys n,
      ) in
      let nothing : in_result part_taken id [] ≡ unfed part_taken = unfold fed_turns in refl in
      let first : in_result v id xs ≡ shifted (length xs) (unfed part_taken) =
      cc (fed_by v id xs (length xs) part_count (omega arith) (omega arith), drop-length xs, nothing) in
      let second : in_result (in_result v id xs).server id ys ≡ shifted n (in_result next_taken id (drop n ys)) =
      rw first (fed_by part_taken id ys n next_count takes_some within) in
      record {
        server = rw (whole, second);
        count = rw (whole, second, first, add-zero (length xs), add_assoc (length xs) n);
      }

going_parts : (v : ServerValue) (es : List AcceptedCall) (id : ℕ) (xs ys : List ℕ) → Shows v es
    → (goes : Goes v es id) → 0 < length xs
    → ((w : ServerValue) (fs : List AcceptedCall) (zs : List ℕ) → Shows w fs → length zs < length xs
    → IsFedInParts w id zs ys)
    → (b : StreamPrefix) → prefix_kind (size_here v es id) (rest_here v es id ++ xs) ≡ b → IsFedInParts v id xs ys
going_parts v es id xs [] shows goes some again b is = no_second_part v id xs
going_parts v es id xs (y ∷ ys) shows goes some again Unfinished is =
    later_parts v es id xs (y ∷ ys) shows goes is some (omega arith)
going_parts v es id xs (y ∷ ys) shows goes some again b is =
    let same = same_front_taken _ _ xs (y ∷ ys) goes.unfinished b (λ unfinished. cc) is in
    found_parts v es id xs (y ∷ ys) shows goes some same again

parts_within : (few : ℕ) (v : ServerValue) (es : List AcceptedCall) (id : ℕ) (xs ys : List ℕ) → Shows v es
    → length xs ≤ few → IsFedInParts v id xs ys
parts_within few v es id [] ys shows within = no_first_part v id ys
parts_within zero v es id (x ∷ xs) ys shows within = absurd (omega arith)
parts_within (suc few) v es id (x ∷ xs) ys shows within = elim (stuck_or_there v es id shows _ refl) [
  | inl stuck ↦ stuck_parts v id (x ∷ xs) ys stuck
  | inr goes ↦
      going_parts v es id (x ∷ xs) ys shows goes (omega arith)
      (λ w fs zs then_shows fewer. parts_within few w fs id zs ys then_shows (omega arith)) _ refl
]

-- Bytes in two consecutive parts have the same effect as in one, and the same number of them is accepted.
pub fed_in_parts : (v : ServerValue) (es : List AcceptedCall) (id : ℕ) (xs ys : List ℕ)
    → Shows v es → IsFedInParts v id xs ys
fed_in_parts v es id xs ys shows = parts_within (length xs) v es id xs ys shows (omega arith)

-- ---- a server that shows a history shows one after each event of a script

-- The server shows some history, and its ids fit in 64 bits.
pub record IsShown (v : ServerValue) : Type 0 where
  pub events : List AcceptedCall
  pub shows : Shows v events
  pub ids : v.ids < 2 ^ 64

still_shown : {v w : ServerValue} {events : List AcceptedCall} → IsShown v → w.ids ≡ v.ids → Shows w events → IsShown w
still_shown shown same shows = record { events = _; shows = shows; ids = rw same shown.ids }

unless_shown : (v : ServerValue) (word : List ℕ) (id : Option ℕ) (does : EventResult) (refusal : Option ℕ) → IsShown v
    → (refusal ≡ None → IsShown does.server) → IsShown (unless_refused v word id does refusal).server
unless_shown v word id does None shown next = next refl
unless_shown v word id does (Some number) shown next = shown

connection_shown : (v : ServerValue) (word : List ℕ) (id : ℕ) (does : SessionValue → EventResult)
    (found : Option SessionValue) → IsShown v → ((s : SessionValue) → found ≡ Some s → IsShown (does s).server)
    → IsShown (on_connection v word id does found).server
connection_shown v word id does None shown next = shown
connection_shown v word id does (Some s) shown next = next s refl

-- `in`
take_shown_by : (v : ServerValue) (id : ℕ) (piece : List ℕ) (found : Option SessionValue)
    → session_of id v.sessions ≡ found → IsShown v → IsShown (server_taken v id piece)
unfolding server_taken
take_shown_by v id piece None at shown = rw at shown
take_shown_by v id piece (Some s) at shown =
    record { events = _; shows = shows_taken v shown.events id piece s shown.shows at; ids = rw at shown.ids }

event_shown : (v : ServerValue) (e : ScriptEventValue) → IsInTime e → IsShown v → IsShown (event_ran v e).server
unfolding event_ran
event_shown v Open in_time shown =
    unless_shown v (codes "open") None (comes_to (server_opened v) (open_line (v.ids + 1))) _ shown (λ none.
    let free = none_made open_number (open_refusal v) none in
    let small : v.ids + 1 ≤ 18446744073709551615 = grind (arith, nat_tests, free, shown.ids) in
    let few : length v.sessions < v.config.connections = grind (arith, nat_tests, free) in
    record { events = _; shows = shows_opened v shown.events shown.shows small few; ids = omega (arith, small) })
event_shown v (In id bytes) in_time shown =
    connection_shown v (codes "in") id (λ s. in_ran id (request_lines v id bytes) (in_result v id bytes)) _ shown
    (λ s at. turns_keep (λ f. IsShown f.server) id bytes
    (λ f now. take_shown_by f.server id (drop f.count bytes) (session_of id f.server.sessions) refl now) v
    shown (length bytes))
event_shown v (Drain id most) in_time shown =
    connection_shown v (codes "drain") id (λ s. drain_ran v id (drained most s.link.waiting)) _ shown
    (λ s at. still_shown shown refl
    (shows_written v shown.events id (length (drained most s.link.waiting)) s shown.shows at
    (grind (arith, length-take {A = ℕ}))))
event_shown v (Tick now) in_time shown =
    unless_shown v (codes "tick") None (comes_to (server_ticked v now) (tick_line now)) _ shown
    (λ none. still_shown shown refl
    (shows_ticked v shown.events now shown.shows (grind (arith, nat_tests, none)) (omega arith)))
event_shown v (Put path format bytes) in_time shown =
    unless_shown v (codes "put") None
    (comes_to (server_put v path format bytes) (put_line (v.shared.store.versions + 1))) _ shown
    (λ none. still_shown shown refl
    (shows_put v shown.events path format bytes shown.shows (none_made store_number _ none)))
event_shown v (Remove path text) in_time shown =
    unless_shown v (codes "remove") None (comes_to (server_removed v path) (remove_line text)) _ shown
    (λ none. still_shown shown refl (shows_removed v shown.events path shown.shows (none_made store_number _ none)))
event_shown v (End id) in_time shown =
    connection_shown v (codes "end") id (λ s. comes_to (server_ended v id) (word_line (codes "end") id)) _ shown
    (λ s at. still_shown shown refl (shows_ended v shown.events id s shown.shows at))
event_shown v (Release id) in_time shown =
    unless_shown v (codes "release") (Some id) (comes_to (server_released v id) (word_line (codes "release") id)) _
    shown (λ none.
    let at = where_free released_refusal_on releasing.NoSuch (session_of id v.sessions) refl
    (none_made release_number _ none) in
    still_shown shown refl (shows_released v shown.events id at.0 shown.shows at.1 (none_made release_fault _ at.2)))
event_shown v (Respond id bytes) in_time shown =
    unless_shown v (codes "respond") (Some id) (comes_to (server_given v id bytes) (word_line (codes "respond") id)) _
    shown (λ none. still_shown shown refl
    (shows_given v shown.events id bytes shown.shows (none_made response_number _ none)))
event_shown v (Drop id) in_time shown =
    connection_shown v (codes "drop") id (λ s. comes_to (server_dropped v id) (word_line (codes "drop") id)) _ shown
    (λ s at. still_shown shown refl (shows_dropped v shown.events id s shown.shows at))
event_shown v (Status id) in_time shown =
    connection_shown v (codes "status") id (status_ran v id) _ shown (λ s at. shown)

-- ---- a divided `in`

in_server : (v : ServerValue) (id : ℕ) (bytes : List ℕ)
    → (event_ran v (In id bytes)).server ≡ (in_result v id bytes).server
unfolding event_ran
in_server v id bytes = by _ refl
  where
    by : (found : Option SessionValue) → session_of id v.sessions ≡ found
        → (on_connection v (codes "in") id (λ s. in_ran id (request_lines v id bytes) (in_result v id bytes))
        found).server ≡ (in_result v id bytes).server
    by None at = sym (stuck_turns v id (absent_stuck v id at) bytes (length bytes)).server
    by (Some s) at = refl

in_parts : (v : ServerValue) (id : ℕ) (xs ys : List ℕ) → IsShown v
    → (event_ran (event_ran v (In id xs)).server (In id ys)).server ≡ (event_ran v (In id (xs ++ ys))).server
in_parts v id xs ys shown = cc (
  in_server (event_ran v (In id xs)).server id ys,
  in_server v id xs,
  (fed_in_parts v shown.events id xs ys shown.shows).server,
  in_server v id (xs ++ ys),
)

-- ---- scripts

record RunAlike (v : ServerValue) (es fs : List ScriptEventValue) : Type 0 where
  pub server : (replayed v es).server ≡ (replayed v fs).server
  pub lines : other_lines v es ≡ other_lines v fs

run_same : (v : ServerValue) (es : List ScriptEventValue) → RunAlike v es es
run_same v es = record { server = refl; lines = refl }

-- One event, followed by events that run alike.
run_after : (v : ServerValue) (e : ScriptEventValue) (es fs : List ScriptEventValue)
    → RunAlike (event_ran v e).server es fs → RunAlike v (e ∷ es) (e ∷ fs)
unfolding replayed lines_of
run_after v e es fs alike = record { server = alike.server; lines = rw alike.lines }

run_joined : (v : ServerValue) (id : ℕ) (bytes more : List ℕ) (es : List ScriptEventValue) → IsShown v
    → RunAlike v (In id bytes ∷ In id more ∷ es) (In id (bytes ++ more) ∷ es)
unfolding replayed lines_of
run_joined v id bytes more es shown =
    let same = in_parts v id bytes more shown in
    record { server = rw same; lines = rw same }

run_before : (v : ServerValue) (id : ℕ) (bytes : List ℕ) (es : List ScriptEventValue) → IsShown v
    → RunAlike v (In id bytes ∷ es) (in_before id bytes es)
unfolding in_before
run_before v id bytes (In other more ∷ es) shown =
    cond_both (other == id) _ _ (RunAlike v (In id bytes ∷ In other more ∷ es))
    (λ same. rw (eqb-true other id same) (run_joined v id bytes more es shown)) (λ differ. run_same v _)
run_before v id bytes es shown = run_same v (In id bytes ∷ es)

-- A script runs as the one with joined `in`s.
joined_alike : (v : ServerValue) (es : List ScriptEventValue) → IsShown v → AreInTime es → RunAlike v es (joined es)
unfolding joined
joined_alike v [] shown in_time = run_same v []
joined_alike v (In id bytes ∷ es) shown in_time =
    let then_shown = event_shown v _ in_time.0 shown in
    let rest = run_after v _ es _ (joined_alike (event_ran v _).server es then_shown in_time.1) in
    let before = run_before v id bytes _ shown in
    record { server = rest.server ∙ before.server; lines = rest.lines ∙ before.lines }
joined_alike v (e ∷ es) shown in_time =
    run_after v e es _ (joined_alike (event_ran v e).server es (event_shown v e in_time.0 shown) in_time.1)

-- ---- the written text

pub text_of_lines : (v : ServerValue) (es : List ScriptEventValue)
    → concat (map (λ l. l.1) (lines_of v es)) ≡ (replayed v es).text
unfolding replayed lines_of
text_of_lines v [] = refl
text_of_lines v (e ∷ es) = rw (text_of_lines (event_ran v e).server es)

-- ---- the theorem

module _ (v : ServerValue) (before : List AcceptedCall) (es fs : List ScriptEventValue) (shows : Shows v before)
    (ids : v.ids < 2 ^ 64) (one : AreInTime es) (other : AreInTime fs) (alike : DifferInCuts es fs) where
  runs_alike : RunAlike v es fs
  runs_alike =
      let shown : IsShown v = record { events = before; shows = shows; ids = ids } in
      let first = joined_alike v es shown one in
      let second = joined_alike v fs shown other in
      record { server = cc (first.server, second.server, alike); lines = cc (first.lines, second.lines, alike) }

  pub cuts_alike_servers : (replayed v es).server ≡ (replayed v fs).server
  cuts_alike_servers = runs_alike.server

  pub same_lines : other_lines v es ≡ other_lines v fs
  same_lines = runs_alike.lines
