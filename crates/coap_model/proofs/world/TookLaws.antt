-- The effect of a `Took` event on the stream of its connection, and the steps that it makes.
use Rattle.std.proofs.Common.{◌≡◌, ℕ, ◌+◌, ◌-◌, ◌≤◌, List, [], ◌∷◌, ◌++◌, length, map, take, get_or, Some, None, Ok}
use Rattle.std.proofs.Common.{Err, refl, sym, ◌∙◌, append_assoc, arith, rules}
use Rattle.std.proofs.lemmas.Grind.{take_at_read}
use Rattle.std.proofs.lemmas.List.{length-append, take_at}
use Rattle.std.proofs.Math.Seq.{drop-length, drop-append_seam}
use Rattle.coap_model.specs.Prelude.{Message, message_of, FormatFault, FrameFault, Unfinished, prefix_kind, fault_bytes}
use Rattle.coap_model.specs.Prelude.{OfFrame, Format, Stream, split, stream_after, AFrame, AFault, Framing, framing_at}
use Rattle.coap_model.specs.Prelude.{framing, without_last, AcceptedCall, Took, size_on, stream_on, new_fault, beyond}
use Rattle.coap_model.specs.Prelude.{steps_by}
use Rattle.coap_wire.proofs.StreamSteps.{whole_itself, split_unfinished}
use Rattle.coap_frame.specs.Framing.{Nothing}
use Rattle.coap_frame.proofs.FramingLemmas.{front_unfinished}
use Rattle.coap_frame.proofs.GivenLaws.{taken_within, frame_taken}
use Rattle.coap_frame.proofs.FrontLaws.{nothing_finished, added_by, added_whole, added_front}
use Rattle.coap_model.specs.world.World as step
use Rattle.coap_model.specs.world.Events.{front_of}
use Rattle.coap_model.proofs.world.StepLaws.{stream_same, taken_here, stream_more, rest_unfinished}

-- ---- the steps of a stream that continues

-- After a stream without error.
pub beyond_added : (id : ℕ) (before added : Stream) → before.fault ≡ None
    → beyond id before (stream_after before.messages added)
    ≡ map (step.Handled id) added.messages ++ new_fault id None added.fault
beyond_added id before added none = rw (none, drop-append_seam before.messages added.messages) refl

-- A stream that does not change, with an error or without.
pub nothing_beyond : (id : ℕ) (s : Stream) → beyond id s s ≡ []
nothing_beyond id s = grind (arith, drop-length s.messages)

-- ---- the addition of a take

-- The steps of a take and the stream after it are those of what it adds to the stream before it.
pub record Adds (M id : ℕ) (es : List AcceptedCall) (bytes : List ℕ) (added : Stream) : Type 0 where
  pub steps : steps_by M es (Took id bytes) ≡ map (step.Handled id) added.messages ++ new_fault id None added.fault
  pub stream : stream_on M id (es ++ Took id bytes ∷ []) ≡ stream_after (stream_on M id es).messages added

module _ (M id : ℕ) (es : List AcceptedCall) (bytes : List ℕ) (none : (stream_on M id es).fault ≡ None) where
  -- The current size.
  abbrev N : ℕ
  N = size_on M id es

  -- A take adds the messages of its bytes, read after the bytes left over.
  adds : (added : Stream) → split N ((stream_on M id es).rest ++ bytes) ≡ added → Adds M id es bytes added
  unfolding steps_by
  adds added is = grind (arith, stream_more, beyond_added)

  -- The result of framing the bytes.
  abbrev pub framing_found : Framing
  framing_found = framing N (stream_on M id es).rest bytes

  pub adds_nothing : framing_found.finding ≡ Nothing
      → Adds M id es bytes (record { messages = []; rest = (stream_on M id es).rest ++ bytes; fault = None })
  adds_nothing e = search (rules, adds, split_unfinished, nothing_finished)

  -- If all bytes are accepted, they add the frame or error that was found.
  pub adds_frame : framing_found.taken ≡ length bytes
      → Adds M id es bytes (added_by (stream_on M id es).rest bytes framing_found.finding)
  adds_frame all = adds _ (added_whole N (stream_on M id es).rest bytes (rest_unfinished M id es none) all)

-- ---- no bytes

-- An empty take makes no step and does not change the stream.
pub no_bytes_stream : (M id : ℕ) (es : List AcceptedCall) → stream_on M id (es ++ Took id [] ∷ []) ≡ stream_on M id es
no_bytes_stream M id es = stream_same M id es (Took id []) (taken_here id [])

pub no_bytes_steps : (M id : ℕ) (es : List AcceptedCall) → steps_by M es (Took id []) ≡ []
unfolding steps_by
no_bytes_steps M id es = grind (arith, no_bytes_stream M id es, nothing_beyond id (stream_on M id es))

-- ---- a frame without its last byte

module _ (M : ℕ) (kept piece frame : List ℕ) (n : ℕ) (u : prefix_kind M kept ≡ Unfinished)
    (is : (framing M kept piece).finding ≡ AFrame frame) (all : front_of M kept piece ≡ n + 1) where
  pub front_within : n + 1 ≤ length piece
  front_within = grind (arith, taken_within)

  -- Without the last byte of the frame nothing is found, and all bytes are accepted and kept.
  pub but_last_unfinished : framing M kept (take n piece) ≡ framing_at kept (take n piece) Unfinished
  unfolding framing
  but_last_unfinished =
      let front : List ℕ = kept ++ take n piece in
      let last : List ℕ = get_or piece n 0 ∷ [] in
      let cut : take (n + 1) piece ≡ take n piece ++ last = (take_at_read piece n 0 (omega (arith, front_within))).1 in
      let bytes : frame ≡ front ++ last =
      frame_taken M kept piece frame u is ∙ rw (all, cut) (sym (append_assoc kept (take n piece) last)) in
      let but_last : without_last frame ≡ front = grind (arith, take_at, length-append) in
      grind (arith, front_unfinished, whole_itself)

-- ---- the bytes accepted of an input slice

module _ (M id : ℕ) (es : List AcceptedCall) (piece : List ℕ) (none : (stream_on M id es).fault ≡ None) where
  abbrev size_before : ℕ
  size_before = size_on M id es

  -- The bytes kept of an unfinished frame.
  abbrev pub kept_so_far : List ℕ
  kept_so_far = (stream_on M id es).rest

  -- The accepted bytes of the slice.
  abbrev pub piece_front : List ℕ
  piece_front = take (front_of size_before kept_so_far piece) piece

  -- They add the frame or error that is found in the slice.
  pub piece_adds : Adds M id es piece_front
      (added_by kept_so_far piece_front (framing size_before kept_so_far piece).finding)
  piece_adds =
      adds M id es piece_front none _ (added_front size_before kept_so_far piece (rest_unfinished M id es none))

  pub piece_adds_nothing : (framing size_before kept_so_far piece).finding ≡ Nothing
      → Adds M id es piece_front (record { messages = []; rest = kept_so_far ++ piece_front; fault = None })
  piece_adds_nothing e = rw e at piece_adds

  pub piece_adds_message : (frame : List ℕ) (m : Message)
      → (framing size_before kept_so_far piece).finding ≡ AFrame frame → message_of frame ≡ Ok m
      → Adds M id es piece_front (record { messages = m ∷ []; rest = []; fault = None })
  piece_adds_message frame m e read = rw (e, read) at piece_adds

  pub piece_adds_bad : (frame : List ℕ) (f : FormatFault)
      → (framing size_before kept_so_far piece).finding ≡ AFrame frame → message_of frame ≡ Err f
      → Adds M id es piece_front (record { messages = []; rest = frame; fault = Some Format })
  piece_adds_bad frame f e read = rw (e, read) at piece_adds

  pub piece_adds_fault : (fault : FrameFault) → (framing size_before kept_so_far piece).finding ≡ AFault fault
      → Adds M id es piece_front
      (record { messages = []; rest = fault_bytes (kept_so_far ++ piece_front); fault = Some (OfFrame fault) })
  piece_adds_fault fault e = rw e at piece_adds
