-- The bytes taken of a chunk have the finding of the chunk, and add it to the stream.
use Rattle.std.proofs.Common.{◌≡◌, ℕ, zero, suc, ◌-◌, ◌<◌, ◌≤◌, List, [], ◌++◌, length, take, Some, None, refl, sym, ap}
use Rattle.std.proofs.Common.{◌∙◌, arith, append_assoc, drop}
use Rattle.std.proofs.lemmas.List.{append-nil, length-append, length-take-le, take_all, take-append-drop}
use Rattle.coap_frame.specs.Prelude.{message_of, StreamPrefix, Unfinished, Whole, Faulty, prefix_kind, fault_bytes}
use Rattle.coap_frame.specs.Prelude.{OfFrame, Stream, frame_then, split, FrameEventValue, Nothing, AFrame, AFault}
use Rattle.coap_frame.specs.Prelude.{framing_at, framing}
use Rattle.coap_wire.proofs.StreamSteps.{unfinished_empty, whole_itself, split_step, split_unfinished, split_faulty}
use Rattle.coap_wire.proofs.StreamSteps.{fault_bytes_more}
use Rattle.coap_frame.proofs.GivenLaws.{taken_within, frame_taken, found_is}

-- ---- the finding in bytes

-- If nothing is found, the bytes are unfinished.
pub nothing_finished : (M : ℕ) (kept piece : List ℕ) → (framing M kept piece).finding ≡ Nothing
    → prefix_kind M (kept ++ piece) ≡ Unfinished
unfolding framing
nothing_finished M kept piece e = grind arith

-- A frame that is found is at the beginning of the bytes.
finding_frame : (kept piece frame : List ℕ) (b : StreamPrefix) → (framing_at kept piece b).finding ≡ AFrame frame
    → (rest : List ℕ) × (b ≡ Whole frame rest)
finding_frame kept piece frame Unfinished e = absurd cc
finding_frame kept piece frame (Whole found rest) e = (rest, cc)
finding_frame kept piece frame (Faulty fault) e = absurd cc

pub frame_first : (M : ℕ) (kept piece frame : List ℕ) → (framing M kept piece).finding ≡ AFrame frame
    → (rest : List ℕ) × (prefix_kind M (kept ++ piece) ≡ Whole frame rest)
unfolding framing
frame_first M kept piece frame e = finding_frame kept piece frame (prefix_kind M (kept ++ piece)) e

-- If all of the chunk is taken, the frame has all of the bytes.
pub frame_alone : (M : ℕ) (kept piece frame : List ℕ) → prefix_kind M kept ≡ Unfinished
    → (framing M kept piece).finding ≡ AFrame frame → (framing M kept piece).taken ≡ length piece
    → prefix_kind M (kept ++ piece) ≡ Whole frame []
frame_alone M kept piece frame u e all =
    let first = frame_first M kept piece frame e in
    let bytes = rw (all, take_all (length piece) piece (omega arith)) at (frame_taken M kept piece frame u e) in
    rw (← bytes) (whole_itself M (kept ++ piece) frame first.0 first.1)

-- If nothing is found, all bytes are kept.
pub nothing_kept : (M : ℕ) (kept piece : List ℕ) → (framing M kept piece).finding ≡ Nothing
    → (framing M kept piece).kept ≡ kept ++ piece
unfolding framing
nothing_kept M kept piece e = rw (nothing_finished M kept piece e) refl

-- ---- the prefix of a chunk

-- The effect of the bytes taken is that of the chunk, by the beginning of the kept bytes followed by the chunk.
front_at : (M : ℕ) (kept piece : List ℕ) (b : StreamPrefix) → prefix_kind M kept ≡ Unfinished
    → prefix_kind M (kept ++ piece) ≡ b → framing M kept piece ≡ framing_at kept piece b
    → framing M kept (take (framing_at kept piece b).taken piece) ≡ framing_at kept piece b
unfolding framing
front_at M kept piece Unfinished u e is = rw (take_all (length piece) piece (omega arith)) is
front_at M kept piece (Whole frame rest) u e is =
    let n = length piece - length rest in
    let bytes : frame ≡ kept ++ take n piece =
    rw (ap (λ f. f.taken) is) at (frame_taken M kept piece frame u (ap (λ f. f.finding) is)) in
    let count : length (take n piece) - 0 ≡ n = omega (arith, length-take-le n piece (omega arith)) in
    rw (← bytes, whole_itself M (kept ++ piece) frame rest e, count) refl
front_at M kept piece (Faulty fault) u e is =
    let n = length (fault_bytes (kept ++ piece)) - length kept in
    let found = rw is at (found_is M kept piece (AFault fault) u (ap (λ f. f.finding) is)) in
    let whole : (kept ++ take n piece) ++ drop n piece ≡ kept ++ piece =
    append_assoc kept (take n piece) (drop n piece) ∙ ap (λ (p : List ℕ). kept ++ p) (take-append-drop n piece) in
    let same : fault_bytes (kept ++ take n piece) ≡ fault_bytes (kept ++ piece) =
    sym (fault_bytes_more M (kept ++ take n piece) (drop n piece) fault found.2) ∙ ap fault_bytes whole in
    ap (framing_at kept (take n piece)) found.2
    ∙ ap (λ (s : List ℕ). record { taken = length s - length kept; finding = AFault fault; kept = []; spent = [] }) same

-- The bytes taken of a chunk.
abbrev pub front : ℕ → List ℕ → List ℕ → List ℕ
front M kept piece = take (framing M kept piece).taken piece

-- The bytes taken have the same effect as the chunk, and are all taken.
pub front_framing : (M : ℕ) (kept piece : List ℕ) → prefix_kind M kept ≡ Unfinished
    → framing M kept (front M kept piece) ≡ framing M kept piece
unfolding framing
front_framing M kept piece u = front_at M kept piece (prefix_kind M (kept ++ piece)) u refl refl

pub front_whole : (M : ℕ) (kept piece : List ℕ) → prefix_kind M kept ≡ Unfinished
    → (framing M kept (front M kept piece)).taken ≡ length (front M kept piece)
front_whole M kept piece u =
    rw (front_framing M kept piece u)
    (sym (length-take-le (framing M kept piece).taken piece (taken_within M kept piece u)))

-- Without bytes, nothing is found.
none_framing : (M : ℕ) (kept : List ℕ) → prefix_kind M kept ≡ Unfinished
    → framing M kept [] ≡ framing_at kept [] Unfinished
unfolding framing
none_framing M kept u = ap (framing_at kept []) (ap (prefix_kind M) (append-nil kept) ∙ u)

-- At least one byte of a chunk is taken, if it has one.
some_fronted : (M : ℕ) (kept piece : List ℕ) (n : ℕ) → prefix_kind M kept ≡ Unfinished
    → (framing M kept piece).taken ≡ n → 0 < length piece → 1 ≤ n
some_fronted M kept piece zero u none some =
    let same : framing M kept piece ≡ framing_at kept [] Unfinished =
    sym (front_framing M kept piece u) ∙ rw none (none_framing M kept u) in
    let keeps = nothing_kept M kept piece (rw same refl) in
    let more = rw same at keeps in
    absurd (omega (arith, simp length-append at (ap length more)))
some_fronted M kept piece (suc n) u none some = omega arith

pub some_in_front : (M : ℕ) (kept piece : List ℕ) → prefix_kind M kept ≡ Unfinished → 0 < length piece
    → 1 ≤ (framing M kept piece).taken
some_in_front M kept piece u some = some_fronted M kept piece (framing M kept piece).taken u refl some

-- ---- the addition of bytes to a stream

-- The messages, the rest and the error that bytes add after kept bytes, if they are all taken and have this finding.
abbrev pub added_by : List ℕ → List ℕ → FrameEventValue → Stream
added_by kept bytes Nothing = record { messages = []; rest = kept ++ bytes; fault = None }
added_by kept bytes (AFrame frame) =
    frame_then frame (message_of frame) (record { messages = []; rest = []; fault = None })
added_by kept bytes (AFault fault) =
    record { messages = []; rest = fault_bytes (kept ++ bytes); fault = Some (OfFrame fault) }

added_at : (M : ℕ) (kept bytes : List ℕ) (b : StreamPrefix) → prefix_kind M kept ≡ Unfinished
    → prefix_kind M (kept ++ bytes) ≡ b → framing M kept bytes ≡ framing_at kept bytes b
    → (framing M kept bytes).taken ≡ length bytes
    → split M (kept ++ bytes) ≡ added_by kept bytes (framing_at kept bytes b).finding
added_at M kept bytes Unfinished u e is all = split_unfinished M (kept ++ bytes) e
added_at M kept bytes (Whole frame rest) u e is all =
    rw (
      split_step M (kept ++ bytes),
      frame_alone M kept bytes frame u (ap (λ f. f.finding) is) all,
      split_unfinished M [] (unfinished_empty M),
    ) refl
added_at M kept bytes (Faulty fault) u e is all = split_faulty M (kept ++ bytes) fault e

-- Bytes that are all taken add their finding.
pub added_whole : (M : ℕ) (kept bytes : List ℕ) → prefix_kind M kept ≡ Unfinished
    → (framing M kept bytes).taken ≡ length bytes
    → split M (kept ++ bytes) ≡ added_by kept bytes (framing M kept bytes).finding
unfolding framing
added_whole M kept bytes u all = added_at M kept bytes (prefix_kind M (kept ++ bytes)) u refl refl all

-- The bytes taken of a chunk add the finding of the chunk.
pub added_front : (M : ℕ) (kept piece : List ℕ) → prefix_kind M kept ≡ Unfinished
    → split M (kept ++ front M kept piece) ≡ added_by kept (front M kept piece) (framing M kept piece).finding
added_front M kept piece u =
    added_whole M kept (front M kept piece) u (front_whole M kept piece u)
    ∙ ap (λ f. added_by kept (front M kept piece) f.finding) (front_framing M kept piece u)

-- ---- the kept bytes

-- If nothing is found, all of the chunk is taken and kept.
pub front_kept : (M : ℕ) (kept piece : List ℕ) → (framing M kept piece).finding ≡ Nothing
    → (framing M kept piece).kept ≡ kept ++ front M kept piece
unfolding framing
front_kept M kept piece e =
    rw (nothing_finished M kept piece e, take_all (length piece) piece (omega arith)) refl
