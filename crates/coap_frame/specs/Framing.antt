-- Defined by this project: the effect of one chunk of a stream on a framer. Frames are those of RFC 8323 section 3.2.
use Rattle.std.specs.Prelude.{◌≡◌, ◌≢◌, ℕ, ◌+◌, ◌-◌, ◌≤◌, List, [], ◌∷◌, ◌++◌, length, take, min, ◌⊎◌, Option, Some}
use Rattle.std.specs.Prelude.{None}
use Rattle.coap_wire.specs.StreamPrefix.{StreamPrefix, Unfinished, Whole, Faulty, prefix_kind, fault_bytes}
use Rattle.coap_wire.specs.declared.sizes.TheConstants.{BASE_MESSAGE_SIZE, LARGEST_MESSAGE}
use Rattle.coap_wire.specs.declared.fault.FrameFault.{FrameFault}

-- The model value of a framer: the maximum size of a frame, and the bytes kept of an unfinished frame. `spent` is the
-- split frame that was returned last and is still in the buffer. `copied` counts the bytes copied into the buffer.
pub record FramerValue : Type 0 where
  pub max : ℕ
  pub kept : List ℕ
  pub spent : List ℕ
  pub copied : ℕ

-- The invariant of a framer. The kept bytes begin with no whole frame and no error. If there is a split frame, it is
-- exactly one frame, and no byte is kept.
pub record IsFramer (v : FramerValue) : Type 0 where
  pub low : BASE_MESSAGE_SIZE ≤ v.max
  pub high : v.max ≤ LARGEST_MESSAGE
  pub countable : v.copied ≤ 18446744073709551615
  pub unfinished : prefix_kind v.max v.kept ≡ Unfinished
  pub whole : (v.spent ≡ []) ⊎ ((prefix_kind v.max v.spent ≡ Whole v.spent []) × (v.kept ≡ []))

-- The finding in a chunk, without its location in memory.
pub data FrameEventValue : Type 0 where
  Nothing : FrameEventValue
  AFrame : List ℕ → FrameEventValue
  AFault : FrameFault → FrameEventValue

-- The frame that was found, if one was.
abbrev pub found_frame : FrameEventValue → Option (List ℕ)
found_frame Nothing = None
found_frame (AFrame frame) = Some frame
found_frame (AFault fault) = None

-- The effect of a chunk: the number of bytes taken, the finding, and the kept bytes and the split frame afterwards.
pub record Framing : Type 0 where
  pub taken : ℕ
  pub finding : FrameEventValue
  pub kept : List ℕ
  pub spent : List ℕ

-- The split frame after this frame was found. A frame is split if bytes of it were kept.
abbrev pub split_frame : List ℕ → List ℕ → List ℕ
split_frame [] frame = []
split_frame (b ∷ kept) frame = frame

-- The effect of a chunk, by the beginning of the kept bytes followed by the chunk.
abbrev pub framing_at : List ℕ → List ℕ → StreamPrefix → Framing
framing_at kept piece Unfinished = record { taken = length piece; finding = Nothing; kept = kept ++ piece; spent = [] }
framing_at kept piece (Whole frame rest) =
    record { taken = length piece - length rest; finding = AFrame frame; kept = []; spent = split_frame kept frame }
framing_at kept piece (Faulty fault) =
    record { taken = length (fault_bytes (kept ++ piece)) - length kept; finding = AFault fault; kept = []; spent = [] }

-- The effect of a chunk after these kept bytes, as one stream of frames of at most `max` bytes.
unfoldable pub framing : ℕ → List ℕ → List ℕ → Framing
framing max kept piece = framing_at kept piece (prefix_kind max (kept ++ piece))

-- The effect of a chunk on this framer.
abbrev pub framing_of : FramerValue → List ℕ → Framing
framing_of v piece = framing v.max v.kept piece

-- ---- bytes copied into the buffer

-- The count after `more` bytes are copied. It saturates at the largest number of 64 bits.
abbrev pub count_after : ℕ → ℕ → ℕ
count_after count more = min (count + more) 18446744073709551615

-- The number of bytes copied if no byte was kept. The beginning of a frame is copied. A whole frame or an error is not.
abbrev pub copied_alone : ℕ → FrameEventValue → ℕ
copied_alone taken Nothing = taken
copied_alone taken (AFrame frame) = 0
copied_alone taken (AFault fault) = 0

-- The number of bytes of a chunk that are copied after these kept bytes. If no byte was kept, `copied_alone` gives it;
-- otherwise all bytes taken are copied.
abbrev pub copied_of : List ℕ → Framing → ℕ
copied_of [] f = copied_alone f.taken f.finding
copied_of (b ∷ kept) f = f.taken

-- ---- the framer afterwards

-- The framer after a chunk with this effect.
abbrev pub framed : FramerValue → Framing → FramerValue
framed v f = record v { kept = f.kept; spent = f.spent; copied = count_after v.copied (copied_of v.kept f) }

-- The framer after it took its bytes of a chunk.
abbrev pub framer_after : FramerValue → List ℕ → FramerValue
framer_after v piece = framed v (framing_of v piece)

-- ---- a frame that is taken back

-- All bytes but the last.
abbrev pub without_last : List ℕ → List ℕ
without_last bytes = take (length bytes - 1) bytes

-- The frame that is taken back: the split frame if there is one, otherwise the chunk, which was a whole frame.
abbrev pub frame_back : List ℕ → List ℕ → List ℕ
frame_back [] piece = piece
frame_back (b ∷ spent) piece = b ∷ spent

-- The number of bytes copied when a frame is taken back. A split frame is in the buffer already. Of a frame in the
-- chunk, all bytes but the last are copied.
abbrev pub copied_back : List ℕ → List ℕ → ℕ
copied_back [] piece = length piece - 1
copied_back (b ∷ spent) piece = 0

-- The framer after the last byte of the frame was taken back.
abbrev pub with_frame_back : FramerValue → List ℕ → FramerValue
with_frame_back v piece =
    record v {
      kept = without_last (frame_back v.spent piece);
      spent = [];
      copied = count_after v.copied (copied_back v.spent piece);
    }

-- The precondition of `unread`: the buffer has a split frame, or the chunk is exactly one frame and no byte is kept.
abbrev pub MayUnread : FramerValue → List ℕ → Type 0
MayUnread v piece = (v.spent ≢ []) ⊎ ((prefix_kind v.max piece ≡ Whole piece []) × (v.kept ≡ []))
