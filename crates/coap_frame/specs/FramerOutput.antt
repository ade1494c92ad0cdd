-- Defined by this project: the output of a framer over a list of calls, and its relation to the frames of the stream.
use Rattle.std.specs.Prelude.{◌≡◌, ℕ, ◌-◌, List, [], ◌∷◌, ◌++◌, Option, Some, None, length, take, drop}
use Rattle.coap_wire.specs.Frames.{Frames, Sizes, constant_size, sizes_first, sized_frames}
use Rattle.coap_frame.specs.Raising.{raise_result}
use Rattle.coap_frame.specs.Framing.{FramerValue, FrameEventValue, Nothing, AFrame, AFault, framing_of, framer_after}
use Rattle.coap_frame.specs.Framing.{with_frame_back}
use Rattle.coap_wire.specs.declared.fault.FrameFault.{FrameFault}

-- An input of a framer: the next chunk of the stream, or a new maximum size of a frame.
pub data FramerInput : Type 0 where
  Piece : (bytes : List ℕ) → FramerInput
  Size : (new : ℕ) → FramerInput

-- The output of a framer over a list of inputs: all bytes taken, the frames returned, the error that ended them, and
-- the framer afterwards. `sizes` gives the maximum that was current when each byte was taken.
pub record FramerOutput : Type 0 where
  pub taken : List ℕ
  pub sizes : Sizes
  pub frames : List (List ℕ)
  pub fault : Option FrameFault
  pub after : FramerValue

-- The output, if first these bytes are taken with this maximum and without a finding.
abbrev pub taken_first : List ℕ → ℕ → FramerOutput → FramerOutput
taken_first bytes max given =
    record given { taken = bytes ++ given.taken; sizes = sizes_first (length bytes) max given.sizes }

-- The output, if first these bytes are taken with this maximum, and a frame is found.
abbrev pub frame_first : List ℕ → ℕ → List ℕ → FramerOutput → FramerOutput
frame_first bytes max frame given = record (taken_first bytes max given) { frames = frame ∷ given.frames }

-- The output, if the first call takes these bytes with this finding, and `go` gives the output of the other calls.
abbrev pub given_then : (FramerValue → FramerOutput) → List ℕ → ℕ → FramerValue → FrameEventValue → FramerOutput
given_then go bytes max after Nothing = taken_first bytes max (go after)
given_then go bytes max after (AFrame frame) = frame_first bytes max frame (go after)
given_then go bytes max after (AFault fault) =
    record { taken = bytes; sizes = constant_size max; frames = []; fault = Some fault; after = after }

-- The output of a framer for these inputs. Each chunk is passed to one call, up to the first error. Each size is passed
-- to one call of `raise`, whose allocation does not fail. The bytes of a chunk that are not taken may be the next
-- chunk.
unfoldable pub output_of : FramerValue → List FramerInput → FramerOutput
output_of v [] = record { taken = []; sizes = constant_size v.max; frames = []; fault = None; after = v }
output_of v (Size new ∷ more) = output_of (raise_result v new) more
output_of v (Piece p ∷ more) =
    given_then (λ now. output_of now more) (take (framing_of v p).taken p) v.max
    (framer_after v p) (framing_of v p).finding

-- The frames, the rest and the error of the stream, which is the kept bytes followed by the bytes taken. The size of a
-- frame is compared with the current maximum when the last byte that states the size is taken. This is the last byte of
-- the token length's extension, if there is one, otherwise the last byte of the frame's length. Kept bytes may have
-- been taken under a lower maximum. This makes no difference: a frame that is unfinished under it is unfinished under a
-- higher maximum too.
abbrev pub stream_given : FramerValue → FramerOutput → Frames
stream_given v given = sized_frames (sizes_first (length v.kept) v.max given.sizes) (v.kept ++ given.taken)

-- The output of a framer agrees with the stream.
pub record IsGiven (v : FramerValue) (given : FramerOutput) : Type 0 where
  -- The frames returned are the frames of the stream.
  pub frames : (stream_given v given).frames ≡ given.frames
  -- If no error was returned, the bytes kept afterwards are the rest of the stream.
  pub rest : given.fault ≡ None → (stream_given v given).rest ≡ given.after.kept
  -- The error returned is the error of the stream.
  pub fault : (stream_given v given).fault ≡ given.fault
  -- If an error was returned, no byte is kept afterwards.
  pub nothing_kept : (fault : FrameFault) → given.fault ≡ Some fault → given.after.kept ≡ []

-- The bytes that a framer takes of a chunk.
abbrev pub taken_of : FramerValue → List ℕ → List ℕ
taken_of v piece = take (framing_of v piece).taken piece

-- The framer after it took its bytes of a chunk, and then took back the last byte of the frame that it found.
abbrev pub unread_after : FramerValue → List ℕ → FramerValue
unread_after v piece = with_frame_back (framer_after v piece) (taken_of v piece)

-- The last byte of a frame, as a list.
abbrev pub last_byte : List ℕ → List ℕ
last_byte frame = drop (length frame - 1) frame
