-- RFC 8323 sections 3.2, 5.3.1: the frames of a stream, before they are decoded, with a maximum size that may change
-- during the stream.
use Rattle.std.specs.Prelude.{◌≡◌, ℕ, zero, suc, ◌+◌, ◌-◌, ◌≤◌, List, [], ◌∷◌, ◌++◌, length, Option, Some, None, nat_lt}
use Rattle.std.specs.Prelude.{if◌then◌else◌}
use Rattle.std.specs.List.{concat}
use Rattle.coap_wire.specs.Size.{IsFrame}
use Rattle.coap_wire.specs.StreamPrefix.{IsFrameFault, IsUnfinished, StreamPrefix, Unfinished, Whole, Faulty}
use Rattle.coap_wire.specs.StreamPrefix.{prefix_kind, size_bytes, fault_bytes}
use Rattle.coap_wire.specs.declared.fault.FrameFault.{FrameFault}

-- The frames of a stream, its rest, and the error that ended it, if there is one. The rest is an unfinished frame,
-- which may be empty, or the shortest prefix of the other bytes that shows the error.
pub record Frames : Type 0 where
  pub frames : List (List ℕ)
  pub rest : List ℕ
  pub fault : Option FrameFault

-- ---- the maximum sizes

-- The maximum size of a frame that is in effect when each byte of a stream is accepted. The first byte has number 0. A
-- frame is compared with the maximum in effect at the last byte that states its size.
abbrev pub Sizes : Type 0
Sizes = ℕ → ℕ

-- The maximum `M` for every byte.
abbrev pub constant_size : ℕ → Sizes
constant_size M = λ at. M

-- The maximum `M` for the first `n` bytes, followed by the maximum sizes `sizes`.
abbrev pub sizes_first : ℕ → ℕ → Sizes → Sizes
sizes_first n M sizes = λ at. if nat_lt at n then M else sizes (at - n)

-- The maximum sizes for the bytes after the first `n`.
abbrev pub sizes_after : ℕ → Sizes → Sizes
sizes_after n sizes = λ at. sizes (n + at)

-- The maximum in effect at the last byte that states the size of the first frame of `s`.
abbrev pub size_for : Sizes → List ℕ → ℕ
size_for sizes s = sizes (size_bytes s - 1)

-- ---- frames as a relation

-- Each element of the list is exactly one frame.
abbrev pub AreFrames : List (List ℕ) → Type 0
AreFrames [] = Unit {0}
AreFrames (f ∷ fs) = IsFrame f × AreFrames fs

-- Each of these frames, which follow one another, has at most as many bytes as the maximum in effect for it. The sizes
-- count from the first byte of the first frame.
abbrev pub AreAtMost : Sizes → List (List ℕ) → Type 0
AreAtMost sizes [] = Unit {0}
AreAtMost sizes (f ∷ fs) = (length f ≤ size_for sizes f) × AreAtMost (sizes_after (length f) sizes) fs

-- The maximum in effect for the first frame of `rest`, if `rest` follows these frames in a stream.
abbrev pub size_after : Sizes → List (List ℕ) → List ℕ → ℕ
size_after sizes frames rest = size_for (sizes_after (length (concat frames)) sizes) rest

-- The rest of a stream after its frames is an unfinished frame or, with an error, the shortest prefix that shows it.
abbrev pub FramesEndWith : ℕ → List ℕ → Option FrameFault → Type 0
FramesEndWith M rest None = IsUnfinished M rest
FramesEndWith M rest (Some fault) = IsFrameFault M fault rest

-- The bytes `more` may follow the rest of a stream: any bytes after an error, otherwise none.
abbrev pub FollowsRest : {F : Type 0} → List ℕ → Option F → Type 0
FollowsRest more None = more ≡ []
FollowsRest more (Some fault) = Unit {0}

-- The stream `bytes` is these frames, followed by a rest and, after an error, by bytes that are not checked. Each frame
-- has at most as many bytes as the maximum in effect for it.
pub record FramedAs (sizes : Sizes) (bytes : List ℕ) (found : Frames) : Type 0 where
  pub more : List ℕ
  pub whole : bytes ≡ concat found.frames ++ (found.rest ++ more)
  pub each : AreFrames found.frames
  pub small : AreAtMost sizes found.frames
  pub ended : FramesEndWith (size_after sizes found.frames found.rest) found.rest found.fault
  pub follows : FollowsRest more found.fault

-- ---- the frames as a function

-- The result `found` with one more frame before its frames.
abbrev pub with_frame : List ℕ → Frames → Frames
with_frame frame found = record found { frames = frame ∷ found.frames }

-- The frames of a stream `s` with this classification of its first bytes. After a whole frame, `go` finds the frames of
-- the other bytes.
abbrev pub frames_then : (List ℕ → List ℕ → Frames) → List ℕ → StreamPrefix → Frames
frames_then go s Unfinished = record { frames = []; rest = s; fault = None }
frames_then go s (Faulty fault) = record { frames = []; rest = fault_bytes s; fault = Some fault }
frames_then go s (Whole frame rest) = with_frame frame (go frame rest)

-- The frames of a stream. The argument `turns` limits the recursion: each frame has a byte, so the number of bytes is
-- enough.
unfoldable pub frames_within : ℕ → Sizes → List ℕ → Frames
frames_within zero sizes s = record { frames = []; rest = s; fault = None }
frames_within (suc turns) sizes s =
    frames_then (λ frame. frames_within turns (sizes_after (length frame) sizes)) s (prefix_kind (size_for sizes s) s)

-- The frames of the whole stream `s`.
unfoldable pub sized_frames : Sizes → List ℕ → Frames
sized_frames sizes s = frames_within (length s) sizes s

-- ---- more bytes of a stream

-- The result `found` with the frames `before` before its frames.
abbrev pub with_frames : List (List ℕ) → Frames → Frames
with_frames before found = record found { frames = before ++ found.frames }

-- The result `found`, followed by `others` if there is no error.
abbrev pub frames_gone_on : Frames → Option FrameFault → Frames → Frames
frames_gone_on found None others = with_frames found.frames others
frames_gone_on found (Some fault) others = found

-- The frames of a stream that continues with `more`, if `found` is the result for its first bytes. The maximum sizes
-- count from the first byte of the rest of `found`. After an error, `more` is ignored.
abbrev pub frames_on : Sizes → Frames → List ℕ → Frames
frames_on sizes found more = frames_gone_on found found.fault (sized_frames sizes (found.rest ++ more))

-- The maximum sizes from the first byte of `rest` on, if the stream `s` ends with `rest`.
abbrev pub sizes_of_rest : Sizes → List ℕ → List ℕ → Sizes
sizes_of_rest sizes s rest = sizes_after (length s - length rest) sizes
