-- RFC 8323 sections 3.2, 5.3.1: the messages of a stream, with a maximum size that may change during the stream.
use Rattle.std.specs.Prelude.{◌≡◌, ℕ, ◌≤◌, List, [], ◌∷◌, ◌++◌, length, Option, Some, None, Result, Ok, Err, option_map}
use Rattle.std.specs.List.{concat}
use Rattle.coap_wire.specs.Message.{Message}
use Rattle.coap_wire.specs.Spelling.{Spells}
use Rattle.coap_wire.specs.Size.{IsFrame}
use Rattle.coap_wire.specs.Reading.{message_of}
use Rattle.coap_wire.specs.StreamPrefix.{IsFrameFault, IsUnfinished, StreamPrefix, Unfinished, Whole, Faulty}
use Rattle.coap_wire.specs.StreamPrefix.{fault_bytes}
use Rattle.coap_wire.specs.Frames.{Frames, Sizes, constant_size, AreAtMost, FollowsRest, size_after, sized_frames}
use Rattle.coap_wire.specs.declared.fault.FormatFault.{FormatFault}
use Rattle.coap_wire.specs.declared.fault.FrameFault.{FrameFault}

-- The error that ends a stream: one that is known before a frame is complete, or a frame that encodes no message.
pub data StreamFault : Type 0 where
  OfFrame : FrameFault → StreamFault
  Format : StreamFault

-- The messages of a stream, its rest, and the error that ended it, if there is one. The rest is an unfinished frame,
-- which may be empty. After an error it is the shortest prefix of the other bytes that shows the error.
pub record Stream : Type 0 where
  pub messages : List Message
  pub rest : List ℕ
  pub fault : Option StreamFault

-- The bytes `r` are a frame of at most `M` bytes that encodes no message. The whole frame is needed to show this error.
abbrev pub IsFormatFault : ℕ → List ℕ → Type 0
IsFormatFault M r = IsFrame r × (length r ≤ M) × ((m : Message) → Spells r m → ⊥)

-- The rest of a stream after its messages is an unfinished frame or, with an error, the shortest prefix that shows it.
abbrev pub EndsWith : ℕ → List ℕ → Option StreamFault → Type 0
EndsWith M rest None = IsUnfinished M rest
EndsWith M rest (Some (OfFrame fault)) = IsFrameFault M fault rest
EndsWith M rest (Some Format) = IsFormatFault M rest

-- The frames are the encodings of the messages, in the same order.
abbrev pub SpellEach : List (List ℕ) → List Message → Type 0
SpellEach [] [] = Unit {0}
SpellEach (f ∷ fs) (m ∷ ms) = Spells f m × SpellEach fs ms
SpellEach [] (m ∷ ms) = ⊥
SpellEach (f ∷ fs) [] = ⊥

-- The stream `bytes` is the encodings of these messages, followed by a rest and, after an error, by bytes that are not
-- checked. Each frame has at most as many bytes as the maximum in effect for it.
pub record Splits (sizes : Sizes) (bytes : List ℕ) (messages : List Message) (rest : List ℕ)
    (fault : Option StreamFault) : Type 0 where
  pub frames : List (List ℕ)
  pub more : List ℕ
  pub whole : bytes ≡ concat frames ++ (rest ++ more)
  pub spelled : SpellEach frames messages
  pub small : AreAtMost sizes frames
  pub ended : EndsWith (size_after sizes frames rest) rest fault
  pub follows : FollowsRest more fault

-- The same for a result of type `Stream`.
abbrev pub SplitsAs : Sizes → List ℕ → Stream → Type 0
SplitsAs sizes bytes stream = Splits sizes bytes stream.messages stream.rest stream.fault

-- ---- the messages as a function

-- The result `stream` with one more message before its messages.
abbrev pub with_message : Message → Stream → Stream
with_message m stream = record stream { messages = m ∷ stream.messages }

-- The result for a frame followed by a stream with the result `stream`. The second argument is the message of the
-- frame. If the frame encodes no message, it ends the stream and is its rest.
abbrev pub frame_then : List ℕ → Result Message FormatFault → Stream → Stream
frame_then frame (Ok m) stream = with_message m stream
frame_then frame (Err e) stream = record { messages = []; rest = frame; fault = Some Format }

-- The result for these frames, decoded one after the other, followed by this rest and this error.
abbrev pub read_frames : List (List ℕ) → List ℕ → Option FrameFault → Stream
read_frames [] rest fault = record { messages = []; rest = rest; fault = option_map OfFrame fault }
read_frames (f ∷ fs) rest fault = frame_then f (message_of f) (read_frames fs rest fault)

-- The result for the frames, the rest and the error of a stream.
abbrev pub read_found : Frames → Stream
read_found found = read_frames found.frames found.rest found.fault

-- The messages, the rest and the error of the whole stream `s`. The first frame that encodes no message ends the
-- stream.
unfoldable pub sized_split : Sizes → List ℕ → Stream
sized_split sizes s = read_found (sized_frames sizes s)

-- The same, if the maximum size is always `M`.
unfoldable pub split : ℕ → List ℕ → Stream
split M s = sized_split (constant_size M) s

-- The result for a stream `s` with this classification of its first bytes. After a whole frame, `go` splits the other
-- bytes.
abbrev pub stream_then : (List ℕ → List ℕ → Stream) → List ℕ → StreamPrefix → Stream
stream_then go s Unfinished = record { messages = []; rest = s; fault = None }
stream_then go s (Faulty fault) = record { messages = []; rest = fault_bytes s; fault = Some (OfFrame fault) }
stream_then go s (Whole frame rest) = frame_then frame (message_of frame) (go frame rest)

-- ---- more bytes of a stream

-- The result `stream` with the messages `before` before its messages.
abbrev pub stream_after : List Message → Stream → Stream
stream_after before stream = record stream { messages = before ++ stream.messages }

-- The result `stream`, followed by `others` if there is no error.
abbrev pub continued : Stream → Option StreamFault → Stream → Stream
continued stream None others = stream_after stream.messages others
continued stream (Some fault) others = stream

-- The result for a stream that continues with `more`, if `stream` is the result for its first bytes. The function `go`
-- splits the rest followed by `more`. After an error, `more` is ignored.
abbrev pub gone_on_by : (List ℕ → Stream) → Stream → List ℕ → Stream
gone_on_by go stream more = continued stream stream.fault (go (stream.rest ++ more))

-- The same with maximum sizes that count from the first byte of the rest of `stream`.
abbrev pub sized_split_on : Sizes → Stream → List ℕ → Stream
sized_split_on sizes stream more = gone_on_by (sized_split sizes) stream more

-- The same, if the maximum size is always `M`.
abbrev pub split_on : ℕ → Stream → List ℕ → Stream
split_on M stream more = gone_on_by (split M) stream more
