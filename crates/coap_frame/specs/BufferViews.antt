-- Defined by this project: the content of a framer's buffer as values of the model.
use Rattle.std.specs.Prelude.{ℕ, List, []}
use Rattle.coap_wire.specs.Layout.{IsLaidOut}
use Rattle.coap_frame.specs.Framing.{FramerValue, FrameEventValue, Nothing, AFrame, AFault}
use Rattle.coap_frame.specs.declared.framer.BufferContent.{BufferContent}
use Rattle.coap_frame.specs.declared.framer.BufferContent.TheVariants.{Prefix, Split}
use Rattle.coap_frame.specs.declared.filling.FrameStatus.{FrameStatus}
use Rattle.coap_frame.specs.declared.filling.FrameStatus.TheVariants as status

-- The bytes of an unfinished frame in a buffer with these bytes.
abbrev pub kept_in : BufferContent → List ℕ → List ℕ
kept_in Prefix bytes = bytes
kept_in Split bytes = []

-- The split frame in a buffer with these bytes, or no byte.
abbrev pub spent_in : BufferContent → List ℕ → List ℕ
spent_in Prefix bytes = []
spent_in Split bytes = bytes

-- The model value of a framer with this maximum, these bytes in its buffer, and this count of copied bytes.
abbrev pub framer_of : ℕ → BufferContent → List ℕ → ℕ → FramerValue
framer_of max content bytes copied =
    record { max = max; kept = kept_in content bytes; spent = spent_in content bytes; copied = copied }

-- The frame that was found: the split frame in the buffer, or otherwise the bytes taken of the chunk.
abbrev pub frame_in : BufferContent → List ℕ → List ℕ → List ℕ
frame_in Prefix bytes taken = taken
frame_in Split bytes taken = bytes

-- The finding for a status, if these are the bytes of the frame.
abbrev pub finding_in : List ℕ → FrameStatus → FrameEventValue
finding_in bytes status.Unfinished = Nothing
finding_in bytes (status.Whole layout) = AFrame bytes
finding_in bytes (status.Fault fault) = AFault fault

-- If the status is a whole frame, these bytes have its layout.
abbrev pub HasLayoutIn : List ℕ → FrameStatus → Type 0
HasLayoutIn bytes status.Unfinished = Unit {0}
HasLayoutIn bytes (status.Whole layout) = IsLaidOut bytes layout
HasLayoutIn bytes (status.Fault fault) = Unit {0}
