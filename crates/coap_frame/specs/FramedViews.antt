-- Defined by this project: the results of `Framer::next` and `Framer::next_frame` as values of the model.
use Rattle.std.specs.Prelude.{◌≡◌, ℕ, List, [], Option, Some, None, Result, Ok, Err}
use Rattle.std.specs.Borrow.{Bor}
use Rattle.coap_wire.specs.declared.frame.FrameRef.{FrameRef}
use Rattle.coap_wire.specs.declared.fault.FrameFault.{FrameFault}
use Rattle.coap_frame.specs.declared.framer.FrameEvent.{FrameEvent}
use Rattle.coap_frame.specs.declared.framer.FrameEvent.TheVariants as found
use Rattle.coap_frame.specs.declared.framer.Framed.{Framed}
use Rattle.coap_frame.specs.declared.frame_ref_event.FramedRef.{FramedRef}
use Rattle.coap_frame.specs.declared.frame_ref_event.FrameRefEvent.{FrameRefEvent}
use Rattle.coap_frame.specs.declared.frame_ref_event.FrameRefEvent.TheVariants as found_ref
use Rattle.coap_frame.specs.Framing.{FrameEventValue, Nothing, AFrame, AFault, Framing}

-- The finding, without its location in memory.
abbrev pub finding_of : FrameEvent → FrameEventValue
finding_of found.More = Nothing
finding_of (found.Frame f) = AFrame f.now
finding_of (found.Whole f) = AFrame f.now
finding_of (found.Fault fault) = AFault fault

-- The finding in a result of `FrameEvent::frame`.
abbrev pub finding_read : Result (Option (Bor (List ℕ))) FrameFault → FrameEventValue
finding_read (Ok None) = Nothing
finding_read (Ok (Some f)) = AFrame f.now
finding_read (Err fault) = AFault fault

-- The bytes borrowed from the buffer.
abbrev pub lent_of : FrameEvent → List ℕ
lent_of found.More = []
lent_of (found.Frame f) = f.now
lent_of (found.Whole f) = []
lent_of (found.Fault fault) = []

-- The result of `next` is that of the definition. A frame is borrowed from the buffer if and only if bytes of the frame
-- were kept. Otherwise it is borrowed from the chunk.
pub record IsFramed (given : Framed) (f : Framing) : Type 0 where
  pub taken : given.taken ≡ f.taken
  pub what : finding_of given.what ≡ f.finding
  pub lent : lent_of given.what ≡ f.spent

-- The finding of `next_frame`, without its location in memory.
abbrev pub finding_of_ref : FrameRefEvent → FrameEventValue
finding_of_ref found_ref.More = Nothing
finding_of_ref (found_ref.Frame f) = AFrame f.bytes.now
finding_of_ref (found_ref.Whole f) = AFrame f.bytes.now
finding_of_ref (found_ref.Fault fault) = AFault fault

-- The finding in a result of `FrameRefEvent::laid_out`.
abbrev pub finding_laid_out : Result (Option FrameRef) FrameFault → FrameEventValue
finding_laid_out (Ok None) = Nothing
finding_laid_out (Ok (Some f)) = AFrame f.bytes.now
finding_laid_out (Err fault) = AFault fault

-- The bytes that `next_frame` borrows from the buffer.
abbrev pub lent_of_ref : FrameRefEvent → List ℕ
lent_of_ref found_ref.More = []
lent_of_ref (found_ref.Frame f) = f.bytes.now
lent_of_ref (found_ref.Whole f) = []
lent_of_ref (found_ref.Fault fault) = []

-- The result of `next_frame` is that of the definition, in the same way. The type `FrameRef` states that the layout is
-- that of the frame.
pub record IsFramedRef (given : FramedRef) (f : Framing) : Type 0 where
  pub taken : given.taken ≡ f.taken
  pub what : finding_of_ref given.what ≡ f.finding
  pub lent : lent_of_ref given.what ≡ f.spent
