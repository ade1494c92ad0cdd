-- Names for the contracts and proofs of the crate, re-exported from one place. This file defines nothing.

-- ---- std and mathlib
pub use Rattle.std.specs.Borrow.{sem, follows_so}
pub use Rattle.std.specs.Vec.{vec_capacity}
pub use mathlib.Core.Option.{none}
-- ---- coap_wire
pub use Rattle.coap_wire.specs.StreamPrefix.{Unfinished, token_bytes, size_bytes, Faulty, fault_bytes, StreamPrefix}
pub use Rattle.coap_wire.specs.StreamPrefix.{Whole}
unfoldable pub use Rattle.coap_wire.specs.StreamPrefix.{prefix_kind}
pub use Rattle.coap_wire.specs.Forms.{extension_of}
pub use Rattle.coap_wire.specs.Frames.{Frames, Sizes, constant_size, size_for, sizes_after, sizes_first, with_frame}
unfoldable pub use Rattle.coap_wire.specs.Frames.{sized_frames}
pub use Rattle.coap_wire.specs.Layout.{declared_in}
unfoldable pub use Rattle.coap_wire.specs.Layout.{outline_of}
pub use Rattle.coap_wire.specs.Reading.{message_of}
unfoldable pub use Rattle.coap_wire.specs.Reading.{declared_of}
pub use Rattle.coap_wire.specs.Stream.{OfFrame, Stream, frame_then, split}
pub use Rattle.coap_wire.specs.declared.fault.FrameFault.{FrameFault}
pub use Rattle.coap_wire.specs.declared.fault.FrameFault.TheVariants.{TokenLength, TooLarge}
pub use Rattle.coap_wire.specs.declared.declaration.Declared.{Declared}
pub use Rattle.coap_wire.specs.declared.declaration.Declared.TheVariants.{BadToken, Size, Unknown}
pub use Rattle.coap_wire.specs.declared.layout.FrameLayout.{FrameLayout}
pub use Rattle.coap_wire.specs.declared.sizes.TheConstants.{BASE_MESSAGE_SIZE, LARGEST_MESSAGE}
-- ---- coap_frame
pub use Rattle.coap_frame.specs.BufferViews.{framer_of, kept_in, frame_in, finding_in, spent_in, HasLayoutIn}
pub use Rattle.coap_frame.specs.Copying.{FramerCall, Clear, IsCounted, IsCountedNext, IsCountedUnread, MayCall, Next}
pub use Rattle.coap_frame.specs.Copying.{Raise, Unread, after_call}
unfoldable pub use Rattle.coap_frame.specs.Copying.{AreCounted}
pub use Rattle.coap_frame.specs.Filling.{IsHead, IsFilled, IsTakenTo}
pub use Rattle.coap_frame.specs.FramedViews.{finding_of, finding_read, IsFramed}
pub use Rattle.coap_frame.specs.FramedViews.{finding_of_ref, finding_laid_out, IsFramedRef, lent_of_ref}
pub use Rattle.coap_frame.specs.FramerViews.{framer_value}
pub use Rattle.coap_frame.specs.Framing.{framing_of, framer_after, IsFramer, MayUnread, with_frame_back, FramerValue}
pub use Rattle.coap_frame.specs.Framing.{Nothing, AFrame, AFault, without_last, FrameEventValue, Framing}
pub use Rattle.coap_frame.specs.Framing.{copied_back, copied_of, count_after, frame_back, framed, framing_at}
pub use Rattle.coap_frame.specs.Framing.{split_frame}
unfoldable pub use Rattle.coap_frame.specs.Framing.{framing}
pub use Rattle.coap_frame.specs.FramerOutput.{FramerInput, IsGiven, taken_of, unread_after, last_byte, FramerOutput}
pub use Rattle.coap_frame.specs.FramerOutput.{Piece, given_then}
pub use Rattle.coap_frame.specs.FramerOutput.{stream_given}
unfoldable pub use Rattle.coap_frame.specs.FramerOutput.{output_of}
pub use Rattle.coap_frame.specs.Raising.{raised, IsRaiseAnswer, raise_result, raise_refusal, with_size}
-- ---- coap_frame, declared
pub use Rattle.coap_frame.specs.declared.filling.FrameStatus.{FrameStatus}
pub use Rattle.coap_frame.specs.declared.frame_ref_event.FrameRefEvent.{FrameRefEvent}
pub use Rattle.coap_frame.specs.declared.framer.BufferContent.{BufferContent}
