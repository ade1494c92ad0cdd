-- The result of `next_frame`, by the status of the bytes and the content of the buffer.
use Rattle.std.proofs.Common.{◌≡◌, ℕ, List, [], take, sym, ◌∙◌}
use Rattle.coap_frame.specs.Prelude.{Nothing, AFrame, AFault, framing, spent_in, frame_in, finding_in, finding_of_ref}
use Rattle.coap_frame.specs.Prelude.{lent_of_ref, IsFramedRef, BufferContent, FrameRefEvent, FrameStatus, FrameFault}
use Rattle.coap_frame.specs.Prelude.{FrameLayout}
use Rattle.coap_frame.specs.declared.framer.BufferContent.TheVariants as content
use Rattle.coap_frame.specs.declared.frame_ref_event.FrameRefEvent.TheVariants as found
use Rattle.coap_frame.specs.declared.filling.FrameStatus.TheVariants as status
use Rattle.coap_frame.proofs.FramingLemmas.{none_spent}

module _ (max : ℕ) (kept piece buffer : List ℕ) (taken : ℕ) (now : BufferContent) (state : FrameStatus)
    (what : FrameRefEvent) (count : taken ≡ (framing max kept piece).taken)
    (finds : finding_in (frame_in now buffer (take taken piece)) state ≡ (framing max kept piece).finding)
    (spends : spent_in now buffer ≡ (framing max kept piece).spent) where
  pub given_more : state ≡ status.Unfinished → what ≡ found.More
      → IsFramedRef (record { taken = taken; what = what }) (framing max kept piece)
  given_more is given =
      let nothing = rw is at finds in
      record {
        taken = count;
        what = rw given nothing;
        lent = rw given (sym (none_spent max kept piece Nothing (sym nothing) tt));
      }

  pub given_fault : (fault : FrameFault) → state ≡ status.Fault fault → what ≡ found.Fault fault
      → IsFramedRef (record { taken = taken; what = what }) (framing max kept piece)
  given_fault fault is given =
      let faulty = rw is at finds in
      record {
        taken = count;
        what = rw given faulty;
        lent = rw given (sym (none_spent max kept piece (AFault fault) (sym faulty) tt));
      }

  pub given_whole : (layout : FrameLayout) → state ≡ status.Whole layout → now ≡ content.Prefix
      → finding_of_ref what ≡ AFrame (take taken piece) → lent_of_ref what ≡ []
      → IsFramedRef (record { taken = taken; what = what }) (framing max kept piece)
  given_whole layout is stays gives lends =
      record { taken = count; what = gives ∙ rw (is, stays) at finds; lent = lends ∙ rw stays at spends }

  pub given_split : (layout : FrameLayout) → state ≡ status.Whole layout → now ≡ content.Split
      → finding_of_ref what ≡ AFrame buffer → lent_of_ref what ≡ buffer
      → IsFramedRef (record { taken = taken; what = what }) (framing max kept piece)
  given_split layout is stays gives lends =
      record { taken = count; what = gives ∙ rw (is, stays) at finds; lent = lends ∙ rw stays at spends }
