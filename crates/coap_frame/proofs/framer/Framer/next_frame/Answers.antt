use Rattle.std.proofs.Common.{◌≡◌, refl, ap, ◌∙◌}
use Rattle.coap_frame.specs.Prelude.{FramerValue, framing_of, framer_after, framer_value, IsFramedRef, finding_of_ref}
use Rattle.coap_frame.specs.Prelude.{lent_of_ref}
use Rattle.coap_frame.proofs.FramingLemmas.{framing_is_framer}
use Rattle.coap_frame.proofs.FoundLemmas.{given_more, given_fault, given_whole, given_split}
use Rattle.coap_frame.proofs.framer.Framer.next_frame.Goals.{in-Unfinished, in-Fault, in-Whole+in-Prefix}
use Rattle.coap_frame.proofs.framer.Framer.next_frame.Goals.{in-Whole+in-Split}
use Rattle.coap_frame.proofs.framer.Framer.next_frame.Goals as goal

pub invariant_of-self : goal.invariant_of-self
invariant_of-self c =
    (rw c.advance-taken.ensures.after (framing_is_framer _ _ c.self.invariant.0), c.advance-taken.ensures.capacity)

pub invariant_of-self-in-Fault-1 : goal.invariant_of-self-in-Fault-1
invariant_of-self-in-Fault-1 c =
    (rw c.advance-taken.ensures.after (framing_is_framer _ _ c.self.invariant.0), c.advance-taken.ensures.capacity)

pub invariant_of-self-in-Prefix : goal.invariant_of-self-in-Prefix
invariant_of-self-in-Prefix c =
    (rw c.advance-taken.ensures.after (framing_is_framer _ _ c.self.invariant.0), c.advance-taken.ensures.capacity)

pub invariant_of-self-in-Split : goal.invariant_of-self-in-Split
invariant_of-self-in-Split c =
    (rw c.advance-taken.ensures.after (framing_is_framer _ _ c.self.invariant.0), c.advance-taken.ensures.capacity)

pub returns : goal.returns
returns c =
    let inside = c.self.inside in
    let v = framer_value inside in
    let p = c.args.piece.now in
    let a = c.advance-taken in
    let new = a.new.buffer.items in
    let what = c.match-status.what in
    let spends = ap (λ (f : FramerValue). f.spent) a.ensures.after in
    let same : framer_after v p ≡ framer_after c.args.self.now p =
    ap (λ (f : FramerValue). framer_after f p) c.self.view_is in
    let framed : IsFramedRef (record { taken = a.result.0; what = what }) (framing_of v p) =
    elim c.match-status.branch [
      | in-Unfinished w ↦
          given_more v.max v.kept p new a.result.0 a.new.content a.result.1 what a.ensures.taken a.ensures.found spends
          w.in-Unfinished.is w.what-is
      | in-Fault w ↦
          given_fault v.max v.kept p new a.result.0 a.new.content a.result.1 what a.ensures.taken a.ensures.found spends
          w.in-Fault.fault w.in-Fault.is w.what-is
      | in-Whole+in-Prefix w ↦
          given_whole v.max v.kept p new a.result.0 a.new.content a.result.1 what a.ensures.taken a.ensures.found spends
          w.in-Whole.layout w.in-Whole.is w.in-Prefix.is (ap finding_of_ref w.what-is) (ap lent_of_ref w.what-is)
      | in-Whole+in-Split w ↦
          given_split v.max v.kept p new a.result.0 a.new.content a.result.1 what a.ensures.taken a.ensures.found spends
          w.in-Whole.layout w.in-Whole.is w.in-Split.is
          (rw (w.what-is, w.deref.ensures.value) refl) (rw (w.what-is, w.deref.ensures.value) refl)
    ] in
    let after : c.match-status.self.0 ≡ framer_after c.args.self.now p =
    elim c.match-status.branch [
      | in-Unfinished w ↦ rw w.self-is (a.ensures.after ∙ same)
      | in-Fault w ↦ rw w.self-is (a.ensures.after ∙ same)
      | in-Whole+in-Prefix w ↦ rw w.self-is (a.ensures.after ∙ same)
      | in-Whole+in-Split w ↦ rw w.self-is (a.ensures.after ∙ same)
    ] in (
      (refl, (λ _. tt), after),
      record { writes_back = tt; framed = rw (← c.self.view_is) framed; within = a.ensures.within },
    )
