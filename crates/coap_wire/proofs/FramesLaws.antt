-- The theorems on the frames of a stream: `prefix_kind` agrees with the relations, and they determine the frames.
use Rattle.std.proofs.Common.{◌≡◌, ℕ, zero, suc, ◌≤◌, List, [], ◌∷◌, ◌++◌, length, take, drop, Option, Some}
use Rattle.std.proofs.Common.{None, inl, inr, refl, sym, ap, subst, ◌∙◌, arith}
use Rattle.std.proofs.lemmas.Bool.{cases_lt}
use Rattle.std.proofs.lemmas.Bool.Decides.{nat_tests}
use Rattle.std.proofs.lemmas.List.{append-nil, append_assoc, length-append, length-take, take-append-drop, take_at}
use Rattle.std.proofs.lemmas.List.{drop_at}
use Rattle.coap_wire.specs.Prelude.{concat, AreBytes, IsFrame, HasBadToken, IsDeclaredSize, FrameFault}
use Rattle.coap_wire.specs.Prelude.{TooLarge, IsTooLarge, IsFrameFault, IsUnfinished, StreamPrefix, Unfinished, Whole}
use Rattle.coap_wire.specs.Prelude.{Faulty, prefix_kind, size_bytes, fault_bytes, Frames, Sizes, sizes_after, size_for}
use Rattle.coap_wire.specs.Prelude.{size_after, AreFrames, AreAtMost, FramesEndWith, FollowsRest, FramedAs, with_frame}
use Rattle.coap_wire.specs.Prelude.{sized_frames}
use Rattle.coap_wire.specs.Frames.{with_frames}
use Rattle.coap_wire.specs.declared.fault.FrameFault.TheVariants.{TokenLength}
use Rattle.coap_wire.proofs.NumberLaws.{AreBytes-tail}
use Rattle.coap_wire.proofs.HeadLaws.{bad_token_declared, size_declared, declares}
use Rattle.coap_wire.proofs.StreamSteps.{size_bytes_some, stated_bytes, size_has_bytes, declared_more, begin_bad_token}
use Rattle.coap_wire.proofs.StreamSteps.{begin_too_large, begin_whole, whole_parts, whole_itself, token_length_declared}
use Rattle.coap_wire.proofs.StreamSteps.{too_large_declared, faulty_some, after_twice, after_none, size_for_more}
use Rattle.coap_wire.proofs.StreamSteps.{Finds, Ends, Fails, Goes, finds, frames_unfinished, frames_faulty}
use Rattle.coap_wire.proofs.StreamSteps.{frames_whole}

-- The first part of a list of bytes has bytes only.
pub AreBytes-front : (front bytes : List ℕ) → AreBytes (front ++ bytes) → AreBytes front
AreBytes-front [] bytes fits i = omega arith
AreBytes-front (b ∷ front) bytes fits zero = fits 0
AreBytes-front (b ∷ front) bytes fits (suc i) = AreBytes-front front bytes (λ j. fits (suc j)) i

-- ---- frames

-- A frame that `prefix_kind` finds is a frame.
pub whole_frame : (M : ℕ) (s frame rest : List ℕ) → AreBytes s → prefix_kind M s ≡ Whole frame rest → IsFrame frame
whole_frame M s frame rest fits e =
    let size = (whole_parts M frame frame [] (whole_itself M s frame rest e)).declared in
    rw size at (declares frame (AreBytes-front frame rest (rw (whole_parts M s frame rest e).bytes at fits)))

-- `prefix_kind` finds a frame of at most M bytes.
pub frame_begins : (M : ℕ) (frame rest : List ℕ) → IsFrame frame → length frame ≤ M
    → prefix_kind M (frame ++ rest) ≡ Whole frame rest
frame_begins M frame rest f small =
    let size = declared_more frame rest (length frame) (size_declared frame (length frame) f) in
    begin_whole M (frame ++ rest) (length frame) size small (omega (arith, length-append frame rest))
    ∙ rw (take_at frame rest _ refl, drop_at frame rest _ refl) refl

-- A frame has at least one byte.
pub frame_some : (frame : List ℕ) → IsFrame frame → 1 ≤ length frame
frame_some frame f = omega (arith, size_has_bytes frame (length frame) (size_declared frame (length frame) f))

-- ---- errors

-- The bytes that show an error end with the byte at which it is known.
fault_size : (M : ℕ) (r more : List ℕ) (fault : FrameFault) → IsFrameFault M fault r → size_bytes (r ++ more) ≡ length r
fault_size M r more TokenLength (inl none) = rw (none.1) (grind (arith, nat_tests))
fault_size M r more TokenLength (inr long) = stated_bytes r more long.0 long.1 long.2
fault_size M r more TooLarge f = stated_bytes r more f.1.token_length f.1.body_length f.1.lengths

pub fault_bytes_again : (M : ℕ) (r more : List ℕ) (fault : FrameFault) → IsFrameFault M fault r
    → fault_bytes (r ++ more) ≡ r
fault_bytes_again M r more fault f = take_at r more (size_bytes (r ++ more)) (sym (fault_size M r more fault f))

-- `prefix_kind` finds an error, whichever bytes follow those that show it.
pub fault_begins : (M : ℕ) (r more : List ℕ) (fault : FrameFault) → IsFrameFault M fault r
    → prefix_kind M (r ++ more) ≡ Faulty fault
fault_begins M r more TokenLength f =
    begin_bad_token M (r ++ more) (bad_token_declared (r ++ more) (r, more, refl, f))
fault_begins M r more TooLarge f =
    begin_too_large M (r ++ more) f.0 (size_declared (r ++ more) f.0 (r, more, refl, f.1)) f.2

-- `fault_bytes` are the bytes that show an error that `prefix_kind` finds.
pub fault_found : (M : ℕ) (s : List ℕ) (fault : FrameFault) → AreBytes s → prefix_kind M s ≡ Faulty fault
    → IsFrameFault M fault (fault_bytes s)
fault_found M s TokenLength fits e =
    let bad : HasBadToken s = rw (token_length_declared M s e) at (declares s fits) in
    let head = ap fault_bytes bad.2 ∙ fault_bytes_again M bad.0 bad.1 TokenLength bad.3 in
    rw head (bad.3)
fault_found M s TooLarge fits e =
    let f = too_large_declared M s e in
    let d : IsDeclaredSize s f.0 = rw f.1 at (declares s fits) in
    let large : IsTooLarge M d.0 = (f.0, d.3, f.2) in
    let head = ap fault_bytes d.2 ∙ fault_bytes_again M d.0 d.1 TooLarge large in
    rw head large

-- ---- unfinished frames

-- If `prefix_kind` returns `Unfinished`, no prefix is a frame or shows an error.
pub unfinished_is : (M : ℕ) (s : List ℕ) → prefix_kind M s ≡ Unfinished → IsUnfinished M s
unfinished_is M s u p q is =
    let v : prefix_kind M (p ++ q) ≡ Unfinished = rw is at u in (
      λ f. elim (cases_lt M (length p)) [
        | inl large ↦
            let size = declared_more p q (length p) (size_declared p (length p) f) in
            cc (begin_too_large M (p ++ q) (length p) size large)
        | inr small ↦ cc (frame_begins M p q f small)
      ],
      λ fault f. cc (fault_begins M p q fault f),
    )

-- If no prefix is a frame or shows an error, `prefix_kind` returns `Unfinished`.
pub unfinished_again : (M : ℕ) (s : List ℕ) → AreBytes s → IsUnfinished M s → prefix_kind M s ≡ Unfinished
unfinished_again M s fits u = go (prefix_kind M s) refl
  where
    go : (b : StreamPrefix) → prefix_kind M s ≡ b → prefix_kind M s ≡ Unfinished
    go Unfinished e = e
    go (Whole frame rest) e =
        absurd ((u frame rest (whole_parts M s frame rest e).bytes).0 (whole_frame M s frame rest fits e))
    go (Faulty fault) e =
        absurd ((u (fault_bytes s) (drop (size_bytes s) s) (sym (take-append-drop (size_bytes s) s))).1 fault
        (fault_found M s fault fits e))

pub ruleset first_bytes = (frame_begins, fault_begins, fault_found, unfinished_again, unfinished_is)

-- ---- the maximum sizes after frames

-- No frame comes before.
pub size_after_none : (sizes : Sizes) (rest : List ℕ) → size_after sizes [] rest ≡ size_for sizes rest
size_after_none sizes rest = ap (λ f. size_for f rest) (after_none sizes)

-- One frame comes before the others.
after_one : (sizes : Sizes) (frame : List ℕ) (frames : List (List ℕ))
    → sizes_after (length (concat frames)) (sizes_after (length frame) sizes)
    ≡ sizes_after (length (concat (frame ∷ frames))) sizes
after_one sizes frame frames =
    after_twice (length frame) (length (concat frames)) sizes
    ∙ ap (λ n. sizes_after n sizes) (sym (length-append frame (concat frames)))

pub size_after_one : (sizes : Sizes) (frame : List ℕ) (frames : List (List ℕ)) (rest : List ℕ)
    → size_after (sizes_after (length frame) sizes) frames rest ≡ size_after sizes (frame ∷ frames) rest
size_after_one sizes frame frames rest = ap (λ f. size_for f rest) (after_one sizes frame frames)

-- ---- the function satisfies the relation

-- The maximum for bytes that begin with an error is that for the bytes that show it.
size_for_fault : (sizes : Sizes) (s : List ℕ) (fault : FrameFault) → prefix_kind (size_for sizes s) s ≡ Faulty fault
    → size_for sizes s ≡ size_for sizes (fault_bytes s)
size_for_fault sizes s fault e =
    let n : ℕ = size_bytes s in
    let some : 1 ≤ length s = faulty_some (size_for sizes s) s fault e in
    let front : 1 ≤ length (take n s) = omega (arith, size_bytes_some s some, length-take n s) in
    ap (size_for sizes) (sym (take-append-drop n s)) ∙ size_for_more sizes (take n s) (drop n s) front

framed : (sizes : Sizes) (s : List ℕ) (found : Frames) → Finds sizes s found → AreBytes s → FramedAs sizes s found
framed _ _ _ (Ends sizes s e) fits = record {
  more = [];
  whole = sym (append-nil s);
  each = tt;
  small = tt;
  ended = unfinished_is _ s (ap (λ f. prefix_kind (size_for f s) s) (after_none sizes) ∙ e);
  follows = refl;
}
framed _ _ _ (Fails sizes s fault e) fits = record {
  more = drop (size_bytes s) s;
  whole = sym (take-append-drop (size_bytes s) s);
  each = tt;
  small = tt;
  ended =
      subst (λ M. IsFrameFault M fault (fault_bytes s))
      (size_for_fault sizes s fault e ∙ sym (size_after_none sizes (fault_bytes s))) (fault_found _ s fault fits e);
  follows = tt;
}
framed _ _ _ (Goes sizes s frame rest found e f) fits =
    let c = whole_parts _ s frame rest e in
    let others = framed _ _ _ f (AreBytes-tail frame rest (rw c.bytes at fits)) in
    let same = size_for_more sizes frame rest (omega (arith, c.some)) in
    record {
      more = others.more;
      whole = cc (c.bytes, others.whole, append_assoc frame (concat found.frames) (found.rest ++ others.more));
      each = (whole_frame _ s frame rest fits e, others.each);
      small = (omega (arith, c.small, ap (size_for sizes) c.bytes), others.small);
      ended =
          subst (λ M. FramesEndWith M found.rest found.fault) (size_after_one sizes frame found.frames found.rest)
          others.ended;
      follows = others.follows;
    }

-- The result of the function satisfies the relation.
pub frames_framed : (sizes : Sizes) (s : List ℕ) → AreBytes s → FramedAs sizes s (sized_frames sizes s)
frames_framed sizes s = framed sizes s (sized_frames sizes s) (finds sizes s)

-- ---- the relation determines the result of the function

-- `prefix_kind` finds a frame of at most the maximum size.
pub frame_at_front : (sizes : Sizes) (frame rest : List ℕ) → IsFrame frame → length frame ≤ size_for sizes frame
    → prefix_kind (size_for sizes (frame ++ rest)) (frame ++ rest) ≡ Whole frame rest
frame_at_front sizes frame rest f small =
    rw (size_for_more sizes frame rest (frame_some frame f)) (frame_begins _ frame rest f small)

-- Frames, followed by the frames of the other bytes.
pub frames_front : (sizes : Sizes) (frames : List (List ℕ)) (s : List ℕ) → AreFrames frames → AreAtMost sizes frames
    → sized_frames sizes (concat frames ++ s)
    ≡ with_frames frames (sized_frames (sizes_after (length (concat frames)) sizes) s)
frames_front sizes [] s each small = ap (λ f. sized_frames f s) (sym (after_none sizes))
frames_front sizes (f ∷ fs) s each small =
    ap (sized_frames sizes) (append_assoc f (concat fs) s)
    ∙ frames_whole sizes (f ++ (concat fs ++ s)) f (concat fs ++ s) (frame_at_front sizes f _ each.0 small.0)
    ∙ ap (with_frame f) (frames_front (sizes_after (length f) sizes) fs s each.1 small.1)
    ∙ ap (λ g. with_frames (f ∷ fs) (sized_frames g s)) (after_one sizes f fs)

-- The rest, and bytes that may follow it.
pub frames_end : (sizes : Sizes) (rest more : List ℕ) (fault : Option FrameFault) → AreBytes (rest ++ more)
    → FramesEndWith (size_for sizes rest) rest fault → FollowsRest more fault
    → sized_frames sizes (rest ++ more) ≡ record { frames = []; rest = rest; fault = fault }
frames_end sizes rest more None fits ended follows =
    rw (follows, append-nil)
    (frames_unfinished sizes rest (unfinished_again _ rest (AreBytes-front rest more fits) ended))
frames_end sizes rest more (Some fault) fits ended follows =
    let begins = fault_begins _ rest [] fault ended in
    let some = faulty_some _ rest fault (rw append-nil at begins) in
    frames_faulty sizes (rest ++ more) fault
    (rw (size_for_more sizes rest more some) (fault_begins _ rest more fault ended))
    ∙ rw (fault_bytes_again (size_for sizes rest) rest more fault ended) refl

-- Whatever satisfies the relation is the result of the function.
pub framed_frames : (sizes : Sizes) (s : List ℕ) (other : Frames) → AreBytes s → FramedAs sizes s other
    → other ≡ sized_frames sizes s
framed_frames sizes s other fits framed =
    let left = other.rest ++ framed.more in
    let tail = AreBytes-tail (concat other.frames) left (rw framed.whole at fits) in
    let end = frames_end _ other.rest framed.more other.fault tail framed.ended framed.follows in
    sym (ap (sized_frames sizes) framed.whole ∙ frames_front sizes other.frames left framed.each framed.small
    ∙ ap (with_frames other.frames) end ∙ rw append-nil refl)
