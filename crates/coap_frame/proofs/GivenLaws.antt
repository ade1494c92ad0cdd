-- The theorems on framers: the output agrees with the stream, the number of bytes taken of a chunk, and `unread`.
use Rattle.std.proofs.Common.{◌≡◌, ℕ, ◌+◌, ◌-◌, ◌≤◌, Bool, true, false, List, [], ◌∷◌, ◌++◌, length, take, drop, refl}
use Rattle.std.proofs.Common.{sym, ap, subst, ◌∙◌, append_assoc, arith, inl, inr, is_none, if◌then◌else◌, None, Some}
use Rattle.std.proofs.lemmas.Bool.{cases_lt}
use Rattle.std.proofs.lemmas.List.{append-nil, take-append-drop, take-append-le, take_all, take_at, length-append}
use Rattle.std.proofs.lemmas.List.{length-drop}
use Rattle.std.proofs.Math.Seq.{take-append-add}
use Rattle.coap_frame.specs.Prelude.{FrameFault, StreamPrefix, Unfinished, Whole, Faulty, prefix_kind, size_bytes}
use Rattle.coap_frame.specs.Prelude.{fault_bytes, Frames, Sizes, constant_size, sizes_first, size_for, sizes_after}
use Rattle.coap_frame.specs.Prelude.{with_frame, sized_frames, FramerValue, IsFramer, FrameEventValue, Nothing, AFrame}
use Rattle.coap_frame.specs.Prelude.{AFault, Framing, split_frame, framing_at, framing, framing_of, framer_after}
use Rattle.coap_frame.specs.Prelude.{without_last, frame_back, MayUnread, raise_refusal, with_size, raise_result}
use Rattle.coap_frame.specs.Prelude.{FramerInput, Piece, FramerOutput, given_then, output_of, stream_given, IsGiven}
use Rattle.coap_frame.specs.Prelude.{taken_of, unread_after, last_byte}
use Rattle.coap_wire.proofs.StreamSteps.{whole_parts, whole_itself, whole_more, faulty_more, fault_bytes_more}
use Rattle.coap_wire.proofs.StreamSteps.{fault_at_last, size_has_bytes, size_bytes_more, AreAlikeAfter}
use Rattle.coap_wire.proofs.StreamSteps.{frames_unfinished, frames_faulty, frames_whole, frames_alike}
use Rattle.coap_wire.proofs.SizesLaws.{first_in, first_past, rest_first, first_none, first_always}
use Rattle.coap_frame.specs.FramerOutput.{Size}
use Rattle.coap_frame.proofs.FramingLemmas.{framing_is_framer, frame_is_small, front_unfinished}
use Rattle.coap_frame.proofs.RaiseLemmas.{unfinished_with, allowed_by, raise_is_framer}

-- ---- the byte at which an error is known

-- After the kept bytes, the error is known at the last byte of this prefix of the chunk.
record IsKnownAtFront (M : ℕ) (kept piece : List ℕ) (fault : FrameFault) : Type 0 where
  front : List ℕ
  more : List ℕ
  bytes : piece ≡ front ++ more
  faulty : prefix_kind M (kept ++ front) ≡ Faulty fault
  is : fault_bytes (kept ++ front) ≡ kept ++ front

known_step : (M : ℕ) (kept : List ℕ) (b : ℕ) (piece : List ℕ) (fault : FrameFault) (at : StreamPrefix)
    → prefix_kind M kept ≡ Unfinished → prefix_kind M ((kept ++ b ∷ []) ++ piece) ≡ Faulty fault
    → (prefix_kind M (kept ++ b ∷ []) ≡ Unfinished → IsKnownAtFront M (kept ++ b ∷ []) piece fault)
    → prefix_kind M (kept ++ b ∷ []) ≡ at → IsKnownAtFront M kept (b ∷ piece) fault
known_step M kept b piece fault Unfinished u e again is =
    let next = again is in
    record {
      front = b ∷ next.front;
      more = next.more;
      bytes = rw next.bytes refl;
      faulty = rw (← append_assoc kept (b ∷ []) next.front) next.faulty;
      is = rw (← append_assoc kept (b ∷ []) next.front) next.is;
    }
known_step M kept b piece fault (Whole frame rest) u e again is =
    absurd (cc (whole_more M (kept ++ b ∷ []) piece frame rest is))
known_step M kept b piece fault (Faulty first) u e again is =
    let now : prefix_kind M (kept ++ b ∷ []) ≡ Faulty fault = cc (faulty_more M (kept ++ b ∷ []) piece first is) in
    record { front = b ∷ []; more = piece; bytes = refl; faulty = now; is = fault_at_last M kept b fault u now }

-- If the kept bytes are unfinished, the error is known within the chunk.
known : (M : ℕ) (kept piece : List ℕ) (fault : FrameFault) → prefix_kind M kept ≡ Unfinished
    → prefix_kind M (kept ++ piece) ≡ Faulty fault → IsKnownAtFront M kept piece fault
known M kept [] fault u e = absurd (cc (rw append-nil at e))
known M kept (b ∷ piece) fault u e =
    let cut : prefix_kind M ((kept ++ b ∷ []) ++ piece) ≡ Faulty fault = rw (append_assoc kept (b ∷ []) piece) e in
    known_step M kept b piece fault (prefix_kind M (kept ++ b ∷ [])) u cut
    (λ is. known M (kept ++ b ∷ []) piece fault is cut) refl

-- ---- one call

-- If the kept bytes are unfinished, a frame contains all of them.
kept_within_frame : (M : ℕ) (kept piece frame rest : List ℕ) → prefix_kind M kept ≡ Unfinished
    → prefix_kind M (kept ++ piece) ≡ Whole frame rest → length kept ≤ length frame
kept_within_frame M kept piece frame rest u e =
    let n = length frame in
    elim (cases_lt n (length kept)) [
      | inl small ↦ (
          let front : take n kept ≡ frame = sym (take-append-le n kept piece (omega arith))
          ∙ ap (take n) (whole_parts M (kept ++ piece) frame rest e).bytes ∙ take_at frame rest n refl in
          let cut : frame ++ drop n kept ≡ kept = rw front at (take-append-drop n kept) in
          let bad = whole_more M frame (drop n kept) frame [] (whole_itself M (kept ++ piece) frame rest e) in
          absurd (cc (rw cut at bad)))
      | inr fits ↦ fits
    ]

-- The content of the kept bytes and the bytes taken, by the finding, and the bytes kept afterwards.
abbrev pub IsFoundAt : ℕ → List ℕ → List ℕ → ℕ → List ℕ → FrameEventValue → Type 0
IsFoundAt max kept piece taken after Nothing = (taken ≡ length piece) × (after ≡ kept ++ take taken piece)
IsFoundAt max kept piece taken after (AFrame frame) =
    (frame ≡ kept ++ take taken piece) × (prefix_kind max frame ≡ Whole frame []) × (after ≡ [])
IsFoundAt max kept piece taken after (AFault fault) =
    (prefix_kind max (kept ++ piece) ≡ Faulty fault) × (kept ++ take taken piece ≡ fault_bytes (kept ++ piece))
    × (prefix_kind max (kept ++ take taken piece) ≡ Faulty fault) × (after ≡ [])

record IsCall (max : ℕ) (kept piece : List ℕ) (f : Framing) : Type 0 where
  within : f.taken ≤ length piece
  found : IsFoundAt max kept piece f.taken f.kept f.finding

fault_call : (max : ℕ) (kept front more : List ℕ) (fault : FrameFault) → prefix_kind max (kept ++ front) ≡ Faulty fault
    → fault_bytes (kept ++ front) ≡ kept ++ front
    → IsCall max kept (front ++ more) (framing_at kept (front ++ more) (Faulty fault))
fault_call max kept front more fault faulty is =
    let bytes : fault_bytes (kept ++ (front ++ more)) ≡ kept ++ front =
    rw (← append_assoc, fault_bytes_more max (kept ++ front) more fault faulty) is in
    let count : length (fault_bytes (kept ++ (front ++ more))) - length kept ≡ length front =
    omega (arith, ap length bytes, length-append kept front) in
    let taken : take (length (fault_bytes (kept ++ (front ++ more))) - length kept) (front ++ more) ≡ front =
    rw count (take_at front more (length front) refl) in
    record {
      within = omega (arith, count, length-append front more);
      found = (
        rw (← append_assoc) (faulty_more max (kept ++ front) more fault faulty),
        rw taken (sym bytes),
        rw taken faulty,
        refl,
      );
    }

call_at : (max : ℕ) (kept piece : List ℕ) (b : StreamPrefix) → prefix_kind max kept ≡ Unfinished
    → prefix_kind max (kept ++ piece) ≡ b → IsCall max kept piece (framing_at kept piece b)
call_at max kept piece Unfinished u e =
    record { within = omega arith; found = (refl, rw (take_all (length piece) piece (omega arith)) refl) }
call_at max kept piece (Whole frame rest) u e =
    let c = whole_parts max (kept ++ piece) frame rest e in
    let n = length piece - length rest in
    let long = kept_within_frame max kept piece frame rest u e in
    let all : length kept + length piece ≡ length frame + length rest = simp length-append at (ap length c.bytes) in
    let size : length frame ≡ length kept + n = omega (arith, long, all) in
    let bytes : frame ≡ kept ++ take n piece =
    rw (← take-append-add, ← size, c.bytes, take_at frame rest (length frame) refl) refl in
    record { within = omega arith; found = (bytes, whole_itself max (kept ++ piece) frame rest e, refl) }
call_at max kept piece (Faulty fault) u e =
    let k = known max kept piece fault u e in
    subst (λ p. IsCall max kept p (framing_at kept p (Faulty fault))) (sym k.bytes)
    (fault_call max kept k.front k.more fault k.faulty k.is)

call_is : (max : ℕ) (kept piece : List ℕ) → prefix_kind max kept ≡ Unfinished
    → IsCall max kept piece (framing max kept piece)
unfolding framing
call_is max kept piece u = call_at max kept piece (prefix_kind max (kept ++ piece)) u refl

-- The same, for the finding of a call.
pub found_is : (max : ℕ) (kept piece : List ℕ) (finding : FrameEventValue) → prefix_kind max kept ≡ Unfinished
    → (framing max kept piece).finding ≡ finding
    → IsFoundAt max kept piece (framing max kept piece).taken (framing max kept piece).kept finding
found_is max kept piece finding u e =
    subst
    (λ (f : FrameEventValue). IsFoundAt max kept piece (framing max kept piece).taken (framing max kept piece).kept f) e
    (call_is max kept piece u).found

-- ---- the sizes of the bytes taken

first_point : (m n M : ℕ) (S : Sizes) (at : ℕ) → sizes_first m M (sizes_first n M S) at ≡ sizes_first (m + n) M S at
first_point m n M S at =
    elim (cases_lt at m) [
      | inl lt ↦ rw (first_in m M _ at lt, first_in (m + n) M S at (omega (arith, lt))) refl
      | inr ge ↦ rw (first_past m M _ at ge) (elim (cases_lt (at - m) n) [
        | inl lt ↦ rw (first_in n M S (at - m) lt, first_in (m + n) M S at (omega (arith, lt, ge))) refl
        | inr past ↦ (
            let same : (at - m) - n ≡ at - (m + n) = omega arith in
            rw (first_past n M S (at - m) past, first_past (m + n) M S at (omega (arith, past, ge)), same) refl)
      ])
    ]

first_first : (m n M : ℕ) (S : Sizes) → sizes_first m M (sizes_first n M S) ≡ sizes_first (m + n) M S
first_first m n M S = λ i at. first_point m n M S at i

-- Bytes with one maximum, after others with the same maximum.
first_bytes : (M : ℕ) (kept taken more all : List ℕ) (S : Sizes) → all ≡ kept ++ taken
    → sized_frames (sizes_first (length kept) M (sizes_first (length taken) M S)) (kept ++ (taken ++ more))
    ≡ sized_frames (sizes_first (length all) M S) (all ++ more)
first_bytes M kept taken more all S is =
    rw (is, first_first (length kept) (length taken) M S, length-append, append_assoc) refl

-- The maximum that applies to a whole frame that was taken with this maximum.
size_at_frame : (M : ℕ) (frame more : List ℕ) (S : Sizes) → prefix_kind M frame ≡ Whole frame []
    → size_for (sizes_first (length frame) M S) (frame ++ more) ≡ M
size_at_frame M frame more S whole =
    let c = whole_parts M frame frame [] whole in
    let few = size_has_bytes frame (length frame) c.declared in
    let same = size_bytes_more frame more (omega (arith, c.some)) in
    first_in (length frame) M S (size_bytes (frame ++ more) - 1) (omega (arith, few, same, c.some))

-- ---- a list of calls

-- The output agrees with the stream, of which these are the frames, the rest and the error.
given_by : (v : FramerValue) (given : FramerOutput) (s : Frames) → stream_given v given ≡ s → s.frames ≡ given.frames
    → (given.fault ≡ None → s.rest ≡ given.after.kept) → s.fault ≡ given.fault
    → ((fault : FrameFault) → given.fault ≡ Some fault → given.after.kept ≡ []) → IsGiven v given
given_by v given s same frames rest fault nothing = record {
  frames = rw same frames;
  rest = λ none. rw same (rest none);
  fault = rw same fault;
  nothing_kept = nothing;
}

given_step : (v after : FramerValue) (piece : List ℕ) (taken : ℕ) (go : FramerValue → FramerOutput)
    (finding : FrameEventValue) → after.max ≡ v.max → IsFoundAt v.max v.kept piece taken after.kept finding
    → IsGiven after (go after) → IsGiven v (given_then go (take taken piece) v.max after finding)
given_step v after piece taken go Nothing max found again =
    given_by v _ (stream_given after (go after))
    (first_bytes v.max v.kept (take taken piece) (go after).taken after.kept (go after).sizes found.1
    ∙ ap (λ m. sized_frames (sizes_first (length after.kept) m (go after).sizes) (after.kept ++ (go after).taken))
    (sym max))
    again.frames again.rest again.fault again.nothing_kept
given_step v after piece taken go (AFrame frame) max found again =
    let more = (go after).taken in
    let S = (go after).sizes in
    let whole : prefix_kind (size_for (sizes_first (length frame) v.max S) (frame ++ more)) (frame ++ more)
    ≡ Whole frame more =
    rw (size_at_frame v.max frame more S found.1) (whole_more v.max frame more frame [] found.1) in
    let further : sized_frames (sizes_after (length frame) (sizes_first (length frame) v.max S)) more
    ≡ stream_given after (go after) = rw (rest_first, found.2, first_none) refl in
    given_by v _ (with_frame frame (stream_given after (go after)))
    (first_bytes v.max v.kept (take taken piece) more frame S found.0
    ∙ frames_whole (sizes_first (length frame) v.max S) (frame ++ more) frame more whole
    ∙ ap (with_frame frame) further)
    (ap (λ (fs : List (List ℕ)). frame ∷ fs) again.frames) again.rest again.fault again.nothing_kept
given_step v after piece taken go (AFault fault) max found again =
    given_by v _ _ (ap (λ (f : Sizes). sized_frames f (v.kept ++ take taken piece)) (first_always (length v.kept) v.max)
    ∙ frames_faulty (constant_size v.max) (v.kept ++ take taken piece) fault found.2)
    refl (λ none. absurd cc) refl (λ other some. found.3)

-- The result is the same if the kept bytes were taken with a larger maximum.
raised_alike : (max new : ℕ) (kept : List ℕ) (S : Sizes) → prefix_kind max kept ≡ Unfinished → max ≤ new
    → AreAlikeAfter (sizes_first (length kept) max S) (sizes_first (length kept) new S) kept
raised_alike max new kept S u le =
    let at : ℕ = size_bytes kept - 1 in
    let n : ℕ = length kept in
    record {
      unfinished =
          unfinished_with max (sizes_first n max S at) kept u (λ there. omega (arith, first_in n max S at there));
      larger = elim (cases_lt at n) [
        | inl there ↦ omega (arith, le, first_in n max S at there, first_in n new S at there)
        | inr past ↦ omega (arith, first_past n max S at past, first_past n new S at past)
      ];
      same = λ place past. first_past n max S place past ∙ sym (first_past n new S place past);
    }

given_raised : (v : FramerValue) (new : ℕ) (given : FramerOutput) → IsFramer v → v.max ≤ new
    → IsGiven (with_size v new) given → IsGiven v given
given_raised v new given is le again =
    given_by v given (stream_given (with_size v new) given)
    (frames_alike (sizes_first (length v.kept) v.max given.sizes) (sizes_first (length v.kept) new given.sizes) v.kept
    given.taken (raised_alike v.max new v.kept given.sizes is.unfinished le))
    again.frames again.rest again.fault again.nothing_kept

given_raise : (v : FramerValue) (new : ℕ) (given : FramerOutput) (allowed : Bool)
    → is_none (raise_refusal v.max new) ≡ allowed → IsFramer v
    → IsGiven (if allowed then with_size v new else v) given → IsGiven v given
given_raise v new given true e is again = given_raised v new given is (allowed_by v.max new e).0 again
given_raise v new given false e is again = again

-- The output of a framer agrees with the stream.
pub given_is : (v : FramerValue) (handed : List FramerInput) → IsFramer v → IsGiven v (output_of v handed)
unfolding output_of
given_is v [] is =
    given_by v _ _ (ap (λ (f : Sizes). sized_frames f (v.kept ++ [])) (first_always (length v.kept) v.max)
    ∙ rw append-nil (frames_unfinished (constant_size v.max) v.kept is.unfinished))
    refl (λ none. refl) refl (λ fault some. absurd cc)
given_is v (Size new ∷ more) is =
    given_raise v new (output_of (raise_result v new) more) (is_none (raise_refusal v.max new)) refl is
    (given_is (raise_result v new) more (raise_is_framer v new is))
given_is v (Piece p ∷ more) is =
    given_step v (framer_after v p) p (framing_of v p).taken (λ now. output_of now more) (framing_of v p).finding refl
    (call_is v.max v.kept p is.unfinished).found (given_is (framer_after v p) more (framing_is_framer v p is))

-- ---- the number of bytes taken of a chunk

module _ (max : ℕ) (kept piece : List ℕ) where
  pub taken_within : prefix_kind max kept ≡ Unfinished → (framing max kept piece).taken ≤ length piece
  taken_within u = (call_is max kept piece u).within

  pub nothing_taken : prefix_kind max kept ≡ Unfinished → (framing max kept piece).finding ≡ Nothing
      → (framing max kept piece).taken ≡ length piece
  nothing_taken u e = (found_is max kept piece Nothing u e).0

  pub frame_taken : (frame : List ℕ) → prefix_kind max kept ≡ Unfinished
      → (framing max kept piece).finding ≡ AFrame frame → frame ≡ kept ++ take (framing max kept piece).taken piece
  frame_taken frame u e = (found_is max kept piece (AFrame frame) u e).0

  pub fault_taken : (fault : FrameFault) → prefix_kind max kept ≡ Unfinished
      → (framing max kept piece).finding ≡ AFault fault → (prefix_kind max (kept ++ piece) ≡ Faulty fault)
      × (kept ++ take (framing max kept piece).taken piece ≡ fault_bytes (kept ++ piece))
  fault_taken fault u e = let found = found_is max kept piece (AFault fault) u e in (found.0, found.1)

-- ---- a frame that is taken back

-- The kept bytes and the split frame after a frame was found.
frame_leaves : (max : ℕ) (kept piece frame : List ℕ) → (framing max kept piece).finding ≡ AFrame frame
    → ((framing max kept piece).kept ≡ []) × ((framing max kept piece).spent ≡ split_frame kept frame)
unfolding framing
frame_leaves max kept piece frame e = (grind arith, grind arith)

after_frame : (v : FramerValue) (piece frame : List ℕ) → (framing_of v piece).finding ≡ AFrame frame
    → framer_after v piece ≡ record (framer_after v piece) { kept = []; spent = split_frame v.kept frame }
after_frame v piece frame e =
    let left = frame_leaves v.max v.kept piece frame e in rw (left.0, left.1) refl

-- A split frame and a frame that is whole in its chunk are taken back alike.
back_is : (kept bytes frame : List ℕ) → frame ≡ kept ++ bytes → frame_back (split_frame kept frame) bytes ≡ frame
back_is [] bytes frame e = sym e
back_is (b ∷ kept) bytes frame e = rw e refl

allowed_at : (v : FramerValue) (bytes frame : List ℕ) (kept : List ℕ) → prefix_kind v.max frame ≡ Whole frame []
    → frame ≡ kept ++ bytes → MayUnread (record v { kept = []; spent = split_frame kept frame }) bytes
allowed_at v bytes frame [] whole e = inr (rw e at whole, refl)
allowed_at v bytes frame (b ∷ kept) whole e =
    inl (λ (none : frame ≡ []). let some = (frame_is_small v.max frame whole).0 in
    absurd (omega (arith, some, ap length none)))

-- All bytes but the last of two lists, if the second has a byte.
pub last_of_second : (front bytes : List ℕ) → 1 ≤ length bytes
    → without_last (front ++ bytes) ≡ front ++ without_last bytes
last_of_second front bytes some =
    let count : length (front ++ bytes) - 1 ≡ length front + (length bytes - 1) =
    omega (arith, length-append front bytes) in
    rw count (take-append-add front bytes (length bytes - 1))

-- If the kept bytes are unfinished, at least one byte of the chunk is taken for a frame.
pub takes_a_byte : (max : ℕ) (kept bytes frame : List ℕ) → prefix_kind max kept ≡ Unfinished
    → prefix_kind max frame ≡ Whole frame [] → frame ≡ kept ++ bytes → 1 ≤ length bytes
takes_a_byte max kept [] frame u whole e = absurd (cc (append-nil kept))
takes_a_byte max kept (b ∷ bytes) frame u whole e = omega arith

-- A chunk that completes nothing.
framing_more : (max : ℕ) (kept piece : List ℕ) → prefix_kind max (kept ++ piece) ≡ Unfinished
    → framing max kept piece ≡ framing_at kept piece Unfinished
unfolding framing
framing_more max kept piece e = rw e refl

framing_frame : (max : ℕ) (kept piece frame : List ℕ) → prefix_kind max (kept ++ piece) ≡ Whole frame []
    → framing max kept piece ≡ framing_at kept piece (Whole frame [])
unfolding framing
framing_frame max kept piece frame e = rw e refl

-- A chunk in which a frame was found.
module _ (v : FramerValue) (piece frame : List ℕ) (is : IsFramer v)
    (found : (framing_of v piece).finding ≡ AFrame frame) where
  frame_is_whole : prefix_kind v.max frame ≡ Whole frame []
  frame_is_whole = (found_is v.max v.kept piece (AFrame frame) is.unfinished found).1

  frame_is_kept_and_taken : frame ≡ v.kept ++ taken_of v piece
  frame_is_kept_and_taken = frame_taken v.max v.kept piece frame is.unfinished found

  -- The count of copied bytes after `unread`.
  abbrev copied_before : ℕ
  copied_before = (unread_after v piece).copied

  -- The framer that keeps the frame without its last byte.
  abbrev back : FramerValue
  back = record v { kept = without_last frame; spent = []; copied = copied_before }

  unread_is : unread_after v piece ≡ back
  unread_is =
      rw (
        (frame_leaves v.max v.kept piece frame found).1,
        back_is v.kept (taken_of v piece) frame frame_is_kept_and_taken,
      ) refl

  -- The bytes taken without the last one complete nothing.
  frame_but_last : without_last frame ≡ v.kept ++ without_last (taken_of v piece)
  frame_but_last =
      ap without_last frame_is_kept_and_taken ∙ last_of_second v.kept (taken_of v piece)
      (takes_a_byte v.max v.kept (taken_of v piece) frame is.unfinished frame_is_whole frame_is_kept_and_taken)

  but_last : framing_of v (without_last (taken_of v piece))
      ≡ framing_at v.kept (without_last (taken_of v piece)) Unfinished
  but_last =
      framing_more v.max v.kept (without_last (taken_of v piece))
      (ap (prefix_kind v.max) (sym frame_but_last) ∙ front_unfinished v.max frame frame_is_whole)

  -- `unread` is allowed after a frame.
  pub unread_allowed : MayUnread (framer_after v piece) (taken_of v piece)
  unread_allowed =
      subst (λ after. MayUnread after (taken_of v piece)) (sym (after_frame v piece frame found))
      (allowed_at v (taken_of v piece) frame v.kept frame_is_whole frame_is_kept_and_taken)

  -- Except for the count of copied bytes, the framer is as if the last byte had not arrived.
  pub unread_one_less : unread_after v piece
      ≡ record (framer_after v (without_last (taken_of v piece))) { copied = (unread_after v piece).copied }
  unread_one_less = rw (unread_is, frame_but_last, but_last) refl

  pub unread_nothing : (framing_of v (without_last (taken_of v piece))).finding ≡ Nothing
  unread_nothing = rw but_last refl

  -- With the last byte, the frame is found again.
  frame_comes_again : framing_of (unread_after v piece) (last_byte frame)
      ≡ framing_at (without_last frame) (last_byte frame) (Whole frame [])
  frame_comes_again =
      ap (λ b. framing_of b (last_byte frame)) unread_is
      ∙ framing_frame v.max (without_last frame) (last_byte frame) frame
      (rw (take-append-drop (length frame - 1) frame) frame_is_whole)

  pub unread_again : (framing_of (unread_after v piece) (last_byte frame)).finding ≡ AFrame frame
  unread_again = rw frame_comes_again refl

  pub unread_taken : (framing_of (unread_after v piece) (last_byte frame)).taken ≡ 1
  unread_taken =
      let some = (frame_is_small v.max frame frame_is_whole).0 in
      rw frame_comes_again (omega (arith, some, length-drop (length frame - 1) frame))
