-- The effect of a chunk on a framer, by the status of the chunk or of the buffer.
use Rattle.std.proofs.Common.{◌≡◌, ◌≢◌, ℕ, ◌-◌, ◌<◌, ◌≤◌, List, [], ◌∷◌, ◌++◌, length, take, drop, refl, ap, arith, inl}
use Rattle.std.proofs.Common.{inr, ◌⊎◌}
use Rattle.std.proofs.lemmas.Bool.{cases_lt}
use Rattle.std.proofs.lemmas.List.{length-append, length-drop, take-append-drop}
use Rattle.coap_frame.specs.Prelude.{StreamPrefix, Unfinished, Whole, Faulty, prefix_kind, fault_bytes, FramerValue}
use Rattle.coap_frame.specs.Prelude.{IsFramer, FrameEventValue, Nothing, AFrame, AFault, Framing, split_frame}
use Rattle.coap_frame.specs.Prelude.{framing_at, framing, count_after, copied_of, framed, framer_after, without_last}
use Rattle.coap_frame.specs.Prelude.{frame_back, with_frame_back, MayUnread, framer_of, spent_in, IsFilled, FrameFault}
use Rattle.coap_frame.specs.Prelude.{BufferContent, FrameLayout}
use Rattle.coap_wire.proofs.StreamSteps.{unfinished_empty, unfinished_below, whole_parts, whole_itself, whole_more}
use Rattle.coap_wire.proofs.StreamSteps.{faulty_more}
use Rattle.coap_frame.specs.declared.framer.BufferContent.TheVariants as content
use Rattle.coap_frame.specs.declared.filling.FrameStatus.TheVariants as status

module _ (max : ℕ) (kept piece new : List ℕ) (taken : ℕ) where
  pub framing_unfinished : IsFilled max kept piece new taken status.Unfinished
      → framing max kept piece ≡ record { taken = taken; finding = Nothing; kept = new; spent = [] }
  unfolding framing
  framing_unfinished filled = let s = filled.has_status in rw (s.0, s.1, s.2) refl

  pub framing_whole : (layout : FrameLayout) → IsFilled max kept piece new taken (status.Whole layout)
      → framing max kept piece ≡ record { taken = taken; finding = AFrame new; kept = []; spent = split_frame kept new }
  unfolding framing
  framing_whole layout filled =
      let s = filled.has_status in
      let count : length piece - length s.0 ≡ taken = omega (arith, s.2) in
      rw (s.1, count) refl

  pub framing_fault : (fault : FrameFault) → IsFilled max kept piece new taken (status.Fault fault)
      → framing max kept piece ≡ record { taken = taken; finding = AFault fault; kept = []; spent = [] }
  unfolding framing
  framing_fault fault filled =
      let s = filled.has_status in
      let count : length (fault_bytes (kept ++ piece)) - length kept ≡ taken = omega (arith, s.1) in
      rw (s.0, count) refl

-- ---- no byte was kept

module _ (max c taken : ℕ) (piece : List ℕ) where
  -- A framer that keeps no byte.
  abbrev bare : FramerValue
  bare = framer_of max content.Prefix [] c

  -- The chunk begins a frame that it does not end.
  pub alone_more : (buffer : List ℕ) (copied : ℕ) → IsFilled max [] piece (take taken piece) taken status.Unfinished
      → buffer ≡ piece → copied ≡ count_after c taken
      → framer_of max content.Prefix buffer copied ≡ framer_after bare piece
  alone_more buffer copied filled lies count =
      rw (framing_unfinished max [] piece (take taken piece) taken filled, lies, count, filled.has_status.2) refl

  -- The chunk alone has the frame or the error.
  alone_found : (f : Framing) → c ≤ 18446744073709551615 → framing max [] piece ≡ f → f.kept ≡ [] → f.spent ≡ []
      → copied_of [] f ≡ 0 → bare ≡ framer_after bare piece
  alone_found f count is kept spent none =
      let same : c ≡ count_after c (copied_of [] f) = omega (arith, count, none) in
      rw (is, kept, spent, ← same) refl

  pub alone_frame : (layout : FrameLayout) → c ≤ 18446744073709551615
      → IsFilled max [] piece (take taken piece) taken (status.Whole layout) → bare ≡ framer_after bare piece
  alone_frame layout count filled =
      alone_found _ count (framing_whole max [] piece (take taken piece) taken layout filled) refl refl refl

  pub alone_fault : (fault : FrameFault) → c ≤ 18446744073709551615
      → IsFilled max [] piece (take taken piece) taken (status.Fault fault) → bare ≡ framer_after bare piece
  alone_fault fault count filled =
      alone_found _ count (framing_fault max [] piece (take taken piece) taken fault filled) refl refl refl

-- ---- bytes were kept

copied_after : (kept : List ℕ) (f : Framing) → 0 < length kept → copied_of kept f ≡ f.taken
copied_after [] f some = absurd (omega arith)
copied_after (b ∷ kept) f some = refl

split_after : (kept frame : List ℕ) → 0 < length kept → split_frame kept frame ≡ frame
split_after [] frame some = absurd (omega arith)
split_after (b ∷ kept) frame some = refl

module _ (max c : ℕ) (kept piece new : List ℕ) (taken copied : ℕ) (some : 0 < length kept)
    (count : copied ≡ count_after c taken) where
  -- A framer that keeps these bytes.
  abbrev keeping : FramerValue
  keeping = framer_of max content.Prefix kept c

  rest_found : (f : Framing) → framing max kept piece ≡ f → f.taken ≡ taken
      → record { max = max; kept = f.kept; spent = f.spent; copied = copied } ≡ framer_after keeping piece
  rest_found f is all = rw (is, count, copied_after kept f some, all) refl

  pub rest_more : IsFilled max kept piece new taken status.Unfinished
      → framer_of max content.Prefix new copied ≡ framer_after keeping piece
  rest_more filled = rest_found _ (framing_unfinished max kept piece new taken filled) refl

  pub rest_frame : (layout : FrameLayout) → IsFilled max kept piece new taken (status.Whole layout)
      → framer_of max content.Split new copied ≡ framer_after keeping piece
  rest_frame layout filled =
      rw (← rest_found _ (framing_whole max kept piece new taken layout filled) refl, split_after kept new some) refl

  pub rest_is_faulty : (fault : FrameFault) → IsFilled max kept piece new taken (status.Fault fault)
      → framer_of max content.Prefix [] copied ≡ framer_after keeping piece
  rest_is_faulty fault filled = rest_found _ (framing_fault max kept piece new taken fault filled) refl

-- No frame was found.
abbrev HasNoFrame : FrameEventValue → Type 0
HasNoFrame Nothing = Unit {0}
HasNoFrame (AFrame frame) = ⊥
HasNoFrame (AFault fault) = Unit {0}

-- Without a frame, there is no split frame.
pub none_spent : (max : ℕ) (kept piece : List ℕ) (finding : FrameEventValue)
    → (framing max kept piece).finding ≡ finding → HasNoFrame finding → (framing max kept piece).spent ≡ []
unfolding framing
none_spent max kept piece finding e none = grind arith

-- ---- the invariant of a framer

pub empty_framer : (max : ℕ) (kept : List ℕ) (copied : ℕ) → 1152 ≤ max → max ≤ 1048576 → copied ≤ 18446744073709551615
    → kept ≡ [] → IsFramer (record { max = max; kept = kept; spent = []; copied = copied })
empty_framer max kept copied low high countable e = record {
  low = low;
  high = high;
  countable = countable;
  unfinished = rw e (unfinished_empty max);
  whole = inl refl;
}

split_is_whole : (max : ℕ) (kept frame : List ℕ) → prefix_kind max frame ≡ Whole frame []
    → (split_frame kept frame ≡ [])
    ⊎ ((prefix_kind max (split_frame kept frame) ≡ Whole (split_frame kept frame) []) × (◌≡◌ {A = List ℕ} [] []))
split_is_whole max [] frame e = inl refl
split_is_whole max (b ∷ kept) frame e = inr (e, refl)

framed_by : (v : FramerValue) (piece : List ℕ) (b : StreamPrefix) → IsFramer v → prefix_kind v.max (v.kept ++ piece) ≡ b
    → IsFramer (framed v (framing_at v.kept piece b))
framed_by v piece Unfinished is e =
    record { low = is.low; high = is.high; countable = omega arith; unfinished = e; whole = inl refl }
framed_by v piece (Whole frame rest) is e = record {
  low = is.low;
  high = is.high;
  countable = omega arith;
  unfinished = unfinished_empty v.max;
  whole = split_is_whole v.max v.kept frame (whole_itself v.max (v.kept ++ piece) frame rest e);
}
framed_by v piece (Faulty fault) is e = empty_framer v.max [] _ is.low is.high (omega arith) refl

-- A chunk keeps the invariant of a framer.
pub framing_is_framer : (v : FramerValue) (piece : List ℕ) → IsFramer v → IsFramer (framer_after v piece)
unfolding framing
framing_is_framer v piece is = framed_by v piece (prefix_kind v.max (v.kept ++ piece)) is refl

-- The kept bytes are fewer than the maximum.
pub kept_below : (v : FramerValue) → IsFramer v → length v.kept < v.max
kept_below v is = unfinished_below v.max v.kept (omega (arith, is.low)) is.unfinished

-- ---- a frame that is taken back

-- Without its last byte, a frame is unfinished.
front_needs_more : (M : ℕ) (front last : List ℕ) (b : StreamPrefix) → length last ≡ 1
    → prefix_kind M (front ++ last) ≡ Whole (front ++ last) [] → prefix_kind M front ≡ b
    → prefix_kind M front ≡ Unfinished
front_needs_more M front last Unfinished one e is = is
front_needs_more M front last (Whole frame rest) one e is =
    let more = whole_more M front last frame rest is in
    let none : ◌≡◌ {A = List ℕ} [] (rest ++ last) = cc in
    absurd (omega (arith, one, ap length none, length-append rest last))
front_needs_more M front last (Faulty fault) one e is = absurd (cc (faulty_more M front last fault is))

pub front_unfinished : (M : ℕ) (frame : List ℕ) → prefix_kind M frame ≡ Whole frame []
    → prefix_kind M (without_last frame) ≡ Unfinished
front_unfinished M frame e =
    let some = (whole_parts M frame frame [] e).some in
    front_needs_more M (without_last frame) (drop (length frame - 1) frame) _
    (omega (arith, length-drop (length frame - 1) frame))
    (rw (take-append-drop (length frame - 1) frame) e) refl

pub frame_is_small : (M : ℕ) (frame : List ℕ) → prefix_kind M frame ≡ Whole frame []
    → (2 ≤ length frame) × (length frame ≤ M)
frame_is_small M frame e = let c = whole_parts M frame frame [] e in (c.some, c.small)

-- The frame that is taken back.
pub record IsBack (v : FramerValue) (piece frame : List ℕ) : Type 0 where
  pub is : frame_back v.spent piece ≡ frame
  pub whole : prefix_kind v.max frame ≡ Whole frame []

spent_back : (v : FramerValue) (piece spent : List ℕ) → v.spent ≡ spent
    → (spent ≡ []) ⊎ ((prefix_kind v.max spent ≡ Whole spent []) × (v.kept ≡ []))
    → 0 < length spent → IsBack v piece spent
spent_back v piece [] e whole some = absurd (omega arith)
spent_back v piece (b ∷ s) e (inl none) some = absurd cc
spent_back v piece (b ∷ s) e (inr whole) some = record { is = rw e refl; whole = whole.0 }

pub back_spent : (v : FramerValue) (piece : List ℕ) → IsFramer v → 0 < length v.spent → IsBack v piece v.spent
back_spent v piece is some = spent_back v piece v.spent refl is.whole some

piece_back : (v : FramerValue) (piece spent : List ℕ) → v.spent ≡ spent
    → (spent ≢ []) ⊎ ((prefix_kind v.max piece ≡ Whole piece []) × (v.kept ≡ []))
    → length spent ≤ 0 → IsBack v piece piece
piece_back v piece [] e (inl some) none = absurd (some refl)
piece_back v piece [] e (inr whole) none = record { is = rw e refl; whole = whole.0 }
piece_back v piece (b ∷ s) e back none = absurd (omega arith)

-- If there is no split frame, the chunk is the frame.
pub back_piece : (v : FramerValue) (piece : List ℕ)
    → (v.spent ≢ []) ⊎ ((prefix_kind v.max piece ≡ Whole piece []) × (v.kept ≡ []))
    → length v.spent ≤ 0 → IsBack v piece piece
back_piece v piece back none = piece_back v piece v.spent refl back none

-- The bytes of a split frame are those of the buffer.
pub spent_lies : (content : BufferContent) (bytes : List ℕ) → 0 < length (spent_in content bytes)
    → spent_in content bytes ≡ bytes
spent_lies content.Prefix bytes some = absurd (omega arith)
spent_lies content.Split bytes some = refl

-- A framer that keeps a frame without its last byte.
pub front_framer : (max : ℕ) (bytes frame : List ℕ) (copied : ℕ) → 1152 ≤ max → max ≤ 1048576
    → copied ≤ 18446744073709551615 → prefix_kind max frame ≡ Whole frame [] → bytes ≡ without_last frame
    → IsFramer (record { max = max; kept = bytes; spent = []; copied = copied })
front_framer max bytes frame copied low high countable whole is = record {
  low = low;
  high = high;
  countable = countable;
  unfinished = rw is (front_unfinished max frame whole);
  whole = inl refl;
}

-- Taking back a frame keeps the invariant of a framer.
back_is_framer : (v : FramerValue) (piece frame : List ℕ) → IsFramer v → IsBack v piece frame
    → IsFramer (with_frame_back v piece)
back_is_framer v piece frame is back =
    front_framer v.max _ frame _ is.low is.high (omega arith) back.whole (ap without_last back.is)

pub unread_is_framer : (v : FramerValue) (piece : List ℕ) → IsFramer v → MayUnread v piece
    → IsFramer (with_frame_back v piece)
unread_is_framer v piece is may =
    elim (cases_lt 0 (length v.spent)) [
      | inl some ↦ back_is_framer v piece v.spent is (back_spent v piece is some)
      | inr none ↦ back_is_framer v piece piece is (back_piece v piece may none)
    ]

-- Lemmas for `Framer::unread`.
pub ruleset frames_back = (back_spent, back_piece, frame_is_small, spent_lies, front_framer)
