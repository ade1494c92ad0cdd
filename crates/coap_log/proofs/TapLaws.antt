-- A tap shows the frames of its stream.
use Rattle.std.proofs.Common.{◌≡◌, ℕ, ◌+◌, ◌-◌, ◌≤◌, ◌<◌, min, Bool, true, false, List, [], ◌∷◌, ◌++◌, length, take}
use Rattle.std.proofs.Common.{drop, map, sym, ap, ◌∙◌, append_assoc, arith, ◌⊎◌, inl, inr, refl, if◌then◌else◌, subst}
use Rattle.std.proofs.lemmas.Bool.{cases_lt, lt-ltb, le-ltb, eq-eqb, ne_eqb, cond-true, cond-false}
use Rattle.std.proofs.lemmas.List.{append-nil, take-append-drop, take_all, take_at, take-append-le, length-append}
use Rattle.std.proofs.lemmas.List.{length-take}
use Rattle.coap_wire.specs.Reading.{declared_of}
use Rattle.coap_wire.specs.StreamPrefix.{StreamPrefix, Unfinished, Whole, Faulty, prefix_kind}
use Rattle.coap_wire.specs.Frames.{constant_size, sized_frames}
use Rattle.coap_wire.specs.declared.sizes.TheConstants.{LARGEST_MESSAGE}
use Rattle.coap_wire.specs.declared.declaration.Declared.{Declared}
use Rattle.coap_wire.specs.declared.declaration.Declared.TheVariants.{Unknown, Size, BadToken}
use Rattle.coap_wire.proofs.StreamSteps.{begin_unknown, begin_bad_token, begin_too_large, begin_short, begin_whole}
use Rattle.coap_wire.proofs.StreamSteps.{whole_itself, whole_more, whole_parts, faulty_more, unfinished_empty}
use Rattle.coap_wire.proofs.StreamSteps.{frames_unfinished, frames_faulty, frames_whole}
use Rattle.coap_log.specs.Taps.{TapValue, new_tap, begun, with_bytes, silenced, taken_at, followed_at, declared_after}
use Rattle.coap_log.specs.Taps.{taken_by, followed_by, taken, tap_after, Glimpse, glimpse, TapOutput, output_then}
use Rattle.coap_log.specs.Taps.{output_of, counted, after_pieces}
use Rattle.coap_log.proofs.TapLemmas.{filled, cut_twice, declared_kept}

abbrev M : ℕ
M = LARGEST_MESSAGE

-- The tap follows an unfinished frame, of which these bytes passed.
record Follows (v : TapValue) (r : List ℕ) : Type 0 where
  pub room : 8 ≤ v.room
  pub whole : v.is_whole ≡ false
  pub live : v.is_silent ≡ false
  pub kept : v.kept ≡ take v.room r
  pub passed : v.passed ≡ length r
  pub unfinished : prefix_kind M r ≡ Unfinished

-- The tap shows a whole frame.
record Shows (most : ℕ) (v : TapValue) (frame : List ℕ) : Type 0 where
  pub room : v.room ≡ most
  pub whole : v.is_whole ≡ true
  pub live : v.is_silent ≡ false
  pub kept : v.kept ≡ take most frame
  pub passed : v.passed ≡ length frame

-- The tap shows nothing any more.
record IsDead (v : TapValue) : Type 0 where
  pub whole : v.is_whole ≡ false
  pub silent : v.is_silent ≡ true

-- The effect of a piece, by the classification of the present frame followed by the piece.
abbrev IsStep : TapValue → List ℕ → List ℕ → ℕ → TapValue → StreamPrefix → Type 0
IsStep v r piece t after Unfinished = (take t piece ≡ piece) × Follows after (r ++ piece) × (after.room ≡ v.room)
IsStep v r piece t after (Whole frame rest) = (r ++ take t piece ≡ frame) × Shows v.room after frame
IsStep v r piece t after (Faulty fault) = (take t piece ≡ piece) × IsDead after

-- A tap that has no byte of the next frame follows it.
begins : (v : TapValue) → 8 ≤ v.room → v.is_whole ≡ false → v.is_silent ≡ false → v.kept ≡ [] → v.passed ≡ 0
    → Follows v []
begins v room whole live kept passed = record {
  room = room;
  whole = whole;
  live = live;
  kept = kept ∙ sym (take_all v.room [] (omega arith));
  passed = passed;
  unfinished = unfinished_empty M;
}

-- ---- the bytes of a frame

-- If the present bytes are unfinished, a frame contains all of them.
within_frame : (r piece frame rest : List ℕ) → prefix_kind M r ≡ Unfinished
    → prefix_kind M (r ++ piece) ≡ Whole frame rest → length r ≤ length frame
within_frame r piece frame rest u e =
    let n = length frame in
    elim (cases_lt n (length r)) [
      | inl small ↦ (
          let front : take n r ≡ frame = sym (take-append-le n r piece (omega arith))
          ∙ ap (take n) (whole_parts M (r ++ piece) frame rest e).bytes ∙ take_at frame rest n refl in
          let whole = whole_more M frame (drop n r) frame [] (whole_itself M (r ++ piece) frame rest e) in
          let bad : ◌≡◌ {A = StreamPrefix} Unfinished (Whole frame (drop n r)) =
          sym u ∙ ap (prefix_kind M) (sym (take-append-drop n r) ∙ ap (λ s. s ++ drop n r) front) ∙ whole in
          absurd cc)
      | inr fits ↦ fits
    ]

module _ (v : TapValue) (r piece : List ℕ) (f : Follows v r) where
  declares : declared_after v piece ≡ declared_of (r ++ piece)
  declares = ap (λ (k : List ℕ). declared_of (k ++ piece)) f.kept ∙ declared_kept v.room r piece f.room

  kept_after : (bytes : List ℕ) → take v.room (v.kept ++ bytes) ≡ take v.room (r ++ bytes)
  kept_after bytes = ap (λ (k : List ℕ). take v.room (k ++ bytes)) f.kept ∙ cut_twice v.room r bytes

  -- All bytes of the piece belong to an unfinished frame.
  goes_on : (bytes : List ℕ) → bytes ≡ piece → prefix_kind M (r ++ piece) ≡ Unfinished
      → Follows (with_bytes v bytes) (r ++ piece)
  goes_on bytes all u = record {
    room = f.room;
    whole = f.whole;
    live = f.live;
    kept = kept_after bytes ∙ rw all;
    passed = omega (arith, f.passed, ap length all, length-append r piece);
    unfinished = u;
  }

  dies : IsDead (silenced v)
  dies = record { whole = f.whole; silent = refl }

  -- The effect of the piece at this declaration.
  abbrev IsStepAt : Declared → Type 0
  IsStepAt d = IsStep v r piece (taken_at v piece d) (followed_at v (take (taken_at v piece d) piece) d)
      (prefix_kind M (r ++ piece))

  -- A frame that goes on past the piece.
  short : (n : ℕ) → declared_of (r ++ piece) ≡ Size n → n ≤ M → length (r ++ piece) < n → IsStepAt (Size n)
  short n e small less =
      let t = min (n - v.passed) (length piece) in
      let all : take t piece ≡ piece = take_all t piece (omega (arith, f.passed, length-append r piece)) in
      let u = begin_short M (r ++ piece) n e small less in
      let next = goes_on (take t piece) all u in
      let passed : v.passed + length (take t piece) < n = omega (arith, next.passed) in
      rw (
        le-ltb M n small,
        u,
        ne_eqb (v.passed + length (take t piece)) n (λ same. absurd (omega (arith, same, passed))),
      ) (all, next, refl)

  -- A frame that ends within the piece.
  long : (n : ℕ) → declared_of (r ++ piece) ≡ Size n → n ≤ M → n ≤ length (r ++ piece) → IsStepAt (Size n)
  long n e small enough =
      let t = min (n - v.passed) (length piece) in
      let w = begin_whole M (r ++ piece) n e small enough in
      let size : length (take n (r ++ piece)) ≡ n = omega (arith, length-take n (r ++ piece)) in
      let some : length r ≤ n =
      omega (arith, size, within_frame r piece (take n (r ++ piece)) (drop n (r ++ piece)) f.unfinished w) in
      let count : t ≡ n - length r = omega (arith, f.passed, length-append r piece) in
      let frame : r ++ take t piece ≡ take n (r ++ piece) = rw (count, filled n r piece some) in
      let passed : v.passed + length (take t piece) ≡ n =
      omega (arith, f.passed, count, length-append r piece, length-take t piece) in
      rw (le-ltb M n small, w, eq-eqb (v.passed + length (take t piece)) n passed) (
        frame,
        record {
          room = refl;
          whole = refl;
          live = f.live;
          kept = kept_after (take t piece) ∙ ap (take v.room) frame;
          passed = passed ∙ sym size;
        },
      )

  of_size : (n : ℕ) → declared_of (r ++ piece) ≡ Size n → IsStepAt (Size n)
  of_size n e =
      elim (cases_lt M n) [
        | inl large ↦
            rw (lt-ltb M n large, begin_too_large M (r ++ piece) n e large)
            (take_all (length piece) piece (omega arith), dies)
        | inr small ↦ (elim (cases_lt (length (r ++ piece)) n) [
          | inl less ↦ short n e small less
          | inr enough ↦ long n e small enough
        ])
      ]

  step_at : (d : Declared) → declared_of (r ++ piece) ≡ d → IsStepAt d
  step_at Unknown e =
      let all = take_all (length piece) piece (omega arith) in
      let u = begin_unknown M (r ++ piece) e in
      rw u (all, goes_on (take (length piece) piece) all u, refl)
  step_at BadToken e =
      rw (begin_bad_token M (r ++ piece) e) (take_all (length piece) piece (omega arith), dies)
  step_at (Size n) e = of_size n e

  -- The effect of a piece on a tap that follows a frame.
  step : IsStep v r piece (taken_by v piece) (followed_by v piece) (prefix_kind M (r ++ piece))
  unfolding taken_by followed_by
  step =
      let d = declared_after v piece in
      let t : taken_by v piece ≡ taken_at v piece d = cond-false v.is_silent _ _ f.live in
      let after : followed_by v piece ≡ followed_at v (take (taken_by v piece) piece) d =
      cond-false v.is_silent _ _ f.live in
      subst (λ (a : TapValue). IsStep v r piece (taken_by v piece) a (prefix_kind M (r ++ piece))) (sym after)
      (subst (λ k. IsStep v r piece k (followed_at v (take k piece) d) (prefix_kind M (r ++ piece))) (sym t)
      (step_at d (sym declares)))

-- ---- lists of pieces

abbrev sizes : ℕ → ℕ
sizes = constant_size M

-- The glimpses of the frames of a stream.
abbrev glimpses_of : ℕ → List ℕ → List Glimpse
glimpses_of room s = map (glimpse room) (sized_frames sizes s).frames

-- A tap without a whole frame has nothing to discard.
clean : (v : TapValue) → v.is_whole ≡ false → begun v ≡ v
clean v none = rw none

counted_follows : (v : TapValue) (r : List ℕ) (n : ℕ) → Follows v r → Follows (begun (record v { bytes = n })) r
counted_follows v r n f = rw (clean (record v { bytes = n }) f.whole) (assumption f)

-- After a whole frame, the next one begins.
next_follows : (room : ℕ) (v : TapValue) (frame : List ℕ) (n : ℕ) → 8 ≤ room → Shows room v frame
    → Follows (begun (record v { bytes = n })) []
next_follows room v frame n long s =
    let is : begun (record v { bytes = n }) ≡ record v { kept = []; passed = 0; is_whole = false; bytes = n } =
    cond-true v.is_whole _ _ s.whole in
    rw is (begins _ (omega (arith, s.room)) refl s.live refl refl)

room_at : (whole : Bool) (v : TapValue)
    → (if whole then record v { kept = []; passed = 0; is_whole = false } else v).room ≡ v.room
room_at true v = refl
room_at false v = refl

room_begun : (v : TapValue) → (begun v).room ≡ v.room
room_begun v = room_at v.is_whole v

dead_step : (v : TapValue) (piece : List ℕ) → IsDead v → IsDead (tap_after v piece)
unfolding followed_by
dead_step v piece d =
    let same : followed_by (begun v) piece ≡ v =
    ap (λ (w : TapValue). followed_by w piece) (clean v d.whole) ∙ cond-true v.is_silent _ _ d.silent in
    record { whole = ap (λ w. w.is_whole) same ∙ d.whole; silent = ap (λ w. w.is_silent) same ∙ d.silent }

-- A tap that is dead shows no frame.
dead_output : (v : TapValue) (pieces : List (List ℕ)) → IsDead v → (output_of v pieces).frames ≡ []
unfolding output_of
dead_output v [] d = refl
dead_output v (p ∷ ps) d =
    let next = dead_step v p d in
    cond-false (tap_after v p).is_whole _ _ next.whole ∙ dead_output (tap_after v p) ps next

-- One piece, and the output for the other pieces.
module _ (room : ℕ) (v : TapValue) (r p : List ℕ) (n : ℕ) (others : TapOutput) (t : ℕ) (a : TapValue)
    (long : 8 ≤ room) (fits : v.room ≡ room)
    (again : (s : List ℕ) → (begun (record a { bytes = n })).room ≡ room → Follows (begun (record a { bytes = n })) s
    → others.frames ≡ glimpses_of room (s ++ others.taken))
    (none : IsDead a → others.frames ≡ []) where
  abbrev now : TapValue
  now = record a { bytes = n }

  by_step : (b : StreamPrefix) → prefix_kind M (r ++ p) ≡ b → IsStep v r p t a b
      → (output_then (take t p) now others).frames ≡ glimpses_of room (r ++ (take t p ++ others.taken))
  by_step Unfinished e s =
      rw (s.1.whole, s.0, ← append_assoc r p others.taken)
      (again (r ++ p) (room_begun now ∙ s.2 ∙ fits) (counted_follows a (r ++ p) n s.1))
  by_step (Whole frame rest) e s =
      let is : Shows room a frame = rw fits at s.1 in
      let whole = whole_more M frame others.taken frame [] (whole_itself M (r ++ p) frame rest e) in
      rw (
        is.whole,
        is.kept,
        is.passed,
        again [] (room_begun now ∙ is.room) (next_follows room a frame n long is),
        ← append_assoc r (take t p) others.taken,
        s.0,
        frames_whole sizes (frame ++ others.taken) frame others.taken whole,
      )
  by_step (Faulty fault) e s =
      rw (
        s.1.whole,
        none s.1,
        s.0,
        ← append_assoc r p others.taken,
        frames_faulty sizes ((r ++ p) ++ others.taken) fault (faulty_more M (r ++ p) others.taken fault e),
      )

shown : (room : ℕ) (v : TapValue) (pieces : List (List ℕ)) (r : List ℕ) → 8 ≤ room → (begun v).room ≡ room
    → Follows (begun v) r → (output_of v pieces).frames ≡ glimpses_of room (r ++ (output_of v pieces).taken)
unfolding output_of
shown room v [] r long fits f = rw (append-nil, frames_unfinished sizes r f.unfinished)
shown room v (p ∷ ps) r long fits f =
    let a = followed_by (begun v) p in
    let n = counted a.bytes (taken v p) in
    by_step room (begun v) r p n (output_of (tap_after v p) ps) (taken v p) a long fits
    (λ s same next. shown room (tap_after v p) ps s long same next)
    (λ dead. dead_output (tap_after v p) ps (record { whole = dead.whole; silent = dead.silent }))
    (prefix_kind M (r ++ p)) refl (step (begun v) r p f)

-- A new tap shows the frames of its stream.
pub new_tap_shows : (room : ℕ) (pieces : List (List ℕ)) → 8 ≤ room → (output_of (new_tap room) pieces).frames
    ≡ map (glimpse room) (sized_frames (constant_size LARGEST_MESSAGE) (output_of (new_tap room) pieces).taken).frames
new_tap_shows room pieces long =
    shown room (new_tap room) pieces [] long refl (begins (new_tap room) long refl refl refl refl)

-- ---- each call takes a byte

-- A tap follows the present frame, or shows nothing any more.
abbrev IsReached : ℕ → TapValue → Type 0
IsReached room v = ((r : List ℕ) × Follows (begun v) r × ((begun v).room ≡ room)) ⊎ IsDead v

reached_by : (room : ℕ) (v : TapValue) (r p : List ℕ) (n t : ℕ) (a : TapValue) (b : StreamPrefix) → 8 ≤ room
    → v.room ≡ room → IsStep v r p t a b → IsReached room (record a { bytes = n })
reached_by room v r p n t a Unfinished long fits s =
    inl (r ++ p, counted_follows a (r ++ p) n s.1, room_begun (record a { bytes = n }) ∙ s.2 ∙ fits)
reached_by room v r p n t a (Whole frame rest) long fits s =
    let is : Shows room a frame = rw fits at s.1 in
    inl ([], next_follows room a frame n long is, room_begun (record a { bytes = n }) ∙ is.room)
reached_by room v r p n t a (Faulty fault) long fits s = inr (record { whole = s.1.whole; silent = s.1.silent })

reached_next : (room : ℕ) (v : TapValue) (p : List ℕ) → 8 ≤ room → IsReached room v → IsReached room (tap_after v p)
reached_next room v p long (inl f) =
    let a = followed_by (begun v) p in
    reached_by room (begun v) f.0 p (counted a.bytes (taken v p)) (taken v p) a (prefix_kind M (f.0 ++ p)) long
    f.2 (step (begun v) f.0 p f.1)
reached_next room v p long (inr d) = inr (dead_step v p d)

reached : (room : ℕ) (v : TapValue) (pieces : List (List ℕ)) → 8 ≤ room → IsReached room v
    → IsReached room (after_pieces v pieces)
unfolding after_pieces
reached room v [] long is = is
reached room v (p ∷ ps) long is = reached room (tap_after v p) ps long (reached_next room v p long is)

-- A byte of an unfinished frame is missing, if its size is declared by the next bytes.
missing : (r piece : List ℕ) (n : ℕ) → prefix_kind M r ≡ Unfinished
    → declared_of (r ++ piece) ≡ Size n → n ≤ M → length r < n
missing r piece n u e small =
    elim (cases_lt (length (r ++ piece)) n) [
      | inl less ↦ omega (arith, less, length-append r piece)
      | inr enough ↦ (
          let w = begin_whole M (r ++ piece) n e small enough in
          let size : length (take n (r ++ piece)) ≡ n = omega (arith, enough, length-take n (r ++ piece)) in
          let some = within_frame r piece (take n (r ++ piece)) (drop n (r ++ piece)) u w in
          elim (cases_lt (length r) n) [
            | inl less ↦ less
            | inr all ↦ (
                let same : take n (r ++ piece) ≡ r = take_at r piece n (omega (arith, some, size)) in
                let bad : ◌≡◌ {A = StreamPrefix} Unfinished (Whole r []) =
                sym u ∙ (rw same at (whole_itself M (r ++ piece) (take n (r ++ piece)) (drop n (r ++ piece)) w)) in
                absurd cc)
          ])
    ]

takes_at : (v : TapValue) (r piece : List ℕ) (d : Declared) → Follows v r → declared_of (r ++ piece) ≡ d
    → 1 ≤ length piece → 1 ≤ taken_at v piece d
takes_at v r piece Unknown f e some = some
takes_at v r piece BadToken f e some = some
takes_at v r piece (Size n) f e some =
    elim (cases_lt M n) [
      | inl large ↦ rw (lt-ltb M n large) some
      | inr small ↦ rw (le-ltb M n small) (omega (arith, missing r piece n f.unfinished e small, f.passed))
    ]

takes : (room : ℕ) (v : TapValue) (piece : List ℕ) → IsReached room v → 1 ≤ length piece → 1 ≤ taken v piece
unfolding taken_by
takes room v piece (inl f) some =
    rw f.1.live
    (takes_at (begun v) f.0 piece (declared_after (begun v) piece) f.1 (sym (declares (begun v) f.0 piece f.1)) some)
takes room v piece (inr d) some = rw (d.whole, d.silent) some

pub takes_a_byte : (room : ℕ) (pieces : List (List ℕ)) (piece : List ℕ) → 8 ≤ room → 1 ≤ length piece
    → 1 ≤ taken (after_pieces (new_tap room) pieces) piece
takes_a_byte room pieces piece long some =
    takes room (after_pieces (new_tap room) pieces) piece
    (reached room (new_tap room) pieces long
    (inl ([], begins (new_tap room) long refl refl refl refl, refl)))
    some
