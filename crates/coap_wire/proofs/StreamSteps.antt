-- Splitting a stream step by step: the classification of its first bytes, and the effect of more bytes.
use Rattle.std.proofs.Common.{◌≡◌, ℕ, zero, suc, ◌+◌, ◌-◌, ◌<◌, ◌≤◌, List, [], ◌∷◌, ◌++◌, length, take, drop}
use Rattle.std.proofs.Common.{Option, Some, None, Result, Ok, Err, inl, inr, refl, sym, ap, ◌∙◌, arith}
use mathlib.Core.Path.{fun_ext}
use Rattle.std.proofs.lemmas.Bool.Decides.{nat_tests}
use Rattle.std.proofs.lemmas.List.{length-append, length-take, take-append-drop, take-append-le}
use Rattle.std.proofs.lemmas.List.{drop-append-le, take_all, drop_all, nil_from_length, append-nil}
use Rattle.coap_wire.specs.Prelude.{Message, StatesLengths, Unknown, Size, BadToken, FormatFault, declared_of}
use Rattle.coap_wire.specs.Prelude.{message_of, FrameFault, TooLarge, StreamPrefix, Unfinished, Whole, Faulty}
use Rattle.coap_wire.specs.Prelude.{prefix_kind, size_bytes, fault_bytes, Frames, Sizes, constant_size, sizes_after}
use Rattle.coap_wire.specs.Prelude.{size_for, sizes_of_rest, with_frame, frames_then, frames_within, sized_frames}
use Rattle.coap_wire.specs.Prelude.{frames_on, frames_gone_on, StreamFault, OfFrame, Stream}
use Rattle.coap_wire.specs.Prelude.{frame_then, read_found, sized_split, split, stream_then, continued}
use Rattle.coap_wire.specs.Prelude.{sized_split_on, split_on}
use Rattle.coap_wire.specs.Stream.{read_frames}
use Rattle.coap_wire.specs.declared.fault.FrameFault.TheVariants.{TokenLength}
use Rattle.coap_wire.proofs.HeadLaws.{declared_nothing, stated_read, known_more, head_facts}
pub use Rattle.coap_wire.proofs.HeadLaws.{size_bytes_more}

-- ---- the declared size

pub unknown_not_size : (n : ℕ) → Unknown ≡ Size n → ⊥
unknown_not_size n e = cc

-- The bytes that state the lengths end with the byte at which the size is known.
pub stated_bytes : (head more : List ℕ) (t n : ℕ) → StatesLengths head t n → size_bytes (head ++ more) ≡ length head
stated_bytes head more t n h = let r = stated_read head more t n h in ap size_bytes r.bytes ∙ r.size

pub size_bytes_some : (s : List ℕ) → 1 ≤ length s → 1 ≤ size_bytes s
size_bytes_some [] h = absurd (omega arith)
size_bytes_some (b ∷ s) h = grind (arith, nat_tests)

-- If no size is known yet, a byte that states it is missing.
unknown_bytes : (s : List ℕ) → 1 ≤ length s → declared_of s ≡ Unknown → length s < size_bytes s
unknown_bytes s some u = grind (arith, head_facts s)

-- The bytes that state a size are present, and the size is above their number.
pub size_has_bytes : (s : List ℕ) (n : ℕ) → declared_of s ≡ Size n → (size_bytes s < n) × (size_bytes s ≤ length s)
size_has_bytes s n e = (grind (arith, head_facts s), grind (arith, head_facts s))

-- A declared size stays the same when more bytes follow.
pub declared_more : (s t : List ℕ) (n : ℕ) → declared_of s ≡ Size n → declared_of (s ++ t) ≡ Size n
declared_more s t n e = (known_more s t (λ u. cc)).0 ∙ e

-- An invalid token length stays declared when more bytes follow.
pub bad_token_more : (s t : List ℕ) → declared_of s ≡ BadToken → declared_of (s ++ t) ≡ BadToken
bad_token_more s t e = (known_more s t (λ u. cc)).0 ∙ e

-- If something is declared, there is a byte.
pub declared_some : (s : List ℕ) → (declared_of s ≡ Unknown → ⊥) → 1 ≤ length s
declared_some [] h = absurd (h declared_nothing)
declared_some (b ∷ s) h = omega arith

-- If no size is known yet, it is known at a later byte.
known_later : (s : List ℕ) (b : ℕ) → declared_of s ≡ Unknown → length s + 1 ≤ size_bytes (s ++ b ∷ [])
known_later [] b u = size_bytes_some (b ∷ []) (omega arith)
known_later (a ∷ s) b u = omega (arith, unknown_bytes (a ∷ s) (omega arith) u)

-- If one more byte makes the size known, that byte is the last one that states it.
pub size_at_last : (s : List ℕ) (b n : ℕ) → declared_of s ≡ Unknown → declared_of (s ++ b ∷ []) ≡ Size n
    → size_bytes (s ++ b ∷ []) ≡ length (s ++ b ∷ [])
size_at_last s b n u e =
    omega (arith, known_later s b u, size_has_bytes (s ++ b ∷ []) n e, length-append s (b ∷ []))

-- ---- the classification of the first bytes

-- No size is known yet: the frame is unfinished.
pub begin_unknown : (M : ℕ) (s : List ℕ) → declared_of s ≡ Unknown → prefix_kind M s ≡ Unfinished
unfolding prefix_kind
begin_unknown M s e = rw e refl

-- The token length is invalid.
pub begin_bad_token : (M : ℕ) (s : List ℕ) → declared_of s ≡ BadToken → prefix_kind M s ≡ Faulty TokenLength
unfolding prefix_kind
begin_bad_token M s e = rw e refl

-- The size is above M.
pub begin_too_large : (M : ℕ) (s : List ℕ) (n : ℕ) → declared_of s ≡ Size n → M < n → prefix_kind M s ≡ Faulty TooLarge
unfolding prefix_kind
begin_too_large M s n e h = grind (arith, nat_tests)

-- A byte of a frame of at most M bytes is missing: the frame is unfinished.
pub begin_short : (M : ℕ) (s : List ℕ) (n : ℕ) → declared_of s ≡ Size n → n ≤ M → length s < n
    → prefix_kind M s ≡ Unfinished
unfolding prefix_kind
begin_short M s n e h k = grind (arith, nat_tests)

-- All bytes of a frame of at most M bytes are present.
pub begin_whole : (M : ℕ) (s : List ℕ) (n : ℕ) → declared_of s ≡ Size n → n ≤ M → n ≤ length s
    → prefix_kind M s ≡ Whole (take n s) (drop n s)
unfolding prefix_kind
begin_whole M s n e h k = grind (arith, nat_tests)

-- An empty stream is unfinished.
pub unfinished_empty : (M : ℕ) → prefix_kind M [] ≡ Unfinished
unfinished_empty M = begin_unknown M [] declared_nothing

-- The frame and the rest are all bytes of s, and the frame has the declared size.
pub record IsCut (M : ℕ) (s frame rest : List ℕ) : Type 0 where
  pub bytes : s ≡ frame ++ rest
  pub some : 2 ≤ length frame
  pub small : length frame ≤ M
  pub declared : declared_of s ≡ Size (length frame)

-- A frame that `prefix_kind` finds, and the bytes after it.
pub whole_parts : (M : ℕ) (s frame rest : List ℕ) → prefix_kind M s ≡ Whole frame rest → IsCut M s frame rest
unfolding prefix_kind
whole_parts M s frame rest e = record {
  bytes = grind (arith, nat_tests, head_facts s, take-append-drop);
  some = grind (arith, nat_tests, head_facts s, length-take, size_bytes_some s);
  small = grind (arith, nat_tests, head_facts s, length-take);
  declared = grind (arith, nat_tests, head_facts s, length-take);
}

-- The lengths of a frame and of the bytes after it.
pub whole_lengths : (M : ℕ) (s frame rest : List ℕ) → prefix_kind M s ≡ Whole frame rest
    → (length s ≡ length frame + length rest) × (1 ≤ length frame)
whole_lengths M s frame rest e =
    let c = whole_parts M s frame rest e in
    (ap length c.bytes ∙ length-append frame rest, omega (arith, c.some))

-- If the error is an invalid token length, `declared_of` returns it.
pub token_length_declared : (M : ℕ) (s : List ℕ) → prefix_kind M s ≡ Faulty TokenLength → declared_of s ≡ BadToken
unfolding prefix_kind
token_length_declared M s e = grind (arith, nat_tests, head_facts s)

-- If the error is a size above M, `declared_of` returns the size.
pub too_large_declared : (M : ℕ) (s : List ℕ) → prefix_kind M s ≡ Faulty TooLarge
    → (n : ℕ) × (declared_of s ≡ Size n) × (M < n)
unfolding prefix_kind
too_large_declared M s e =
    elim (head_facts s) [
      | inl bad ↦ absurd (grind (arith, nat_tests))
      | inr others ↦ elim others [
        | inl unknown ↦ absurd (grind (arith, nat_tests))
        | inr known ↦ (known.0, known.2, grind (arith, nat_tests))
      ]
    ]

-- A frame stays the same when more bytes follow.
pub whole_more : (M : ℕ) (s t frame rest : List ℕ) → prefix_kind M s ≡ Whole frame rest
    → prefix_kind M (s ++ t) ≡ Whole frame (rest ++ t)
unfolding prefix_kind
whole_more M s t frame rest e =
    grind (arith, nat_tests, head_facts s, declared_more s t, take-append-le, drop-append-le, length-append)

-- An error stays the same when more bytes follow.
pub faulty_more : (M : ℕ) (s t : List ℕ) (fault : FrameFault) → prefix_kind M s ≡ Faulty fault
    → prefix_kind M (s ++ t) ≡ Faulty fault
unfolding prefix_kind
faulty_more M s t fault e = grind (arith, nat_tests, head_facts s, declared_more s t, bad_token_more s t)

-- A frame is found without the bytes after it.
pub whole_itself : (M : ℕ) (s frame rest : List ℕ) → prefix_kind M s ≡ Whole frame rest
    → prefix_kind M frame ≡ Whole frame []
unfolding prefix_kind
whole_itself M s frame rest e =
    let c = whole_parts M s frame rest e in
    grind (
      arith,
      nat_tests,
      head_facts s,
      head_facts frame,
      declared_more frame rest,
      bad_token_more frame rest,
      size_bytes_more frame rest,
      take_all (length frame) frame,
      drop_all (length frame) frame,
    )

-- The bytes that show an error are present.
pub fault_has_bytes : (M : ℕ) (s : List ℕ) (fault : FrameFault) → prefix_kind M s ≡ Faulty fault
    → size_bytes s ≤ length s
unfolding prefix_kind
fault_has_bytes M s fault e = grind (arith, nat_tests, head_facts s)

-- If there is an error or a frame, there is a byte.
pub faulty_some : (M : ℕ) (s : List ℕ) (fault : FrameFault) → prefix_kind M s ≡ Faulty fault → 1 ≤ length s
faulty_some M [] fault e = cc (unfinished_empty M)
faulty_some M (b ∷ s) fault e = omega arith

-- The bytes that show an error stay the same when more bytes follow.
pub fault_bytes_more : (M : ℕ) (s t : List ℕ) (fault : FrameFault) → prefix_kind M s ≡ Faulty fault
    → fault_bytes (s ++ t) ≡ fault_bytes s
fault_bytes_more M s t fault e =
    rw (size_bytes_more s t (faulty_some M s fault e)) (take-append-le _ s t (fault_has_bytes M s fault e))

-- A frame that one more byte completes ends with that byte.
pub whole_at_last : (M : ℕ) (s : List ℕ) (b : ℕ) (frame rest : List ℕ) → prefix_kind M s ≡ Unfinished
    → prefix_kind M (s ++ b ∷ []) ≡ Whole frame rest → (rest ≡ []) × (frame ≡ s ++ b ∷ [])
unfolding prefix_kind
whole_at_last M s b frame rest u e =
    let c = whole_parts M (s ++ b ∷ []) frame rest e in
    let nothing : rest ≡ [] = nil_from_length rest (grind (
      arith,
      nat_tests,
      head_facts s,
      declared_more s (b ∷ []),
      known_later s b,
      size_has_bytes (s ++ b ∷ []) (length frame) c.declared,
      whole_lengths M (s ++ b ∷ []) frame rest e,
      length-append s (b ∷ []),
    )) in
    (nothing, cc (c.bytes, append-nil frame))

-- If one more byte shows an error, that byte is the last one needed.
pub fault_at_last : (M : ℕ) (s : List ℕ) (b : ℕ) (fault : FrameFault) → prefix_kind M s ≡ Unfinished
    → prefix_kind M (s ++ b ∷ []) ≡ Faulty fault → fault_bytes (s ++ b ∷ []) ≡ s ++ b ∷ []
unfolding prefix_kind
fault_at_last M s b fault u e =
    take_all _ (s ++ b ∷ []) (grind (
      arith,
      nat_tests,
      head_facts s,
      declared_more s (b ∷ []),
      known_later s b,
      length-append s (b ∷ []),
    ))

-- A size is known at the eighth byte or before.
pub size_bytes_small : (s : List ℕ) → size_bytes s ≤ 8
size_bytes_small [] = omega arith
size_bytes_small (b ∷ s) = grind (arith, nat_tests)

pub unknown_small : (s : List ℕ) → declared_of s ≡ Unknown → length s < 8
unknown_small s e = grind (arith, head_facts s, size_bytes_small s)

-- An unfinished frame has fewer than M bytes, if M is at least 8.
pub unfinished_below : (M : ℕ) (s : List ℕ) → 8 ≤ M → prefix_kind M s ≡ Unfinished → length s < M
unfolding prefix_kind
unfinished_below M s h u = grind (arith, nat_tests, head_facts s, unknown_small s)

-- A frame that is unfinished with the maximum M is unfinished with a larger maximum.
pub unfinished_larger : (M N : ℕ) (s : List ℕ) → M ≤ N → prefix_kind M s ≡ Unfinished → prefix_kind N s ≡ Unfinished
unfolding prefix_kind
unfinished_larger M N s h u = grind (arith, nat_tests, head_facts s)

-- ---- the maximum sizes

-- The sizes after m bytes and n more bytes are those after m + n bytes.
pub after_twice : (m n : ℕ) (sizes : Sizes) → sizes_after n (sizes_after m sizes) ≡ sizes_after (m + n) sizes
after_twice m n sizes = fun_ext (λ at. ap sizes (omega arith))

pub after_none : (sizes : Sizes) → sizes_after 0 sizes ≡ sizes
after_none sizes = fun_ext (λ at. ap sizes (omega arith))

-- The sizes of the rest, if a frame comes before.
pub rest_sizes : (sizes : Sizes) (frame rest s left : List ℕ) → length s ≡ length frame + length rest
    → length left ≤ length rest
    → sizes_of_rest (sizes_after (length frame) sizes) rest left ≡ sizes_of_rest sizes s left
rest_sizes sizes frame rest s left all within =
    after_twice (length frame) (length rest - length left) sizes ∙ ap (λ n. sizes_after n sizes) (omega arith)

-- The rest is the whole stream.
pub rest_is_all : (sizes : Sizes) (s : List ℕ) → sizes_of_rest sizes s s ≡ sizes
rest_is_all sizes s = ap (λ n. sizes_after n sizes) (omega arith) ∙ after_none sizes

-- More bytes do not change the maximum for the first frame.
pub size_for_more : (sizes : Sizes) (s t : List ℕ) → 1 ≤ length s → size_for sizes (s ++ t) ≡ size_for sizes s
size_for_more sizes s t some = ap (λ n. sizes (n - 1)) (size_bytes_more s t some)

-- More bytes change neither the error or frame found nor the maximum size for it.
pub sized_faulty_more : (sizes : Sizes) (s t : List ℕ) (fault : FrameFault)
    → prefix_kind (size_for sizes s) s ≡ Faulty fault → prefix_kind (size_for sizes (s ++ t)) (s ++ t) ≡ Faulty fault
sized_faulty_more sizes s t fault e =
    rw (size_for_more sizes s t (faulty_some _ s fault e)) (faulty_more _ s t fault e)

pub sized_whole_more : (sizes : Sizes) (s t frame rest : List ℕ) → prefix_kind (size_for sizes s) s ≡ Whole frame rest
    → prefix_kind (size_for sizes (s ++ t)) (s ++ t) ≡ Whole frame (rest ++ t)
sized_whole_more sizes s t frame rest e =
    let all = whole_lengths _ s frame rest e in
    rw (size_for_more sizes s t (omega arith)) (whole_more _ s t frame rest e)

-- ---- the frames, one after the other

-- The frames of a stream, found one after the other.
pub data Finds : Sizes → List ℕ → Frames → Type 0 where
  Ends : (sizes : Sizes) (s : List ℕ) → prefix_kind (size_for sizes s) s ≡ Unfinished
      → Finds sizes s (record { frames = []; rest = s; fault = None })
  Fails : (sizes : Sizes) (s : List ℕ) (fault : FrameFault) → prefix_kind (size_for sizes s) s ≡ Faulty fault
      → Finds sizes s (record { frames = []; rest = fault_bytes s; fault = Some fault })
  Goes : (sizes : Sizes) (s frame rest : List ℕ) (found : Frames)
      → prefix_kind (size_for sizes s) s ≡ Whole frame rest → Finds (sizes_after (length frame) sizes) rest found
      → Finds sizes s (with_frame frame found)

finds_then : (sizes : Sizes) (s : List ℕ) (go : List ℕ → List ℕ → Frames) (b : StreamPrefix)
    → prefix_kind (size_for sizes s) s ≡ b
    → ((frame rest : List ℕ) → b ≡ Whole frame rest → Finds (sizes_after (length frame) sizes) rest (go frame rest))
    → Finds sizes s (frames_then go s b)
finds_then sizes s go Unfinished e again = Ends sizes s e
finds_then sizes s go (Faulty fault) e again = Fails sizes s fault e
finds_then sizes s go (Whole frame rest) e again = Goes sizes s frame rest (go frame rest) e (again frame rest refl)

finds_within : (turns : ℕ) (sizes : Sizes) (s : List ℕ) → length s ≤ turns
    → Finds sizes s (frames_within turns sizes s)
unfolding frames_within
finds_within zero sizes [] h = Ends sizes [] (unfinished_empty _)
finds_within zero sizes (b ∷ s) h = absurd (omega arith)
finds_within (suc turns) sizes s h =
    finds_then sizes s (λ frame. frames_within turns (sizes_after (length frame) sizes))
    (prefix_kind (size_for sizes s) s) refl (λ frame rest e. let all = whole_lengths _ s frame rest e in
    finds_within turns (sizes_after (length frame) sizes) rest (omega arith))

-- `sized_frames` finds the frames.
pub finds : (sizes : Sizes) (s : List ℕ) → Finds sizes s (sized_frames sizes s)
unfolding sized_frames
finds sizes s = finds_within (length s) sizes s (omega arith)

found_within : (sizes : Sizes) (s : List ℕ) (found : Frames) → Finds sizes s found → (turns : ℕ) → length s ≤ turns
    → frames_within turns sizes s ≡ found
unfolding frames_within
found_within _ _ _ (Ends sizes s e) zero h = refl
found_within _ _ _ (Ends sizes s e) (suc turns) h = rw e refl
found_within _ _ _ (Fails sizes s fault e) zero h = absurd (omega (arith, faulty_some _ s fault e))
found_within _ _ _ (Fails sizes s fault e) (suc turns) h = rw e refl
found_within _ _ _ (Goes sizes s frame rest found e f) zero h = absurd (omega (arith, whole_lengths _ s frame rest e))
found_within _ _ _ (Goes sizes s frame rest found e f) (suc turns) h =
    let all = whole_lengths _ s frame rest e in
    rw (e, found_within (sizes_after (length frame) sizes) rest found f turns (omega arith)) refl

-- It is the only function that does.
pub found_is : (sizes : Sizes) (s : List ℕ) (found : Frames) → Finds sizes s found → sized_frames sizes s ≡ found
unfolding sized_frames
found_is sizes s found f = found_within sizes s found f (length s) (omega arith)

module _ (sizes : Sizes) (s : List ℕ) where
  -- An unfinished frame is the rest.
  pub frames_unfinished : prefix_kind (size_for sizes s) s ≡ Unfinished
      → sized_frames sizes s ≡ record { frames = []; rest = s; fault = None }
  frames_unfinished e = found_is _ _ _ (Ends sizes s e)

  -- An error ends the frames.
  pub frames_faulty : (fault : FrameFault) → prefix_kind (size_for sizes s) s ≡ Faulty fault
      → sized_frames sizes s ≡ record { frames = []; rest = fault_bytes s; fault = Some fault }
  frames_faulty fault e = found_is _ _ _ (Fails sizes s fault e)

  -- One frame, followed by the frames of the other bytes.
  pub frames_whole : (frame rest : List ℕ) → prefix_kind (size_for sizes s) s ≡ Whole frame rest
      → sized_frames sizes s ≡ with_frame frame (sized_frames (sizes_after (length frame) sizes) rest)
  frames_whole frame rest e =
      found_is _ _ _ (Goes sizes s frame rest _ e (finds (sizes_after (length frame) sizes) rest))

-- ---- more bytes

-- The rest is not longer than the stream.
pub found_within_stream : (sizes : Sizes) (s : List ℕ) (found : Frames) → Finds sizes s found
    → length found.rest ≤ length s
found_within_stream _ _ _ (Ends sizes s e) = omega arith
found_within_stream _ _ _ (Fails sizes s fault e) = omega (arith, length-take (size_bytes s) s)
found_within_stream _ _ _ (Goes sizes s frame rest found e f) =
    omega (arith, found_within_stream _ _ _ f, whole_lengths _ s frame rest e)

-- If there is no error, the rest is unfinished.
found_rest : (sizes : Sizes) (s : List ℕ) (found : Frames) → Finds sizes s found → found.fault ≡ None
    → prefix_kind (size_for (sizes_of_rest sizes s found.rest) found.rest) found.rest ≡ Unfinished
found_rest _ _ _ (Ends sizes s e) none = ap (λ f. prefix_kind (size_for f s) s) (rest_is_all sizes s) ∙ e
found_rest _ _ _ (Fails sizes s fault e) none = cc
found_rest _ _ _ (Goes sizes s frame rest found e f) none =
    let within = found_within_stream _ _ _ f in
    let same = rest_sizes sizes frame rest s found.rest (whole_lengths _ s frame rest e).0 within in
    ap (λ f. prefix_kind (size_for f found.rest) found.rest) (sym same) ∙ found_rest _ _ _ f none

-- One more frame before the others stays before them when more bytes follow.
frame_on : (frame : List ℕ) (found others : Frames) (fault : Option FrameFault)
    → frames_gone_on (with_frame frame found) fault others ≡ with_frame frame (frames_gone_on found fault others)
frame_on frame found others None = refl
frame_on frame found others (Some fault) = refl

found_on : (t : List ℕ) (sizes : Sizes) (s : List ℕ) (found : Frames) → Finds sizes s found
    → sized_frames sizes (s ++ t) ≡ frames_on (sizes_of_rest sizes s found.rest) found t
found_on t _ _ _ (Ends sizes s e) = rw (rest_is_all sizes s) refl
found_on t _ _ _ (Fails sizes s fault e) =
    frames_faulty sizes (s ++ t) fault (sized_faulty_more sizes s t fault e) ∙ rw (fault_bytes_more _ s t fault e) refl
found_on t _ _ _ (Goes sizes s frame rest found e f) =
    let within = found_within_stream _ _ _ f in
    frames_whole sizes (s ++ t) frame (rest ++ t) (sized_whole_more sizes s t frame rest e)
    ∙ ap (with_frame frame) (found_on t _ _ _ f)
    ∙ sym (frame_on frame found _ found.fault)
    ∙ rw (rest_sizes sizes frame rest s found.rest (whole_lengths _ s frame rest e).0 within) refl

-- The segmentation of a stream does not change its frames.
pub frames_go_on : (sizes : Sizes) (s more : List ℕ) → sized_frames sizes (s ++ more)
    ≡ frames_on (sizes_of_rest sizes s (sized_frames sizes s).rest) (sized_frames sizes s) more
frames_go_on sizes s more = found_on more sizes s (sized_frames sizes s) (finds sizes s)

-- ---- the stream, step by step

-- The result of splitting the bytes after a frame.
abbrev pub stream_from : Sizes → List ℕ → List ℕ → Stream
stream_from sizes frame rest = sized_split (sizes_after (length frame) sizes) rest

-- The result for a stream is its first frame or error, followed by the result for the other bytes.
pub sized_step : (sizes : Sizes) (s : List ℕ)
    → sized_split sizes s ≡ stream_then (stream_from sizes) s (prefix_kind (size_for sizes s) s)
unfolding sized_split
sized_step sizes s = go (prefix_kind (size_for sizes s) s) refl
  where
    go : (b : StreamPrefix) → prefix_kind (size_for sizes s) s ≡ b
        → sized_split sizes s ≡ stream_then (stream_from sizes) s b
    go Unfinished e = ap read_found (frames_unfinished sizes s e)
    go (Faulty fault) e = ap read_found (frames_faulty sizes s fault e)
    go (Whole frame rest) e = ap read_found (frames_whole sizes s frame rest e)

-- ---- more bytes of a stream

-- One frame, followed by a stream that is continued.
then_on : (f : List ℕ) (r : Result Message FormatFault) (s : Stream) (fault : Option StreamFault) (go : List ℕ → Stream)
    → s.fault ≡ fault → frame_then f r (continued s fault (go s.rest))
    ≡ continued (frame_then f r s) (frame_then f r s).fault (go (frame_then f r s).rest)
then_on f (Ok m) s None go is = rw is refl
then_on f (Ok m) s (Some fault) go is = rw is refl
then_on f (Err e) s fault go is = refl

-- The result for frames that are continued. The function `go` finds the frames from a rest on.
read_on : (go : List ℕ → Frames) (frames : List (List ℕ)) (rest : List ℕ) (fault : Option FrameFault)
    → read_found (frames_gone_on (record { frames = frames; rest = rest; fault = fault }) fault (go rest))
    ≡ continued (read_frames frames rest fault) (read_frames frames rest fault).fault
    (read_found (go (read_frames frames rest fault).rest))
read_on go [] rest None = refl
read_on go [] rest (Some fault) = refl
read_on go (f ∷ fs) rest None =
    ap (frame_then f (message_of f)) (read_on go fs rest None)
    ∙ then_on f (message_of f) (read_frames fs rest None) _ (λ r. read_found (go r)) refl
read_on go (f ∷ fs) rest (Some fault) =
    ap (frame_then f (message_of f)) (read_on go fs rest (Some fault))
    ∙ then_on f (message_of f) (read_frames fs rest (Some fault)) _ (λ r. read_found (go r)) refl

-- The segmentation of a stream does not change its messages.
pub sized_goes_on : (sizes : Sizes) (s more : List ℕ) → sized_split sizes (s ++ more)
    ≡ sized_split_on (sizes_of_rest sizes s (sized_split sizes s).rest) (sized_split sizes s) more
unfolding sized_split
sized_goes_on sizes s more =
    let found = sized_frames sizes s in
    ap read_found (frames_go_on sizes s more)
    ∙ read_on (λ r. sized_frames (sizes_of_rest sizes s r) (r ++ more)) found.frames found.rest found.fault

-- Without an error, each frame encodes a message, and the rest is that of the frames.
read_rest : (frames : List (List ℕ)) (rest : List ℕ) (fault : Option FrameFault)
    → (read_frames frames rest fault).fault ≡ None → (fault ≡ None) × ((read_frames frames rest fault).rest ≡ rest)
read_rest [] rest None none = (refl, refl)
read_rest [] rest (Some fault) none = cc
read_rest (f ∷ fs) rest fault none = go (message_of f) (read_rest fs rest fault) none
  where
    go : (r : Result Message FormatFault) → ((read_frames fs rest fault).fault ≡ None
        → (fault ≡ None) × ((read_frames fs rest fault).rest ≡ rest))
        → (frame_then f r (read_frames fs rest fault)).fault ≡ None
        → (fault ≡ None) × ((frame_then f r (read_frames fs rest fault)).rest ≡ rest)
    go (Ok m) others none = others none
    go (Err e) others none = cc

-- If there is no error, the rest is unfinished, and not longer than the stream.
pub sized_rest : (sizes : Sizes) (s : List ℕ) → (sized_split sizes s).fault ≡ None
    → (prefix_kind (size_for (sizes_of_rest sizes s (sized_split sizes s).rest) (sized_split sizes s).rest)
    (sized_split sizes s).rest ≡ Unfinished) × (length (sized_split sizes s).rest ≤ length s)
unfolding sized_split
sized_rest sizes s none =
    let found = sized_frames sizes s in
    let k = read_rest found.frames found.rest found.fault none in
    rw (k.1) (found_rest sizes s found (finds sizes s) k.0, found_within_stream sizes s found (finds sizes s))

-- ---- sizes that agree

-- The bytes `kept` are unfinished with the sizes F. Their maximum in F is at most that in G, and F and G agree after
-- them.
pub record AreAlikeAfter (F G : Sizes) (kept : List ℕ) : Type 0 where
  pub unfinished : prefix_kind (size_for F kept) kept ≡ Unfinished
  pub larger : size_for F kept ≤ size_for G kept
  pub same : (at : ℕ) → length kept ≤ at → F at ≡ G at

front_agrees : (F G : Sizes) (kept more : List ℕ) → AreAlikeAfter F G kept
    → prefix_kind (size_for F (kept ++ more)) (kept ++ more) ≡ prefix_kind (size_for G (kept ++ more)) (kept ++ more)
unfolding prefix_kind
front_agrees F G [] more alike = ap (λ M. prefix_kind M more) (alike.same (size_bytes more - 1) (omega arith))
front_agrees F G (b ∷ s) more alike =
    grind (
      arith,
      nat_tests,
      alike.unfinished,
      alike.larger,
      head_facts (b ∷ s),
      declared_more (b ∷ s) more,
      alike.same (size_bytes (b ∷ s) - 1),
    )

-- A frame has at least the bytes that were kept of it.
frame_has_kept : (M N : ℕ) (kept more frame rest : List ℕ) → prefix_kind M kept ≡ Unfinished
    → prefix_kind N (kept ++ more) ≡ Whole frame rest → length kept ≤ length frame
unfolding prefix_kind
frame_has_kept M N [] more frame rest u e = omega arith
frame_has_kept M N (b ∷ s) more frame rest u e =
    let c = whole_parts N ((b ∷ s) ++ more) frame rest e in
    grind (
      arith,
      nat_tests,
      c.declared,
      head_facts (b ∷ s),
      declared_more (b ∷ s) more,
      size_has_bytes ((b ∷ s) ++ more) (length frame) c.declared,
    )

-- A larger maximum for an unfinished frame gives the same result.
pub frames_alike : (F G : Sizes) (kept more : List ℕ) → AreAlikeAfter F G kept
    → sized_frames F (kept ++ more) ≡ sized_frames G (kept ++ more)
frames_alike F G kept more alike = go (prefix_kind (size_for G (kept ++ more)) (kept ++ more)) refl
  where
    front : prefix_kind (size_for F (kept ++ more)) (kept ++ more)
        ≡ prefix_kind (size_for G (kept ++ more)) (kept ++ more)
    front = front_agrees F G kept more alike

    go : (b : StreamPrefix) → prefix_kind (size_for G (kept ++ more)) (kept ++ more) ≡ b
        → sized_frames F (kept ++ more) ≡ sized_frames G (kept ++ more)
    go Unfinished e =
        frames_unfinished F (kept ++ more) (front ∙ e) ∙ sym (frames_unfinished G (kept ++ more) e)
    go (Faulty fault) e =
        frames_faulty F (kept ++ more) fault (front ∙ e) ∙ sym (frames_faulty G (kept ++ more) fault e)
    go (Whole frame rest) e =
        let long = frame_has_kept _ _ kept more frame rest alike.unfinished e in
        let same : sizes_after (length frame) F ≡ sizes_after (length frame) G =
        fun_ext (λ at. alike.same _ (omega arith)) in
        frames_whole F (kept ++ more) frame rest (front ∙ e)
        ∙ ap (λ f. with_frame frame (sized_frames f rest)) same
        ∙ sym (frames_whole G (kept ++ more) frame rest e)

pub split_alike : (F G : Sizes) (kept more : List ℕ) → AreAlikeAfter F G kept
    → sized_split F (kept ++ more) ≡ sized_split G (kept ++ more)
unfolding sized_split
split_alike F G kept more alike = ap read_found (frames_alike F G kept more alike)

-- ---- sizes after the last byte

front_same : (F G : Sizes) (s : List ℕ) → ((at : ℕ) → at < length s → F at ≡ G at)
    → prefix_kind (size_for F s) s ≡ prefix_kind (size_for G s) s
unfolding prefix_kind
front_same F G [] same = rw declared_nothing refl
front_same F G (b ∷ s) same =
    grind (arith, nat_tests, head_facts (b ∷ s), size_bytes_some (b ∷ s), same (size_bytes (b ∷ s) - 1))

found_same : (F : Sizes) (s : List ℕ) (found : Frames) → Finds F s found → (G : Sizes)
    → ((at : ℕ) → at < length s → F at ≡ G at) → sized_frames G s ≡ found
found_same _ _ _ (Ends F s e) G same = frames_unfinished G s (sym (front_same F G s same) ∙ e)
found_same _ _ _ (Fails F s fault e) G same = frames_faulty G s fault (sym (front_same F G s same) ∙ e)
found_same _ _ _ (Goes F s frame rest found e f) G same =
    let all = whole_lengths _ s frame rest e in
    frames_whole G s frame rest (sym (front_same F G s same) ∙ e)
    ∙ ap (with_frame frame) (found_same _ _ _ f (sizes_after (length frame) G) (λ at h. same _ (omega (arith, h))))

pub split_same_to : (F G : Sizes) (s : List ℕ) → ((at : ℕ) → at < length s → F at ≡ G at)
    → sized_split F s ≡ sized_split G s
unfolding sized_split
split_same_to F G s same = ap read_found (sym (found_same F s (sized_frames F s) (finds F s) G same))

-- ---- a maximum that never changes

pub split_is : (M : ℕ) (s : List ℕ) → split M s ≡ sized_split (constant_size M) s
unfolding split
split_is M s = refl

module _ (M : ℕ) (s : List ℕ) where
  pub split_step : split M s ≡ stream_then (λ frame. split M) s (prefix_kind M s)
  unfolding split
  split_step = sized_step (constant_size M) s

  pub split_unfinished : prefix_kind M s ≡ Unfinished → split M s ≡ record { messages = []; rest = s; fault = None }
  split_unfinished e = split_step ∙ rw e refl

  pub split_faulty : (fault : FrameFault) → prefix_kind M s ≡ Faulty fault
      → split M s ≡ record { messages = []; rest = fault_bytes s; fault = Some (OfFrame fault) }
  split_faulty fault e = split_step ∙ rw e refl

  pub split_goes_on : (more : List ℕ) → split M (s ++ more) ≡ split_on M (split M s) more
  unfolding split
  split_goes_on more = sized_goes_on (constant_size M) s more

  pub split_rest : (split M s).fault ≡ None → prefix_kind M (split M s).rest ≡ Unfinished
  unfolding split
  split_rest h = (sized_rest (constant_size M) s h).0

pub ruleset stream_in_order = (sized_step, split_step, split_rest)
