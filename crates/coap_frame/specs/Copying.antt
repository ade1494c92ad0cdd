-- Defined by this project: the number of bytes that the calls of a framer copy into its buffer.
use Rattle.std.specs.Prelude.{◌≡◌, ◌≢◌, ℕ, ◌+◌, ◌-◌, ◌≤◌, ◌<◌, List, [], ◌∷◌, length}
use Rattle.coap_frame.specs.Framing.{FramerValue, AFrame, framing_of, count_after, framer_after, with_frame_back}
use Rattle.coap_frame.specs.Framing.{MayUnread}
use Rattle.coap_frame.specs.Raising.{raise_result}

-- A call that changes a framer.
pub data FramerCall : Type 0 where
  Next : List ℕ → FramerCall
  Unread : List ℕ → FramerCall
  Clear : FramerCall
  Raise : ℕ → FramerCall

-- The precondition of a call.
abbrev pub MayCall : FramerValue → FramerCall → Type 0
MayCall v (Next piece) = Unit {0}
MayCall v (Unread piece) = MayUnread v piece
MayCall v Clear = Unit {0}
MayCall v (Raise new) = Unit {0}

-- The framer after a call. Allocation does not fail.
abbrev pub after_call : FramerValue → FramerCall → FramerValue
after_call v (Next piece) = framer_after v piece
after_call v (Unread piece) = with_frame_back v piece
after_call v Clear = record v { kept = []; spent = [] }
after_call v (Raise new) = raise_result v new

-- The number of bytes in the buffer.
abbrev pub buffered_length : FramerValue → ℕ
buffered_length v = length v.kept + length v.spent

-- The number of bytes in the buffer exceeds `before` by at most the increase of the count, unless the count has
-- saturated.
abbrev pub CountsBufferedBytes : ℕ → FramerValue → FramerValue → Type 0
CountsBufferedBytes before v after =
    after.copied < 18446744073709551615 → buffered_length after + v.copied ≤ before + after.copied

-- The change by a chunk. The count grows by at most the bytes taken, and not at all for a frame that is whole in the
-- chunk. `honest` compares with the kept bytes alone, since a split frame is discarded.
pub record IsCountedNext (v : FramerValue) (piece : List ℕ) (after : FramerValue) : Type 0 where
  pub grows : v.copied ≤ after.copied
  pub most : after.copied ≤ v.copied + (framing_of v piece).taken
  pub whole : (frame : List ℕ) → v.kept ≡ [] → (framing_of v piece).finding ≡ AFrame frame → after.copied ≡ v.copied
  pub honest : CountsBufferedBytes (length v.kept) v after

-- The change by `unread`: a frame that was whole in its chunk adds its length less 1. A split frame, which is in the
-- buffer, adds nothing.
pub record IsCountedUnread (v : FramerValue) (piece : List ℕ) (after : FramerValue) : Type 0 where
  pub whole : v.spent ≡ [] → after.copied ≡ count_after v.copied (length piece - 1)
  pub split : v.spent ≢ [] → after.copied ≡ v.copied
  pub honest : CountsBufferedBytes (length v.spent) v after

-- The change of the count by a call.
abbrev pub IsCounted : FramerValue → FramerCall → FramerValue → Type 0
IsCounted v (Next piece) after = IsCountedNext v piece after
IsCounted v (Unread piece) after = IsCountedUnread v piece after
IsCounted v Clear after = after.copied ≡ v.copied
IsCounted v (Raise new) after = after.copied ≡ v.copied

-- Each of these calls, one after the other, changes the count as stated, if the preconditions hold.
unfoldable pub AreCounted : FramerValue → List FramerCall → Type 0
AreCounted v [] = Unit {0}
AreCounted v (call ∷ calls) =
    MayCall v call → IsCounted v call (after_call v call) × AreCounted (after_call v call) calls
