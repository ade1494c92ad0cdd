-- The changes of the count of copied bytes by the calls of a framer.
use Rattle.std.proofs.Common.{◌≡◌, ◌≢◌, ℕ, ◌+◌, ◌-◌, ◌≤◌, List, [], ◌∷◌, ◌++◌, length, refl, ap, arith}
use Rattle.std.proofs.lemmas.List.{length-append, length-take}
use Rattle.coap_frame.specs.Prelude.{StreamPrefix, Unfinished, Whole, Faulty, prefix_kind, FramerValue, IsFramer}
use Rattle.coap_frame.specs.Prelude.{AFrame, Framing, framing_at, framing, framing_of, copied_of, framer_after}
use Rattle.coap_frame.specs.Prelude.{without_last, frame_back, copied_back, with_frame_back, FramerCall, Next, Unread}
use Rattle.coap_frame.specs.Prelude.{Clear, Raise, MayCall, after_call, IsCountedNext, IsCountedUnread, IsCounted}
use Rattle.coap_frame.specs.Prelude.{AreCounted}
use Rattle.coap_wire.proofs.StreamSteps.{whole_parts}
use Rattle.coap_frame.proofs.RaiseLemmas.{raise_is_framer, raise_copied}
use Rattle.coap_frame.proofs.FramingLemmas.{empty_framer, framing_is_framer, unread_is_framer}

-- ---- a chunk

-- At most the bytes taken are copied.
copied_within : (kept : List ℕ) (f : Framing) → copied_of kept f ≤ f.taken
copied_within kept f = grind arith

-- No byte of a frame that is whole in the chunk is copied.
none_copied : (kept frame : List ℕ) (f : Framing) → kept ≡ [] → f.finding ≡ AFrame frame → copied_of kept f ≡ 0
none_copied kept frame f none found = grind arith

-- The bytes in the buffer were kept or are copied.
lies_at : (max : ℕ) (kept piece : List ℕ) (b : StreamPrefix) → prefix_kind max (kept ++ piece) ≡ b
    → length (framing_at kept piece b).kept + length (framing_at kept piece b).spent
    ≤ length kept + copied_of kept (framing_at kept piece b)
lies_at max [] piece Unfinished e = omega arith
lies_at max (b ∷ kept) piece Unfinished e = omega (arith, length-append (b ∷ kept) piece)
lies_at max [] piece (Whole frame rest) e = omega arith
lies_at max (b ∷ kept) piece (Whole frame rest) e =
    let bytes = (whole_parts max ((b ∷ kept) ++ piece) frame rest e).bytes in
    omega (arith, length-append (b ∷ kept) piece, ap length bytes, length-append frame rest)
lies_at max kept piece (Faulty fault) e = omega arith

lies_within : (max : ℕ) (kept piece : List ℕ)
    → length (framing max kept piece).kept + length (framing max kept piece).spent
    ≤ length kept + copied_of kept (framing max kept piece)
unfolding framing
lies_within max kept piece = lies_at max kept piece (prefix_kind max (kept ++ piece)) refl

next_counted : (v : FramerValue) (piece : List ℕ) → IsFramer v → IsCountedNext v piece (framer_after v piece)
next_counted v piece is =
    let f = framing_of v piece in
    let within = copied_within v.kept f in
    record {
      grows = omega (arith, is.countable);
      most = omega (arith, within);
      whole = λ frame none found. omega (arith, is.countable, none_copied v.kept frame f none found);
      honest = λ below. omega (arith, below, lies_within v.max v.kept piece);
    }

-- ---- a frame that is taken back

none_back : (spent piece : List ℕ) → spent ≢ [] → copied_back spent piece ≡ 0
none_back [] piece some = absurd (some refl)
none_back (b ∷ spent) piece some = refl

lies_back : (spent piece : List ℕ)
    → length (without_last (frame_back spent piece)) ≤ length spent + copied_back spent piece
lies_back [] piece = omega (arith, length-take (length piece - 1) piece)
lies_back (b ∷ spent) piece = omega (arith, length-take (length (b ∷ spent) - 1) (b ∷ spent))

unread_counted : (v : FramerValue) (piece : List ℕ) → IsFramer v → IsCountedUnread v piece (with_frame_back v piece)
unread_counted v piece is = record {
  whole = λ none. rw none refl;
  split = λ some. omega (arith, is.countable, none_back v.spent piece some);
  honest = λ below. omega (arith, below, lies_back v.spent piece);
}

-- ---- a list of calls

call_counted : (v : FramerValue) (call : FramerCall) → IsFramer v → IsCounted v call (after_call v call)
call_counted v (Next piece) is = next_counted v piece is
call_counted v (Unread piece) is = unread_counted v piece is
call_counted v Clear is = refl
call_counted v (Raise new) is = raise_copied v new

call_is_framer : (v : FramerValue) (call : FramerCall) → IsFramer v → MayCall v call → IsFramer (after_call v call)
call_is_framer v (Next piece) is may = framing_is_framer v piece is
call_is_framer v (Unread piece) is may = unread_is_framer v piece is may
call_is_framer v Clear is may = empty_framer v.max [] v.copied is.low is.high is.countable refl
call_is_framer v (Raise new) is may = raise_is_framer v new is

pub are_counted : (v : FramerValue) (calls : List FramerCall) → IsFramer v → AreCounted v calls
unfolding AreCounted
are_counted v [] is = tt
are_counted v (call ∷ calls) is =
    λ may. (call_counted v call is, are_counted (after_call v call) calls (call_is_framer v call is may))
