-- The frame that a take completed, and the request that it hands to the application.
use Rattle.std.proofs.Common.{◌≡◌, ℕ, true, List, [], ◌∷◌, ◌++◌, take, IfSome, refl, sym}
use Rattle.coap_wire.specs.StreamPrefix.{Whole}
use Rattle.coap_frame.specs.Framing.{split_frame}
use Rattle.coap_frame.proofs.GivenLaws.{frame_taken}
use Rattle.coap_server_session.specs.Prelude.{StreamPrefix, Faulty, Unfinished, prefix_kind, FramerValue, AFrame}
use Rattle.coap_server_session.specs.Prelude.{frame_back, framing_at, framing, framing_of, framer_after, LinkValue}
use Rattle.coap_server_session.specs.Prelude.{Inside, IsSession, session_value, completed, framer_on, session_takes}

back_split : (kept frame piece : List ℕ) → frame ≡ kept ++ piece → frame_back (split_frame kept frame) piece ≡ frame
back_split [] frame piece is = sym is
back_split (b ∷ kept) [] piece is = absurd cc
back_split (b ∷ kept) (f ∷ frame) piece is = refl

back_at : (kept piece frame : List ℕ) (b : StreamPrefix) (n : ℕ) → (framing_at kept piece b).finding ≡ AFrame frame
    → frame ≡ kept ++ take n piece → frame_back (framing_at kept piece b).spent (take n piece) ≡ frame
back_at kept piece frame Unfinished n e is = absurd cc
back_at kept piece frame (Whole found rest) n e is =
    let same : found ≡ frame = cc in
    rw same (back_split kept frame (take n piece) is)
back_at kept piece frame (Faulty fault) n e is = absurd cc

-- The frame that a take completed is the split one, or the accepted bytes. It is lent after any change of the link,
-- since only the bytes of an unfinished frame are removed.
pub completed_shown : {s : Inside} {frame : List ℕ} {f g : FramerValue} (piece : List ℕ) (l : LinkValue) → IsSession s
    → session_takes (session_value s) ≡ true → (framing_of s.framer piece).finding ≡ AFrame frame
    → f ≡ framer_after s.framer piece → g ≡ framer_on l f
    → IfSome (completed (session_value s) piece)
    (λ f. frame_back g.spent (take (framing_of s.framer piece).taken piece) ≡ f)
unfolding completed framing
completed_shown {s = s} {frame = frame} piece l is takes found f_is g_is =
    let v = s.framer in
    let bytes = frame_taken v.max v.kept piece frame is.framer.unfinished found in
    rw (takes, ← is.greatest, found, g_is, f_is)
    (back_at v.kept piece frame (prefix_kind v.max (v.kept ++ piece)) (framing_of v piece).taken found bytes)
