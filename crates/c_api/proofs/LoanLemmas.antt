-- A frame that has no other bytes than those of an input slice is the accepted bytes.
use Rattle.std.proofs.Common.{◌≡◌, ℕ, ◌-◌, ◌≤◌, Bool, true, false, List, [], ◌∷◌, ◌++◌, length, take, Option, Some}
use Rattle.std.proofs.Common.{None, inl, inr, Result, Ok, Err, refl, ap, ◌∙◌, arith}
use Rattle.std.specs.Prelude.{if◌then◌else◌}
use Rattle.std.proofs.lemmas.Bool.{cases_Bool}
use Rattle.std.proofs.lemmas.List.{length-append, take_at}
use Rattle.coap_server_engine.specs.Prelude.{Message, message_of, FormatFault, Reason, changes, ServerState}
use Rattle.coap_server_engine.specs.Prelude.{SessionValue, session_takes, taking, taking_read, taking_found, handed}
use Rattle.coap_server_engine.specs.Prelude.{handed_found, handed_read, is_handed_over, completed, found_frame}
use Rattle.coap_server_engine.specs.Prelude.{ServerValue, session_of, count_on, count_taken, handed_on, handed_frame}
use Rattle.coap_server_engine.specs.Prelude.{changing_on, changing_frame}
use Rattle.coap_wire.proofs.StreamSteps.{whole_parts}
use Rattle.coap_frame.specs.Framing.{FrameEventValue, Nothing, AFrame, AFault, Framing, framing, framing_at}
use Rattle.coap_frame.proofs.FrontLaws.{frame_first}
use Rattle.coap_server_session.specs.values.Sessions.{session_max}
use Rattle.c_api.specs.Loans.{IsInPiece}

-- ---- a frame of the framer

-- No byte is kept before a frame that has no more bytes than were accepted.
alone_kept : (kept piece frame rest : List ℕ) → kept ++ piece ≡ frame ++ rest → 2 ≤ length frame
    → length frame ≡ length piece - length rest → take (length frame) piece ≡ frame
alone_kept [] piece frame rest is some count = rw is (take_at frame rest _ refl)
alone_kept (b ∷ kept) piece frame rest is some count =
    absurd (omega (arith, count, some, ap length is, length-append (b ∷ kept) piece, length-append frame rest))

found_alone : (M : ℕ) (kept piece frame : List ℕ) → (framing M kept piece).finding ≡ AFrame frame
    → length frame ≡ (framing M kept piece).taken → take (framing M kept piece).taken piece ≡ frame
unfolding framing
found_alone M kept piece frame is count =
    let first = frame_first M kept piece frame is in
    let cut = whole_parts M (kept ++ piece) frame first.0 first.1 in
    rw (← count)
    (alone_kept kept piece frame first.0 cut.bytes cut.some (count ∙ ap (λ b. (framing_at kept piece b).taken) first.1))

-- ---- a connection

abbrev IsWhole : List ℕ → ℕ → List ℕ → Type 0
IsWhole piece n frame = length frame ≡ n → take n piece ≡ frame

keeps_in : (piece : List ℕ) (n : ℕ) (t : Bool) (frame : Option (List ℕ)) → IsInPiece piece n frame
    → IsInPiece piece n (if t then frame else None)
unfolding IsInPiece
keeps_in piece n true frame is = is
keeps_in piece n false frame is = tt

-- The frame that is complete, and the one that is handed to the application.
abbrev AreIn : List ℕ → ℕ → (complete handed : Option (List ℕ)) → Type 0
AreIn piece n complete handed = IsInPiece piece n complete × IsInPiece piece n handed

module _ (shared : ServerState) (v : SessionValue) (piece : List ℕ) where
  read_in : (count : ℕ) (frame : List ℕ) (read : Result Message FormatFault) → IsWhole piece count frame
      → AreIn piece (taking_read shared v count read).count (Some frame) (handed_read shared v frame read)
  unfolding IsInPiece
  read_in count frame (Ok m) whole = (whole, keeps_in piece count (is_handed_over shared v.link m) (Some frame) whole)
  read_in count frame (Err e) whole = (whole, tt)

  found_in : (f : Framing) (e : FrameEventValue) → ((frame : List ℕ) → e ≡ AFrame frame → IsWhole piece f.taken frame)
      → AreIn piece (taking_found shared v f e).count (found_frame e) (handed_found shared v e)
  unfolding IsInPiece
  found_in f Nothing whole = (tt, tt)
  found_in f (AFault fault) whole = (tt, tt)
  found_in f (AFrame frame) whole = read_in f.taken frame (message_of frame) (whole frame refl)

  taking_in : AreIn piece (taking shared v piece).count (completed v piece) (handed shared v piece)
  unfolding taking completed handed IsInPiece
  taking_in = elim (cases_Bool (session_takes v)) [
    | inl takes ↦ rw takes (found_in (framing (session_max v) v.frame piece) _ (found_alone _ v.frame piece))
    | inr stopped ↦ rw stopped (tt, tt)
  ]

-- ---- the server

handed_in : (v : ServerValue) (piece : List ℕ) (s : Option SessionValue) (stop : Option Reason)
    → IsInPiece piece (count_on v piece s) (handed_on v piece s stop)
unfolding IsInPiece
handed_in v piece None stop = tt
handed_in v piece (Some s) None = (taking_in v.shared s piece).1
handed_in v piece (Some s) (Some why) = tt

changing_in : (v : ServerValue) (piece : List ℕ) (s : Option SessionValue)
    → IsInPiece piece (count_on v piece s) (changing_on v piece s)
unfolding IsInPiece
changing_in v piece None = tt
changing_in v piece (Some s) =
    keeps_in piece _ (changes (taking v.shared s piece).change) (completed s piece) (taking_in v.shared s piece).0

-- The frames that a `take` lends.
pub handed_lies : (v : ServerValue) (id : ℕ) (piece : List ℕ) (n : ℕ) (frame : Option (List ℕ))
    → n ≡ count_taken v id piece → frame ≡ handed_frame v id piece → IsInPiece piece n frame
unfolding count_taken handed_frame
handed_lies v id piece n frame count is = rw (count, is) (handed_in v piece (session_of id v.sessions) _)

pub changing_lies : (v : ServerValue) (id : ℕ) (piece : List ℕ) (n : ℕ) (frame : Option (List ℕ))
    → n ≡ count_taken v id piece → frame ≡ changing_frame v id piece → IsInPiece piece n frame
unfolding count_taken changing_frame
changing_lies v id piece n frame count is = rw (count, is) (changing_in v piece (session_of id v.sessions))

pub ruleset frames_lie = (handed_lies, changing_lies)
