-- The event of a `take`: the token of a response is that of its message, and the frame is found again for its second
-- parse.
use Rattle.std.proofs.Common.{◌≡◌, ℕ, Bool, cond, List, [], ◌∷◌, ◌++◌, take, Option, Some, None, IfSome, refl, sym}
use Rattle.std.proofs.Common.{arith}
use Rattle.coap_client_engine.specs.Prelude.{Message, StreamPrefix, Whole, prefix_kind, FramerValue, IsFramer, AFrame}
use Rattle.coap_client_engine.specs.Prelude.{FrameEventValue, found_frame, split_frame, framing_at, framing, framing_of}
use Rattle.coap_client_engine.specs.Prelude.{framer_after, frame_back}
use Rattle.coap_client_engine.specs.Prelude.{ConnectionState, live_reaction, react, VerdictValue, Reaction, Reason}
use Rattle.coap_client_engine.specs.Prelude.{reports, aborts, csm_reaction, bad_csm_option, ping_reaction}
use Rattle.coap_client_engine.specs.Prelude.{release_reaction, pong_reaction, request_reaction, response_reaction}
use Rattle.coap_frame.proofs.GivenLaws.{frame_taken}
use Rattle.coap_conn.specs.Verdicts as verdict

-- ---- the token of the event

-- The token in a verdict.
abbrev token_in : VerdictValue → Option (List ℕ)
token_in (verdict.Answer token last) = Some token
token_in (verdict.Pong token custody) = Some token
token_in other = None

module _ (s : ConnectionState) (m : Message) where
  -- A property of each reaction to a message that is accepted.
  live_so : (P : Reaction → Type 0)
      → ((does : Bool) (one other : Reaction) → P one → P other → P (cond does one other))
      → P (reports s verdict.Done) → ((why : Reason) → P (aborts s why)) → P (csm_reaction s (bad_csm_option m))
      → P (ping_reaction s m) → P (release_reaction s) → P (pong_reaction s m) → P (request_reaction s m s.role)
      → P (response_reaction s m) → P (live_reaction s m)
  unfolding live_reaction
  live_so P either done stops csm ping release pong request response = search depth 15

  -- The token in the verdict is that of the message.
  abbrev IsOf : Reaction → Type 0
  IsOf r = (token : List ℕ) → token_in r.verdict ≡ Some token → m.token ≡ token

  of_live : IsOf (live_reaction s m)
  of_live =
      live_so IsOf (λ does one other is isnt token e. grind (arith, is token, isnt token)) (λ token e. absurd cc)
      (λ why token e. absurd cc) (λ token e. grind arith) (λ token e. grind arith) (λ token e. absurd cc)
      (λ token e. grind arith) (λ token e. grind arith) (λ token e. grind arith)

  verdict_token : (token : List ℕ) → token_in (react s m).verdict ≡ Some token → m.token ≡ token
  unfolding react
  verdict_token token e = grind (arith, of_live token)

pub answer_token : (s : ConnectionState) (m : Message) (token : List ℕ) (last : Bool)
    → verdict.Answer token last ≡ (react s m).verdict → m.token ≡ token
answer_token s m token last is = verdict_token s m token (rw (← is))

pub pong_token : (s : ConnectionState) (m : Message) (token : List ℕ) (custody : Bool)
    → verdict.Pong token custody ≡ (react s m).verdict → m.token ≡ token
pong_token s m token custody is = verdict_token s m token (rw (← is))

-- ---- the frame of the message

back_split : (kept frame piece : List ℕ) → frame ≡ kept ++ piece → frame_back (split_frame kept frame) piece ≡ frame
back_split [] frame piece is = sym is
back_split (b ∷ kept) [] piece is = absurd cc
back_split (b ∷ kept) (f ∷ frame) piece is = refl

back_at : (kept piece frame : List ℕ) (b : StreamPrefix) (n : ℕ) → (framing_at kept piece b).finding ≡ AFrame frame
    → frame ≡ kept ++ take n piece → frame_back (framing_at kept piece b).spent (take n piece) ≡ frame
back_at kept piece frame (Whole found rest) n e is =
    let same : found ≡ frame = cc in
    rw same (back_split kept frame (take n piece) is)
back_at kept piece frame b n e is = absurd cc

-- The frame is the split one, or the accepted bytes.
pub frame_is_back : (v : FramerValue) (piece frame : List ℕ) → IsFramer v → (framing_of v piece).finding ≡ AFrame frame
    → frame_back (framer_after v piece).spent (take (framing_of v piece).taken piece) ≡ frame
unfolding framing
frame_is_back v piece frame is e =
    back_at v.kept piece frame (prefix_kind v.max (v.kept ++ piece)) (framing_of v piece).taken e
    (frame_taken v.max v.kept piece frame is.unfinished e)

-- The same, if a frame was found.
pub found_is_back : (v : FramerValue) (piece : List ℕ) (found : FrameEventValue) → IsFramer v
    → (framing_of v piece).finding ≡ found
    → IfSome (found_frame found)
    (λ frame. frame_back (framer_after v piece).spent (take (framing_of v piece).taken piece) ≡ frame)
found_is_back v piece (AFrame frame) is e = frame_is_back v piece frame is e
found_is_back v piece found is e = tt
