-- The framer and the link of a client treat an input slice as the definition `taking` says.
use Rattle.std.proofs.Common.{◌≡◌, ℕ, true, false, List, take, None, IfSome, refl, sym, ap, arith, ◌∙◌}
use Rattle.coap_client_engine.specs.Prelude.{FramerValue, IsFramer, Framing, FrameEventValue, framing, framing_of}
use Rattle.coap_client_engine.specs.Prelude.{framer_after, LimitValues, is_open, fits, limit_in, own_csm, sizes_of}
use Rattle.coap_client_engine.specs.Prelude.{link_after, raise_refusal, with_size, LinkValue, ClientValue, client_takes}
use Rattle.coap_client_engine.specs.Prelude.{taking_found, taking, completed, IsClient, taking_framed, Inside}
use Rattle.coap_client_engine.specs.Prelude.{frame_back}
use Rattle.coap_frame.proofs.FramingLemmas.{framing_is_framer}
use Rattle.coap_frame.proofs.RaiseLemmas.{raise_allowed, raised_is_framer}
use Rattle.coap_conn.specs.Calls as call
use Rattle.coap_client_engine.specs.EventViews.{client_value}
use Rattle.coap_client_engine.proofs.TakeLemmas.{found_is_back}

-- ---- the result of a slice

-- The client accepts the bytes that the framer accepts, and buffers those that the framer keeps.
pub framed_count : (v : FramerValue) (l : LinkValue) (piece : List ℕ)
    → (framing_of v piece).taken ≡ (taking_framed v l piece).count
framed_count v l piece = grind arith

kept_framed : (v : FramerValue) (l : LinkValue) (piece : List ℕ)
    → (framer_after v piece).kept ≡ (taking_framed v l piece).client.frame
unfolding framing
kept_framed v l piece = grind arith

-- A `take` keeps the limits, and the size of the largest message accepted.
pub sizes_found : (w : ClientValue) (f : Framing) (found : FrameEventValue)
    → sizes_of (taking_found w f found).client.link ≡ sizes_of w.link
sizes_found w f found = grind arith

pub taking_limits : (v : ClientValue) (piece : List ℕ) → (taking v piece).client.link.limits ≡ v.link.limits
unfolding taking
taking_limits v piece = grind (arith, sizes_found)

-- ---- the client

-- The invariant of a client is kept if the framer, the limits and the sizes keep theirs.
pub is_still : (i : Inside) (framer : FramerValue) (link : LinkValue) → IsClient i → framer.max ≡ i.framer.max
    → IsFramer framer → sizes_of link ≡ sizes_of i.link → IsClient (record { framer = framer; link = link })
is_still i framer link is same framed sizes =
    record {
      ranges = rw (ap (λ (both : LimitValues × ℕ). both.0) sizes) is.ranges;
      greatest = same ∙ is.greatest ∙ ap (λ (both : LimitValues × ℕ). both.1) (sym sizes);
      framer = framed;
    }

-- The invariant holds after a size was announced.
pub announced_is : (i : Inside) (size : ℕ) (f : FramerValue) (l : LinkValue) → IsClient i
    → is_open i.link.phase ≡ true → fits (limit_in i.link) (own_csm size) ≡ true
    → raise_refusal i.framer.max size ≡ None → f ≡ with_size i.framer size
    → l ≡ link_after i.link (call.Announce size) → IsClient (record { framer = f; link = l })
announced_is i size f l is opened fit allowed f_is l_is =
    let larger = raise_allowed i.framer.max size allowed in
    rw (l_is, opened, fit, f_is) (record {
      ranges = is.ranges;
      greatest = refl;
      framer = raised_is_framer i.framer size is.framer larger.0 larger.1;
    })

module _ (i : Inside) (v : ClientValue) (piece : List ℕ) (is : IsClient i) (view : client_value i ≡ v) where
  -- No byte is accepted.
  pub takes_none : client_takes v ≡ false → taking v piece ≡ record { count = 0; client = v; event = None }
  unfolding taking
  takes_none not = rw not

  -- No frame is completed.
  pub completes_none : client_takes v ≡ false → completed v piece ≡ None
  unfolding completed
  completes_none not = rw not

  -- The framer and the link accept the bytes.
  pub takes_framed : client_takes v ≡ true → taking v piece ≡ taking_framed i.framer i.link piece
  unfolding taking
  takes_framed does = rw (does, ← view, is.greatest)

  module _ (framer : FramerValue) (link : LinkValue) (framed : framer ≡ framer_after i.framer piece)
      (handled : link ≡ (taking_framed i.framer i.link piece).client.link) where
    -- The invariant of the client holds after the call.
    pub took_is : IsClient (record { framer = framer; link = link })
    took_is =
        is_still i framer link is (ap (λ (f : FramerValue). f.max) framed)
        (rw framed (framing_is_framer i.framer piece is.framer))
        (ap sizes_of handled ∙ sizes_found (record { frame = i.framer.kept; link = i.link })
        (framing_of i.framer piece) (framing_of i.framer piece).finding)

    -- The client is the one that the definition gives.
    pub took_client : client_takes v ≡ true → record { frame = framer.kept; link = link } ≡ (taking v piece).client
    took_client does =
        rw (takes_framed does, framed, handled)
        (ap (λ (k : List ℕ). record { frame = k; link = (taking_framed i.framer i.link piece).client.link })
        (kept_framed i.framer i.link piece))

    -- The frame that is lent is the one that the bytes complete.
    pub took_frame : (lent : List ℕ) (n : ℕ) → client_takes v ≡ true → n ≡ (framing_of i.framer piece).taken
        → lent ≡ frame_back framer.spent (take n piece) → IfSome (completed v piece) (λ frame. lent ≡ frame)
    unfolding completed
    took_frame lent n does count lent_is =
        rw (does, ← view, ← is.greatest, lent_is, framed, count)
        (found_is_back i.framer piece (framing_of i.framer piece).finding is.framer refl)
