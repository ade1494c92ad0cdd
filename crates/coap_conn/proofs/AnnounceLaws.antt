-- The size of the largest message accepted changes only by announcements.
use Rattle.std.proofs.Common.{◌≡◌, ℕ, true, false, [], ◌∷◌, ◌++◌, refl, arith}
use Rattle.std.proofs.lemmas.Bool.{leb-true, and_parts}
use Rattle.coap_conn.specs.Prelude.{is_open, AllFit, fits, own_csm, Call, may_announce, announces, History, link_of}
use Rattle.coap_conn.specs.Prelude.{limit_now, after}
use Rattle.coap_conn.specs.Calls as call

-- No other call changes the size.
pub own_stays : (h : History) (c : Call) → announces c ≡ false → (after h c).own_max ≡ h.own_max
own_stays h (call.Announce size) other = absurd cc
own_stays h c other = grind arith

-- The CSM is queued, and the size applies at once.
pub announced_after : (h : History) (size : ℕ) → may_announce (link_of h) size ≡ true
    → after h (call.Announce size) ≡ record h { queued = h.queued ++ own_csm size ∷ []; own_max = size }
announced_after h size may = rw may refl

-- The CSM fits the peer's limit.
pub announcement_fits : (h : History) (size : ℕ) → may_announce (link_of h) size ≡ true
    → AllFit (limit_now h) (own_csm size ∷ [])
announcement_fits h size may =
    (leb-true _ _ (and_parts (is_open h.phase) (fits (limit_now h) (own_csm size)) may).1, tt)
