-- The ghost steps of `ring::contiguous`: a mutable slice becomes a shared one, and the ring is unchanged at the end.
use Rattle.std.proofs.Common.{◌≡◌, ℕ, List, ◌∷◌, [], MutBor, w8, length, drop, ap, ◌∙◌, take_at}
use seplogic.Ra.Ura.{Ura}
use base.Fraction.{full_share}
use base.Fml.{Fml, Lft, Share, flft}
use base.Logic.{SProp, ent, sep, ex_i, via}
use mathlib.Core.Option.{none}
use mir.Syntax.{named, erased}
use mir.Val.{Val}
use types.Logic.{Logic, sem}
use types.Kit.{‵, ◌⊛◌, later, ◌$◌, ◌∵◌, !, qed, use2, split, fsplit, fjoin, feq_l, feq_i, await, updating, now}
use types.Kit.{done}
use borrow.Table.Owned as owned
use borrow.Rule.Slice.Handed.{sl_Share}
use denote.Builtin.{u8}
use denote.Copied.{uint_Copied}
use denote.Follow.{follows_so, such_by, follows_by}
use denote.FollowSlice.{followed_slice}
use denote.Plain.{uint_row_laws}
use denote.Ref.{as_bor}
use denote.Slice.{MutSlice, ShrSlice, finally, shr_slice_vals}
use Rattle.std.specs.Prelude.{⊤}
use Rattle.std.specs.List.{refill}
use Rattle.circular_buffer.specs.Buffer.{Buffer, buffer}
use Rattle.coap_conn.specs.Prelude.{ring_row, lends_bytes}

-- the ring has the same value after the loan
abbrev pub ends_unchanged : MutBor (Buffer ℕ) → Fml
ends_unchanged r = follows_so ring_row ring_row r.ghost_name none (λ _ _. ⊤) (λ b. b ≡ r.now)

module _ {M : Type 1} {𝓤 : Ura M} (𝓛 : Logic 𝓤) where
  open 𝓛 use {H, A}

  -- the shared slice, the last value of the mutable one, and the token of the lifetime
  abbrev SharedBytes : Lft → Share → MutBor (List ℕ) → List Val → SProp 𝓤
  SharedBytes κ q s vs =
      sep 𝓤 (sem 𝓛 ((ShrSlice (named 0) κ u8).own_val (as_bor s) vs))
      (sep 𝓤 (sem 𝓛 (finally u8 s.ghost_name s.now)) (A.lft κ q))

  -- a mutable slice that is not used again becomes a shared one for the rest of its lifetime
  pub shares_bytes : (κ : Lft) (q : Share) (s : MutBor (List ℕ)) (vs : List Val)
      → ent 𝓤 (sep 𝓤 (sem 𝓛 ((MutSlice (named 0) κ u8).own_val s vs)) (A.lft κ q)) (H.⇛ (SharedBytes κ q s vs))
  shares_bytes κ q s vs =
      let Shown = (owned.ShrSlice erased κ u8).own_val (as_bor s) in
      qed 𝓛 (‵ ((MutSlice (named 0) κ u8).own_val s vs) ∷ ‵ (flft κ q) ∷ []) ∵
      updating ! $ fsplit ! $ fsplit ! $ feq_l ! (λ e. fjoin ! $
      use2 𝓛 (later (‵ Shown ⊛ ‵ (finally u8 s.ghost_name s.now) ⊛ ‵ (flft κ q)))
      (sl_Share 𝓛 u8 s.ref_ptr.0 s.ref_ptr.1 s.ghost_name s.now (uint_row_laws w8) κ q
      ((uint_Copied 𝓛 w8).shares full_share κ)) $
      await ! tt $ split ! $ fsplit ! $ feq_i ! (List Val) vs (shr_slice_vals (as_bor s)) e $
      fjoin ! $ fjoin ! $ now ! $ done !)

  -- the last value v of the ring is the value before the loan
  ends_at_value : (r : MutBor (Buffer ℕ)) (v : Buffer ℕ) → v ≡ r.now
      → ent 𝓤 (A.res r.ghost_name (ring_row.coded.code v)) (sem 𝓛 (ends_unchanged r))
  unfolding such_by follows_by
  ends_at_value r v e =
      let D = Buffer ℕ in let c = ring_row.coded.code in
      let Last = (s : (D → D) × D) × (D → ⊤) × (s.1 ≡ r.now) in
      ex_i 𝓤 (λ (y : Last). sem 𝓛 (follows_by D D c c r.ghost_name none y.0.0 y.0.1)) (((λ w. w), v), (λ w. tt), e)

  -- the ring is unchanged if the last bytes of the slice are the bytes of the ring
  pub ends_with_bytes : (r : MutBor (Buffer ℕ)) (s : MutBor (List ℕ)) → s.now ≡ r.now.items
      → ent 𝓤 (sep 𝓤 (sem 𝓛 (lends_bytes r s)) (sem 𝓛 (finally u8 s.ghost_name s.now))) (sem 𝓛 (ends_unchanged r))
  ends_with_bytes r s same =
      let xs = r.now.items in let n = r.now.capacity in let ws = s.now in
      let F = λ (ys : List ℕ). buffer (refill (length xs) xs ys) n in
      let whole = take_at ws (drop (length ws) xs) (length xs) (ap length same) in
      via 𝓤 (A.res r.ghost_name (ring_row.coded.code (F ws)))
      (followed_slice 𝓛 ring_row u8 F r.ghost_name s.ghost_name ws)
      (ends_at_value r (F ws) (ap (λ (ys : List ℕ). buffer ys n) (whole ∙ same)))
