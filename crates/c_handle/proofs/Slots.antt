-- Steps of the proofs about handles. Assumes `Logic`.
use Rattle.std.proofs.Common.{◌≡◌, ℕ, List, [], ◌∷◌, ◌++◌, refl, subst, lit<}
use mathlib.Core.Bool.{true, ◌&&◌}
use lib.Dec.{T}
use seplogic.Ra.Ura.{Ura}
use mir.Raw.{raw as bare}
use mir.Syntax.{ty_ptr}
use mir.Val.{Val, vstruct, vcons, vnil, of_list, has_ty, WT}
use base.Logic.{SProp, ent, guard, via, snd∗, guard_i}
use base.Fml.{Fml, feq, fsep, fex}
use base.Fraction.{full_share}
use types.Logic.{Logic, sem}
use types.Kit.{Item, Goal, Seq, Step, step, ‵, given, ◌$◌, drop, fsplit, fjoin, fpick, fpack, feq_i, feq_l, use1, learn}
use contract.Monad.{fact_use}
use denote.RattleType.{RattleType, Valss, flat, owns}
use denote.Builtin.{RawPtr}
use denote.Memory.{lone}
use denote.RawPtr.{Ptr, block_ptr, null_ptr, ptr_val, lies_at, Testable}
use denote.Steps.{nothing}
use Rattle.std.specs.declared.alloc.Global.{Global}
use Rattle.std.specs.declared.option.Option.{Option}
use Rattle.std.specs.declared.option.Option.TheVariants.{None, Some}
use Rattle.std.specs.contracts.impls.GlobalAllocator.TheImpl.{ghosts}
use Rattle.std.proofs.GlobalToken.{dealloc_token-Testable}
use Rattle.std_alloc.proofs.ResultValues.{and_tt}
use Rattle.std_alloc.specs.Box.Ownership.{box_owns}
use Rattle.libc.specs.Heap.{chunk}
use Rattle.c_handle.specs.Slots.{slot_owns}

-- The machine value of a handle.
abbrev pub handle_val : Ptr → Val
handle_val p = vstruct (vcons (ptr_val p) vnil)

-- A pointer has the type of its layout.
pub pointer_good : (p : Ptr) → T (has_ty ty_ptr (ptr_val p)) × WT (ptr_val p)
pointer_good (block_ptr b o) = (tt, tt)
pointer_good null_ptr = (tt, record { fits = lit< tt })

-- So has a handle.
pub handle_good : (p : Ptr) → T (has_ty ty_ptr (ptr_val p) && true) × WT (handle_val p)
handle_good p = (and_tt (has_ty ty_ptr (ptr_val p)) (pointer_good p).0, ((pointer_good p).1, tt))

-- The address of a box can be compared with null.
pub tested : {M : Type 1} {𝓤 : Ura M} (𝓛 : Logic 𝓤) (R : RattleType) (a : Global) (p : Ptr) (x : R.Denot)
    → ent 𝓤 (sem 𝓛 (box_owns chunk R p x)) (guard 𝓤 (Testable p) (sem 𝓛 (box_owns chunk R p x)))
tested {𝓤 = 𝓤} 𝓛 R a p x =
    let B : SProp 𝓤 = sem 𝓛 (box_owns chunk R p x) in
    fact_use 𝓤 (Testable p)
    (via 𝓤 _ (snd∗ 𝓤 (sem 𝓛 (lies_at R full_share p x)) (sem 𝓛 (ghosts.dealloc_token a (bare (lone R.mir)) p)))
    (dealloc_token-Testable 𝓛 a (bare (lone R.mir)) p)) (guard_i 𝓤 (Testable p) B)

-- The two cases of a handle: null without a value, or a box.
module _ (R : RattleType) {M : Type 1} {𝓤 : Ura M} {𝓛 : Logic 𝓤} {K : Type 0} {Γ : List (Item 𝓤)} {G : Goal 𝓤 𝓛.H} where
  pub slot_out : K → Global → (p : Ptr) (v : Option R.Denot) → (p ≡ null_ptr → v ≡ None → Seq K 𝓛 Γ G)
      → ((b o : ℕ) (x : R.Denot) → p ≡ block_ptr b o → v ≡ Some x → Testable (block_ptr b o)
      → Seq K 𝓛 (‵ (box_owns chunk R (block_ptr b o) x) ∷ Γ) G)
      → Seq K 𝓛 (‵ (slot_owns R p v) ∷ Γ) G
  slot_out t a null_ptr None none one = drop t $ none refl refl
  slot_out t a null_ptr (Some x) none one = fpick t (λ wrong. absurd wrong)
  slot_out t a (block_ptr b o) None none one = fpick t (λ wrong. absurd wrong)
  slot_out t a (block_ptr b o) (Some x) none one =
      use1 𝓛 (given (Testable (block_ptr b o)) (‵ (box_owns chunk R (block_ptr b o) x)))
      (tested 𝓛 R a (block_ptr b o) x) $ learn t (λ ok. one b o x refl refl ok)

-- The formula under the ∃ of a handle: its one field has the machine values `vss`.
abbrev handle_within : Ptr → List Val → Valss (RawPtr ∷ []) → Fml
handle_within at vs vss =
    fsep (feq (List Val) vs (vstruct (of_list (flat (RawPtr ∷ []) vss)) ∷ [])) (owns (RawPtr ∷ []) (at, tt) vss)

-- A handle with this address and these machine values, which owns `owned`: `own_val` of each type of handles.
abbrev pub handle_owns : Ptr → List Val → Fml → Fml
handle_owns at vs owned = fsep (fex (Valss (RawPtr ∷ [])) (handle_within at vs)) owned

module _ {M : Type 1} {𝓤 : Ura M} {𝓛 : Logic 𝓤} {K : Type 0} {Γ : List (Item 𝓤)} {G : Goal 𝓤 𝓛.H} where
  -- A handle is made of its address and of what it owns.
  pub handle_in : K → (at : Ptr) (owned : Fml)
      → Step K 𝓛 (‵ (handle_owns at (handle_val at ∷ []) owned) ∷ Γ) G (‵ owned ∷ Γ) G
  handle_in t at owned = step (λ s. let v : Val = handle_val at in
      nothing t $ feq_i t (List Val) (ptr_val at ∷ []) (ptr_val at ∷ []) refl $ fjoin t
      $ feq_i t (List Val) (v ∷ []) (v ∷ []) refl $ fjoin t $
      fpack t (Valss (RawPtr ∷ [])) (handle_within at (v ∷ [])) (ptr_val at ∷ [], tt) $ fjoin t $ s)

  -- A handle is taken apart into its address and what it owns.
  pub handle_out : K → (at : Ptr) (owned : Fml) (vs : List Val) → (vs ≡ handle_val at ∷ [] → Seq K 𝓛 (‵ owned ∷ Γ) G)
      → Seq K 𝓛 (‵ (handle_owns at vs owned) ∷ Γ) G
  handle_out t at owned vs k =
      fsplit t $ fpick t (λ vss. fsplit t $ feq_l t (λ ev. fsplit t $ feq_l t (λ ep. drop t $ k
      (subst (λ (ps : List Val). vs ≡ vstruct (of_list (ps ++ [])) ∷ []) ep ev))))
