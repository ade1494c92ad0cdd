-- `place_of` takes the address and the length of a slice.
use Rattle.std.proofs.Common.{◌≡◌, ℕ, ◌<◌, ◌^◌, List, [], ◌∷◌, length, refl, w64}
use seplogic.Ra.Ura.{Ura}
use mir.Syntax.{named}
use mir.Val.{Val, vint, vptr, vstruct, vcons, vnil}
use base.Logic.{emp}
use base.Fml.{ftrue, flft}
use types.Logic.{Logic}
use types.Kit.{Item, Goal, Step, step, ‵, raw, ◌⊛◌, ◌$◌, ◌∵◌, !, qed, by, keep, fjoin, fpack, feq_i, split, use0}
use types.Run.{stop, fld, hop, from, addr, of_opd, no_more, and_then, returns, enter}
use types.ByLocal.{alloc_all, pass_all, free_all, look_at, look_in_at, get, get_in, sets}
use types.Part.{agg, sub, whole}
use contract.Monad.{fact, fact_i}
use contract.Running.{tables}
use denote.Exit.{yes}
use denote.RattleType.{Valss, owns}
use denote.Builtin.{RawPtr, u8, usize}
use denote.Laws.{Is}
use denote.Plain.{uint_Makes}
use denote.RawPtr.{block_ptr}
use denote.Signature.{types_at, plain, shr_slice_of}
use denote.Slice.{slice_val, shr_slice_vals, shr_slice_Tells}
use denote.Steps.{nothing, owned}
use denote.Struct.Declared.{shape}
use denote.Struct.Struct.{within}
use denote.Triple.Walked.{Stays, stay_dropped, Goes-dropped, walk_of}
use Rattle.std.proofs.raw_atomic.Walks.{proved, leaves}
use Rattle.c_handle.specs.contracts.places.Place as made
use Rattle.c_handle.specs.contracts.places.place_of as f
use Rattle.c_handle.proofs.places.place_of.Statement.{statement}
use Rattle.c_handle.proofs.places.place_of.Code as code

abbrev place_val : ℕ → ℕ → ℕ → Val
place_val b o n = vstruct (vcons (vptr b o) (vcons (vint w64 n) vnil))

module _ {M : Type 1} {𝓤 : Ura M} {𝓛 : Logic 𝓤} {K : Type 0} {Γ : List (Item 𝓤)} {G : Goal 𝓤 𝓛.H} where
  place_in : K → (b o n : ℕ) → n < 2 ^ 64
      → Step K 𝓛 (‵ (made.the_row.own_val (record { at = block_ptr b o; count = n }) (place_val b o n ∷ [])) ∷ Γ) G Γ G
  place_in t b o n fits = step (λ s. let v : Val = place_val b o n in
      nothing t $ owned t usize (Is usize) (uint_Makes 𝓛 w64) n (vint w64 n ∷ []) (refl, fits) $ fjoin t
      $ feq_i t (List Val) (vptr b o ∷ []) (vptr b o ∷ []) refl $ fjoin t $
      feq_i t (List Val) (v ∷ []) (v ∷ []) refl $ fjoin t $ fpack t (Valss (RawPtr ∷ usize ∷ []))
      (within (shape made.the_type) (block_ptr b o, (n, tt)) (v ∷ [])) (vptr b o ∷ [], (vint w64 n ∷ [], tt)) $ s)

abbrev stayed : Stays f.ended.signature.params f.ended.kept
stayed = (stay_dropped (shr_slice_of (0 ∷ []) tt (plain (λ _. u8))) yes, tt)

pub place_of_spec : {M : Type 1} → statement M
place_of_spec 𝓤 𝓛 𝓜 𝓡 wired =
    let H = 𝓛.H in let 𝓣 = tables 𝓤 H 𝓜 𝓡 𝓡.env in let En = f.ended in let c = f.clauses 𝓛 𝓜.mem 𝓡.returns in
    proved 𝓛 En stayed c 𝓜 𝓡 (Goes-dropped 𝓛 1 (shr_slice_of (0 ∷ []) tt (plain (λ _. u8))) yes (λ κs x w. refl), tt)
    f.Key.name code.function (code.unfolded 𝓤 H 𝓜 𝓡 wired)
    (λ κs. (shr_slice_vals, tt)) (λ κs. (shr_slice_Tells (named 0) κs.0 u8, tt)) (λ κs qs bounds a g are.
    let b = a.0.ref_ptr.0 in
    let o = a.0.ref_ptr.1 in
    let n = length a.0.now in
    let fits : n < 2 ^ 64 = are.0.0.1.0 in
    let place : made.the_row.Denot = record { at = block_ptr b o; count = n } in
    let z : (walk_of 𝓛 En stayed c).Ghost = ((κs, qs, bounds, a, (shr_slice_vals a.0, tt)), g) in
    let Post : Val → _ = (walk_of 𝓛 En stayed c).post z in
    qed 𝓛 (((‵ (flft κs.0 qs.0) ⊛ ‵ ftrue) ⊛ ‵ (owns (types_at En.signature.params κs) a (shr_slice_vals a.0, tt)))
    ∷ raw ((c κs a).requires g) ∷ []) ∵ split ! $
    enter ! 𝓣.C 𝓣.Λ code.function (slice_val (b, o) n ∷ []) Post
    $ alloc_all ! (λ l. pass_all ! refl ((tt, (tt, (record { fits = fits }, tt))), tt) $
    sets ! (addr ! (from ! (fld ! refl (hop ! (look_in_at ! 1 (sub ! 0 refl (whole !))) (stop !))))) refl (tt, tt) $
    sets ! (of_opd ! (get_in ! (fld ! refl (stop !)) (sub ! 1 refl (whole !)))) refl (tt, record { fits = fits }) $
    sets ! (agg ! (and_then ! (get ! refl) (and_then ! (get ! refl) (no_more !)))) refl
    (tt, (tt, (record { fits = fits }, tt))) $
    place_in ! b o n fits $ use0 𝓛 (raw (fact 𝓤 (place ≡ place))) (fact_i 𝓤 (place ≡ place) (emp 𝓤) refl)
    $ nothing ! $ nothing ! $ fjoin ! $
    returns ! (look_at ! 0 refl) $ free_all ! refl $ keep ! (3 ∷ 0 ∷ 2 ∷ 1 ∷ [])
    $ by ! (leaves 𝓛 En stayed c z (place_val b o n) (record { at = block_ptr b o; count = n }) (tt, tt) (tt, tt))))
