-- `span_with` makes a span, and says which bytes it was made for.
use Rattle.std.proofs.Common.{◌≡◌, ℕ, ◌<◌, ◌^◌, List, [], ◌∷◌, length, refl, w64}
use mathlib.Core.Bool.{true, ◌&&◌}
use lib.Dec.{T}
use seplogic.Ra.Ura.{Ura}
use mir.Syntax.{named, ty_ptr}
use mir.Val.{Val, vint, vstruct, vcons, vnil, has_ty, WT}
use base.Logic.{emp}
use base.Fml.{ftrue, flft}
use types.Logic.{Logic}
use types.Kit.{Item, Goal, Step, step, ‵, raw, ◌⊛◌, ◌$◌, ◌∵◌, !, qed, by, keep, fjoin, fpack, feq_i, split, use0}
use types.Run.{no_more, and_then, returns, enter}
use types.ByLocal.{alloc_all, pass_all, free_all, look_at, get, sets}
use types.Part.{agg}
use contract.Monad.{fact, fact_i}
use contract.Running.{tables}
use denote.Exit.{yes}
use denote.RattleType.{Valss, owns}
use denote.Builtin.{RawPtr, u8, usize}
use denote.Laws.{Is}
use denote.Plain.{uint_Makes, uint_vals, uint_Tells}
use denote.RawPtr.{Ptr, ptr_val, rawptr_vals, rawptr_Tells}
use denote.Signature.{types_at, plain, shr_slice_of}
use denote.Slice.{slice_val, shr_slice_vals, shr_slice_Tells}
use denote.Steps.{nothing, owned}
use denote.Struct.Owning.{shape}
use denote.Struct.Struct.{within}
use denote.Triple.Walked.{Stays, stay_dropped, Goes-dropped, walk_of}
use Rattle.std.proofs.raw_atomic.Walks.{proved, leaves}
use Rattle.std_alloc.proofs.ResultValues.{and_tt}
use Rattle.c_handle.proofs.Slots.{pointer_good}
use Rattle.c_handle.specs.contracts.span.Span as made
use Rattle.c_handle.specs.contracts.places.span_with as f
use Rattle.c_handle.proofs.places.span_with.Statement.{statement}
use Rattle.c_handle.proofs.places.span_with.Code as code

abbrev span_val : Ptr → ℕ → Val
span_val p n = vstruct (vcons (ptr_val p) (vcons (vint w64 n) vnil))

span_good : (p : Ptr) (n : ℕ) → n < 2 ^ 64 → T (has_ty ty_ptr (ptr_val p) && true) × WT (span_val p n)
span_good p n fits =
    (and_tt (has_ty ty_ptr (ptr_val p)) (pointer_good p).0, ((pointer_good p).1, (record { fits = fits }, tt)))

module _ {M : Type 1} {𝓤 : Ura M} {𝓛 : Logic 𝓤} {K : Type 0} {Γ : List (Item 𝓤)} {G : Goal 𝓤 𝓛.H} where
  span_in : K → (p : Ptr) (n : ℕ) (xs : List ℕ) → n < 2 ^ 64
      → Step K 𝓛 (‵ (made.the_row.own_val (record { at = p; count = n; bytes = xs }) (span_val p n ∷ [])) ∷ Γ) G Γ G
  span_in t p n xs fits = step (λ s. let v : Val = span_val p n in
      nothing t $ nothing t $ owned t usize (Is usize) (uint_Makes 𝓛 w64) n (vint w64 n ∷ []) (refl, fits) $ fjoin t
      $ feq_i t (List Val) (ptr_val p ∷ []) (ptr_val p ∷ []) refl $ fjoin t $
      feq_i t (List Val) (v ∷ []) (v ∷ []) refl $ fjoin t $ fpack t (Valss (RawPtr ∷ usize ∷ []))
      (within (shape made.the_type) (p, (n, tt)) (v ∷ [])) (ptr_val p ∷ [], (vint w64 n ∷ [], tt)) $ fjoin t $ s)

abbrev stayed : Stays f.ended.signature.params f.ended.kept
stayed = (
  stay_dropped (plain (λ _. RawPtr)) yes,
  (stay_dropped (plain (λ _. usize)) yes, (stay_dropped (shr_slice_of (0 ∷ []) tt (plain (λ _. u8))) yes, tt)),
)

pub span_with_spec : {M : Type 1} → statement M
span_with_spec 𝓤 𝓛 𝓜 𝓡 wired =
    let H = 𝓛.H in let 𝓣 = tables 𝓤 H 𝓜 𝓡 𝓡.env in let En = f.ended in let c = f.clauses 𝓛 𝓜.mem 𝓡.returns in
    proved 𝓛 En stayed c 𝓜 𝓡 (
      Goes-dropped 𝓛 1 (plain (λ _. RawPtr)) yes (λ κs x w. refl),
      (
        Goes-dropped 𝓛 1 (plain (λ _. usize)) yes (λ κs x w. refl),
        (Goes-dropped 𝓛 1 (shr_slice_of (0 ∷ []) tt (plain (λ _. u8))) yes (λ κs x w. refl), tt),
      ),
    ) f.Key.name code.function (code.unfolded 𝓤 H 𝓜 𝓡 wired)
    (λ κs. (rawptr_vals, (uint_vals w64, (shr_slice_vals, tt))))
    (λ κs. (rawptr_Tells, (uint_Tells w64, (shr_slice_Tells (named 0) κs.0 u8, tt)))) (λ κs qs bounds a g are.
    let p = a.0 in
    let n = a.1.0 in
    let s = a.1.1.0 in
    let fits : n < 2 ^ 64 = are.1.0.1 in
    let long : length s.now < 2 ^ 64 = are.1.1.0.0.1.0 in
    let span : made.the_row.Denot = record { at = p; count = n; bytes = s.now } in
    let z : (walk_of 𝓛 En stayed c).Ghost =
    ((κs, qs, bounds, a, (rawptr_vals p, (uint_vals w64 n, (shr_slice_vals s, tt)))), g) in
    let Post : Val → _ = (walk_of 𝓛 En stayed c).post z in
    qed 𝓛 (((‵ (flft κs.0 qs.0) ⊛ ‵ ftrue)
    ⊛ ‵ (owns (types_at En.signature.params κs) a (rawptr_vals p, (uint_vals w64 n, (shr_slice_vals s, tt)))))
    ∷ raw ((c κs a).requires g) ∷ []) ∵ split ! $
    enter ! 𝓣.C 𝓣.Λ code.function
    (ptr_val p ∷ vint w64 n ∷ slice_val (s.ref_ptr.0, s.ref_ptr.1) (length s.now) ∷ []) Post
    $ alloc_all ! (λ l.
    pass_all ! refl (pointer_good p, ((tt, record { fits = fits }), ((tt, (tt, (record { fits = long }, tt))), tt))) $
    sets ! (agg ! (and_then ! (get ! refl) (and_then ! (get ! refl) (no_more !)))) refl (span_good p n fits) $
    span_in ! p n s.now fits $ use0 𝓛 (raw (fact 𝓤 (span ≡ span))) (fact_i 𝓤 (span ≡ span) (emp 𝓤) refl)
    $ nothing ! $ nothing ! $ fjoin ! $ nothing ! $ fjoin ! $ nothing ! $ fjoin ! $
    returns ! (look_at ! 0 refl) $ free_all ! refl $ keep ! (3 ∷ 0 ∷ 2 ∷ 1 ∷ [])
    $ by ! (leaves 𝓛 En stayed c z (span_val p n) span (tt, (tt, (tt, tt))) (tt, (tt, (tt, tt))))))
