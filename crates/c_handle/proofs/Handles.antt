-- The proofs of the functions of handles, over any type of handles. Assumes `Logic`.
use Rattle.std.proofs.Common.{◌≡◌, ℕ, List, [], ◌∷◌, ◌++◌, refl, ap, ◌∙◌, map, lit<}
use lib.Dec.{T}
use seplogic.Ra.Ura.{Ura}
use mir.Syntax.{Sym, Callee, Ty, Body, Opd, Rv, Fn, w8, w64, ty_ptr, ty_bool, ty_struct, tcons, tnil, local}
use mir.Syntax.{value_local, place, field, copy, int, rv_opd, op2, ptr_eq, aggregate, assign, cond, seq, return}
use mir.Val.{Val, vptr, vcons, vnil}
use base.Logic.{SProp, emp, id⊢}
use base.Fml.{ftrue}
use prog.Model.{Model}
use prog.Wp.{WpFn, Closed}
use types.Logic.{Logic}
use types.Kit.{Goal, ‵, raw, ◌⊛◌, at_ret, prop, ◌$◌, ◌∵◌, !, qed, done, keep, move, split, fsplit, fjoin, suffices}
use types.Kit.{regoal, rewrite, use0, use1}
use types.Run.{stop, fld, lit, of_opd, bin, no_more, and_then, first, branches, exec, returns, enter}
use types.ByLocal.{alloc_all, pass_all, free_all, look_at, get, get_in, sets, sets_last, env}
use types.Part.{agg, sub, whole}
use types.Match.{live}
use contract.Lifetimes.{Lfts}
use contract.Monad.{fact}
use contract.Running.{Running, MachineTables, tables}
use denote.Exit.{Last, left, yes}
use denote.Param.{layout}
use denote.Param.Mute.{blank}
use denote.RattleType.{RattleType, owns}
use denote.RawPtr.{Ptr, block_ptr, null_ptr, tests_null}
use denote.Signature.{Signature, plain}
use denote.Steps.{nothing}
use denote.Triple.Clauses.{Ended, Clauses, closing}
use denote.Triple.Entry.{Args, Res}
use denote.Triple.Spec.{Meets}
use denote.Triple.Walked.{Stays, stay_dropped, walk_of, says, ends_at}
use Rattle.std.specs.Option.{MatchOption}
use Rattle.std.specs.declared.option.Option.{Option}
use Rattle.std.specs.declared.option.Option.TheVariants.{None, Some}
use Rattle.std.specs.contracts.alloc.Global.{the_row as Z}
use Rattle.std.specs.contracts.impls.GlobalAllocator.TheImpl.{ghosts}
use Rattle.std.specs.contracts.option.Option as option
use Rattle.std.proofs.alloc.Calls.{Goes-blank, handle_tells}
use Rattle.std.proofs.alloc.Global.TheLaws.{the_row_laws}
use Rattle.std.proofs.alloc.Shapes.{after}
use Rattle.std.proofs.cell.Inside.{Good}
use Rattle.std.proofs.option.Made.{Some-of, none_of}
use Rattle.std.proofs.raw_atomic.Walks.{proved_at}
use Rattle.std_alloc.proofs.ResultValues.{and_tt}
use Rattle.std_alloc.specs.Box.Ownership.{box_owns}
use Rattle.c_handle.specs.Slots.{slot_owns}
use Rattle.c_handle.proofs.Slots.{handle_val, handle_good, handle_owns, handle_in, handle_out, pointer_good, slot_out}
use Rattle.c_handle.proofs.Values.{both, Parts, al, parts_good, parts_in, parts_out}

-- A type of handles: the name of its struct, the row of the values that handles hold, and its own row.
pub record Handle : Type 1 where
  pub name : Sym
  pub held : RattleType
  pub row : RattleType
  pub at : row.Denot → Ptr
  pub value : row.Denot → Option held.Denot
  pub make : Ptr → Option held.Denot → row.Denot
  pub value_is : (p : Ptr) (x : Option held.Denot) → value (make p x) ≡ x
  pub owns_made : (p : Ptr) (x : Option held.Denot) (vs : List Val)
      → handle_owns p vs (slot_owns held p x) ≡ row.own_val (make p x) vs
  pub owns_slot : (d : row.Denot) (vs : List Val)
      → row.own_val d vs ≡ handle_owns (at d) vs (slot_owns held (at d) (value d))
  pub last : (d : row.Denot) → Last (row.exit yes) d
  pub used_up : (d : row.Denot) (w : Last (row.exit yes) d) → T (blank (left (row.exit yes) d w))

-- ---- the code

abbrev given : ℕ → Opd
given i = copy (place i [])

abbrev address : Opd
address = copy (place 1 (field 0 ∷ []))

abbrev put : ℕ → Rv → Body
put i v = assign (place i []) v

abbrev then_return : List Body → Body
then_return [] = return
then_return (b ∷ bs) = seq b (then_return bs)

abbrev function : ℕ → List Ty → List Body → Fn
function n types body = record {
  lifetimes = 0;
  outlives = [];
  ty_params = [];
  givens = 0;
  params = n;
  locals = map (λ t. local t value_local) types;
  body = then_return body;
}

abbrev parts : Handle → RattleType
parts A = Parts A.held Z the_row_laws ghosts

abbrev handle : Handle → Ty
handle A = ty_struct A.name (tcons ty_ptr tnil)

abbrev empty_code : Handle → Fn
empty_code A = function 0 (handle A ∷ []) (put 0 (aggregate (int w64 0 ∷ [])) ∷ [])

abbrev of_code : Handle → Fn
of_code A =
    function 1 (handle A ∷ layout (parts A) ∷ ty_ptr ∷ ty_ptr ∷ [])
    (put 2 (rv_opd address) ∷ put 3 (rv_opd (given 2)) ∷ put 0 (aggregate (given 3 ∷ [])) ∷ [])

abbrev into_parts_code : Handle → Fn
into_parts_code A =
    let maybe = layout (option.the_row (parts A)) in
    function 2 (maybe ∷ handle A ∷ layout Z ∷ ty_ptr ∷ ty_bool ∷ maybe ∷ ty_ptr ∷ layout (parts A) ∷ [])
    (put 3 (rv_opd address) ∷ put 4 (op2 ptr_eq (given 3) (int w64 0)) ∷ cond (given 4)
    (put 5 (aggregate (int w8 0 ∷ [])))
    (seq (put 6 (rv_opd (given 3))) (seq (put 7 (aggregate (given 6 ∷ given 2 ∷ [])))
    (put 5 (aggregate (int w8 1 ∷ given 7 ∷ []))))) ∷ put 0 (rv_opd (given 5)) ∷ [])

-- ---- the proofs

abbrev signature : List RattleType → RattleType → Signature
signature params result = record {
  lifetimes = 0;
  outlives = [];
  params = map (λ R. plain (λ _. R)) params;
  result = plain (λ _. result);
}

module _ (A : Handle) {M : Type 1} (𝓤 : Ura M) (𝓛 : Logic 𝓤) (𝓜 : Model 𝓤 𝓛.H) (𝓡 : Running 𝓤 𝓛.H 𝓜) where
  open A use {held, row, at, value, make}

  abbrev 𝓣 : MachineTables 𝓤 𝓛.H 𝓜
  𝓣 = tables 𝓤 𝓛.H 𝓜 𝓡 𝓡.env

  abbrev P : RattleType
  P = parts A

  abbrev Out : RattleType
  Out = option.the_row P

  abbrev Runs : Fn → (Val → SProp 𝓤) → List Val → Goal 𝓤 𝓛.H
  Runs fn Post vs = prop (WpFn 𝓤 𝓛.H 𝓣.C 𝓣.Λ fn vs Post)

  abbrev Proved : Callee → (En : Ended) → Clauses 𝓤 En → Fn → Type 2
  Proved key En c fn = Closed 𝓤 𝓛.H 𝓣.C 𝓣.Λ key fn → Meets 𝓛 En.signature (𝓣.C key) (closing 𝓛 En c)

  -- A function that requires nothing, and ensures a fact about its result.
  abbrev ensuring : (En : Ended)
      → ((κs : Lfts En.signature.lifetimes) → Args En.signature κs → Res En.signature κs → Type 0) → Clauses 𝓤 En
  ensuring En F κs args = record {
    ghost = Unit {0};
    requires = λ g. emp 𝓤;
    ensures = λ g r e. fact 𝓤 (F κs args r);
  }

  abbrev empty_ends : Ended
  empty_ends = record { signature = signature [] row; kept = tt }

  abbrev empty_clauses : Clauses 𝓤 empty_ends
  empty_clauses = ensuring empty_ends (λ κs args r. value r ≡ None)

  -- `empty` makes a null handle.
  pub empty_meets : {key : Callee} → Proved key empty_ends empty_clauses (empty_code A)
  empty_meets {key = key} closed = proved_at 𝓛 empty_ends tt empty_clauses 𝓜 𝓡 tt key (empty_code A) closed (λ z are.
      qed 𝓛 ((‵ ftrue ⊛ ‵ (owns [] z.0.3 z.0.4)) ∷ raw (emp 𝓤) ∷ []) ∵ split ! $ enter ! _ _ _ _ _
      $ alloc_all ! (λ l. pass_all ! refl tt $
      sets ! (agg ! (and_then ! (lit ! tt) (no_more !))) refl (tt, (record { fits = lit< tt }, tt)) $
      nothing ! $ handle_in ! null_ptr ftrue $ rewrite ! 0 ‵ (A.owns_made null_ptr None _) refl $ nothing ! $
      returns ! (look_at ! 0 refl) $ free_all ! refl $
      suffices ! _ (ends_at 𝓛 empty_ends tt empty_clauses z (handle_val null_ptr) (make null_ptr None) tt tt)
      $ says ! (A.value_is null_ptr None) $ keep ! (2 ∷ 0 ∷ 1 ∷ []) $ done !))

  abbrev of_ends : Ended
  of_ends = record { signature = signature (P ∷ []) row; kept = (yes, tt) }

  abbrev of_clauses : Clauses 𝓤 of_ends
  of_clauses = ensuring of_ends (λ κs args r. value r ≡ Some args.0.value)

  -- `of` keeps the address of a box that was taken apart.
  pub of_meets : {key : Callee} → Proved key of_ends of_clauses (of_code A)
  of_meets {key = key} closed =
      let En = of_ends in let c = of_clauses in
      let hs : Stays En.signature.params En.kept = (stay_dropped _ _, tt) in
      proved_at 𝓛 En hs c 𝓜 𝓡 (Goes-blank 𝓛 0 (plain (λ _. P)) yes (λ κs x w. tt), tt) key (of_code A) closed (λ z are.
      let d = z.0.3.0 in
      qed 𝓛 ((‵ ftrue ⊛ ‵ (owns (P ∷ []) z.0.3 z.0.4)) ∷ raw (emp 𝓤) ∷ []) ∵ split ! $ move ! (1 ∷ []) $ fsplit ! $
      parts_out held Z the_row_laws ghosts ! d z.0.4.0 (λ b o h e ws fits. let p = block_ptr b o in
      regoal ! (Runs (of_code A) ((walk_of 𝓛 En hs c).post z)) (λ i. ws i ++ []) refl $
      enter ! _ _ _ _ _ $ alloc_all ! (λ l. pass_all ! refl (parts_good held Z the_row_laws ghosts b o h fits, tt) $
      sets ! (of_opd ! (get_in ! (fld ! refl (stop !)) (sub ! 0 refl (whole !)))) refl (tt, tt)
      $ sets ! (of_opd ! (get ! refl)) refl (tt, tt)
      $ sets ! (agg ! (and_then ! (get ! refl) (no_more !))) refl (tt, (tt, tt)) $
      use1 𝓛 (‵ (slot_owns held p (Some d.value))) (id⊢ 𝓤 _) $ handle_in ! p (slot_owns held p (Some d.value)) $
      rewrite ! 0 ‵ (A.owns_made p (Some d.value) _) refl $ nothing ! $ nothing ! $ fjoin ! $
      returns ! (look_at ! 0 refl) $ free_all ! refl $
      suffices ! _ (ends_at 𝓛 En hs c z (handle_val p) (make p (Some d.value)) (tt, tt) (tt, tt))
      $ says ! (A.value_is p (Some d.value)) $ keep ! (4 ∷ 0 ∷ 1 ∷ []) $ done !)))

  abbrev into_parts_ends : Ended
  into_parts_ends = record { signature = signature (row ∷ Z ∷ []) Out; kept = (yes, (yes, tt)) }

  abbrev into_parts_clauses : Clauses 𝓤 into_parts_ends
  into_parts_clauses = ensuring into_parts_ends (λ κs args r. MatchOption r (value args.0 ≡ None)
      (λ parts. value args.0 ≡ Some parts.value))

  -- `into_parts` tests the address of a handle, and gives the parts of the box there.
  pub into_parts_meets : {key : Callee} → Proved key into_parts_ends into_parts_clauses (into_parts_code A)
  into_parts_meets {key = key} closed =
      let En = into_parts_ends in let c = into_parts_clauses in let fn = into_parts_code A in
      let hs : Stays En.signature.params En.kept =
      (stay_dropped _ _, (stay_dropped _ _, tt)) in
      proved_at 𝓛 En hs c 𝓜 𝓡 (
        Goes-blank 𝓛 0 (plain (λ _. row)) yes (λ κs. A.used_up),
        (Goes-blank 𝓛 0 (plain (λ _. Z)) yes (λ κs x w. tt), tt),
      ) key fn closed (λ z are.
      let d = z.0.3.0 in
      let a = z.0.3.1.0 in
      let Post : Val → SProp 𝓤 = (walk_of 𝓛 En hs c).post z in
      qed 𝓛 ((‵ ftrue ⊛ ‵ (owns (row ∷ Z ∷ []) z.0.3 z.0.4)) ∷ raw (emp 𝓤) ∷ [])
      ∵ split ! $ move ! (1 ∷ []) $ fsplit ! $ move ! (1 ∷ []) $ fsplit ! $
      -- [the allocator; no more; the handle]
      handle_tells (al held Z the_row_laws ghosts) ! a z.0.4.1.0 (λ h ea fits. move ! (2 ∷ []) $
      rewrite ! 0 ‵ (A.owns_slot d _) refl $ handle_out ! (at d) (slot_owns held (at d) (value d)) z.0.4.0 (λ ev.
      -- [the slot; the allocator; no more]
      let passed : (p : Ptr) → at d ≡ p → z.0.4.0 ++ (z.0.4.1.0 ++ []) ≡ handle_val p ∷ h ∷ [] =
      λ p is i. (ev ∙ ap (λ (q : Ptr). handle_val q ∷ []) is) i ++ (ea i ++ []) in
      slot_out held ! a (at d) (value d)
      (λ is isnt. let none_good : Good (layout Out) (live 0 vnil) = (tt, (record { fits = lit< tt }, tt)) in
      regoal ! (Runs fn Post) (passed null_ptr is) refl $ enter ! _ _ _ _ _
      $ alloc_all ! (λ l. pass_all ! refl (handle_good null_ptr, (fits, tt)) $ let Ev = env fn.locals l in
      sets ! (of_opd ! (get_in ! (fld ! refl (stop !)) (sub ! 0 refl (whole !)))) refl (pointer_good null_ptr)
      $ sets ! (bin ! (get ! refl) (lit ! tt) tt) refl (tt, tt) $ first ! $ branches ! (get ! refl)
      (λ _. sets_last ! (agg ! (and_then ! (lit ! tt) (no_more !))) refl none_good
      $ exec ! 𝓣.C 𝓣.Λ Ev (after 3 fn.body) (at_ret Ev Post) $ sets ! (of_opd ! (get ! refl)) refl none_good $
      use0 𝓛 (‵ (Out.own_val None (live 0 vnil ∷ []))) (none_of 𝓛 P)
      $ nothing ! $ nothing ! $ fjoin ! $ nothing ! $ fjoin ! $ returns ! (look_at ! 0 refl) $ free_all ! refl $
      suffices ! _ (ends_at 𝓛 En hs c z (live 0 vnil) None (A.last d, (tt, tt)) (tt, (tt, tt)))
      $ says ! isnt $ keep ! (4 ∷ 0 ∷ 1 ∷ []) $ done !) (λ wrong. absurd wrong)))
      (λ b o x is has ok. let p = block_ptr b o in let made : Val = both (vptr b o) h in
      let typed = parts_good held Z the_row_laws ghosts b o h fits in let v₁ : Val = live 1 (vcons made vnil) in
      let parts : P.Denot = record { at = p; alloc = a; value = x } in
      let good : Good (layout Out) v₁ = (and_tt _ typed.0, (record { fits = lit< tt }, (typed.1, tt))) in
      regoal ! (Runs fn Post) (passed p is) refl $ enter ! _ _ _ _ _
      $ alloc_all ! (λ l. pass_all ! refl (handle_good p, (fits, tt)) $ let Ev = env fn.locals l in
      sets ! (of_opd ! (get_in ! (fld ! refl (stop !)) (sub ! 0 refl (whole !)))) refl (tt, tt)
      $ sets ! (bin ! (get ! refl) (lit ! tt) (tests_null p ok)) refl (tt, tt) $ first !
      $ branches ! (get ! refl) (λ wrong. absurd wrong) (λ _. sets ! (of_opd ! (get ! refl)) refl (tt, tt)
      $ sets ! (agg ! (and_then ! (get ! refl) (and_then ! (get ! refl) (no_more !)))) refl typed
      $ sets_last ! (agg ! (and_then ! (lit ! tt) (and_then ! (get ! refl) (no_more !)))) refl good $
      exec ! 𝓣.C 𝓣.Λ Ev (after 3 fn.body) (at_ret Ev Post) $ sets ! (of_opd ! (get ! refl)) refl good
      $ use1 𝓛 (‵ (box_owns (ghosts.dealloc_token a) held p x)) (id⊢ 𝓤 _)
      $ parts_in held Z the_row_laws ghosts ! b o h a x
      $ use1 𝓛 (‵ (Out.own_val (Some parts) (v₁ ∷ []))) (Some-of 𝓛 P parts made)
      $ nothing ! $ nothing ! $ fjoin ! $ nothing ! $ fjoin ! $ returns ! (look_at ! 0 refl) $ free_all ! refl $
      suffices ! _ (ends_at 𝓛 En hs c z v₁ (Some parts) (A.last d, (tt, tt)) (tt, (tt, tt)))
      $ says ! has $ keep ! (3 ∷ 0 ∷ 1 ∷ []) $ done !))))))
