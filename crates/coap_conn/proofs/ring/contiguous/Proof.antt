-- A walk over the MIR of `contiguous`. `straighten` lends a mutable slice. The walk turns it into a shared one, so that
-- its bytes stay the same, and with them the ring.
use Rattle.std.proofs.Common.{◌≡◌, ℕ, List, [], ◌∷◌, refl, ap, length, MutBor}
use Rattle.std.proofs.raw_atomic.Walks.{proved}
use base.Logic.{id⊢}
use base.Fml.{ftrue, flft}
use mir.Syntax.{named}
use mir.Val.{Val}
use contract.Monad.{fact}
use contract.Running.{tables}
use types.Kit.{‵, raw, ◌⊛◌, some, later, ◌$◌, ◌∵◌, !, qed, move, drop, use1}
use types.Kit.{use2, split, fjoin, pick, await, rewrite, split3, join, suffices, frame, group, done}
use types.Run.{enter, addr, from, fld, hop, stop, no_more, and_then, returns}
use types.ByLocal.{alloc_all, pass_all, free_all, look_at, look_in_at, get, get_in, through, sets, lands_as}
use types.Part.{whole, sub, agg}
use denote.Builtin.{u8}
use denote.Exit.{no}
use denote.Laws.{shows}
use denote.Ref.{as_bor, mut_vals, mut_Tells}
use denote.Slice.{MutSlice, ShrSlice, slice_val, finally}
use denote.Signature.{plain, mut_ref_to}
use denote.Steps.{nothing, heard, only, peeks}
use denote.Triple.Call.{calls_at}
use denote.Triple.Clauses.{lasts}
use denote.Triple.Spec.{triple_of}
use denote.Triple.Table.{framed}
use denote.Triple.Walked.{Stays, says, stay_dropped, Goes-spent_ref, ends_at}
use Rattle.coap_conn.specs.Prelude.{ring_row, lends_bytes}
use Rattle.coap_conn.proofs.RingLemmas.{ends_unchanged, shares_bytes, ends_with_bytes}
use Rattle.coap_conn.specs.contracts.ring.contiguous as f
use Rattle.coap_conn.proofs.ring.contiguous.Statement.{statement}
use Rattle.coap_conn.proofs.ring.contiguous.Code as code
use Rattle.coap_conn.specs.contracts.ring.straighten as g
use Rattle.coap_conn.proofs.ring.straighten.Met.{met}

abbrev stayed : Stays f.ended.signature.params f.ended.kept
stayed = (stay_dropped (mut_ref_to (0 ∷ []) tt (plain (λ _. ring_row))) no, tt)

pub contiguous_spec : {M : Type 1} → statement M
contiguous_spec 𝓤 𝓛 𝓜 𝓡 wired =
    let c = f.clauses 𝓛 𝓜.mem 𝓡.returns in
    proved 𝓛 f.ended stayed c 𝓜 𝓡 (Goes-spent_ref 𝓛 1 (0 ∷ []) tt (plain (λ _. ring_row)), tt)
    f.Key.name code.function (code.unfolded 𝓤 𝓛.H 𝓜 𝓡 wired)
    (λ κs. (mut_vals, tt)) (λ κs. (mut_Tells (named 0) κs.0 ring_row, tt)) (λ κs qs bounds a _ are.
    let κ = κs.0 in let q = qs.0 in let r = a.0 in
    let G = triple_of 𝓛 g.signature (g.spec 𝓛 𝓜.mem 𝓡.returns) in
    let meets = met 𝓤 𝓛 𝓜 𝓡 (code.calls-coap_conn::ring::straighten 𝓡.env wired) in
    let Slice = λ (s : MutBor (List ℕ)) (vs : List Val). (MutSlice (named 0) κ u8).own_val s vs in
    let Shown = λ (s : MutBor (List ℕ)) (vs : List Val). (ShrSlice (named 0) κ u8).own_val (as_bor s) vs in
    let z : G.Ghost = ((κs, qs, bounds, a, (mut_vals r, tt)), tt) in
    qed 𝓛 (raw (G.pre z) ∷ []) ∵ enter ! _ _ _ _ _ $
    alloc_all ! (λ l. pass_all ! refl ((tt, tt), tt) $
    sets ! (addr ! (through ! refl (stop !))) refl (tt, tt) $
    calls_at ! (framed 𝓤 𝓛.H 𝓜 (tables 𝓤 𝓛.H 𝓜 𝓡 𝓡.env)) G meets z
    (and_then ! (get ! refl) (no_more !)) (λ v.
    use1 𝓛 (later (some (λ (s : MutBor (List ℕ)). ((‵ (flft κ q) ⊛ ‵ ftrue) ⊛ ‵ (Slice s (v ∷ []))) ⊛
    some (λ (ws : Unit {0} × Unit {0}). ‵ (lasts g.ended κs a ws) ⊛
    (‵ (lends_bytes r s) ⊛ raw (fact 𝓤 (s.now ≡ r.now.items))))))) (id⊢ 𝓤 _) $
    await ! tt $ pick ! (λ s. split ! $ split ! $ split ! $
    -- [the token; the end of the tokens; the slice; what the call ensures]
    move ! (3 ∷ []) $ pick ! (λ ws. split ! $ drop ! $ split ! $ move ! (1 ∷ []) $ heard ! _ (λ same.
    move ! (3 ∷ 1 ∷ []) $
    use2 𝓛 (later (‵ (Shown s (v ∷ [])) ⊛ ‵ (finally u8 s.ghost_name s.now) ⊛ ‵ (flft κ q)))
    (shares_bytes 𝓛 κ q s (v ∷ [])) $ await ! tt $ split3 ! $
    peeks ! (ShrSlice (named 0) κ u8) _ (shows 𝓛 (ShrSlice (named 0) κ u8)) (as_bor s) (v ∷ []) (λ is.
    rewrite ! 0 (λ (vs : List Val). ‵ (Shown s vs)) is.0.0 refl $
    lands_as ! (ap only is.0.0) refl (tt, (tt, (record { fits = is.0.1.0 }, tt))) $
    move ! (3 ∷ 1 ∷ []) $ use2 𝓛 (‵ (ends_unchanged r)) (ends_with_bytes 𝓛 r s same) $
    -- [the ring, unchanged; the shared slice; the token; the end of the tokens]
    sets ! (addr ! (from ! (fld ! refl (hop ! (look_in_at ! 2 (sub ! 0 refl (whole !))) (stop !))))) refl (tt, tt) $
    sets ! (agg ! (and_then ! (get ! refl)
    (and_then ! (get_in ! (fld ! refl (stop !)) (sub ! 1 refl (whole !))) (no_more !)))) refl
    (tt, (tt, (record { fits = is.0.1.0 }, tt))) $
    returns ! (look_at ! 0 refl) $ free_all ! refl $
    move ! (2 ∷ 3 ∷ []) $ join ! $ nothing ! $ nothing ! $ fjoin ! $ move ! (1 ∷ 0 ∷ 3 ∷ []) $
    suffices ! _ (ends_at 𝓛 f.ended stayed c z (slice_val s.ref_ptr (length s.now)) (as_bor s) (tt, tt) (tt, tt)) $
    group ! 3 $ frame ! $ says ! same $ done !)))))))
