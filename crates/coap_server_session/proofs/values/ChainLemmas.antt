-- The chains lead from a change to exactly the observers that it affects.
use Rattle.std.proofs.Common.{◌≡◌, ℕ, suc, ◌+◌, ◌<◌, ◌≤◌, ◌==◌, true, false, List, [], ◌∷◌, ◌++◌, length, map, set}
use Rattle.std.proofs.Common.{get_or, Option, Some, None, is_some, inl, inr, refl, sym, ap, ◌∙◌, arith, slice_get}
use Rattle.std.proofs.Common.{slice_set, if◌then◌else◌, ◌&&◌, nat_le, Bool}
use Rattle.std.proofs.lemmas.Bool.{cases_lt}
use Rattle.std.proofs.lemmas.Grind.{common_steps}
use Rattle.std.proofs.lemmas.List.{length-map, length_push}
use Rattle.std.proofs.lemmas.Option.{gets, slice_get_read, slice_get-map}
use Rattle.std.proofs.lemmas.Map.Keys.{any_passes_from_place}
use Rattle.std.proofs.Math.Seq.{map-set_same}
use Rattle.coap_model.proofs.OptionLemmas.{there_at}
use Rattle.coap_server_session.specs.Prelude.{AllByRecursion, list_any, Cause, ServerState, ObserverValue, ObservesNone}
use Rattle.coap_server_session.specs.Prelude.{observes_hash, is_concerned, changed_mark, marks_anew, observer_value}
use Rattle.coap_server_session.specs.Prelude.{mark_in, IsTagged, AreFlagged, Chains, Linked, linked, concerns_path}
use Rattle.coap_server_session.specs.Prelude.{last_in, previous_in, next_index, IsLastBefore, AreChainedTo}
use Rattle.coap_server_session.specs.declared.observer.Observer.{Observer}
use Rattle.coap_server_session.proofs.values.EntryLemmas.{read_at}
use Rattle.coap_server_session.proofs.values.TagLemmas.{all_set}

-- ---- linked observers

-- A list that agrees before an index has the same last observer before it.
last_moved : {why : Cause} {n : ℕ} {os ps : List Linked} {last : Option ℕ} → IsLastBefore why n os last
    → ((k : ℕ) → k < n → slice_get ps k ≡ slice_get os k) → IsLastBefore why n ps last
last_moved is same = record {
  within = is.within;
  concerned = λ k o here at. grind (arith, is.within, is.concerned k o, same k);
  others = λ k o low high at. grind (arith, is.others k o, same k);
}

-- One more observer is linked.
one_chained : {n : ℕ} {before after : Chains} {os ps : List Linked} (o : Linked) → AreChainedTo n before os
    → slice_get ps n ≡ Some o → ((k : ℕ) → k < n → slice_get ps k ≡ slice_get os k)
    → ((why : Cause) → concerns_path why o.path ≡ true → previous_in why o ≡ last_in why before)
    → ((why : Cause) → last_in why after ≡ (if concerns_path why o.path then Some n else last_in why before))
    → AreChainedTo (suc n) after ps
one_chained {n = n} o all at same previous last = record {
  last = λ why.
      let is = last_moved (all.last why) same in
      record {
        within = grind (arith, last why, is.within);
        concerned = λ k p here there. grind (arith, last why, is.concerned k p);
        others = λ k p low high there. grind (arith, last why, is.others k p);
      };
  each = λ why k p low there is.
      elim (cases_lt k n) [
        | inl less ↦ last_moved (all.each why k p less (sym (same k less) ∙ there) is)
            (λ j lower. same j (omega (arith, lower, less)))
        | inr more ↦ (
            let index : n ≡ k = omega (arith, low, more) in
            let it : p ≡ o = cc in
            rw (← index, it, previous why (rw it at is)) (last_moved (all.last why) same))
      ];
}

-- ---- the loop that links observers

-- The observers before an index are linked, and nothing else has changed.
pub record IsChaining (n : ℕ) (chains : Chains) (old now : List Observer) : Type 0 where
  pub entries : map observer_value now ≡ map observer_value old
  pub marks : map mark_in now ≡ map mark_in old
  pub tagged : AllByRecursion IsTagged now
  pub chained : AreChainedTo n chains (map linked now)

pub one_more_chained : {n : ℕ} {before after : Chains} {old now : List Observer} {x y : Observer}
    → IsChaining n before old now → n < length now → x ≡ get_or now n x → observer_value y ≡ observer_value x
    → mark_in y ≡ mark_in x → IsTagged y
    → ((why : Cause) → concerns_path why x.path ≡ true → previous_in why (linked y) ≡ last_in why before)
    → ((why : Cause) → last_in why after ≡ (if concerns_path why x.path then Some n else last_in why before))
    → IsChaining (n + 1) after old (set now n y)
one_more_chained {n = n} {now = now} {x = x} {y = y} all within read value mark tag previous last =
    let path : y.path ≡ x.path = ap (λ (o : ObserverValue). o.path) value in
    let next : n + 1 ≡ suc n = omega arith in
    record {
      entries = map-set_same observer_value now n y x (cc) ∙ all.entries;
      marks = map-set_same mark_in now n y x (cc) ∙ all.marks;
      tagged = all_set IsTagged now n y all.tagged tag;
      chained = rw next (one_chained (linked y) all.chained
          (grind (arith, common_steps, gets, slice_get-map))
          (λ k less. grind (arith, common_steps, gets, slice_get-map))
          (λ why is. previous why (rw path at is)) (λ why. rw path (last why)));
    }

-- An observer is appended.
pub entered_chained : {before after : Chains} (xs : List Observer) (x y : Observer)
    → AreChainedTo (length xs) before (map linked xs) → observer_value y ≡ observer_value x
    → ((why : Cause) → concerns_path why x.path ≡ true → previous_in why (linked y) ≡ last_in why before)
    → ((why : Cause) → last_in why after ≡ (if concerns_path why x.path then Some (length xs) else last_in why before))
    → AreChainedTo (length (xs ++ y ∷ [])) after (map linked (xs ++ y ∷ []))
entered_chained xs x y all value previous last =
    let path : y.path ≡ x.path = ap (λ (o : ObserverValue). o.path) value in
    let many : length (xs ++ y ∷ []) ≡ suc (length xs) = omega (arith, length_push xs y) in
    rw many (one_chained (linked y) all
    (grind (arith, common_steps, gets, slice_get-map)) (λ k less. grind (arith, common_steps, gets, slice_get-map))
    (λ why is. previous why (rw path at is)) (λ why. rw path (last why)))

-- ---- search by chains

pub last_concerns : (why : Cause) (chains : Chains) (xs : List Observer)
    → AreChainedTo (length xs) chains (map linked xs)
    → is_some (last_in why chains) ≡ list_any (λ o. concerns_path why o.path) (map observer_value xs)
last_concerns why chains xs all = by (last_in why chains) (all.last why)
  where
    none_of : (ys : List Observer) → ((i : ℕ) (o : Linked) → i < length ys → slice_get (map linked ys) i ≡ Some o
        → concerns_path why o.path ≡ false) → list_any (λ o. concerns_path why o.path) (map observer_value ys) ≡ false
    none_of [] none = refl
    none_of (y ∷ ys) none = rw (
      none 0 (linked y) (omega arith) refl,
      none_of ys (λ i o low at. none (suc i) o (omega (arith, low)) at),
    ) refl

    by : (last : Option ℕ) → IsLastBefore why (length xs) (map linked xs) last
        → is_some last ≡ list_any (λ o. concerns_path why o.path) (map observer_value xs)
    by None is = sym (none_of xs (λ i o low at. is.others i o (omega arith) low at))
    by (Some k) is =
        let x = there_at xs k is.within in
        sym (any_passes_from_place (λ o. concerns_path why o.path) _ k (observer_value x.0)
        (rw (slice_get-map, x.1) refl) (is.concerned k (linked x.0) refl (rw (slice_get-map, x.1) refl)))

pub none_observes : (hash : ℕ) (os : List ObserverValue) → list_any (observes_hash hash) os ≡ false
    → ObservesNone hash os
none_observes hash [] none = tt
none_observes hash (o ∷ os) none = (λ same. grind arith, none_observes hash os (grind arith))

concerned_by_path : (why : Cause) (o : ObserverValue) → is_concerned why o ≡ concerns_path why o.path
concerned_by_path why o = grind arith

-- ---- the loop that recomputes the marks of a chain, from its last observer on

-- The marks of the observers after this one are recomputed, and nothing else has changed.
pub record IsMarkedFrom (at : Option ℕ) (why : Cause) (shared : ServerState) (old now : List Observer)
    (flags : List Bool) : Type 0 where
  pub entries : map observer_value now ≡ map observer_value old
  pub links : map linked now ≡ map linked old
  pub tagged : AllByRecursion IsTagged now
  pub marks : (k : ℕ) (x : Observer) → slice_get old k ≡ Some x → slice_get (map mark_in now) k
      ≡ Some (if nat_le (next_index at) k && concerns_path why x.path then changed_mark shared (observer_value x)
      else x.changed)
  pub flagged : AreFlagged flags (map mark_in now)
  pub within : next_index at ≤ length old
  pub concerned : (k : ℕ) (o : Linked) → at ≡ Some k → slice_get (map linked old) k ≡ Some o
      → concerns_path why o.path ≡ true

-- The loop begins with the last observer of the chain.
pub mark_first : {why : Cause} {shared : ServerState} {chains : Chains} {xs : List Observer} {flags : List Bool}
    {at : Option ℕ} → at ≡ last_in why chains → AreChainedTo (length xs) chains (map linked xs)
    → AllByRecursion IsTagged xs → AreFlagged flags (map mark_in xs) → IsMarkedFrom at why shared xs xs flags
mark_first {why = why} at_is all tagged flagged =
    let is = all.last why in
    rw at_is (record {
      entries = refl;
      links = refl;
      tagged = tagged;
      marks = λ k x at. grind (arith, gets, slice_get-map, is.others k (linked x));
      flagged = flagged;
      within = is.within;
      concerned = is.concerned;
    })

one_written : {X : Type 0} (xs : List X) (k j : ℕ) (y x : X) → slice_get xs j ≡ Some x
    → slice_get (set xs k y) j ≡ Some (if j == k then y else x)
one_written xs k j y x at = grind (arith, common_steps, gets)

-- One iteration recomputes one more mark.
pub mark_next : {k i j : ℕ} {next : Option ℕ} {why : Cause} {shared : ServerState} {chains : Chains}
    {old now after : List Observer} {before flags : List Bool} {mark : Option ℕ} (x : Observer)
    → AreChainedTo (length old) chains (map linked old) → IsMarkedFrom (Some k) why shared old now before → i ≡ k
    → x ≡ get_or now i x → mark ≡ changed_mark shared (observer_value x) → next ≡ previous_in why (linked x)
    → map observer_value after ≡ map observer_value now → map linked after ≡ map linked now
    → AllByRecursion IsTagged after → j ≡ k → map mark_in after ≡ slice_set (map mark_in now) j mark
    → AreFlagged flags (map mark_in after) → (next_index next ≤ k) × IsMarkedFrom next why shared old after flags
mark_next {k = k} {why = why} {old = old} {now = now} {mark = mark} x all so_far i_is read mark_is next_is entries links
    tagged j_is marks flagged =
    let many : length now ≡ length old =
    omega (arith, ap length so_far.entries, length-map old observer_value, length-map now observer_value) in
    let there : slice_get now k ≡ Some x =
    slice_get_read now (length now) k x refl (omega (arith, many, so_far.within)) (rw i_is at read) in
    let here : slice_get (map linked old) k ≡ Some (linked x) = rw (← so_far.links, slice_get-map, there) refl in
    let value : slice_get (map observer_value old) k ≡ Some (observer_value x) =
    rw (← so_far.entries, slice_get-map, there) refl in
    let concerned = so_far.concerned k (linked x) refl here in
    let is = all.each why k (linked x) so_far.within here concerned in
    rw next_is (
      is.within,
      record {
        entries = entries ∙ so_far.entries;
        links = links ∙ so_far.links;
        tagged = tagged;
        marks = λ n y at.
            let other = is.others n (linked y) in
            rw (marks, j_is, one_written (map mark_in now) k n mark _ (so_far.marks n y at))
            (grind (
              arith,
              is.within,
              concerned,
              mark_is,
              value,
              slice_get-map observer_value old n,
              slice_get-map linked old n,
            ));
        flagged = flagged;
        within = omega (arith, is.within, so_far.within);
        concerned = is.concerned;
      },
    )

-- At the end, all affected marks are recomputed.
all_anew : (why : Cause) (shared : ServerState) (old : List Observer) (marks : List (Option ℕ))
    → length marks ≡ length old
    → ((k : ℕ) (x : Observer) → slice_get old k ≡ Some x → slice_get marks k
    ≡ Some (if concerns_path why x.path then changed_mark shared (observer_value x) else x.changed))
    → marks ≡ marks_anew why shared (map observer_value old) (map mark_in old)
unfolding marks_anew
all_anew why shared [] [] many at = refl
all_anew why shared [] (m ∷ ms) many at = absurd (omega arith)
all_anew why shared (x ∷ xs) [] many at = absurd (omega arith)
all_anew why shared (x ∷ xs) (m ∷ ms) many at =
    let rest = all_anew why shared xs ms (omega arith) (λ k. at (suc k)) in
    cc (at 0 x refl, concerned_by_path why (observer_value x), rest)

pub all_marked : {why : Cause} {shared : ServerState} {old now : List Observer} {flags : List Bool}
    → IsMarkedFrom None why shared old now flags
    → map mark_in now ≡ marks_anew why shared (map observer_value old) (map mark_in old)
all_marked {why = why} {shared = shared} {old = old} {now = now} all =
    all_anew why shared old (map mark_in now) (omega (
      arith,
      length-map now mark_in,
      length-map now observer_value,
      ap length all.entries,
      length-map old observer_value,
    )) (λ k x at. grind (arith, all.marks k x at))

-- An entry that is read again has the same path as before.
pub same_path : (xs ys : List Observer) {i : ℕ} {x y : Observer} → map observer_value xs ≡ map observer_value ys
    → i < length xs → i < length ys → x ≡ get_or xs i x → y ≡ get_or ys i y → x.path ≡ y.path
same_path xs ys {i = i} {x = x} {y = y} same here there read written =
    let one : Some (observer_value x) ≡ Some (observer_value y) =
    rw (← read_at observer_value xs i x here read, ← read_at observer_value ys i y there written, same) refl in
    let values : observer_value x ≡ observer_value y = cc one in
    ap (λ (o : ObserverValue). o.path) values
