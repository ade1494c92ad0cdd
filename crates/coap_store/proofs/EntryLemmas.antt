-- The entries of a listing, and its text after a change of an entry.
use Rattle.std.proofs.Common.{◌≡◌, ℕ, zero, suc, ◌+◌, ◌-◌, ◌<◌, ◌≤◌, List, [], ◌∷◌, ◌++◌, length, take, drop, map}
use Rattle.std.proofs.Common.{get_or, set, refl, sym, append_assoc, length-append, arith}
use Rattle.std.proofs.Math.Seq.{take-append_seam, drop-append_seam, take-append-add, drop-append-add}
use Rattle.std.proofs.Math.Nat.{zero-add, add_assoc}
use Rattle.std.proofs.lemmas.List.{append-nil, take-append-drop, take-append-le, length-take, length-drop, length-map}
use Rattle.std.proofs.lemmas.List.{nil_from_length, map_push, map-set, get_or-map}
use Rattle.std.proofs.lemmas.List.Sums.{sum_by-cons, sum_by_more_le}
use Rattle.coap_store.specs.Prelude.{joined, split_by, with_end, remove, sum}
use Rattle.std.proofs.lemmas.Grind.{common_steps}

sum_cons : (n : ℕ) (ns : List ℕ) → sum (n ∷ ns) ≡ n + sum ns
sum_cons n ns = sum_by-cons (λ (k : ℕ). k) n ns

-- The lengths and the bytes determine the entries.
pub split_joined : (es : List (List ℕ)) → split_by (map length es) (joined es) ≡ es
unfolding joined split_by
split_joined [] = refl
split_joined (e ∷ es) = rw (take-append_seam, drop-append_seam, split_joined es)

pub joined_split : (ns bs : List ℕ) → sum ns ≡ length bs → joined (split_by ns bs) ≡ bs
unfolding joined split_by
joined_split [] bs whole = sym (nil_from_length bs (sym whole))
joined_split (n ∷ ns) bs whole =
    rw (joined_split ns (drop n bs) (omega (arith, sum_cons n ns, length-drop n bs))) (take-append-drop n bs)

pub lengths_split : (ns bs : List ℕ) → sum ns ≡ length bs → map length (split_by ns bs) ≡ ns
unfolding split_by
lengths_split [] bs whole = refl
lengths_split (n ∷ ns) bs whole = grind (arith, length-take, sum_cons, length-drop, lengths_split ns)

-- ---- the text after a change

pub joined_push : (es : List (List ℕ)) (e : List ℕ) → joined (es ++ e ∷ []) ≡ joined es ++ e
unfolding joined
joined_push [] e = append-nil e
joined_push (f ∷ es) e = rw (joined_push es e, append_assoc)

-- The sum of the lengths of the entries before one of them.
abbrev pub place : List (List ℕ) → ℕ → ℕ
place es i = sum (take i (map length es))

pub joined_ended : (es : List (List ℕ)) (i count : ℕ) (end : List ℕ) → i < length es → count ≤ length (get_or es i [])
    → joined (set es i (with_end (get_or es i []) count end))
    ≡ take (place es i + length (get_or es i []) - count) (joined es)
    ++ (end ++ drop (place es i + length (get_or es i [])) (joined es))
unfolding joined
joined_ended [] i count end within le = absurd (omega arith)
joined_ended (e ∷ es) zero count end within le =
    rw (zero-add, take-append-le (length e - count) e (joined es) (omega arith), drop-append_seam, append_assoc)
joined_ended (e ∷ es) (suc i) count end within le =
    let n = length (get_or es i []) in
    let gap : length e + place es i + n - count ≡ length e + (place es i + n - count) = omega (arith, le) in
    rw (
      sum_cons,
      gap,
      add_assoc,
      take-append-add,
      drop-append-add,
      joined_ended es i count end (omega arith) le,
      append_assoc,
    )

pub joined_removed : (es : List (List ℕ)) (i : ℕ) → i < length es
    → joined (remove es i) ≡ take (place es i) (joined es) ++ drop (place es i + length (get_or es i [])) (joined es)
unfolding joined
joined_removed [] i within = absurd (omega arith)
joined_removed (e ∷ es) zero within = rw (zero-add, drop-append_seam)
joined_removed (e ∷ es) (suc i) within =
    rw (sum_cons, add_assoc, take-append-add, drop-append-add, joined_removed es i (omega arith), append_assoc)

-- ---- the numbers and the bytes of a listing

map_removed : (es : List (List ℕ)) (i : ℕ) → i < length es → remove (map length es) i ≡ map length (remove es i)
map_removed [] i within = absurd (omega arith)
map_removed (e ∷ es) zero within = refl
map_removed (e ∷ es) (suc i) within = rw (map_removed es i (omega arith))

-- A property of the lengths and the bytes of all entries holds of these ones.
by_entries : (P : List ℕ → List ℕ → List (List ℕ) → Type 0)
    → ((es : List (List ℕ)) → P (map length es) (joined es) es)
    → (ns bs : List ℕ) → sum ns ≡ length bs → P ns bs (split_by ns bs)
by_entries P each ns bs whole =
    rw (lengths_split ns bs whole, joined_split ns bs whole) at (each (split_by ns bs))

pub counted : (ns bs : List ℕ) → length (split_by ns bs) ≡ length ns
unfolding split_by
counted [] bs = refl
counted (n ∷ ns) bs = rw (counted ns (drop n bs))

pub length_at : (ns bs : List ℕ) (i d : ℕ) → sum ns ≡ length bs → i < length ns
    → length (get_or (split_by ns bs) i []) ≡ get_or ns i d
length_at ns bs i d whole = by_entries (λ ns bs es. i < length ns → length (get_or es i []) ≡ get_or ns i d)
    (λ es within. grind (arith, get_or-map, length-map)) ns bs whole

pub place_within : (ns : List ℕ) (i : ℕ) → i < length ns → sum (take i ns) + get_or ns i 0 ≤ sum ns
place_within ns i within = sum_by_more_le (λ k. k) ns i 0 within

pub appended : (ns bs e : List ℕ) → sum ns ≡ length bs
    → split_by (ns ++ length e ∷ []) (bs ++ e) ≡ split_by ns bs ++ e ∷ []
appended ns bs e = by_entries (λ ns bs es. split_by (ns ++ length e ∷ []) (bs ++ e) ≡ es ++ e ∷ [])
    (λ es. rw (← map_push length es e, ← joined_push es e) (split_joined (es ++ e ∷ []))) ns bs

pub ended : (ns bs : List ℕ) (i count : ℕ) (end : List ℕ) → sum ns ≡ length bs → i < length ns → count ≤ get_or ns i 0
    → split_by (set ns i (get_or ns i 0 - count + length end))
    (take (sum (take i ns) + get_or ns i 0 - count) bs ++ (end ++ drop (sum (take i ns) + get_or ns i 0) bs))
    ≡ set (split_by ns bs) i (with_end (get_or (split_by ns bs) i []) count end)
ended ns bs i count end = by_entries
    (λ ns bs es. i < length ns → count ≤ get_or ns i 0 → split_by (set ns i (get_or ns i 0 - count + length end))
    (take (sum (take i ns) + get_or ns i 0 - count) bs ++ (end ++ drop (sum (take i ns) + get_or ns i 0) bs))
    ≡ set es i (with_end (get_or es i []) count end))
    (λ es within less. let e = get_or es i [] in
    let inside : i < length es = omega (arith, length-map es length) in
    let size : get_or (map length es) i 0 ≡ length e = get_or-map length es i [] 0 inside in
    let fits : count ≤ length e = omega arith in
    let all : length e - count + length end ≡ length (with_end e count end) =
    omega (arith, length-append (take (length e - count) e) end, length-take (length e - count) e) in
    rw (size, all, ← map-set length es i (with_end e count end), ← joined_ended es i count end inside fits)
    (split_joined (set es i (with_end e count end)))) ns bs

pub removed : (ns bs : List ℕ) (i : ℕ) → sum ns ≡ length bs → i < length ns
    → split_by (remove ns i) (take (sum (take i ns)) bs ++ drop (sum (take i ns) + get_or ns i 0) bs)
    ≡ remove (split_by ns bs) i
removed ns bs i = by_entries (λ ns bs es. i < length ns
    → split_by (remove ns i) (take (sum (take i ns)) bs ++ drop (sum (take i ns) + get_or ns i 0) bs) ≡ remove es i)
    (λ es within. let inside : i < length es = omega (arith, length-map es length) in
    rw (get_or-map length es i [] 0 inside, map_removed es i inside, ← joined_removed es i inside)
    (split_joined (remove es i))) ns bs

pub ruleset append_steps = (appended, joined_split, common_steps)

pub ruleset replace_end_steps = (counted, length_at, place_within, ended, joined_split, common_steps)

pub ruleset remove_steps = (counted, length_at, place_within, removed, joined_split, common_steps)
