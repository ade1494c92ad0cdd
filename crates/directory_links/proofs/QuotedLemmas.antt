-- The steps of the loop that looks for the quote at the end of a quoted string.
use Rattle.std.proofs.Common.{◌≡◌, ℕ, ◌+◌, ◌-◌, ◌<◌, ◌≤◌, Bool, false, cond, eqb, List, length, get_or, drop, Ok, Err}
use Rattle.std.proofs.Common.{refl, arith}
use Rattle.std.proofs.lemmas.List.{length-drop, drop_more, drop_all}
use Rattle.directory_links.specs.Prelude.{quoted_length, plus, is_quoted_char}

-- The result from the byte at `i` on.
pub quoted_drop : (e : Bool) (s : List ℕ) (i : ℕ) → i < length s → quoted_length e (drop i s) ≡
    cond (is_quoted_char (get_or s i 0)) (cond e (plus 1 (quoted_length false (drop (i + 1) s)))
    (cond (eqb (get_or s i 0) 34) (Ok 0) (plus 1 (quoted_length (eqb (get_or s i 0) 92) (drop (i + 1) s)))))
    (Err (length s - i))
unfolding quoted_length
quoted_drop e s i h =
    let left : length (drop (i + 1) s) + 1 ≡ length s - i = omega (arith, length-drop (i + 1) s) in
    rw (drop_more s i 0 h, left) refl

pub quoted_drop_all : (e : Bool) (s : List ℕ) (i : ℕ) → length s ≤ i → quoted_length e (drop i s) ≡ Err 0
unfolding quoted_length
quoted_drop_all e s i h = rw (drop_all i s h) refl

pub ruleset quoted_steps = (quoted_drop, quoted_drop_all)
