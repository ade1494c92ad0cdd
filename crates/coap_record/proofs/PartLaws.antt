-- The whole lines of a part of a record are the lines of the first calls.
use Rattle.std.proofs.Common.{◌≡◌, ℕ, true, List, [], ◌∷◌, ◌++◌, length, refl, sym, ap, ◌∙◌, inl, inr, arith, All}
use Rattle.std.proofs.Common.{append_assoc, length-append}
use Rattle.std.proofs.lemmas.List.Elements.{All-head, All-tail}
use Rattle.std.proofs.lemmas.Bool.{and_parts}
use Rattle.coap_record.specs.Prelude.{list_all, newline, AcceptedCall, line_of, lines_of, IsInRange, AreWholeLines}
use Rattle.coap_record.specs.Prelude.{events_said}
use Rattle.coap_record.proofs.LineLaws.{line_byte, IsLine, call_line}

-- The rest of whole lines after the first one.
record LeftOf (lines body tail rest : List ℕ) : Type 0 where
  more : List ℕ
  split : lines ≡ body ++ newline ∷ more
  left : tail ≡ more ++ rest
  whole : AreWholeLines more

-- Whole lines that begin as a line and a text do have this line.
first_line : (body tail front rest : List ℕ) → list_all line_byte body ≡ true
    → body ++ newline ∷ tail ≡ (front ++ newline ∷ []) ++ rest → LeftOf (front ++ newline ∷ []) body tail rest
first_line [] tail [] rest are same = record { more = []; split = refl; left = cc; whole = inl refl }
first_line [] tail (f ∷ fs) rest are same =
    record { more = fs ++ newline ∷ []; split = cc; left = cc; whole = inr (fs, refl) }
first_line (b ∷ bytes) tail [] rest are same = let e : b ≡ newline = cc in absurd (cc (rw e at are))
first_line (b ∷ bytes) tail (f ∷ fs) rest are same =
    let others = first_line bytes tail fs rest (and_parts (line_byte b) (list_all line_byte bytes) are).1 (cc) in
    let split = others.split in
    record { more = others.more; split = cc; left = others.left; whole = others.whole }

-- Whole lines are those of the first of these calls.
abbrev pub HasFront : List AcceptedCall → List ℕ → Type 0
HasFront cs lines =
    (front : List AcceptedCall) × (later : List AcceptedCall) × (cs ≡ front ++ later) × (lines ≡ lines_of front)

with_first : (c : AcceptedCall) (cs : List AcceptedCall) (lines rest : List ℕ) → IsLine (line_of c) (events_said c)
    → (ending : (front : List ℕ) × (lines ≡ front ++ newline ∷ [])) → line_of c ++ lines_of cs ≡ lines ++ rest
    → ((ls : List ℕ) → AreWholeLines ls → lines_of cs ≡ ls ++ rest → HasFront cs ls) → HasFront (c ∷ cs) lines
unfolding lines_of
with_first c cs lines rest (inl none) ending same others =
    let found = others lines (inr ending) (rw none.0 at same) in
    (c ∷ found.0, found.1, ap (λ ds. c ∷ ds) found.2, found.3 ∙ ap (λ t. t ++ lines_of found.0) (sym none.0))
with_first c cs lines rest (inr line) ending same others =
    let left =
    first_line line.0 (lines_of cs) ending.0 rest line.2 (rw (line.1, ending.1, append_assoc) at same) in
    let found = others left.more left.whole left.left in (
      c ∷ found.0,
      found.1,
      ap (λ ds. c ∷ ds) found.2,
      cc (line.1, ending.1, left.split, found.3, append_assoc line.0 (newline ∷ []) (lines_of found.0)),
    )

pub whole_lines : (cs : List AcceptedCall) → All IsInRange cs → (rest lines : List ℕ) → AreWholeLines lines
    → lines_of cs ≡ lines ++ rest → HasFront cs lines
unfolding lines_of
whole_lines cs are rest lines (inl none) same = ([], cs, refl, none)
whole_lines [] are rest lines (inr ending) same =
    absurd (omega (
      arith,
      ap length same,
      ap length ending.1,
      length-append lines rest,
      length-append ending.0 (newline ∷ []),
    ))
whole_lines (c ∷ cs) are rest lines (inr ending) same =
    with_first c cs lines rest (call_line c (All-head IsInRange c cs are)) ending same
    (whole_lines cs (All-tail IsInRange c cs are) rest)
