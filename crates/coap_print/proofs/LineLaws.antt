-- Pieces of text appended to a line, one after the other.
use Rattle.std.proofs.Common.{◌≡◌, ℕ, suc, refl, ◌+◌, ◌≤◌, ◌<◌, true, List, [], ◌∷◌, ◌++◌, length, take, get_or, sym}
use Rattle.std.proofs.Common.{ap, subst, ◌∙◌, inl, inr, append_assoc, zero-add, arith, nat_le, length-append}
use Rattle.std.proofs.Common.{length-take}
use Rattle.std.proofs.lemmas.Bool.{cases_lt, lt-ltb, le-ltb, le-leb, lt-leb, cond-true, cond-false}
use Rattle.std.proofs.lemmas.Grind.{flat_map-append}
use Rattle.std.proofs.lemmas.List.{append-nil, take-append-le, take_at, take_all, take_more}
use Rattle.std.specs.List.{flat_map, concat, fold}
use Rattle.coap_print.specs.Texts.{is_text}
use Rattle.coap_print.specs.Lines.{appended, is_closed, room, ellipsis, cut_text, IsLine}
use Rattle.coap_print.proofs.TextLaws.{text_of_both, text_of_take}

-- ---- the three cases

-- A line without space for an ellipsis is closed.
pub closed : (limit : ℕ) (line piece : List ℕ) → limit < length line + 3 → appended limit line piece ≡ line
unfolding appended
closed limit line piece full = cond-true (is_closed limit line) _ _ (lt-ltb limit (length line + 3) full)

-- A piece that fits.
pub whole : (limit : ℕ) (line piece : List ℕ) → length line + 3 + length piece ≤ limit
    → appended limit line piece ≡ line ++ piece
unfolding appended
whole limit line piece fits =
    cond-false (is_closed limit line) _ _ (le-ltb limit (length line + 3) (omega arith))
    ∙ cond-true (nat_le (length piece) (room limit line)) _ _ (le-leb (length piece) (room limit line) (omega arith))

-- A line and the part of a piece that fits.
abbrev pub cut : ℕ → List ℕ → List ℕ → List ℕ
cut limit line piece = line ++ take (room limit line) piece ++ ellipsis

-- A piece that is cut.
pub part : (limit : ℕ) (line piece : List ℕ) → length line + 3 ≤ limit → limit < length line + 3 + length piece
    → appended limit line piece ≡ cut limit line piece
unfolding appended
part limit line piece space long =
    cond-false (is_closed limit line) _ _ (le-ltb limit (length line + 3) space)
    ∙ cond-false (nat_le (length piece) (room limit line)) _ _ (lt-leb (length piece) (room limit line) (omega arith))

-- The length of a line that was cut.
cut_length : (limit : ℕ) (line piece : List ℕ) → length line + 3 ≤ limit → limit < length line + 3 + length piece
    → length (cut limit line piece) ≡ limit
cut_length limit line piece space long =
    omega (
      arith,
      length-append (line ++ take (room limit line) piece) ellipsis,
      length-append line (take (room limit line) piece),
      length-take (room limit line) piece,
    )

-- ---- a line stays a line

-- A line stays a line when text is appended to it.
pub appended_line : (limit : ℕ) (line piece : List ℕ) → IsLine limit line → is_text piece ≡ true
    → IsLine limit (appended limit line piece)
appended_line limit line piece is text = elim (cases_lt limit (length line + 3)) [
  | inl full ↦ subst (IsLine limit) (sym (closed limit line piece full)) is
  | inr space ↦ elim (cases_lt limit (length line + 3 + length piece)) [
    | inl long ↦ subst (IsLine limit) (sym (part limit line piece space long)) (record {
      printable =
          text_of_both (line ++ take (room limit line) piece) ellipsis
          (text_of_both line (take (room limit line) piece) is.printable (text_of_take (room limit line) piece text))
          refl;
      bounded = omega (arith, cut_length limit line piece space long);
    })
    | inr fits ↦ subst (IsLine limit) (sym (whole limit line piece fits)) (record {
      printable = text_of_both line piece is.printable text;
      bounded = omega (arith, length-append line piece);
    })
  ]
]

-- The line before is the beginning of the line after.
pub appended_keeps : (limit : ℕ) (line piece : List ℕ) → take (length line) (appended limit line piece) ≡ line
appended_keeps limit line piece = elim (cases_lt limit (length line + 3)) [
  | inl full ↦ ap (take (length line)) (closed limit line piece full) ∙ take_all (length line) line (omega arith)
  | inr space ↦ elim (cases_lt limit (length line + 3 + length piece)) [
    | inl long ↦
        ap (take (length line))
        (part limit line piece space long ∙ append_assoc line (take (room limit line) piece) ellipsis)
        ∙ take_at line (take (room limit line) piece ++ ellipsis) (length line) refl
    | inr fits ↦ ap (take (length line)) (whole limit line piece fits) ∙ take_at line piece (length line) refl
  ]
]

-- ---- pieces one after the other

-- Nothing is appended.
pub appended_nothing : (limit : ℕ) (line : List ℕ) → appended limit line [] ≡ line
appended_nothing limit line = elim (cases_lt limit (length line + 3)) [
  | inl full ↦ closed limit line [] full
  | inr space ↦ whole limit line [] (omega arith) ∙ append-nil line
]

-- More bytes than a list has are the list and bytes of the next one.
take_past : (xs ys : List ℕ) (n : ℕ) → take (length xs + n) (xs ++ ys) ≡ xs ++ take n ys
take_past [] ys n = ap (λ (k : ℕ). take k ys) (zero-add n)
take_past (x ∷ xs) ys n =
    let e : suc (length xs) + n ≡ suc (length xs + n) = omega arith in
    ap (λ (k : ℕ). take k (x ∷ (xs ++ ys))) e ∙ ap (λ (t : List ℕ). x ∷ t) (take_past xs ys n)

-- The first piece fits, and the second is cut.
cut_later : (limit : ℕ) (line first second : List ℕ) → length line + 3 + length first ≤ limit
    → cut limit (line ++ first) second ≡ cut limit line (first ++ second)
cut_later limit line first second fits =
    let e : room limit line ≡ length first + room limit (line ++ first) = omega (arith, length-append line first) in
    let t : take (room limit line) (first ++ second) ≡ first ++ take (room limit (line ++ first)) second =
    ap (λ (k : ℕ). take k (first ++ second)) e ∙ take_past first second (room limit (line ++ first)) in
    ap (λ (l : List ℕ). l ++ ellipsis)
    (append_assoc line first (take (room limit (line ++ first)) second) ∙ ap (λ (l : List ℕ). line ++ l) (sym t))

-- The first piece fits.
then_whole : (limit : ℕ) (line first second : List ℕ) → length line + 3 + length first ≤ limit
    → appended limit (line ++ first) second ≡ appended limit line (first ++ second)
then_whole limit line first second fits = elim (cases_lt limit (length line + 3 + length first + length second)) [
  | inl long ↦
      part limit (line ++ first) second (omega (arith, length-append line first))
      (omega (arith, length-append line first))
      ∙ cut_later limit line first second fits
      ∙ sym (part limit line (first ++ second) (omega arith) (omega (arith, length-append first second)))
  | inr short ↦ whole limit (line ++ first) second (omega (arith, length-append line first))
      ∙ append_assoc line first second
      ∙ sym (whole limit line (first ++ second) (omega (arith, length-append first second)))
]

-- The first piece is cut.
then_part : (limit : ℕ) (line first second : List ℕ) → length line + 3 ≤ limit → limit < length line + 3 + length first
    → appended limit (cut limit line first) second ≡ appended limit line (first ++ second)
then_part limit line first second space long =
    closed limit (cut limit line first) second (omega (arith, cut_length limit line first space long))
    ∙ ap (λ (t : List ℕ). line ++ t ++ ellipsis) (sym (take-append-le (room limit line) first second (omega arith)))
    ∙ sym (part limit line (first ++ second) space (omega (arith, length-append first second)))

-- Two pieces, one after the other, are one piece.
pub appended_then : (limit : ℕ) (line first second : List ℕ)
    → appended limit (appended limit line first) second ≡ appended limit line (first ++ second)
appended_then limit line first second =
    let next : List ℕ → List ℕ = λ l. appended limit l second in
    elim (cases_lt limit (length line + 3)) [
      | inl full ↦
          ap next (closed limit line first full) ∙ closed limit line second full
          ∙ sym (closed limit line (first ++ second) full)
      | inr space ↦ elim (cases_lt limit (length line + 3 + length first)) [
        | inl long ↦ ap next (part limit line first space long) ∙ then_part limit line first second space long
        | inr fits ↦ ap next (whole limit line first fits) ∙ then_whole limit line first second fits
      ]
    ]

-- The same for lines that calls returned.
pub joined : (limit : ℕ) (start middle end first second : List ℕ) → middle ≡ appended limit start first
    → end ≡ appended limit middle second → end ≡ appended limit start (first ++ second)
joined limit start middle end first second p q =
    q ∙ ap (λ (l : List ℕ). appended limit l second) p ∙ appended_then limit start first second

-- Pieces appended to a line are one piece.
all_pieces : (limit : ℕ) (line : List ℕ) (pieces : List (List ℕ))
    → fold (appended limit) line pieces ≡ appended limit line (concat pieces)
all_pieces limit line [] = sym (appended_nothing limit line)
all_pieces limit line (piece ∷ pieces) =
    all_pieces limit (appended limit line piece) pieces ∙ appended_then limit line piece (concat pieces)

-- A text appended to an empty line.
from_empty : (limit : ℕ) (text : List ℕ) → 3 ≤ limit → appended limit [] text ≡ cut_text limit text
unfolding appended
from_empty limit text space = cond-false (is_closed limit []) [] (cut_text limit text) (le-ltb limit 3 space)

-- A line is the text of all its pieces, cut once.
pub line_of_pieces : (limit : ℕ) (pieces : List (List ℕ)) → 3 ≤ limit
    → fold (appended limit) [] pieces ≡ cut_text limit (concat pieces)
line_of_pieces limit pieces space = all_pieces limit [] pieces ∙ from_empty limit (concat pieces) space

pub ruleset pieces = (appended_then, appended_nothing, appended_keeps)

-- ---- one more byte of a loop

pub one_more : (f : ℕ → List ℕ) (limit : ℕ) (start line next bytes : List ℕ) (i : ℕ) → i < length bytes
    → line ≡ appended limit start (flat_map f (take i bytes)) → next ≡ appended limit line (f (get_or bytes i 0))
    → next ≡ appended limit start (flat_map f (take (i + 1) bytes))
one_more f limit start line next bytes i within before after =
    let so_far = flat_map f (take i bytes) in
    let byte = get_or bytes i 0 in
    let more : flat_map f (take (i + 1) bytes) ≡ so_far ++ f byte =
    ap (flat_map f) (take_more bytes i 0 within)
    ∙ flat_map-append f (take i bytes) (byte ∷ [])
    ∙ ap (λ (t : List ℕ). so_far ++ t) (append-nil (f byte)) in
    joined limit start line next so_far (f byte) before after ∙ ap (appended limit start) (sym more)
