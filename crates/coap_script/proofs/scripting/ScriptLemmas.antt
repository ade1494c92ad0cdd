-- The meaning of a script's lines in sequence.
use Rattle.std.proofs.Common.{◌≡◌, ℕ, ◌+◌, ◌<◌, ◌≤◌, true, false, ◌==◌, List, [], ◌∷◌, ◌++◌, length, Option, None}
use Rattle.std.proofs.Common.{Result, Ok, Err, refl, arith, append_assoc, nat_lt, cond, length-append, count_by}
use Rattle.std.proofs.Common.{add-one}
use Rattle.coap_script.specs.Prelude.{list_all, onto_first, newline, parts, words_of, ScriptEventValue, event_of}
use Rattle.coap_script.specs.Prelude.{event_in}
use Rattle.coap_script.specs.Prelude.{events_in, said_after, said_by_line, said_by_parts, said_on, script_of}
use Rattle.coap_script.specs.Prelude.{TakesLine}
use Rattle.std.proofs.lemmas.Bool.{ne_eqb}
use Rattle.std.proofs.lemmas.List.{append-nil}
use Rattle.std.proofs.lemmas.List.Splits.{length-slice_split}

-- ---- the event of a line

pub too_many_words : (words : List (List ℕ)) → 4 < length words → event_of words ≡ None
unfolding event_of
too_many_words (a ∷ b ∷ c ∷ d ∷ e ∷ more) many = refl
too_many_words words many = absurd (omega arith)

pub event_of_words : (line : List ℕ) → list_all (λ b. nat_lt b 128) line ≡ true
    → event_of (words_of line) ≡ event_in line
unfolding event_in
event_of_words line ascii = rw ascii refl

-- ---- one line and the lines after it

pub line_and_others : (line : List ℕ) (others : List (List ℕ)) → 1 ≤ length others
    → said_by_parts (line ∷ others) ≡ said_by_line (events_in line) (said_by_parts others)
unfolding said_by_parts
line_and_others line others some = grind arith

pub line_and_rest : (line rest : List ℕ)
    → said_by_parts (line ∷ parts newline rest) ≡ said_by_line (events_in line) (said_by_parts (parts newline rest))
line_and_rest line rest =
    line_and_others line (parts newline rest) (omega (arith, length-slice_split (λ b. b == newline) rest))

-- The text that was left consists of a line and a rest.
pub line_taken : (lines : ℕ) (old new : List ScriptEventValue) (left line rest : List ℕ)
    (all : Result (List ScriptEventValue) ℕ) → all ≡ said_after lines old (said_by_parts (parts newline left))
    → parts newline left ≡ line ∷ parts newline rest → TakesLine true old new (events_in line)
    → all ≡ said_after (lines + 1) new (said_by_parts (parts newline rest))
line_taken lines old new left line rest all said cut takes =
    rw (said, cut, line_and_rest line rest) (grind (arith, append_assoc))

pub line_refused : (lines : ℕ) (old new : List ScriptEventValue) (left line rest : List ℕ)
    (all : Result (List ScriptEventValue) ℕ) → all ≡ said_after lines old (said_by_parts (parts newline left))
    → parts newline left ≡ line ∷ parts newline rest → TakesLine false old new (events_in line) → all ≡ Err (lines + 1)
line_refused lines old new left line rest all said cut takes = rw (said, cut, line_and_rest line rest) (grind arith)

-- ---- after the last newline

pub all_taken : (lines : ℕ) (old : List ScriptEventValue) (left : List ℕ) (all : Result (List ScriptEventValue) ℕ)
    → all ≡ said_after lines old (said_by_parts (parts newline left)) → parts newline left ≡ left ∷ []
    → length left ≡ 0 → all ≡ Ok old
unfolding said_by_parts
all_taken lines old left all said cut none = rw (said, cut, none, append-nil)

pub rest_refused : (lines : ℕ) (old : List ScriptEventValue) (left : List ℕ) (all : Result (List ScriptEventValue) ℕ)
    → all ≡ said_after lines old (said_by_parts (parts newline left)) → parts newline left ≡ left ∷ []
    → (length left ≡ 0 → ⊥) → all ≡ Err (lines + 1)
unfolding said_by_parts
rest_refused lines old left all said cut some = rw (said, cut, ne_eqb (length left) 0 some)

-- ---- the parts of two texts with a separator between them

at_first : (x : ℕ) (ps qs all : List (List ℕ)) → 1 ≤ length ps → all ≡ ps ++ qs
    → cond (x == newline) ([] ∷ all) (onto_first x all) ≡ cond (x == newline) ([] ∷ ps) (onto_first x ps) ++ qs
at_first x ps qs all some same = grind arith

parts_of_both : (lines more : List ℕ)
    → parts newline (lines ++ newline ∷ more) ≡ parts newline lines ++ parts newline more
parts_of_both [] more = refl
parts_of_both (x ∷ xs) more =
    let some = length-slice_split (λ b. b == newline) xs in
    at_first x (parts newline xs) (parts newline more) (parts newline (xs ++ newline ∷ more))
    (omega (arith, some)) (parts_of_both xs more)

-- ---- the meaning of lines followed by others

line_then_on : (n : ℕ) (events : Option (List ScriptEventValue)) (s r : Result (List ScriptEventValue) ℕ)
    → said_by_line events (said_on n s r) ≡ said_on (n + 1) (said_by_line events s) r
line_then_on n events s r = grind (arith, append_assoc)

lines_then_others : (ps qs : List (List ℕ)) → 1 ≤ length qs
    → said_by_parts (ps ++ qs) ≡ said_on (length ps) (said_by_parts (ps ++ [] ∷ [])) (said_by_parts qs)
unfolding said_by_parts
lines_then_others [] qs some = grind arith
lines_then_others (p ∷ ps) qs some = cc (
  line_and_others p (ps ++ qs) (omega (arith, length-append ps qs)),
  lines_then_others ps qs some,
  line_then_on (length ps) (events_in p) (said_by_parts (ps ++ [] ∷ [])) (said_by_parts qs),
  line_and_others p (ps ++ [] ∷ []) (omega (arith, length-append ps ([] ∷ []))),
  add-one (length ps),
)

pub script_goes_on : (lines more : List ℕ) → script_of (lines ++ newline ∷ more)
    ≡ said_on (count_by (λ b. b == newline) lines + 1) (script_of (lines ++ newline ∷ [])) (script_of more)
script_goes_on lines more = cc (
  parts_of_both lines more,
  parts_of_both lines [],
  lines_then_others (parts newline lines) (parts newline more)
      (omega (arith, length-slice_split (λ b. b == newline) more)),
  length-slice_split (λ b. b == newline) lines,
)
