-- The script reader reads the line of a call back as the event of the call.
use Rattle.std.proofs.Common.{◌≡◌, ℕ, Bool, true, false, ◌&&◌, ◌==◌, List, [], ◌∷◌, ◌++◌, Some, Ok, refl, ap, ◌∙◌}
use Rattle.std.proofs.Common.{arith, nat_le, nat_lt, decimal, codes, All, append_assoc, append-nil, ◌⊎◌, inl, inr}
use Rattle.std.proofs.Common.{option_map, if◌then◌else◌}
use Rattle.std.proofs.lemmas.Bool.{and_parts}
use Rattle.std.proofs.lemmas.Bool.Decides.{nat_tests}
use Rattle.std.proofs.lemmas.List.Elements.{All-head, All-tail}
use Rattle.std.proofs.lemmas.List.Splits.{slice_split_none, slice_split_at}
use Rattle.coap_script.proofs.scripting.ScriptLemmas.{line_and_rest}
use Rattle.coap_model.specs.world.Events as call
use Rattle.coap_record.specs.Prelude.{list_all, encode_lower, ScriptEventValue, event_of, event_alone, event_with_one}
use Rattle.coap_record.specs.Prelude.{event_with_two, in_event, drain_event, number_event, put_event, remove_event}
use Rattle.coap_record.specs.Prelude.{bytes_text, script_of, said_by_parts, event_in, events_in, says_nothing, newline}
use Rattle.coap_record.specs.Prelude.{space, words_of, AcceptedCall, path_word, format_word, took_line, line_of}
use Rattle.coap_record.specs.Prelude.{lines_of, events_said, all_events_said, IsInRange, is_printable, respond_event}
use Rattle.coap_record.specs.Prelude.{spelling}
use Rattle.coap_record.proofs.WordLaws.{word_byte, IsWord, all_fail, all_pass, both_words, number_word, number_back}
use Rattle.coap_record.proofs.WordLaws.{format_is_word, format_back, bytes_word, bytes_back, payload_word, payload_back}
use Rattle.coap_record.proofs.WordLaws.{path_is_word, path_back}

-- ---- lines of words

-- A line: a word, and others with a space before each.
unfoldable pub spaced : List ℕ → List (List ℕ) → List ℕ
spaced word [] = word
spaced word (next ∷ others) = word ++ space ∷ spaced next others

abbrev pub AreWords : List (List ℕ) → Type 0
AreWords [] = Unit {0}
AreWords (word ∷ words) = IsWord word × AreWords words

no_space : (b : ℕ) → word_byte b ≡ true → (b == space) ≡ false
no_space b passes = grind (arith, nat_tests)

pub words_of_line : (word : List ℕ) (others : List (List ℕ)) → IsWord word → AreWords others
    → words_of (spaced word others) ≡ word ∷ others
unfolding spaced
words_of_line word [] is are =
    slice_split_none (λ b. b == space) word (all_fail word_byte (λ b. b == space) no_space word is)
words_of_line word (next ∷ others) is are =
    slice_split_at (λ b. b == space) word space (spaced next others)
    (all_fail word_byte (λ b. b == space) no_space word is) refl
    ∙ ap (λ ws. word ∷ ws) (words_of_line next others are.0 are.1)

-- A byte of a line: a byte of a word, or a space.
abbrev pub line_byte : ℕ → Bool
line_byte b = nat_le 32 b && nat_lt b 128

of_word : (b : ℕ) → word_byte b ≡ true → line_byte b ≡ true
of_word b passes = grind (arith, nat_tests)

is_ascii : (b : ℕ) → line_byte b ≡ true → nat_lt b 128 ≡ true
is_ascii b passes = (and_parts (nat_le 32 b) (nat_lt b 128) passes).1

pub no_newline : (b : ℕ) → line_byte b ≡ true → (b == newline) ≡ false
no_newline b passes = grind (arith, nat_tests)

pub bytes_of_line : (word : List ℕ) (others : List (List ℕ)) → IsWord word → AreWords others
    → list_all line_byte (spaced word others) ≡ true
unfolding spaced
bytes_of_line word [] is are = all_pass word_byte line_byte of_word word is
bytes_of_line word (next ∷ others) is are =
    both_words line_byte word (space ∷ spaced next others) (all_pass word_byte line_byte of_word word is)
    (bytes_of_line next others are.0 are.1)

-- A line that says these events: it is empty, or has bytes of a line and a newline.
abbrev pub IsLine : List ℕ → List ScriptEventValue → Type 0
IsLine text es =
    ((text ≡ []) × (es ≡ []))
    ⊎ ((body : List ℕ) × (text ≡ body ++ newline ∷ []) × (list_all line_byte body ≡ true) × (events_in body ≡ Some es))

-- A line of words. It is a comment, or names an event.
of_words : (text word : List ℕ) (others : List (List ℕ)) (es : List ScriptEventValue)
    → text ≡ spaced word others ++ newline ∷ [] → IsWord word → AreWords others
    → (if says_nothing (spaced word others) then Some [] else option_map (λ e. e ∷ []) (event_of (word ∷ others)))
    ≡ Some es
    → IsLine text es
unfolding events_in event_in
of_words text word others es same is are says =
    let bytes = bytes_of_line word others is are in
    let ascii = all_pass line_byte (λ b. nat_lt b 128) is_ascii (spaced word others) bytes in
    inr (spaced word others, same, bytes, rw (ascii, words_of_line word others is are) says)

-- A line, and the text after it.
line_said : (text : List ℕ) (said : List ScriptEventValue) → IsLine text said
    → (more : List ℕ) (es : List ScriptEventValue) → script_of more ≡ Ok es → script_of (text ++ more) ≡ Ok (said ++ es)
line_said text said (inl none) more es read = rw (none.0, none.1) read
line_said text said (inr line) more es read =
    let alone = all_fail line_byte (λ b. b == newline) no_newline line.0 line.2 in
    rw (
      line.1,
      append_assoc line.0 (newline ∷ []) more,
      slice_split_at (λ b. b == newline) line.0 newline more alone refl,
      line_and_rest line.0 more,
      line.3,
      read,
    )

-- The line of a call.
pub call_line : (c : AcceptedCall) → IsInRange c → IsLine (line_of c) (events_said c)
unfolding line_of took_line events_said IsInRange spaced says_nothing event_of event_alone event_with_one
    event_with_two number_event in_event drain_event put_event remove_event respond_event
call_line (call.Opened id) is = of_words _ (codes "open") [] _ refl refl tt refl
call_line (call.Took id []) is = inl (refl, refl)
call_line (call.Took id (b ∷ bytes)) is =
    of_words _ (codes "in") (decimal id ∷ encode_lower (b ∷ bytes) ∷ []) _ (simp append_assoc) refl
    (number_word id is.0, (bytes_word (b ∷ bytes) is.1, tt))
    (rw (number_back id is.0, bytes_back (b ∷ bytes) is.1 (omega arith)))
call_line (call.Wrote id count) is =
    of_words _ (codes "drain") (decimal id ∷ decimal count ∷ []) _ (simp append_assoc) refl
    (number_word id is.0, (number_word count is.1, tt)) (rw (number_back id is.0, number_back count is.1))
call_line (call.Ticked now) is =
    of_words _ (codes "tick") (decimal now ∷ []) _ (simp append_assoc) refl (number_word now is, tt)
    (rw (number_back now is))
call_line (call.Stored path format bytes) is =
    of_words _ (codes "put") (path_word path ∷ format_word format ∷ bytes_text bytes ∷ []) _ (simp append_assoc) refl
    (path_is_word path is.0.1, (format_is_word format is.1.0, (payload_word bytes is.1.1, tt)))
    (rw (path_back path is.0.0 is.0.1, format_back format is.1.0, payload_back bytes is.1.1))
call_line (call.Removed path) is =
    of_words _ (codes "remove") (path_word path ∷ []) _ (simp append_assoc) refl (path_is_word path is.1, tt)
    (rw (path_back path is.0 is.1))
call_line (call.Ended id) is =
    of_words _ (codes "end") (decimal id ∷ []) _ (simp append_assoc) refl (number_word id is, tt)
    (rw (number_back id is))
call_line (call.Released id) is =
    of_words _ (codes "release") (decimal id ∷ []) _ (simp append_assoc) refl (number_word id is, tt)
    (rw (number_back id is))
call_line (call.Announced id size) is =
    of_words _ (codes "#") (codes "announced" ∷ decimal id ∷ decimal size ∷ []) _ (simp append_assoc) refl
    (refl, (number_word id is.0, (number_word size is.1, tt))) refl
call_line (call.Responded id m) is =
    of_words _ (codes "respond") (decimal id ∷ encode_lower (spelling m) ∷ []) _ (simp append_assoc) refl
    (number_word id is.0, (bytes_word (spelling m) is.1.0, tt))
    (rw (number_back id is.0, bytes_back (spelling m) is.1.0 is.1.1))
call_line (call.Dropped id) is =
    of_words _ (codes "drop") (decimal id ∷ []) _ (simp append_assoc) refl (number_word id is, tt)
    (rw (number_back id is))

-- The lines of calls, and the text after them.
pub calls_said : (cs : List AcceptedCall) → All IsInRange cs → (more : List ℕ) (es : List ScriptEventValue)
    → script_of more ≡ Ok es → script_of (lines_of cs ++ more) ≡ Ok (all_events_said cs ++ es)
unfolding lines_of all_events_said
calls_said [] are more es read = read
calls_said (c ∷ cs) are more es read =
    simp append_assoc (line_said (line_of c) (events_said c) (call_line c (All-head IsInRange c cs are))
    (lines_of cs ++ more) (all_events_said cs ++ es) (calls_said cs (All-tail IsInRange c cs are) more es read))

-- The line of a call alone.
pub line_read_back : (c : AcceptedCall) → IsInRange c → script_of (line_of c) ≡ Ok (events_said c)
unfolding said_by_parts
line_read_back c is = simp append-nil at (line_said (line_of c) (events_said c) (call_line c is) [] [] refl)

-- The lines of calls alone.
pub lines_read_back : (cs : List AcceptedCall) → All IsInRange cs → script_of (lines_of cs) ≡ Ok (all_events_said cs)
unfolding said_by_parts
lines_read_back cs are = simp append-nil at (calls_said cs are [] [] refl)

of_printable : (b : ℕ) → is_printable b ≡ true → line_byte b ≡ true
of_printable b passes = grind (arith, nat_tests)

-- A comment of printable text, and the text after it.
pub comment_read_back : (text more : List ℕ) (es : List ScriptEventValue) → list_all is_printable text ≡ true
    → script_of more ≡ Ok es → script_of (35 ∷ (text ++ newline ∷ more)) ≡ Ok es
unfolding events_in says_nothing
comment_read_back text more es printable read =
    let bytes = all_pass is_printable line_byte of_printable text printable in
    rw (← append_assoc text (newline ∷ []) more)
    (line_said (35 ∷ (text ++ newline ∷ [])) [] (inr (35 ∷ text, refl, bytes, refl)) more es read)
