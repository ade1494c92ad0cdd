-- The words of a record's lines, and the values that the script reader gives to them.
use Rattle.std.proofs.Common.{◌≡◌, ℕ, zero, suc, ◌<◌, ◌≤◌, Bool, true, false, not, ◌&&◌, ◌==◌, List, [], ◌∷◌, ◌++◌}
use Rattle.std.proofs.Common.{length, get_or, map, Option, Some, None, refl, sym, ap, ◌∙◌, arith, nat_le, nat_lt}
use Rattle.std.proofs.Common.{decimal, All, length-append, append-nil, true≢false, le-leb}
use Rattle.std.proofs.lemmas.Bool.{agree_below_at, and_parts, cond-true}
use Rattle.std.proofs.lemmas.Bool.Decides.{nat_tests}
use Rattle.std.proofs.lemmas.Fmt.{digits_decimal, decimal_nonempty, length-decimal-le, decimal_is_IsNumeral}
use Rattle.std.proofs.lemmas.List.Elements.{All-nil, All-cons, All-head, All-tail}
use Rattle.std.proofs.lemmas.List.Folds.{list_all-append}
use Rattle.std.proofs.lemmas.List.Splits.{slice_split_none, slice_split_at}
use Rattle.std.proofs.lemmas.Str.Parse.{numerals_by_value, tells_all_ascii_digits}
use Rattle.hex.proofs.HexLemmas.{length-encode_with, decode_of-encode_lower}
use Rattle.percent_encoding.proofs.PercentLemmas.{round_trip}
use Rattle.coap_store.specs.declared.links.TheConstants.{ESCAPED}
use Rattle.coap_store.proofs.EscapeLemmas.{segment_is}
use Rattle.coap_text.proofs.WordLemmas.{hex_of_some}
use Rattle.coap_script.proofs.scripting.WordLemmas.{segments_of_some, path_read}
use Rattle.coap_record.specs.Prelude.{list_all, flat_map, is_ascii_digit, all_ascii_digits, encode_with, encode_lower}
use Rattle.coap_record.specs.Prelude.{lower_digits, percent_decode, Path, is_path, encoded_byte, path_bytes, key_for}
use Rattle.coap_record.specs.Prelude.{is_hyphen, parts, decimal_value, hex_value, bytes_text, slash, format_value}
use Rattle.coap_record.specs.Prelude.{path_value, payload_value, segments_of, path_word, format_word, IsNumber}
use Rattle.coap_record.specs.Prelude.{AreBytes, IsFormat}

-- ---- words

-- The byte may be in a word: it is ASCII, and neither a control character nor a space.
abbrev pub word_byte : ℕ → Bool
word_byte b = nat_le 33 b && nat_lt b 128

abbrev pub IsWord : List ℕ → Type 0
IsWord word = list_all word_byte word ≡ true

-- Bytes that pass one test fail another one, if each byte does.
pub all_fail : (p q : ℕ → Bool) → ((b : ℕ) → p b ≡ true → q b ≡ false) → (bytes : List ℕ) → list_all p bytes ≡ true
    → All (λ b. q b ≡ false) bytes
all_fail p q fail [] passes = All-nil (λ b. q b ≡ false)
all_fail p q fail (b ∷ bytes) passes =
    let both = and_parts (p b) (list_all p bytes) passes in
    All-cons (λ c. q c ≡ false) b bytes (fail b both.0) (all_fail p q fail bytes both.1)

-- Bytes that pass one test pass another one, if each byte does.
pub all_pass : (p q : ℕ → Bool) → ((b : ℕ) → p b ≡ true → q b ≡ true) → (bytes : List ℕ) → list_all p bytes ≡ true
    → list_all q bytes ≡ true
all_pass p q pass [] passes = refl
all_pass p q pass (b ∷ bytes) passes = grind (arith, pass b, all_pass p q pass bytes)

pub both_words : (p : ℕ → Bool) (xs ys : List ℕ) → list_all p xs ≡ true → list_all p ys ≡ true
    → list_all p (xs ++ ys) ≡ true
both_words p xs ys first second = rw (list_all-append p xs ys, first, second)

-- A text that is joined from the texts of values passes a test, if that of each value does.
each_passes : {A : Type 0} (p : ℕ → Bool) (P : A → Type 0) (text : A → List ℕ) (joined : List A → List ℕ)
    → ((x : A) → P x → list_all p (text x) ≡ true) → joined [] ≡ []
    → ((x : A) (xs : List A) → joined (x ∷ xs) ≡ text x ++ joined xs) → (xs : List A) → All P xs
    → list_all p (joined xs) ≡ true
each_passes p P text joined passes none more [] are = rw none
each_passes p P text joined passes none more (x ∷ xs) are =
    rw (more x xs) (both_words p (text x) (joined xs) (passes x (All-head P x xs are))
    (each_passes p P text joined passes none more xs (All-tail P x xs are)))

-- Each of these bytes is small.
pub bytes_small : (bytes : List ℕ) → AreBytes bytes → (k : ℕ) → get_or bytes k 0 < 256
bytes_small [] are k = omega arith
bytes_small (b ∷ bytes) are zero = All-head (λ c. c < 256) b bytes are
bytes_small (b ∷ bytes) are (suc k) = bytes_small bytes (All-tail (λ c. c < 256) b bytes are) k

-- ---- numbers

digits_alike : (ds : List ℕ) → all_ascii_digits ds ≡ true → list_all is_ascii_digit ds ≡ true
digits_alike [] all = refl
digits_alike (c ∷ cs) all = grind (arith, digits_alike cs)

pub number_digits : (n : ℕ) → IsNumber n → list_all is_ascii_digit (decimal n) ≡ true
number_digits n small =
    digits_alike (decimal n) (digits_decimal (numerals_by_value _ tells_all_ascii_digits) n small)

digit_in_word : (b : ℕ) → is_ascii_digit b ≡ true → word_byte b ≡ true
digit_in_word b is = grind (arith, nat_tests)

pub number_word : (n : ℕ) → IsNumber n → IsWord (decimal n)
number_word n small = all_pass is_ascii_digit word_byte digit_in_word (decimal n) (number_digits n small)

pub number_back : (n : ℕ) → IsNumber n → decimal_value (decimal n) ≡ Some n
unfolding decimal_value
number_back n small =
    rw (
      number_digits n small,
      (decimal_is_IsNumeral n small).1,
      le-leb 1 (length (decimal n)) (decimal_nonempty n small),
      le-leb (length (decimal n)) 20 (length-decimal-le 20 n (omega arith) (omega arith) small),
      le-leb n 18446744073709551615 (omega arith),
    )

digits_no_hyphen : (ds : List ℕ) → list_all is_ascii_digit ds ≡ true → is_hyphen ds ≡ false
digits_no_hyphen [] all = refl
digits_no_hyphen (c ∷ cs) all = grind (arith, nat_tests)

-- ---- formats

pub format_is_word : (format : Option ℕ) → IsFormat format → IsWord (format_word format)
format_is_word None small = refl
format_is_word (Some n) small = number_word n (omega arith)

pub format_back : (format : Option ℕ) → IsFormat format → format_value (format_word format) ≡ Some format
unfolding format_value
format_back None small = refl
format_back (Some n) small =
    rw (
      digits_no_hyphen (decimal n) (number_digits n (omega arith)),
      number_back n (omega arith),
      le-leb n 65535 (omega arith),
    )

-- ---- bytes

pub bytes_word : (bytes : List ℕ) → AreBytes bytes → IsWord (encode_lower bytes)
unfolding encode_with
bytes_word bytes are =
    each_passes word_byte (λ b. b < 256) (λ b. encode_lower (b ∷ [])) encode_lower
    (λ b small. agree_below_at (λ c. list_all word_byte (encode_lower (c ∷ []))) (λ c. true) 256 b refl small)
    refl (λ b bs. refl) bytes are

pub bytes_back : (bytes : List ℕ) → AreBytes bytes → 1 ≤ length bytes → hex_value (encode_lower bytes) ≡ Some bytes
bytes_back bytes are some =
    hex_of_some (encode_lower bytes) (λ none. omega (arith, length-encode_with lower_digits bytes))
    ∙ rw (decode_of-encode_lower bytes (bytes_small bytes are))

digits_are_no_hyphen : (byte : ℕ) (bytes : List ℕ) → is_hyphen (encode_lower (byte ∷ bytes)) ≡ false
unfolding encode_with
digits_are_no_hyphen byte bytes = grind arith

pub payload_word : (bytes : List ℕ) → AreBytes bytes → IsWord (bytes_text bytes)
payload_word [] are = refl
payload_word (b ∷ bytes) are = bytes_word (b ∷ bytes) are

pub payload_back : (bytes : List ℕ) → AreBytes bytes → payload_value (bytes_text bytes) ≡ Some bytes
unfolding payload_value
payload_back [] are = refl
payload_back (b ∷ bytes) are = rw (digits_are_no_hyphen b bytes) (bytes_back (b ∷ bytes) are (omega arith))

-- ---- paths

abbrev pub escaped : List ℕ → List ℕ
escaped segment = flat_map encoded_byte segment

-- The byte may be in an escaped segment: it may be in a word, and is no slash.
abbrev pub segment_byte : ℕ → Bool
segment_byte b = word_byte b && not (b == slash)

escaped_passes : (segment : List ℕ) → AreBytes segment → list_all segment_byte (escaped segment) ≡ true
unfolding encoded_byte
escaped_passes segment are =
    each_passes segment_byte (λ b. b < 256) encoded_byte escaped
    (λ b small. agree_below_at (λ c. list_all segment_byte (encoded_byte c)) (λ c. true) 256 b refl small)
    refl (λ b bs. refl) segment are

no_slash : (b : ℕ) → segment_byte b ≡ true → (b == slash) ≡ false
no_slash b passes = grind (arith, nat_tests)

in_word : (b : ℕ) → segment_byte b ≡ true → word_byte b ≡ true
in_word b passes = (and_parts (word_byte b) (not (b == slash)) passes).0

pub path_is_word : (path : Path) → All AreBytes path → IsWord (path_word path)
unfolding path_word path_bytes
path_is_word [] are = refl
path_is_word (s ∷ ss) are =
    each_passes word_byte AreBytes (λ t. slash ∷ escaped t) path_bytes
    (λ t small. all_pass segment_byte word_byte in_word (escaped t) (escaped_passes t small))
    refl (λ t ts. refl) (s ∷ ss) are

-- The parts between the slashes of a path are its escaped segments.
parts_of_path : (s : List ℕ) (ss : Path) → All AreBytes (s ∷ ss)
    → parts slash (escaped s ++ path_bytes ss) ≡ map escaped (s ∷ ss)
unfolding path_bytes
parts_of_path s [] are =
    let passes = escaped_passes s (All-head AreBytes s [] are) in
    rw append-nil
    (slice_split_none (λ b. b == slash) (escaped s)
    (all_fail segment_byte (λ b. b == slash) no_slash (escaped s) passes))
parts_of_path s (t ∷ ts) are =
    let passes = escaped_passes s (All-head AreBytes s (t ∷ ts) are) in
    slice_split_at (λ b. b == slash) (escaped s) slash (escaped t ++ path_bytes ts)
    (all_fail segment_byte (λ b. b == slash) no_slash (escaped s) passes) refl
    ∙ ap (λ ps. escaped s ∷ ps) (parts_of_path t ts (All-tail AreBytes s (t ∷ ts) are))

segment_back : (s : List ℕ) → AreBytes s → percent_decode (escaped s) ≡ s
segment_back s are = ap percent_decode (sym (segment_is s (bytes_small s are))) ∙ round_trip ESCAPED s refl are

segments_back : (path : Path) → All AreBytes path → map percent_decode (map escaped path) ≡ path
segments_back [] are = refl
segments_back (s ∷ ss) are =
    rw (segment_back s (All-head AreBytes s ss are), segments_back ss (All-tail AreBytes s ss are))

escaped_byte_some : (b : ℕ) → 1 ≤ length (encoded_byte b)
unfolding encoded_byte
escaped_byte_some b = grind arith

-- A path with segments has bytes after its first slash.
some_after_slash : (s : List ℕ) (ss : Path) → is_path (s ∷ ss) ≡ true → length (escaped s ++ path_bytes ss) ≡ 0 → ⊥
unfolding path_bytes is_path
some_after_slash [] [] is none = true≢false (sym is)
some_after_slash (b ∷ bytes) [] is none =
    omega (
      arith,
      escaped_byte_some b,
      length-append (encoded_byte b) (escaped bytes),
      length-append (escaped (b ∷ bytes)) [],
    )
some_after_slash s (t ∷ ts) is none = omega (arith, length-append (escaped s) (slash ∷ (escaped t ++ path_bytes ts)))

segments_read : (s : List ℕ) (ss : Path) → is_path (s ∷ ss) ≡ true → All AreBytes (s ∷ ss)
    → segments_of (escaped s ++ path_bytes ss) ≡ s ∷ ss
segments_read s ss is are =
    rw (segments_of_some (escaped s ++ path_bytes ss) (some_after_slash s ss is), parts_of_path s ss are)
    (segments_back (s ∷ ss) are)

root_back : path_value (path_word []) ≡ Some []
unfolding path_value path_word key_for is_path segments_of
root_back = refl

some_back : (s : List ℕ) (ss : Path) → is_path (s ∷ ss) ≡ true → All AreBytes (s ∷ ss)
    → path_value (path_word (s ∷ ss)) ≡ Some (s ∷ ss)
unfolding path_word path_bytes
some_back s ss is are =
    sym (path_read (path_word (s ∷ ss)) (escaped s ++ path_bytes ss) slash (s ∷ ss) (Some (s ∷ ss)) refl refl
    (sym (segments_read s ss is are)) (sym (cond-true _ _ _ is)))

pub path_back : (path : Path) → is_path path ≡ true → All AreBytes path → path_value (path_word path) ≡ Some path
path_back [] is are = root_back
path_back (s ∷ ss) is are = some_back s ss is are
