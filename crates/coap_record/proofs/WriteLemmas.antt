-- Writes of the pieces of a text, one after another.
use Rattle.std.proofs.Common.{◌≡◌, ℕ, ◌+◌, ◌*◌, ◌<◌, ◌≤◌, true, false, ◌==◌, List, [], ◌∷◌, ◌++◌, length, get_or, take}
use Rattle.std.proofs.Common.{drop, take-append-drop, take-take, take_all, length-drop, length-take, map, Option, Some}
use Rattle.std.proofs.Common.{None, Result, Ok, Err, refl, sym, ap, ◌∙◌, append_assoc, append-nil, arith, is_err, OnOk}
use Rattle.std.proofs.Common.{OnErr, Bor, codes, decimal, eqb-true}
use Rattle.std.proofs.lemmas.List.{drop_more, take-append-le}
use Rattle.hex.proofs.HexLemmas.{length-encode_with}
use Rattle.coap_io.proofs.streams.DeviceLemmas.{bytes_none, bytes_then}
use Rattle.coap_io.proofs.streams.WriteLemmas.{part_before, part_after}
use Rattle.coap_record.specs.Prelude.{encode_with, encode_lower, lower_digits, append_known, concat, AddsBytes}
use Rattle.coap_record.specs.Prelude.{WritesPart, WritesText, WritesUpTo, QueueValue, room_in, Path, path_word}
use Rattle.coap_record.specs.Prelude.{path_bytes, flat_map, encoded_byte, slash, took_line, spelling, stored_line}
use Rattle.coap_record.specs.Prelude.{format_word, bytes_text, respond_line}
use Rattle.coap_wire.specs.Message.{Message}
use Rattle.coap_wire.specs.Reading.{message_of, head_at, length_at, option_number_at, body_at, body_within}

pub nothing_yet : (text : List ℕ) (x : Option (List ℕ)) → WritesUpTo text text x x
nothing_yet text x = record { front = []; all = refl; written = bytes_none x }

-- The next piece was written.
pub piece_written : (text left piece rest : List ℕ) (x y z : Option (List ℕ)) → WritesUpTo text left x y
    → left ≡ piece ++ rest → AddsBytes y z piece → WritesUpTo text rest x z
piece_written text left piece rest x y z so_far split wrote = record {
  front = so_far.front ++ piece;
  all = rw (append_assoc, ← split) so_far.all;
  written = bytes_then x y z so_far.front piece so_far.written wrote;
}

-- The last piece was written.
pub all_written : (text left : List ℕ) (x y : Option (List ℕ)) → WritesUpTo text left x y
    → left ≡ [] → AddsBytes x y text
all_written text left x y so_far none =
    rw (so_far.all, none, append-nil) so_far.written

-- Only a part of the next piece was written.
pub piece_cut : (text left piece rest : List ℕ) (x y z : Option (List ℕ)) → WritesUpTo text left x y
    → left ≡ piece ++ rest → WritesPart y z piece → WritesPart x z text
piece_cut text left piece rest x y z so_far split wrote =
    rw (so_far.all, split)
    (part_after x y z so_far.front (piece ++ rest) so_far.written (part_before y z piece rest wrote))

-- A text after a first one.
pub text_then : {T E : Type 0} (x y z : Option (List ℕ)) (first second text : List ℕ) (r : Result T E)
    → text ≡ first ++ second → AddsBytes x y first → WritesText y z second r → WritesText x z text r
text_then x y z first second text (Ok v) is before wrote = rw is (bytes_then x y z first second before wrote)
text_then x y z first second text (Err e) is before wrote = rw is (part_after x y z first second before wrote)

-- A text that `write_all` wrote.
pub text_of_all : {T E : Type 0} (x y : Option (List ℕ)) (text : List ℕ) (r : Result T E) → OnOk r (AddsBytes x y text)
    → OnErr r (WritesPart x y text) → WritesText x y text r
text_of_all x y text (Ok v) all part = all
text_of_all x y text (Err e) all part = part

-- The same text by another spelling of it.
pub text_is : {T E : Type 0} (x y : Option (List ℕ)) (text same : List ℕ) (r : Result T E) → same ≡ text
    → WritesText x y text r → WritesText x y same r
text_is x y text same r is wrote = rw is wrote

-- A write failed in the middle of a text.
pub fault_text : {T E : Type 0} (x y : Option (List ℕ)) (text : List ℕ) (r : Result T E) → is_err r ≡ true
    → WritesPart x y text → WritesText x y text r
fault_text x y text (Ok v) fails part = absurd cc
fault_text x y text (Err e) fails part = part

-- A write failed after a first text, and before a last one.
pub fault_then : {T E : Type 0} (x y z : Option (List ℕ)) (first second third text : List ℕ) (r : Result T E)
    → is_err r ≡ true → text ≡ (first ++ second) ++ third → AddsBytes x y first
    → WritesPart y z second → WritesText x z text r
fault_then x y z first second third text r fails is before part =
    fault_text x z text r fails
    (rw is (part_before x z (first ++ second) third (part_after x y z first second before part)))

-- A write failed in a first text.
pub fault_first : {T E : Type 0} (x y : Option (List ℕ)) (first second text : List ℕ) (r : Result T E) → is_err r ≡ true
    → text ≡ first ++ second → WritesPart x y first → WritesText x y text r
fault_first x y first second text r fails is part =
    fault_text x y text r fails (rw is (part_before x y first second part))

-- ---- pieces

-- The default piece past the end of a list of pieces.
abbrev pub no_piece : Bor (List ℕ)
no_piece = record { ref_ptr = (0, 0); now = [] }

-- The bytes of the pieces.
abbrev pub bytes_in : List (Bor (List ℕ)) → List ℕ
bytes_in pieces = concat (map (λ p. p.now) pieces)

pub pieces_go_on : (pieces : List (Bor (List ℕ))) (i : ℕ) → i < length pieces
    → bytes_in (drop i pieces) ≡ (get_or pieces i no_piece).now ++ bytes_in (drop (i + 1) pieces)
pieces_go_on pieces i inside = ap bytes_in (drop_more pieces i no_piece inside)

-- The hexadecimal digits of bytes one after another.
pub digits_of_both : (t xs ys : List ℕ) → encode_with t (xs ++ ys) ≡ encode_with t xs ++ encode_with t ys
unfolding encode_with
digits_of_both t [] ys = refl
digits_of_both t (x ∷ xs) ys = grind (arith, digits_of_both t xs ys)

-- Bytes that are split have their digits split.
pub digits_split : (left front back : List ℕ) (n : ℕ) → front ≡ take n left → back ≡ drop n left
    → encode_lower left ≡ encode_lower front ++ encode_lower back
digits_split left front back n is_front is_back =
    rw (is_front, is_back, ← digits_of_both lower_digits (take n left) (drop n left), take-append-drop)

-- The digits of a piece, which were written before other bytes.
pub digits_before : (piece out rest : List ℕ) → out ≡ encode_lower piece
    → take (2 * length piece) (out ++ rest) ≡ encode_lower piece
digits_before piece out rest is =
    let count = length-encode_with lower_digits piece in
    rw is (take-append-le (2 * length piece) (encode_lower piece) rest (omega (arith, count))
    ∙ take_all (2 * length piece) (encode_lower piece) (omega (arith, count)))

pub no_digits : (bytes : List ℕ) → true ≡ (length bytes == 0) → encode_lower bytes ≡ []
unfolding encode_with
no_digits [] none = refl
no_digits (b ∷ bytes) none = absurd (omega (arith, eqb-true (length (b ∷ bytes)) 0 (sym none)))

-- ---- paths

pub path_root : (path : Path) → path ≡ [] → path_word path ≡ slash ∷ []
unfolding path_word
path_root path none = rw none

pub path_first : (path rest : Path) (segment : List ℕ) → path ≡ segment ∷ rest
    → path_word path ≡ (slash ∷ flat_map encoded_byte segment) ++ path_bytes rest
unfolding path_word path_bytes
path_first path rest segment is = rw is

pub path_next : (left rest : Path) (segment : List ℕ) → left ≡ segment ∷ rest
    → path_bytes left ≡ (slash ∷ flat_map encoded_byte segment) ++ path_bytes rest
unfolding path_bytes
path_next left rest segment is = rw is

pub no_segments : (left : Path) → left ≡ [] → path_bytes left ≡ []
unfolding path_bytes
no_segments left none = rw none

-- ---- lines

pub took_none : (id : ℕ) (bytes : List ℕ) → true ≡ (length bytes == 0) → took_line id bytes ≡ []
unfolding took_line
took_none id [] none = refl
took_none id (b ∷ bytes) none = absurd (omega (arith, eqb-true (length (b ∷ bytes)) 0 (sym none)))

pub took_some : (id : ℕ) (bytes : List ℕ) → false ≡ (length bytes == 0)
    → took_line id bytes ≡ ((codes "in " ++ (decimal id ++ codes " ")) ++ encode_lower bytes) ++ codes "\n"
unfolding took_line
took_some id [] some = absurd cc
took_some id (b ∷ bytes) some = simp append_assoc

pub stored_parts : (path : Path) (format : Option ℕ) (bytes : List ℕ) → stored_line path format bytes
    ≡ (((codes "put " ++ path_word path) ++ (codes " " ++ (format_word format ++ codes " "))) ++ bytes_text bytes)
    ++ codes "\n"
stored_parts path format bytes = simp append_assoc

-- ---- buffers

-- Bytes of a queue that were passed on leave the bytes written, followed by those in the queue, as they were.
pub buffer_goes_on : (x y : Option (List ℕ)) (queued left more all : List ℕ) → WritesUpTo queued left x y
    → all ≡ left ++ more → AddsBytes (append_known x queued) (append_known y all) more
buffer_goes_on None y queued left more all moved is = tt
buffer_goes_on (Some w) y queued left more all moved is =
    rw (moved.written, is, moved.all) (simp append_assoc)

-- The first bytes of a part of a queue, and the other bytes of the queue.
pub part_of_queue : (waiting whole part : List ℕ) (count : ℕ) → whole ≡ waiting → part ≡ take (length part) whole
    → count ≤ length part → waiting ≡ take count part ++ drop count waiting
part_of_queue waiting whole part count same front within =
    let first = ap (take count) (front ∙ ap (take (length part)) same) ∙ take-take count (length part) waiting within in
    sym (take-append-drop count waiting) ∙ ap (λ t. t ++ drop count waiting) (sym first)

pub part_fits : (whole part waiting : List ℕ) (count : ℕ) → whole ≡ waiting → part ≡ take (length part) whole
    → count ≤ length part → count ≤ length waiting
part_fits whole part waiting count same front within =
    omega (arith, ap length front, ap length same, length-take (length part) whole)

-- The memory of a queue stays when its first bytes are removed.
pub room_stays : (before after : QueueValue) (count : ℕ) → after ≡ record before { waiting = drop count before.waiting }
    → count ≤ length before.waiting → length before.waiting ≤ before.bytes → room_in after ≡ room_in before
room_stays before after count is within fits = rw is (omega (arith, length-drop count before.waiting, within, fits))

pub responded_parts : (id : ℕ) (bytes : List ℕ)
    → respond_line id bytes ≡ ((codes "respond " ++ (decimal id ++ codes " ")) ++ encode_lower bytes) ++ codes "\n"
responded_parts id bytes = simp append_assoc

-- ---- an encoded response

-- The encoding of a message has a byte.
pub some_encoded : (m : Message) (bytes : List ℕ) → bytes ≡ spelling m → 1 ≤ length bytes
unfolding spelling
some_encoded m bytes is = rw is (omega arith)

-- The encoding of the empty message.
pub none_encoded : 0 ∷ 0 ∷ [] ≡ spelling (record { code = 0; token = []; options = []; payload = [] })
unfolding spelling
none_encoded = refl

pub none_read_back : message_of (0 ∷ 0 ∷ []) ≡ Ok (record { code = 0; token = []; options = []; payload = [] })
unfolding message_of head_at length_at option_number_at body_at body_within
none_read_back = refl
