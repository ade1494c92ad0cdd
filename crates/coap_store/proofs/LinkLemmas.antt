-- The texts of the links: their parts, and their lengths.
use Rattle.std.proofs.Common.{◌≡◌, ℕ, ◌-◌, ◌*◌, ◌<◌, ◌≤◌, true, List, [], ◌∷◌, ◌++◌, length, Option, Some, None}
use Rattle.std.proofs.Common.{append_assoc, arith}
use Rattle.coap_store.specs.Prelude.{AllByRecursion, IfSome, codes, flat_map, with_end, Path, is_path, written_length}
use Rattle.coap_store.specs.Prelude.{ApplicationEntryValue, ApplicationsValue, attribute_bytes, encoded_byte, end_bytes}
use Rattle.coap_store.specs.Prelude.{entry_bytes, first_bytes, format_bytes, is_unreserved, link_bytes, path_bytes}
use Rattle.std.proofs.lemmas.Bool.{and_parts, leb-true, cond_both}
use Rattle.std.proofs.lemmas.Fmt.{length-decimal-le}
use Rattle.std.proofs.lemmas.List.{length-append}
use Rattle.std.proofs.Math.Seq.{take-append_seam}
use Rattle.coap_path.proofs.PathLemmas.{path_fits}
use Rattle.coap_path.specs.Attributes.{are_attributes}
use Rattle.coap_path.specs.Invariant.{IsEntry, AreEntries}
use Rattle.std.proofs.lemmas.Grind.{common_steps}

-- ---- the end of the text of a resource

front_bytes : Path → List ℕ
front_bytes path = codes ",<" ++ (path_bytes path ++ codes ">")

entry_parts : (path : Path) (format : Option ℕ) → entry_bytes path format ≡ front_bytes path ++ end_bytes format
unfolding entry_bytes front_bytes
entry_parts path format = simp append_assoc

-- The text of a resource whose Content-Format changes.
pub entry_changed : (path : Path) (old new : Option ℕ)
    → with_end (entry_bytes path old) (length (end_bytes old)) (end_bytes new) ≡ entry_bytes path new
entry_changed path old new =
    let front = front_bytes path in
    let size : length (front ++ end_bytes old) - length (end_bytes old) ≡ length front =
    omega (arith, length-append front (end_bytes old)) in
    rw (entry_parts path old, entry_parts path new, size, take-append_seam)

pub end_within : (path : Path) (format : Option ℕ) → length (end_bytes format) ≤ length (entry_bytes path format)
end_within path format = rw entry_parts (omega (arith, length-append (front_bytes path) (end_bytes format)))

-- ---- the link of an entry

-- The text of an entry: the link before its attributes, followed by these.
pub link_parts : (e : ApplicationEntryValue)
    → (codes ",<" ++ (path_bytes e.prefix ++ codes ">")) ++ attribute_bytes e.attributes ≡ link_bytes e
unfolding link_bytes
link_parts e = simp append_assoc

-- ---- the length of the text

-- A byte is written as one byte or as three.
byte_short : (b : ℕ) → length (encoded_byte b) ≤ 3
unfolding encoded_byte
byte_short b = cond_both (is_unreserved b) _ _ (λ (t : List ℕ). length t ≤ 3) (λ _. omega arith) (λ _. omega arith)

segment_short : (s : List ℕ) → length (flat_map encoded_byte s) ≤ 3 * length s
segment_short [] = omega arith
segment_short (b ∷ s) = omega (arith, byte_short b, segment_short s, length-append {A = ℕ})

path_short : (p : Path) → length (path_bytes p) ≤ 3 * written_length p
unfolding path_bytes
path_short [] = omega arith
path_short (s ∷ ss) =
    omega (arith, path_short ss, segment_short s, length-append (flat_map encoded_byte s) (path_bytes ss))

format_short : (format : Option ℕ) → IfSome format (λ n. n < 65536) → length (format_bytes format) ≤ 9
format_short None h = omega arith
format_short (Some format) h =
    omega (arith, length-decimal-le 5 format (omega arith) (omega arith) (omega arith), length-append {A = ℕ})

pub entry_short : (path : Path) (format : Option ℕ) → is_path path ≡ true → IfSome format (λ n. n < 65536)
    → length (entry_bytes path format) ≤ 781
unfolding entry_bytes
entry_short path format is small =
    omega (arith, path_short path, path_fits path is, format_short format small, length-append {A = ℕ})

attributes_short : (bytes : List ℕ) → are_attributes bytes ≡ true → length (attribute_bytes bytes) ≤ 256
unfolding are_attributes
attributes_short [] is = omega arith
attributes_short (b ∷ bs) is = omega (arith, leb-true (length (b ∷ bs)) 255 (and_parts _ _ is).0)

link_short : (e : ApplicationEntryValue) → IsEntry e → length (link_bytes e) ≤ 1024
unfolding link_bytes
link_short e is = grind (arith, path_short, path_fits, attributes_short, length-append)

links_bound : (es : List ApplicationEntryValue) → AllByRecursion IsEntry es
    → length (flat_map link_bytes es) ≤ 1024 * length es
links_bound [] each = omega arith
links_bound (e ∷ es) each = omega (arith, links_bound es each.1, link_short e each.0, length-append {A = ℕ})

-- The first text of 16 entries fits in 16,423 bytes.
pub first_short : (a : ApplicationsValue) → AreEntries a.entries → length (first_bytes (Some a)) ≤ 16423
unfolding first_bytes
first_short a are = omega (arith, are.few, links_bound a.entries are.each, length-append {A = ℕ})

pub ruleset push_link_steps = (link_parts, append_assoc, common_steps)

pub ruleset first_text_steps = (first_short, common_steps)
