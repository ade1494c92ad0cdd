-- Writes of bytes, one after another.
use Rattle.std.proofs.Common.{◌≡◌, ◌≢◌, ℕ, ◌-◌, List, [], ◌∷◌, ◌++◌, length, take, drop, Option, Result, Ok, Err, OnErr}
use Rattle.std.proofs.Common.{refl, sym, ap, ◌∙◌, append_assoc, arith}
use Rattle.std.proofs.lemmas.List.{take-append-drop, take_all, length-drop}
use Rattle.coap_io.specs.Prelude.{AddsBytes, WritesPart}
use Rattle.coap_io.proofs.streams.DeviceLemmas.{bytes_then}

-- The bytes after the first n.
pub rest_of : (n : ℕ) (bytes : List ℕ) → take (length bytes - n) (drop n bytes) ≡ drop n bytes
rest_of n bytes = take_all (length bytes - n) (drop n bytes) (omega (arith, length-drop n bytes))

-- A prefix of these bytes was written between the records x and y, and `left` are the other bytes.
pub record WritesFront (bytes left : List ℕ) (x y : Option (List ℕ)) : Type 0 where
  pub front : List ℕ
  pub all : bytes ≡ front ++ left
  pub written : AddsBytes x y front

-- More of the bytes were written.
pub more_written : (bytes left : List ℕ) (x y z : Option (List ℕ)) (so_far : WritesFront bytes left x y) (count : ℕ)
    → AddsBytes y z (take count left) → WritesFront bytes (drop count left) x z
more_written bytes left x y z so_far count wrote = record {
  front = so_far.front ++ take count left;
  all = rw (append_assoc, take-append-drop) so_far.all;
  written = bytes_then x y z so_far.front (take count left) so_far.written wrote;
}

no_end_missing : (missing more : List ℕ) → missing ≢ [] → missing ++ more ≢ []
no_end_missing [] more some = absurd (some refl)
no_end_missing (b ∷ bs) more some = λ none. absurd cc

-- A part of the first slice is a part of both.
pub part_before : (x y : Option (List ℕ)) (first second : List ℕ) → WritesPart x y first
    → WritesPart x y (first ++ second)
part_before x y first second wrote = (
  wrote.0,
  wrote.1 ++ second,
  no_end_missing wrote.1 second wrote.2,
  ap (λ (b : List ℕ). b ++ second) wrote.3 ∙ append_assoc wrote.0 wrote.1 second,
  wrote.4,
)

-- The first slice and a part of the second are a part of both.
pub part_after : (x y z : Option (List ℕ)) (first second : List ℕ) → AddsBytes x y first → WritesPart y z second
    → WritesPart x z (first ++ second)
part_after x y z first second before wrote = (
  first ++ wrote.0,
  wrote.1,
  wrote.2,
  ap (λ (b : List ℕ). first ++ b) wrote.3 ∙ sym (append_assoc first wrote.0 wrote.1),
  bytes_then x y z first wrote.0 before wrote.4,
)

-- A property that always holds also holds if a result is an error.
pub on_any_fault : {T E : Type 0} (r : Result T E) (P : Type 0) → P → OnErr r P
on_any_fault (Ok x) P holds = tt
on_any_fault (Err e) P holds = holds
