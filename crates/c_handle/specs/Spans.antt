-- Defined by this project: the place of bytes that a C program reads.
use Rattle.std.specs.Prelude.{ℕ, List, length, take, drop}
use denote.Ref.{Bor}
use denote.RawPtr.{Ptr, ◌+ₚ◌}
use Rattle.std.specs.Ptr.{as_ptr}
use Rattle.c_handle.specs.declared.places.Place.{Place}
use Rattle.c_handle.specs.declared.span.Span.{Span}

-- The place of all bytes of a slice.
abbrev pub place_whole : Bor (List ℕ) → Place
place_whole slice = record { at = as_ptr slice; count = length slice.now }

-- A span that was made for these bytes.
abbrev pub span_with : Ptr → ℕ → List ℕ → Span
span_with at count bytes = record { at = at; count = count; bytes = bytes }

-- The span of all bytes of a slice.
abbrev pub span_whole : Bor (List ℕ) → Span
span_whole slice = span_with (as_ptr slice) (length slice.now) slice.now

-- The span of the `count` bytes from the position `at` of a slice on.
abbrev pub span_at : Bor (List ℕ) → (at count : ℕ) → Span
span_at slice at count = span_with (as_ptr slice +ₚ at) count (take count (drop at slice.now))
