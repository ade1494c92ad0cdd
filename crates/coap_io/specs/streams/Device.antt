-- Defined by this project: the bytes that sources and outlets pass on.
use Rattle.std.specs.Prelude.{◌≡◌, ◌≢◌, ℕ, zero, suc, Bool, true, false, List, [], ◌∷◌, ◌++◌, length, Option, Some}
use Rattle.std.specs.Prelude.{None, nat_lt, ◌==◌, take, if◌then◌else◌}
use Rattle.std.specs.List.{concat}
use Rattle.std.specs.Io.KnownBytes.{Consumes, IsAtEnd}

-- Holds if a source that records its chunks has added these to its record. Nothing is claimed of a source that records
-- none.
abbrev pub AddsPieces : Option (List (List ℕ)) → Option (List (List ℕ)) → List (List ℕ) → Type 0
AddsPieces None new pieces = Unit {0}
AddsPieces (Some before) new pieces = new ≡ Some (before ++ pieces)

-- Holds if an outlet that records the bytes written has added these to its record. Nothing is claimed of an outlet that
-- records none.
abbrev pub AddsBytes : Option (List ℕ) → Option (List ℕ) → List ℕ → Type 0
AddsBytes None new bytes = Unit {0}
AddsBytes (Some before) new bytes = new ≡ Some (before ++ bytes)

-- True if a write fails: it returns no number, or 0 for at least one byte.
abbrev pub is_failed_write : Option ℕ → List ℕ → Bool
is_failed_write None bytes = true
is_failed_write (Some zero) bytes = nat_lt 0 (length bytes)
is_failed_write (Some (suc n)) bytes = false

-- The record of a source: the chunk that each read returned so far, and the bytes left to read. A part that the source
-- does not record is `None`.
pub record DeviceTrace : Type 0 where
  pub pieces : Option (List (List ℕ))
  pub remaining : Option (List ℕ)

-- Holds if the last chunk is empty: its read found the end.
abbrev pub FoundEnd : List (List ℕ) → Type 0
FoundEnd [] = ⊥
FoundEnd (p ∷ []) = p ≡ []
FoundEnd (p ∷ q ∷ ps) = FoundEnd (q ∷ ps)

-- Holds if no bytes are left to read, provided that the source recorded them before.
abbrev pub EndsAt : Option (List ℕ) → Option (List ℕ) → Type 0
EndsAt None new = Unit {0}
EndsAt (Some before) new = IsAtEnd new

-- Holds if a source returned these chunks between the records `old` and `new`. After a read that found the end, no
-- bytes are left.
pub record HasGiven (old new : DeviceTrace) (pieces : List (List ℕ)) : Type 0 where
  pub more : AddsPieces old.pieces new.pieces pieces
  pub fewer : Consumes old.remaining new.remaining (concat pieces)
  pub end : FoundEnd pieces → EndsAt old.remaining new.remaining

-- The chunk that a read of `n` bytes into a buffer gives. A buffer of no bytes gives none.
abbrev pub pieces_read : List ℕ → ℕ → List (List ℕ)
pieces_read buffer n = if length buffer == 0 then [] else take n buffer ∷ []

-- Holds if an outlet that records the bytes written has added a prefix of these to its record, but not all of them.
abbrev pub WritesPart : Option (List ℕ) → Option (List ℕ) → List ℕ → Type 0
WritesPart old new bytes = (part missing : List ℕ) × (missing ≢ []) × (bytes ≡ part ++ missing) × AddsBytes old new part
