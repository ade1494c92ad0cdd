-- The value that contracts see for `Flags`, and its invariant.
use Rattle.std.specs.Prelude.{◌≡◌, ◌≤◌, ◌<◌, ◌/◌, ℕ, Bool, true, false, List, Option, Some, None, is_some, slice_get}
use Rattle.std.specs.Prelude.{get_or}
use Rattle.coap_server_session.specs.declared.flags.Flags.TheInside.{Inside}

abbrev pub flags_value : Inside → List Bool
flags_value f = f.flags

-- Holds if no flag from the index `from` up to, but not including, `to` is set.
abbrev pub AreClear : ℕ → ℕ → List Bool → Type 0
AreClear from to flags = (i : ℕ) → from ≤ i → i < to → get_or flags i false ≡ false

-- Holds if the summary of the block of each set flag is set.
abbrev pub AreBlocks : List Bool → List Bool → Type 0
AreBlocks flags blocks = (i : ℕ) → get_or flags i false ≡ true → get_or blocks (i / 16) false ≡ true

-- The invariant of `Flags`.
pub record AreFlags (f : Inside) : Type 0 where
  pub within : f.from ≤ 256
  pub before : AreClear 0 f.from f.flags
  pub end : f.to ≤ 256
  pub after : AreClear f.to 256 f.flags
  pub blocks : AreBlocks f.flags f.blocks

abbrev pub are_flags : Inside → Type 0
are_flags f = AreFlags f

-- `true` if there is a changed mark at an index.
abbrev pub flag_of : Option (Option ℕ) → Bool
flag_of None = false
flag_of (Some mark) = is_some mark

-- Holds if each flag says whether there is a changed mark at its index.
abbrev pub AreFlagged : List Bool → List (Option ℕ) → Type 0
AreFlagged flags marks = (i : ℕ) → get_or flags i false ≡ flag_of (slice_get marks i)
