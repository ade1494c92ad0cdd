-- Defined by this project: the memory that the handle of a C program owns.
use Rattle.std.specs.Prelude.{None, Some}
use base.Fml.{Fml, ftrue, fex}
use denote.RattleType.{RattleType}
use denote.RawPtr.{Ptr, block_ptr, null_ptr}
use Rattle.std.specs.declared.option.Option.{Option}
use Rattle.std_alloc.specs.Box.Ownership.{box_owns}
use Rattle.libc.specs.Heap.{chunk}

-- A formula that never holds.
abbrev pub impossible : Fml
impossible = fex ⊥ (λ _. ftrue)

-- A handle without a value is null and owns nothing. Otherwise it owns the box at its address, with this value.
abbrev pub slot_owns : (R : RattleType) → Ptr → Option R.Denot → Fml
slot_owns R null_ptr None = ftrue
slot_owns R null_ptr (Some x) = impossible
slot_owns R (block_ptr b o) None = impossible
slot_owns R (block_ptr b o) (Some x) = box_owns chunk R (block_ptr b o) x
