-- Defined by this project: the errors that report a failed device, and those that end a run over a listener.
use Rattle.std.specs.Prelude.{Bool, true, false, Result, Ok, Err}
use Rattle.coap_server_engine.specs.declared.io_fault.IoFault.{IoFault}
use Rattle.coap_server_engine.specs.declared.io_fault.IoFault.TheVariants.{Read, Write, Memory, Turns}

abbrev pub is_read_fault : {T : Type 0} → Result T IoFault → Bool
is_read_fault (Ok x) = false
is_read_fault (Err Read) = true
is_read_fault (Err Write) = false
is_read_fault (Err Memory) = false
is_read_fault (Err Turns) = false

abbrev pub is_write_fault : {T : Type 0} → Result T IoFault → Bool
is_write_fault (Ok x) = false
is_write_fault (Err Read) = false
is_write_fault (Err Write) = true
is_write_fault (Err Memory) = false
is_write_fault (Err Turns) = false

-- The error is a failed allocation.
abbrev pub IsMemory : IoFault → Type 0
IsMemory Read = ⊥
IsMemory Write = ⊥
IsMemory Memory = Unit {0}
IsMemory Turns = ⊥

-- The result is an error: a failed allocation or the limit of turns.
abbrev pub IsMemoryOrTurns : {T : Type 0} → Result T IoFault → Type 0
IsMemoryOrTurns (Ok x) = ⊥
IsMemoryOrTurns (Err Read) = ⊥
IsMemoryOrTurns (Err Write) = ⊥
IsMemoryOrTurns (Err Memory) = Unit {0}
IsMemoryOrTurns (Err Turns) = Unit {0}
