-- Defined by this project: the exit status after an error.
use Rattle.std.specs.Prelude.{ℕ}
use Rattle.program_explain.specs.declared.trouble.Trouble.{Trouble}
use Rattle.program_explain.specs.declared.trouble.Trouble.TheVariants.{Read, Write, Memory, NoEvent, TooLong, Torn}
use Rattle.program_explain.specs.declared.trouble.Trouble.TheVariants.{Options}

-- The exit status after an error: 3 if a file, a stream or an allocation failed, else 1.
abbrev pub trouble_status : Trouble → ℕ
trouble_status Read = 3
trouble_status Write = 3
trouble_status Memory = 3
trouble_status (NoEvent number) = 1
trouble_status (TooLong number) = 1
trouble_status (Torn number) = 1
trouble_status (Options number) = 1
