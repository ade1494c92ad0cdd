-- Defined by this project: the level of a log.
use Rattle.std.specs.Prelude.{ℕ, Option, Some, None, ◌==◌, if◌then◌else◌}
use Rattle.coap_print.specs.declared.level.LogLevel.{LogLevel}
use Rattle.coap_print.specs.declared.level.LogLevel.TheVariants.{Nothing, Warnings, Connections, Messages}

-- The number of a level. Each level includes those with lower numbers.
abbrev pub level_number : LogLevel → ℕ
level_number Nothing = 0
level_number Warnings = 1
level_number Connections = 2
level_number Messages = 3

-- The level with a number, or None if there is no such level.
unfoldable pub level_of : ℕ → Option LogLevel
level_of number =
    if number == 0 then Some Nothing
    else (if number == 1 then Some Warnings
    else (if number == 2 then Some Connections
    else (if number == 3 then Some Messages
    else None)))
