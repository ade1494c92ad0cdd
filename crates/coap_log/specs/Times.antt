-- Defined by this project: the time of a line, in UTC (RFC 3339).
use Rattle.std.specs.Prelude.{◌≡◌, ℕ, List, ◌++◌, min, pos, codes, false, Some}
use Rattle.jiff_core.specs.DateTime.{civil_nanos}
use Rattle.jiff_core.specs.declared.civil.datetime.DateTime.{DateTime}
use Rattle.jiff_fmt.specs.Text.{datetime_text}

-- The last nanosecond of the year 9999, after the start of 1970.
abbrev pub last_time : ℕ
last_time = 253_402_300_799_999_999_999

-- A date and a time of day, as in 2026-11-27T05:18:31.042 with three digits of the fraction of the second.
abbrev pub local_text : ℕ → DateTime → List ℕ
local_text digits moment = datetime_text false 84 (Some digits) moment

-- The same in UTC, as in 2026-11-27T05:18:31.042Z.
abbrev pub moment_text : ℕ → DateTime → List ℕ
moment_text digits moment = local_text digits moment ++ codes "Z"

-- The text is that of a time, in nanoseconds after the start of 1970 in UTC. The fraction of the second has this number
-- of digits. A time after the year 9999 is written as the last one of that year.
abbrev pub IsTimeText : ℕ → ℕ → List ℕ → Type 0
IsTimeText digits nanos text =
    (moment : DateTime) × (civil_nanos moment ≡ pos (min nanos last_time)) × (text ≡ moment_text digits moment)
