-- Defined by this project: a limit on the number of lines a second.
use Rattle.std.specs.Prelude.{◌≡◌, ℕ, ◌+◌, ◌-◌, ◌≤◌, ◌^◌, Bool, true, false, ◌&&◌, ◌==◌, nat_lt, min, List, [], ◌∷◌}
use Rattle.std.specs.Prelude.{Option, Some, None, if◌then◌else◌}
use Rattle.std.specs.List.{AllByRecursion}
use Rattle.coap_log.specs.declared.limit.LineLimit.{LineLimit}
use Rattle.coap_log.specs.declared.limit.Admission.{Admission}
use Rattle.coap_log.specs.declared.limit.Admission.TheVariants.{LeftOut, Line, AfterReport}

-- The maximum number of lines in one second.
abbrev pub most : ℕ
most = 100

-- The number of them that only the end of a log has: the report of lines left out, and the last line.
abbrev pub last_lines : ℕ
last_lines = 2

-- The limit of a log without lines.
abbrev pub fresh : LineLimit
fresh = record { second = 0; written = 0; left_out = 0; is_ending = false }

-- The limit at a time. A second other than the present one begins with no line written.
abbrev pub begun : LineLimit → ℕ → LineLimit
begun l second = if l.second == second then l else record l { second = second; written = 0 }

-- True if the present second begins with a report: lines were left out, and no line was written in it.
abbrev pub is_report_due : LineLimit → Bool
is_report_due l = (l.written == 0) && nat_lt 0 l.left_out

-- The number of lines left out that a line reports at a time, if it does.
unfoldable pub report : LineLimit → ℕ → Option ℕ
report l second = if is_report_due (begun l second) then Some l.left_out else None

-- The limit after that line, if there is one.
unfoldable pub after_report : LineLimit → ℕ → LineLimit
after_report l second =
    if is_report_due (begun l second) then record (begun l second) { written = 1; left_out = 0 } else begun l second

-- The limit after `count` more lines were left out.
unfoldable pub missed : ℕ → LineLimit → LineLimit
missed count l = record l { left_out = min (l.left_out + count) (2 ^ 64 - 1) }

-- The maximum number of lines in the present second.
abbrev pub most_in : LineLimit → ℕ
most_in l = if l.is_ending then most else most - last_lines

-- True if the present second has room for a line.
abbrev pub has_room : LineLimit → Bool
has_room l = nat_lt l.written (most_in l)

-- The decision on a line, after this report or none.
abbrev pub admitted : Option ℕ → Admission
admitted None = Line
admitted (Some count) = AfterReport count

-- The decision on a line at a time.
unfoldable pub admission : LineLimit → ℕ → Admission
admission l second = if has_room (after_report l second) then admitted (report l second) else LeftOut

-- The limit after the decision.
unfoldable pub after_admission : LineLimit → ℕ → LineLimit
after_admission l second =
    let l = after_report l second in
    if has_room l then record l { written = l.written + 1 } else missed 1 l

-- ---- the end of a log

-- The limit at the end of a log.
abbrev pub ending : LineLimit → ℕ → LineLimit
ending l second = record (begun l second) { is_ending = true }

-- True if the end of a log begins with a report: lines were left out, and the present second has room for it.
abbrev pub is_last_report_due : LineLimit → Bool
is_last_report_due l = nat_lt 0 l.left_out && nat_lt l.written most

-- The number of lines left out that a line reports at the end of a log, if it does.
unfoldable pub last_report : LineLimit → ℕ → Option ℕ
last_report l second = if is_last_report_due (ending l second) then Some l.left_out else None

-- The limit after that line, if there is one.
unfoldable pub after_end : LineLimit → ℕ → LineLimit
after_end l second =
    if is_last_report_due (ending l second)
    then record (ending l second) { written = (ending l second).written + 1; left_out = 0 } else ending l second

-- ---- lists of calls

-- A call of a limit at a time: a decision on a line, a report, or the end of the log. A call without a time counts
-- lines that could not be written.
pub data LimitCall : Type 0 where
  Admit : (second : ℕ) → LimitCall
  Report : (second : ℕ) → LimitCall
  End : (second : ℕ) → LimitCall
  Miss : (count : ℕ) → LimitCall

-- The limit after a call.
abbrev pub after_call : LineLimit → LimitCall → LineLimit
after_call l (Admit second) = after_admission l second
after_call l (Report second) = after_report l second
after_call l (End second) = after_end l second
after_call l (Miss count) = missed count l

-- The number of lines that a decision writes.
abbrev pub lines_of_admission : Admission → ℕ
lines_of_admission LeftOut = 0
lines_of_admission Line = 1
lines_of_admission (AfterReport count) = 2

-- The number of lines that a report writes.
abbrev pub lines_of_report : Option ℕ → ℕ
lines_of_report None = 0
lines_of_report (Some count) = 1

-- The number of lines that a call writes.
abbrev pub lines_of_call : LineLimit → LimitCall → ℕ
lines_of_call l (Admit second) = lines_of_admission (admission l second)
lines_of_call l (Report second) = lines_of_report (report l second)
lines_of_call l (End second) = lines_of_report (last_report l second)
lines_of_call l (Miss count) = 0

-- The number of lines that these calls write.
unfoldable pub lines_of : LineLimit → List LimitCall → ℕ
lines_of l [] = 0
lines_of l (call ∷ calls) = lines_of_call l call + lines_of (after_call l call) calls

-- A call at this second of the clock, or one without a time.
abbrev pub IsAt : ℕ → LimitCall → Type 0
IsAt now (Admit second) = second ≡ now
IsAt now (Report second) = second ≡ now
IsAt now (End second) = second ≡ now
IsAt now (Miss count) = Unit {0}

-- The clock shows this second at all of these calls.
abbrev pub AreAt : ℕ → List LimitCall → Type 0
AreAt now calls = AllByRecursion (IsAt now) calls

-- The number of lines that these calls write in a second: the calls after which it is the present second.
unfoldable pub lines_in : ℕ → LineLimit → List LimitCall → ℕ
lines_in second l [] = 0
lines_in second l (call ∷ calls) =
    (if (after_call l call).second == second then lines_of_call l call else 0)
    + lines_in second (after_call l call) calls

-- The clock does not go back at these calls.
unfoldable pub GoesForward : LineLimit → List LimitCall → Type 0
GoesForward l [] = Unit {0}
GoesForward l (call ∷ calls) = (l.second ≤ (after_call l call).second) × GoesForward (after_call l call) calls

-- A call before the end of a log.
abbrev pub is_before_end : LimitCall → Bool
is_before_end (Admit second) = true
is_before_end (Report second) = true
is_before_end (End second) = false
is_before_end (Miss count) = true

-- The number of lines that a decision leaves out.
abbrev pub lost_by_admission : Admission → ℕ
lost_by_admission LeftOut = 1
lost_by_admission Line = 0
lost_by_admission (AfterReport count) = 0

-- The number of lines that a call leaves out.
abbrev pub lost_by_call : LineLimit → LimitCall → ℕ
lost_by_call l (Admit second) = lost_by_admission (admission l second)
lost_by_call l (Report second) = 0
lost_by_call l (End second) = 0
lost_by_call l (Miss count) = count

-- The number of lines left out that a decision reports.
abbrev pub reported_by_admission : Admission → ℕ
reported_by_admission LeftOut = 0
reported_by_admission Line = 0
reported_by_admission (AfterReport count) = count

-- The number of lines left out that a report has.
abbrev pub reported_in : Option ℕ → ℕ
reported_in None = 0
reported_in (Some count) = count

-- The number of lines left out that a call reports.
abbrev pub reported_by_call : LineLimit → LimitCall → ℕ
reported_by_call l (Admit second) = reported_by_admission (admission l second)
reported_by_call l (Report second) = reported_in (report l second)
reported_by_call l (End second) = reported_in (last_report l second)
reported_by_call l (Miss count) = 0

-- The number of lines that these calls leave out.
unfoldable pub lost : LineLimit → List LimitCall → ℕ
lost l [] = 0
lost l (call ∷ calls) = lost_by_call l call + lost (after_call l call) calls

-- The number of lines left out that these calls report.
unfoldable pub reported : LineLimit → List LimitCall → ℕ
reported l [] = 0
reported l (call ∷ calls) = reported_by_call l call + reported (after_call l call) calls

-- The limit after these calls.
unfoldable pub after_calls : LineLimit → List LimitCall → LineLimit
after_calls l [] = l
after_calls l (call ∷ calls) = after_calls (after_call l call) calls
