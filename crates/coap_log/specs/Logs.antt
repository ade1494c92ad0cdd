-- Defined by this project: the lines that a log writes.
use Rattle.std.specs.Prelude.{◌≡◌, ℕ, ◌/◌, Bool, true, false, nat_le, List, [], ◌∷◌, ◌++◌, Option, Some, None, codes}
use Rattle.std.specs.Prelude.{decimal, if◌then◌else◌}
use Rattle.coap_print.specs.Lines.{appended}
use Rattle.coap_print.specs.declared.line.TheConstants.{LINE_LENGTH}
use Rattle.coap_print.specs.Levels.{level_number}
use Rattle.coap_print.specs.declared.level.LogLevel.{LogLevel}
use Rattle.coap_log.specs.Limits.{missed, admission, after_admission, last_report, after_end}
use Rattle.coap_log.specs.Times.{IsTimeText}
use Rattle.coap_log.specs.Writers.{Offer, AddsOffers}
use Rattle.coap_log.specs.declared.limit.LineLimit.{LineLimit}
use Rattle.coap_log.specs.declared.log.Log.{Log}
use Rattle.coap_log.specs.declared.limit.Admission.{Admission}
use Rattle.coap_log.specs.declared.limit.Admission.TheVariants.{LeftOut, Line, AfterReport}

-- The line is this text after a time and the name of a program, as in 2026-11-27T05:18:31.042Z coap-server: TEXT.
abbrev pub IsDated : List ℕ → ℕ → List ℕ → List ℕ → Type 0
IsDated program nanos text line =
    (time : List ℕ) × IsTimeText 3 nanos time
    × (line ≡ appended LINE_LENGTH [] (time ++ codes " " ++ program ++ codes ": " ++ text))

-- The text of a report of lines left out.
abbrev pub report_text : ℕ → List ℕ
report_text count = appended LINE_LENGTH [] (codes "lines left out: " ++ decimal count)

-- The limit after a line was offered. If the writer did not accept it, `count` lines are left out.
abbrev pub limit_after : ℕ → Bool → LineLimit → LineLimit
limit_after count accepted limit = if accepted then limit else missed count limit

-- These lines are offered because of a decision on a text, and the limit changes from `before` to `after`.
abbrev pub IsOffered : List ℕ → ℕ → List ℕ → Admission → LineLimit → LineLimit → List Offer → Type 0
IsOffered program nanos text LeftOut before after offers = (offers ≡ []) × (after ≡ before)
IsOffered program nanos text Line before after offers =
    (line : Offer) × IsDated program nanos text line.line
    × (offers ≡ line ∷ []) × (after ≡ limit_after 1 line.accepted before)
IsOffered program nanos text (AfterReport count) before after offers =
    (report line : Offer) × IsDated program nanos (report_text count) report.line × IsDated program nanos text line.line
    × (offers ≡ report ∷ line ∷ []) × (after ≡ limit_after 1 line.accepted (limit_after count report.accepted before))

-- A report of lines left out is offered, if it is due, and the limit changes from `before` to `after`.
abbrev pub IsReported : List ℕ → ℕ → Option ℕ → LineLimit → LineLimit → List Offer → Type 0
IsReported program nanos None before after offers = (offers ≡ []) × (after ≡ before)
IsReported program nanos (Some count) before after offers =
    (report : Offer) × IsDated program nanos (report_text count) report.line
    × (offers ≡ report ∷ []) × (after ≡ limit_after count report.accepted before)

-- ---- the log and the records of its writer

-- A log: its level, the name of the program and its limit. `offers` and `accepted` are the records of its writer: the
-- lines offered, and the bytes of those accepted.
pub record LogTrace : Type 0 where
  pub level : LogLevel
  pub program : List ℕ
  pub limit : LineLimit
  pub offers : Option (List Offer)
  pub accepted : Option (List ℕ)

-- The trace of a log, by the ghost members of its writer.
abbrev pub trace_of : {W : Type 0} → (W → Option (List Offer)) → (W → Option (List ℕ)) → Log W → LogTrace
trace_of offers accepted log = record {
  level = log.level;
  program = log.program;
  limit = log.limit;
  offers = offers log.writer;
  accepted = accepted log.writer;
}

-- A text is logged as a line of a level, at a time in nanoseconds.
pub record LogsLine (line_level : LogLevel) (nanos : ℕ) (text : List ℕ) (before after : LogTrace) : Type 0 where
  pub off : nat_le (level_number line_level) (level_number before.level) ≡ false → after ≡ before
  pub on : nat_le (level_number line_level) (level_number before.level) ≡ true
      → (offers : List Offer) × IsOffered before.program nanos text (admission before.limit (nanos / 1_000_000_000))
      (after_admission before.limit (nanos / 1_000_000_000)) after.limit offers
      × AddsOffers before.offers after.offers before.accepted after.accepted offers
  pub level : after.level ≡ before.level
  pub program : after.program ≡ before.program

-- The end of a log begins at a time in nanoseconds: the lines left out are reported.
pub record LogsEnd (nanos : ℕ) (before after : LogTrace) : Type 0 where
  pub reported : (offers : List Offer)
      × IsReported before.program nanos (last_report before.limit (nanos / 1_000_000_000))
      (after_end before.limit (nanos / 1_000_000_000)) after.limit offers
      × AddsOffers before.offers after.offers before.accepted after.accepted offers
  pub level : after.level ≡ before.level
  pub program : after.program ≡ before.program
