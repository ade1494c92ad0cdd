-- Defined by this project: the calls that a server accepts in a run over one input, and the report of them to a
-- monitor.
use Rattle.std.specs.Prelude.{◌≡◌, ◌≢◌, ◌≤◌, ◌⊎◌, ℕ, zero, suc, ◌+◌, ◌==◌, List, [], ◌∷◌, ◌++◌, length, Option, Some}
use Rattle.std.specs.Prelude.{None, Result, Ok, Err, Bool, true, false, if◌then◌else◌}
use Rattle.std.specs.List.{AllByRecursion, concat}
use Rattle.coap_server_engine.specs.Prelude.{Reason, ConfigValues, ServerValue, Shows}
use Rattle.coap_model.specs.streams.Output.{only_id, outcome, waiting_of}
use Rattle.coap_model.specs.world.Events.{AcceptedCall, Opened, Took, Wrote, Ended, taken_on, world_after}
use Rattle.coap_model.specs.world.World.{side_of}
use Rattle.coap_server_engine.specs.values.Flushes.{IsFlushed, flush_turns, more_at, waiting_at}
use Rattle.coap_server_engine.specs.declared.io_fault.IoFault.{IoFault}
use Rattle.coap_server_engine.specs.declared.io_fault.IoFault.TheVariants.{Read, Write, Memory, Turns}
use Rattle.coap_serve.specs.declared.serve_streams.Report.{Report}
use Rattle.coap_serve.specs.streams.StdioRun.{IsLastByte, IsNoRun}

-- ---- a flush

-- The call that one iteration of a flush makes, if bytes were queued before.
abbrev pub flush_calls : ℕ → ServerValue → (waited : Bool) → List AcceptedCall
flush_calls id v true = Wrote id (length (waiting_at id v)) ∷ []
flush_calls id v false = []

-- The calls that these iterations of a flush make: each removes the bytes that it wrote from the queue.
unfoldable pub calls_of_flush : (turns id : ℕ) → ServerValue → List AcceptedCall
calls_of_flush zero id v = []
calls_of_flush (suc turns) id v =
    calls_of_flush turns id v ++ Wrote id (length (waiting_at id (flush_turns turns id v).server)) ∷ []

-- A flush is complete, and the monitor received the calls of its iterations.
pub record IsReportedFlush (id : ℕ) (v after : ServerValue) (wrote : List ℕ → Type 0)
    (monitor : List AcceptedCall → Type 0) : Type 0 where
  pub flushed : IsFlushed id v after wrote
  pub reports : monitor (calls_of_flush flushed.turns id v)

-- A write failed after `turns` iterations, and passed on only a part of the queued bytes. The monitor received the
-- calls of the iterations before it.
pub record IsCutFlush (id : ℕ) (v : ServerValue) (wrote : List ℕ → Type 0)
    (monitor : List AcceptedCall → Type 0) : Type 0 where
  pub turns : ℕ
  pub within : turns ≤ more_at id v
  pub reports : monitor (calls_of_flush turns id v)
  pub part : List ℕ
  pub missing : List ℕ
  pub some : missing ≢ []
  pub all : waiting_at id (flush_turns turns id v).server ≡ part ++ missing
  pub written : wrote ((flush_turns turns id v).text ++ part)

-- ---- the calls of a run

-- The number of bytes that an event removed from the queue of a connection; 0 unless it is a `Wrote` of
-- this connection.
abbrev pub written_in : ℕ → AcceptedCall → ℕ
written_in id (Wrote other n) = if other == id then n else 0
written_in id call = 0

-- The number of all bytes written on a connection.
unfoldable pub written_on : ℕ → List AcceptedCall → ℕ
written_on id [] = 0
written_on id (e ∷ es) = written_in id e + written_on id es

-- The connection with this number accepts bytes, or bytes of it are written.
abbrev pub IsTransfer : ℕ → AcceptedCall → Type 0
IsTransfer id (Took other bytes) = other ≡ id
IsTransfer id (Wrote other n) = other ≡ id
IsTransfer id call = ⊥

-- If the event follows these earlier ones and is a `Took`, then no byte is queued on its connection before it.
abbrev pub IsAfterOutput : ConfigValues → (earlier : List AcceptedCall) → AcceptedCall → Type 0
IsAfterOutput c earlier (Took id bytes) = waiting_of (side_of id (world_after c earlier).sides) ≡ []
IsAfterOutput c earlier call = Unit {0}

-- The same for each of these events, which follow the earlier ones.
unfoldable pub AreAfterOutput : ConfigValues → (earlier events : List AcceptedCall) → Type 0
AreAfterOutput c earlier [] = Unit {0}
AreAfterOutput c earlier (e ∷ es) = IsAfterOutput c earlier e × AreAfterOutput c (earlier ++ e ∷ []) es

-- A connection is opened. Then it accepts the bytes `taken`, and this number of bytes is written. Nothing else happens.
-- Each time it accepts bytes, all output for the bytes before them was written.
pub record AreTransfers (c : ConfigValues) (id : ℕ) (taken : List ℕ) (written : ℕ)
    (events : List AcceptedCall) : Type 0 where
  pub calls : List AcceptedCall
  pub opened : events ≡ Opened id ∷ calls
  pub each : AllByRecursion (IsTransfer id) calls
  pub bytes : taken_on id events ≡ taken
  pub count : written_on id events ≡ written
  pub after_output : AreAfterOutput c [] events

-- ---- the report to a monitor

-- The monitor received exactly the calls that a server of this configuration accepted: the server shows them. Its only
-- connection accepted the bytes `taken`, and this number of bytes was written.
pub record HasReported (c : ConfigValues) (monitor : List AcceptedCall → Type 0) (taken : List ℕ)
    (written : ℕ) : Type 0 where
  pub server : ServerValue
  pub config : server.config ≡ c
  pub events : List AcceptedCall
  pub shows : Shows server events
  pub transfers : AreTransfers c (only_id c) taken written events
  pub monitor_reports : monitor events

-- The same for a run that the end of input ended, which is the last call.
pub record HasReportedEnd (c : ConfigValues) (monitor : List AcceptedCall → Type 0) (taken : List ℕ)
    (written : ℕ) : Type 0 where
  pub server : ServerValue
  pub config : server.config ≡ c
  pub before : List AcceptedCall
  pub transfers : AreTransfers c (only_id c) taken written before
  pub shows : Shows server (before ++ Ended (only_id c) ∷ [])
  pub monitor_reports : monitor (before ++ Ended (only_id c) ∷ [])

-- The same for a run of whose bytes only the prefix `taken` was accepted. It stops the connection as all bytes do.
pub record HasReportedStop (c : ConfigValues) (monitor : List AcceptedCall → Type 0) (bytes : List ℕ)
    (written : ℕ) : Type 0 where
  pub taken : List ℕ
  pub later : List ℕ
  pub all : bytes ≡ taken ++ later
  pub same : outcome c taken ≡ outcome c bytes
  pub reported : HasReported c monitor taken written

-- The same for a run in which a write failed. The monitor received the calls before this write. It passed on `part`, a
-- proper prefix of the bytes that were queued then, and `written` bytes were written in all.
pub record HasReportedCut (c : ConfigValues) (monitor : List AcceptedCall → Type 0) (bytes : List ℕ)
    (written : ℕ) : Type 0 where
  pub taken : List ℕ
  pub later : List ℕ
  pub all : bytes ≡ taken ++ later
  pub before : ℕ
  pub reported : HasReported c monitor taken before
  pub part : List ℕ
  pub missing : List ℕ
  pub some : missing ≢ []
  pub queued : waiting_at (only_id c) reported.server ≡ part ++ missing
  pub count : written ≡ before + length part

-- The same for a run in which an allocation failed for a representation. The bytes before the last one of its request
-- were accepted.
pub record HasReportedRefusal (c : ConfigValues) (monitor : List AcceptedCall → Type 0) (bytes : List ℕ)
    (written : ℕ) : Type 0 where
  pub taken : List ℕ
  pub last : ℕ
  pub later : List ℕ
  pub all : bytes ≡ taken ++ last ∷ later
  pub refused : IsLastByte c taken last
  pub reported : HasReported c monitor taken written

-- The report of a run that returned a report, with this stop. Without a stop, the end of input ended the run.
abbrev pub EndsReport : ConfigValues → (monitor : List AcceptedCall → Type 0) → (bytes : List ℕ) (written : ℕ)
    → Option Reason → Type 0
EndsReport c monitor bytes written None = HasReportedEnd c monitor bytes written
EndsReport c monitor bytes written (Some stop) = HasReportedStop c monitor bytes written

-- The report of a run that read these chunks, wrote this output and returned this value. The monitor received exactly
-- the calls that the server of the run shows. If the run did not begin, it received none.
abbrev pub IsReportedRun : ConfigValues → List (List ℕ) → List ℕ → (monitor : List AcceptedCall → Type 0)
    → Result Report IoFault → Type 0
IsReportedRun c pieces output monitor (Ok report) =
    EndsReport c monitor (concat pieces) (length output) (outcome c (concat pieces)).stop
IsReportedRun c pieces output monitor (Err Read) = HasReported c monitor (concat pieces) (length output)
IsReportedRun c pieces output monitor (Err Turns) = HasReported c monitor (concat pieces) (length output)
IsReportedRun c pieces output monitor (Err Write) = HasReportedCut c monitor (concat pieces) (length output)
IsReportedRun c pieces output monitor (Err Memory) =
    (IsNoRun pieces output × monitor []) ⊎ HasReportedRefusal c monitor (concat pieces) (length output)
