-- Defined by this project: the result of a run over one input and one output, however the input is split into reads.
use Rattle.std.specs.Prelude.{◌≡◌, ◌≢◌, ℕ, ◌<◌, ◌≤◌, List, [], ◌∷◌, ◌++◌, length, Option, Some, None, Result, Ok, Err}
use Rattle.std.specs.Prelude.{◌⊎◌}
use Rattle.std.specs.List.{concat}
use Rattle.coap_server_engine.specs.Prelude.{Reason, Message, IsPut, ConfigValues, change_made}
use Rattle.coap_conn.specs.Calls.{end_reason}
use Rattle.coap_conn.specs.LinkValue.{bytes_of}
use Rattle.coap_serve.specs.declared.serve_streams.Report.{Report}
use Rattle.coap_server_engine.specs.declared.io_fault.IoFault.{IoFault}
use Rattle.coap_server_engine.specs.declared.io_fault.IoFault.TheVariants.{Read, Write, Memory, Turns}
use Rattle.coap_model.specs.world.Connections.{Connection, is_cut, waiting_on}
use Rattle.coap_model.specs.streams.Output.{only_id, stream_of, world_for, side_for, outcome, stdio_output}

-- No read found the end of input: each returned at least one byte.
abbrev pub AreNotEmpty : List (List ℕ) → Type 0
AreNotEmpty [] = Unit {0}
AreNotEmpty (p ∷ ps) = (p ≢ []) × AreNotEmpty ps

-- After these reads the connection processes further messages: none found the end, and nothing stops the connection.
pub record GoesOn (c : ConfigValues) (pieces : List (List ℕ)) : Type 0 where
  pub given : AreNotEmpty pieces
  pub no_stop : (outcome c (concat pieces)).stop ≡ None

-- The reason for which the last read ended the run, with this rest of a message and this stop. Without a stop, the read
-- found the end of input, and the reason says whether that truncated a message.
abbrev pub EndsRun : List ℕ → List ℕ → Reason → Option Reason → Type 0
EndsRun rest last reason None = (last ≡ []) × (reason ≡ end_reason (is_cut rest))
EndsRun rest last reason (Some stop) = reason ≡ stop

-- A run that returned a report: only the last read ended it, and the whole output for the bytes read was written.
pub record IsWholeRun (c : ConfigValues) (pieces : List (List ℕ)) (output : List ℕ) (report : Report) : Type 0 where
  pub before : List (List ℕ)
  pub last : List ℕ
  pub all : pieces ≡ before ++ last ∷ []
  pub within : length pieces ≤ c.turns
  pub goes_on : GoesOn c before
  pub ended : EndsRun (stream_of c (concat pieces)).rest last report.reason (outcome c (concat pieces)).stop
  pub read : report.read ≡ length (concat pieces)
  pub messages : report.messages ≡ (outcome c (concat pieces)).messages
  pub written : output ≡ stdio_output c (concat pieces)

-- A run that ended between two reads without a report: the whole output for the bytes read was written.
pub record IsShortRun (c : ConfigValues) (pieces : List (List ℕ)) (output : List ℕ) : Type 0 where
  pub goes_on : GoesOn c pieces
  pub written : output ≡ stdio_output c (concat pieces)

-- A run in which a write failed: a proper prefix of the output for the bytes read was written.
pub record IsCutOutput (c : ConfigValues) (pieces : List (List ℕ)) (output : List ℕ) : Type 0 where
  pub missing : List ℕ
  pub some : missing ≢ []
  pub written : output ++ missing ≡ stdio_output c (concat pieces)

-- The whole output for all bytes before the last read was written.
abbrev pub IsWrittenBefore : ConfigValues → List (List ℕ) → List ℕ → Type 0
IsWrittenBefore c before output = (front : List ℕ) × (output ≡ stdio_output c (concat before) ++ front)

-- The reads before a failed write. There is none, or the connection processes further messages after all but the last.
abbrev pub LedToWrite : ConfigValues → List (List ℕ) → List ℕ → Type 0
LedToWrite c pieces output =
    (pieces ≡ []) ⊎ ((before : List (List ℕ)) × (last : List ℕ) × (pieces ≡ before ++ last ∷ []) × GoesOn c before
    × IsWrittenBefore c before output)

-- The byte `last` completes a request that stores a representation. The connection processes further messages after the
-- bytes `taken` before it.
pub record IsLastByte (c : ConfigValues) (taken : List ℕ) (last : ℕ) : Type 0 where
  pub no_stop : (outcome c taken).stop ≡ None
  pub message : Message
  pub one_more : stream_of c (taken ++ last ∷ [])
      ≡ record { messages = (stream_of c taken).messages ++ message ∷ []; rest = []; fault = None }
  pub stores : IsPut (change_made (world_for c taken) (only_id c) message)

-- A run in which an allocation failed for a representation. It ended with the chunk that has the last byte of its
-- request. Nothing of the request was processed, and the whole output for the bytes before that byte was written.
pub record IsRefusedRun (c : ConfigValues) (pieces : List (List ℕ)) (output : List ℕ) : Type 0 where
  pub before : List (List ℕ)
  pub front : List ℕ
  pub last : ℕ
  pub later : List ℕ
  pub all : pieces ≡ before ++ (front ++ last ∷ later) ∷ []
  pub within : length pieces ≤ c.turns
  pub goes_on : GoesOn c before
  pub refused : IsLastByte c (concat before ++ front) last
  pub written : output ≡ stdio_output c (concat before ++ front)

-- A run that did not begin because an allocation failed: nothing was read or written.
abbrev pub IsNoRun : List (List ℕ) → List ℕ → Type 0
IsNoRun pieces output = (pieces ≡ []) × (output ≡ [])

-- The result of a run that read these chunks, wrote this output and returned this value.
abbrev pub IsStdioRun : ConfigValues → List (List ℕ) → List ℕ → Result Report IoFault → Type 0
IsStdioRun c pieces output (Ok report) = IsWholeRun c pieces output report
IsStdioRun c pieces output (Err Read) = (length pieces < c.turns) × IsShortRun c pieces output
IsStdioRun c pieces output (Err Turns) = (length pieces ≡ c.turns) × IsShortRun c pieces output
IsStdioRun c pieces output (Err Write) =
    (length pieces ≤ c.turns) × LedToWrite c pieces output × IsCutOutput c pieces output
IsStdioRun c pieces output (Err Memory) = IsNoRun pieces output ⊎ IsRefusedRun c pieces output

-- ---- no byte is left

-- Everything that the connection queued for these bytes is in the output, and no byte is queued.
pub record LeavesNothing (c : ConfigValues) (bytes output : List ℕ) : Type 0 where
  pub side : Connection
  pub there : side_for c bytes ≡ Some side
  pub none_waits : waiting_on side ≡ []
  pub written : output ≡ bytes_of side.history.queued

-- The same for a prefix of the bytes read. In a run that ends by a failed allocation, the prefix ends before the last
-- byte of the request that could not be stored.
pub record LeavesNothingBefore (c : ConfigValues) (pieces : List (List ℕ)) (output : List ℕ) : Type 0 where
  pub taken : List ℕ
  pub others : List ℕ
  pub all : concat pieces ≡ taken ++ others
  pub leaves : LeavesNothing c taken output

-- A run leaves no byte queued, unless a write failed. This includes a run that ended at the limit of turns.
abbrev pub LeavesNothingWaiting : ConfigValues → List (List ℕ) → List ℕ → Result Report IoFault → Type 0
LeavesNothingWaiting c pieces output (Ok report) = LeavesNothing c (concat pieces) output
LeavesNothingWaiting c pieces output (Err Read) = LeavesNothing c (concat pieces) output
LeavesNothingWaiting c pieces output (Err Turns) = LeavesNothing c (concat pieces) output
LeavesNothingWaiting c pieces output (Err Memory) = IsNoRun pieces output ⊎ LeavesNothingBefore c pieces output
LeavesNothingWaiting c pieces output (Err Write) = Unit {0}
