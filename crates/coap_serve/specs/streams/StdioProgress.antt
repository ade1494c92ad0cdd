-- Defined by this project: the progress of a run over one input, and the effect of one chunk and of one turn on its
-- server.
use Rattle.std.specs.Prelude.{◌≡◌, ◌≢◌, ◌⊎◌, ℕ, ◌+◌, ◌≤◌, List, [], ◌∷◌, ◌++◌, length, None, Some, Result, Ok, Err}
use Rattle.coap_server_engine.specs.Prelude.{AreInRange, ConfigValues, ServerValue, is_cut, Shows}
use Rattle.coap_conn.specs.Calls.{end_reason}
use Rattle.coap_serve.specs.declared.serve_streams.Turn.{Turn}
use Rattle.coap_server_engine.specs.declared.io_fault.IoFault.{IoFault}
use Rattle.coap_server_engine.specs.declared.io_fault.IoFault.TheVariants.{Read, Write, Memory, Turns}
use Rattle.coap_model.specs.world.Events.{AcceptedCall, spelled_on, world_after}
use Rattle.coap_model.specs.streams.Output.{only_id, stream_of, world_for, outcome, stdio_output}
use Rattle.coap_serve.specs.streams.StdioRun.{IsLastByte}
use Rattle.coap_serve.specs.streams.StdioCalls.{AreTransfers, HasReported, HasReportedEnd, HasReportedCut}

-- These events are the transfers of these bytes and their output. If the connection stops within the bytes, it accepts
-- only the prefix `taken`.
pub record AreTransfersOf (c : ConfigValues) (bytes : List ℕ) (events : List AcceptedCall) : Type 0 where
  pub taken : List ℕ
  pub later : List ℕ
  pub all : bytes ≡ taken ++ later
  pub whole : (outcome c bytes).stop ≡ None → later ≡ []
  pub same : outcome c taken ≡ outcome c bytes
  pub transfers : AreTransfers c (only_id c) taken (length (stdio_output c bytes)) events

-- A server of this configuration has accepted these bytes. It shows events that lead to the world for these bytes, and
-- the monitor received these events. If nothing stops the connection, then in these events it received the stream that
-- the bytes encode, and it announced no other size.
pub record IsAtBytes (c : ConfigValues) (v : ServerValue) (bytes : List ℕ)
    (monitor : List AcceptedCall → Type 0) : Type 0 where
  pub config : v.config ≡ c
  pub events : List AcceptedCall
  pub shows : Shows v events
  pub world : world_after c events ≡ world_for c bytes
  pub spelled : (outcome c bytes).stop ≡ None
      → spelled_on c.limits.max_message (only_id c) events ≡ (stream_of c bytes, c.limits.max_message)
  pub transfers : AreTransfersOf c bytes events
  pub reports : monitor events

-- The server has accepted these bytes, and its only connection processes further messages.
pub record IsRunningAt (c : ConfigValues) (v : ServerValue) (id : ℕ) (bytes : List ℕ)
    (monitor : List AcceptedCall → Type 0) : Type 0 where
  pub number : id ≡ only_id c
  pub ranges : AreInRange c.limits
  pub is_at : IsAtBytes c v bytes monitor
  pub going : (outcome c bytes).stop ≡ None

-- ---- a chunk

-- The output for `bytes` followed by `more` is the output for `bytes`, followed by `text`.
abbrev pub Says : ConfigValues → List ℕ → List ℕ → List ℕ → Type 0
Says c bytes more text = stdio_output c (bytes ++ more) ≡ stdio_output c bytes ++ text

-- A chunk was processed, its output was written, and the number of its messages is `messages`.
pub record IsWhole (c : ConfigValues) (bytes piece : List ℕ) (after : ServerValue) (wrote : List ℕ → Type 0)
    (monitor : List AcceptedCall → Type 0) (messages : ℕ) : Type 0 where
  pub is_at : IsAtBytes c after (bytes ++ piece) monitor
  pub text : List ℕ
  pub says : Says c bytes piece text
  pub written : wrote text
  pub counted : (outcome c (bytes ++ piece)).messages ≡ (outcome c bytes).messages + messages

-- A write failed: a proper prefix of the output for the chunk was written.
pub record IsCut (c : ConfigValues) (bytes piece : List ℕ) (wrote : List ℕ → Type 0)
    (monitor : List AcceptedCall → Type 0) : Type 0 where
  pub part : List ℕ
  pub missing : List ℕ
  pub some : missing ≢ []
  pub says : Says c bytes piece (part ++ missing)
  pub written : wrote part
  pub reported : HasReportedCut c monitor (bytes ++ piece) (length (stdio_output c bytes) + length part)

-- An allocation failed for a message of the chunk. The output for the bytes before the last byte of that message was
-- written.
pub record IsRefused (c : ConfigValues) (bytes piece : List ℕ) (wrote : List ℕ → Type 0)
    (monitor : List AcceptedCall → Type 0) : Type 0 where
  pub front : List ℕ
  pub last : ℕ
  pub later : List ℕ
  pub all : piece ≡ front ++ last ∷ later
  pub refused : IsLastByte c (bytes ++ front) last
  pub text : List ℕ
  pub says : Says c bytes front text
  pub written : wrote text
  pub reported : HasReported c monitor (bytes ++ front) (length (stdio_output c (bytes ++ front)))

-- The result of a server for a chunk that follows these bytes. `wrote` states which bytes were written, and `monitor`
-- which calls the monitor received since the run began.
abbrev pub IsServed : ConfigValues → List ℕ → List ℕ → ServerValue
    → (wrote : List ℕ → Type 0) (monitor : List AcceptedCall → Type 0) → Result ℕ IoFault → Type 0
IsServed c bytes piece after wrote monitor (Ok messages) = IsWhole c bytes piece after wrote monitor messages
IsServed c bytes piece after wrote monitor (Err Write) = IsCut c bytes piece wrote monitor
IsServed c bytes piece after wrote monitor (Err Memory) = IsRefused c bytes piece wrote monitor
IsServed c bytes piece after wrote monitor (Err Read) = ⊥
IsServed c bytes piece after wrote monitor (Err Turns) = ⊥

-- ---- one turn

-- A read returned this chunk, which has 1 to 4,096 bytes.
pub record HasRead (gave : List (List ℕ) → Type 0) (piece : List ℕ) : Type 0 where
  pub given : gave (piece ∷ [])
  pub some : piece ≢ []
  pub few : length piece ≤ 4096

-- The read found the end of input: nothing was processed or written, and the turn ends the run.
pub record IsEnd (c : ConfigValues) (bytes : List ℕ) (gave : List (List ℕ) → Type 0) (wrote : List ℕ → Type 0)
    (monitor : List AcceptedCall → Type 0) (t : Turn) : Type 0 where
  pub given : gave ([] ∷ [])
  pub written : wrote []
  pub read : t.read ≡ 0
  pub messages : t.messages ≡ 0
  pub reason : t.stop ≡ Some (end_reason (is_cut (stream_of c bytes).rest))
  pub reported : HasReportedEnd c monitor bytes (length (stdio_output c bytes))

-- The read returned a chunk, which was processed.
pub record IsPiece (c : ConfigValues) (bytes : List ℕ) (after : ServerValue) (gave : List (List ℕ) → Type 0)
    (wrote : List ℕ → Type 0) (monitor : List AcceptedCall → Type 0) (t : Turn) : Type 0 where
  pub piece : List ℕ
  pub has : HasRead gave piece
  pub served : IsWhole c bytes piece after wrote monitor t.messages
  pub read : t.read ≡ length piece
  pub reason : t.stop ≡ (outcome c (bytes ++ piece)).stop

-- The result of a turn. `gave` states which chunks were read in it, and `wrote` which bytes were written. `monitor`
-- states which calls the monitor received since the run began.
abbrev pub IsTurn : ConfigValues → List ℕ → ServerValue → (gave : List (List ℕ) → Type 0) (wrote : List ℕ → Type 0)
    (monitor : List AcceptedCall → Type 0) → Result Turn IoFault → Type 0
IsTurn c bytes after gave wrote monitor (Ok t) =
    IsEnd c bytes gave wrote monitor t ⊎ IsPiece c bytes after gave wrote monitor t
IsTurn c bytes after gave wrote monitor (Err Read) =
    gave [] × wrote [] × HasReported c monitor bytes (length (stdio_output c bytes))
IsTurn c bytes after gave wrote monitor (Err Write) =
    (piece : List ℕ) × HasRead gave piece × IsCut c bytes piece wrote monitor
IsTurn c bytes after gave wrote monitor (Err Memory) =
    (piece : List ℕ) × HasRead gave piece × IsRefused c bytes piece wrote monitor
IsTurn c bytes after gave wrote monitor (Err Turns) = ⊥
