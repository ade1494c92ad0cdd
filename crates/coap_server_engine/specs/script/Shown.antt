-- Defined by this project: the events of a server's history that the events of a script make.
use Rattle.std.specs.Prelude.{◌≡◌, ℕ, ◌+◌, List, [], ◌∷◌, ◌++◌, length, Option, Some, None, Result, Ok, Err}
use Rattle.std.specs.declared.alloc.AllocError.{AllocError}
use Rattle.coap_store.specs.Refusals.{put_refusal, remove_refusal}
use Rattle.coap_script.specs.script.Events.{ScriptEventValue, Open, In, Drain, Tick, Put, Remove, End, Release, Respond}
use Rattle.coap_script.specs.script.Events.{Drop, Status}
use Rattle.coap_wire.specs.Reading.{message_of}
use Rattle.coap_server_engine.specs.script.Replay.{drained, tick_refusal, event_ran, replayed}
use Rattle.coap_server_engine.specs.script.RequestLines.{IsUnfinishedAfter}
use Rattle.coap_server_engine.specs.values.InResults.{where_there, took, ShowsMore}
use Rattle.coap_server_engine.specs.values.Servers.{ServerValue, session_of}
use Rattle.coap_server_engine.specs.values.ServerAnswers.{open_refusal, released_refusal, responded_refusal}
use Rattle.coap_server_engine.specs.values.ServerAnswers.{response_event}
use Rattle.coap_model.specs.world.Events.{AcceptedCall, Opened, Wrote, Ticked, Stored, Removed, Ended, Released}
use Rattle.coap_model.specs.world.Events.{Dropped}
use Rattle.coap_server_engine.specs.world.Shows.{Shows}
use Rattle.coap_server_engine.specs.declared.replay.ReplayFault.{ReplayFault}
use Rattle.coap_server_engine.specs.declared.replay.ReplayFault.TheVariants.{Write, Memory}

-- ---- the calls of one event

-- The event of a call, unless the call fails.
abbrev pub unless : {F : Type 0} → Option F → AcceptedCall → List AcceptedCall
unless None e = e ∷ []
unless (Some refusal) e = []

-- These events of a call, unless the call fails.
abbrev pub unless_any : {F : Type 0} → Option F → List AcceptedCall → List AcceptedCall
unless_any None es = es
unless_any (Some refusal) es = []

-- The calls that an event of a script makes and that succeed.
unfoldable pub events_made : ServerValue → ScriptEventValue → List AcceptedCall
events_made v Open = unless (open_refusal v) (Opened (v.ids + 1))
events_made v (In id bytes) = took v id bytes
events_made v (Drain id most) =
    where_there (session_of id v.sessions) (λ s. Wrote id (length (drained most s.link.waiting)))
events_made v (Tick now) = unless (tick_refusal v now) (Ticked now)
events_made v (Put path format bytes) = unless (put_refusal v.shared.store path bytes) (Stored path format bytes)
events_made v (Remove path text) = unless (remove_refusal v.shared.store path) (Removed path)
events_made v (End id) = where_there (session_of id v.sessions) (λ s. Ended id)
events_made v (Release id) = unless (released_refusal v id) (Released id)
events_made v (Respond id bytes) = unless_any (responded_refusal v id bytes) (response_event id (message_of bytes))
events_made v (Drop id) = where_there (session_of id v.sessions) (λ s. Dropped id)
events_made v (Status id) = []

-- The calls of all events, each on the server after those before it.
unfoldable pub events_ran : ServerValue → List ScriptEventValue → List AcceptedCall
events_ran v [] = []
events_ran v (e ∷ es) = events_made v e ++ events_ran (event_ran v e).server es

-- ---- one event

-- Holds if `more` are the calls that an event made before allocation failed for it. Only an `in` makes any.
abbrev pub IsPartlyMade : ServerValue → ScriptEventValue → ServerValue → List AcceptedCall → Type 0
IsPartlyMade v Open after more = more ≡ []
IsPartlyMade v (In id bytes) after more = IsUnfinishedAfter v id bytes after more
IsPartlyMade v (Drain id most) after more = more ≡ []
IsPartlyMade v (Tick now) after more = more ≡ []
IsPartlyMade v (Put path format bytes) after more = more ≡ []
IsPartlyMade v (Remove path text) after more = more ≡ []
IsPartlyMade v (End id) after more = more ≡ []
IsPartlyMade v (Release id) after more = more ≡ []
IsPartlyMade v (Respond id bytes) after more = more ≡ []
IsPartlyMade v (Drop id) after more = more ≡ []
IsPartlyMade v (Status id) after more = more ≡ []

-- Holds if allocation failed for an event, and the server shows the calls that it made before.
pub record ShowsPart (v : ServerValue) (e : ScriptEventValue) (after : ServerValue) : Type 0 where
  pub more : List AcceptedCall
  pub part : IsPartlyMade v e after more
  pub shows : ShowsMore v after more

-- States the calls that a server shows after an event, whether it ran or allocation failed for it.
abbrev pub ShowsRun : {T : Type 0} → ServerValue → ScriptEventValue → ServerValue → Result T AllocError → Type 0
ShowsRun v e after (Ok line) = ShowsMore v after (events_made v e)
ShowsRun v e after (Err fault) = ShowsPart v e after

-- ---- a replay

-- Holds if allocation failed for the event with this number, from 1. The server shows the calls of those before it, and
-- those that it made itself before.
pub record ShowsRefusedAt (before : List AcceptedCall) (v : ServerValue) (es : List ScriptEventValue) (number : ℕ)
    (after : ServerValue) : Type 0 where
  pub ran : List ScriptEventValue
  pub event : ScriptEventValue
  pub others : List ScriptEventValue
  pub all : es ≡ ran ++ event ∷ others
  pub counted : number ≡ length ran + 1
  pub more : List AcceptedCall
  pub part : IsPartlyMade (replayed v ran).server event after more
  pub shows : Shows after ((before ++ events_ran v ran) ++ more)

-- States the history that a server shows after a replay, if it showed `before` at its start. After a failed write,
-- `IsCutAt` states it.
abbrev pub IsShownReplay : {T : Type 0} → List AcceptedCall → ServerValue → List ScriptEventValue → ServerValue
    → Result T ReplayFault → Type 0
IsShownReplay before v es after (Ok x) = Shows after (before ++ events_ran v es)
IsShownReplay before v es after (Err Write) = Unit {0}
IsShownReplay before v es after (Err (Memory number)) = ShowsRefusedAt before v es number after
