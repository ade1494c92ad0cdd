-- Defined by this project: the results of a replay of events.
use Rattle.std.specs.Prelude.{◌≡◌, ◌≢◌, ℕ, ◌+◌, Bool, true, false, List, [], ◌∷◌, ◌++◌, length, None, Result, Ok, Err}
use Rattle.coap_store.specs.Refusals.{put_refusal, remove_refusal}
use Rattle.coap_script.specs.script.Events.{ScriptEventValue, Open, In, Drain, Tick, Put, Remove, End, Release, Respond}
use Rattle.coap_script.specs.script.Events.{Drop, Status}
use Rattle.coap_server_engine.specs.script.Replay.{event_ran, replayed}
use Rattle.coap_server_engine.specs.script.Shown.{events_ran}
use Rattle.coap_server_engine.specs.script.RequestLines.{IsUnfinishedIn}
use Rattle.coap_server_engine.specs.values.InResults.{ShowsMore}
use Rattle.coap_server_engine.specs.values.Servers.{ServerValue, session_of, is_there}
use Rattle.coap_server_engine.specs.values.ServerAnswers.{open_refusal}
use Rattle.coap_server_engine.specs.declared.replay.ReplayFault.{ReplayFault}
use Rattle.coap_server_engine.specs.declared.replay.ReplayFault.TheVariants.{Write, Memory}

-- The number of an error of a replay.
abbrev pub replay_number : ReplayFault → ℕ
replay_number Write = 1
replay_number (Memory event) = 2

-- States the server after allocation failed for an event. Such an event is an `in`, or it is an `open`, `drain`, `put`,
-- `remove` or `status` that would not fail otherwise. The server is unchanged, except that an `in` has accepted bytes.
-- These are the bytes before the last one of the message that needed memory. If the line of a request did, they are
-- those up to the end of that request.
abbrev pub IsUnrun : ServerValue → ScriptEventValue → ServerValue → Type 0
IsUnrun v Open after = (open_refusal v ≡ None) × (after ≡ v)
IsUnrun v (In id bytes) after = IsUnfinishedIn v id bytes after
IsUnrun v (Drain id most) after = (is_there (session_of id v.sessions) ≡ true) × (after ≡ v)
IsUnrun v (Tick now) after = ⊥
IsUnrun v (Put path format bytes) after = (put_refusal v.shared.store path bytes ≡ None) × (after ≡ v)
IsUnrun v (Remove path text) after = (remove_refusal v.shared.store path ≡ None) × (after ≡ v)
IsUnrun v (End id) after = ⊥
IsUnrun v (Release id) after = ⊥
IsUnrun v (Respond id bytes) after = ⊥
IsUnrun v (Drop id) after = ⊥
IsUnrun v (Status id) after = (is_there (session_of id v.sessions) ≡ true) × (after ≡ v)

-- Holds if allocation failed for the event with this number, from 1. The events before it ran, and their lines were
-- written.
pub record IsRefusedAt (v : ServerValue) (events : List ScriptEventValue) (number : ℕ) (after : ServerValue)
    (HasWritten : List ℕ → Type 0) : Type 0 where
  pub before : List ScriptEventValue
  pub event : ScriptEventValue
  pub others : List ScriptEventValue
  pub all : events ≡ before ++ event ∷ others
  pub counted : number ≡ length before + 1
  pub written : HasWritten (replayed v before).text
  pub unrun : IsUnrun (replayed v before).server event after

-- Holds if a write failed. The last event that ran has an incomplete line. The server shows this event and those before
-- it.
pub record IsCutAt (v : ServerValue) (events : List ScriptEventValue) (after : ServerValue)
    (HasWritten : List ℕ → Type 0) : Type 0 where
  pub before : List ScriptEventValue
  pub event : ScriptEventValue
  pub others : List ScriptEventValue
  pub all : events ≡ before ++ event ∷ others
  pub ran : after ≡ (event_ran (replayed v before).server event).server
  pub part : List ℕ
  pub missing : List ℕ
  pub some : missing ≢ []
  pub cut : (event_ran (replayed v before).server event).text ≡ part ++ missing
  pub written : HasWritten ((replayed v before).text ++ part)
  pub shows : ShowsMore v after (events_ran v (before ++ event ∷ []))

-- States the server after a replay, and the bytes that it wrote.
abbrev pub IsReplayed : {T : Type 0} → ServerValue → List ScriptEventValue → ServerValue → (List ℕ → Type 0)
    → Result T ReplayFault → Type 0
IsReplayed v events after HasWritten (Ok x) = (after ≡ (replayed v events).server) × HasWritten (replayed v events).text
IsReplayed v events after HasWritten (Err Write) = IsCutAt v events after HasWritten
IsReplayed v events after HasWritten (Err (Memory number)) = IsRefusedAt v events number after HasWritten

-- `true` if a replay ended with the failure of a write.
abbrev pub fails_write : {T : Type 0} → Result T ReplayFault → Bool
fails_write (Ok x) = false
fails_write (Err Write) = true
fails_write (Err (Memory number)) = false
