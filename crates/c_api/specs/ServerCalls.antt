-- Defined by this project: the results of the calls on the handle of a server.
use Rattle.std.specs.Prelude.{◌≡◌, ℕ, ◌+◌, List, [], ◌∷◌, ◌++◌, true, take, Option, Some, None, option_map}
use Rattle.std.specs.Prelude.{option_and_then, nat_le, if◌then◌else◌, ◌⊎◌, ◌==◌, ◌≤◌, ◌<◌, ◌^◌}
use Rattle.coap_path.specs.Paths.{Path}
use Rattle.coap_path.specs.ResourceKinds.{kind_of_path, is_dynamic}
use Rattle.coap_store.specs.Refusals.{put_refusal, remove_refusal}
use Rattle.coap_model.specs.declared.answers.Status.{Status}
use Rattle.coap_model.specs.world.Events.{AcceptedCall, Opened, Took, Wrote, Ticked, Stored, Removed, Ended, Released}
use Rattle.coap_model.specs.world.Events.{Announced, Dropped}
use Rattle.coap_server_session.specs.values.SessionAnswers.{announced_refusal_on, WantsRoom}
use Rattle.coap_server_session.specs.values.Sessions.{SessionValue}
use Rattle.coap_server_engine.specs.values.Flushes.{waiting_at}
use Rattle.coap_server_engine.specs.values.ServerAnswers.{open_refusal, written_refusal, released_refusal, handled_by}
use Rattle.coap_server_engine.specs.values.ServerAnswers.{RefusesPieceOn, status_of}
use Rattle.coap_server_engine.specs.values.Servers.{ServerValue, session_of, is_there, new_server, count_taken}
use Rattle.coap_server_engine.specs.values.Servers.{server_opened, server_taken, server_written, server_ticked}
use Rattle.coap_server_engine.specs.values.Servers.{server_put, server_removed, server_ended, server_released}
use Rattle.coap_server_engine.specs.values.Servers.{server_announced, server_dropped, server_given}
use Rattle.coap_server_engine.specs.values.ServerDeadlines.{OnlyTimePasses, next_deadline}
use Rattle.coap_server_session.specs.values.Deadlines.{IsBefore}
use Rattle.coap_server_engine.specs.world.Shows.{Shows}
use Rattle.coap_server_polled.specs.Reports.{HasNoOutput, Yields}
use Rattle.coap_server_polled.specs.declared.polled_server.PolledServer.{PolledServer}
use Rattle.c_api.specs.Numbers.{open_code, written_code, store_code, release_code, announce_code, handled_code}
use Rattle.c_api.specs.Numbers.{handled_reason, phase_code, phase_reason, response_code, reply_code}
use Rattle.c_api.specs.Loans.{HasBytes, HaveBytes, LendsFrame}
use Rattle.c_api.specs.PathTexts.{format_number}
use Rattle.c_api.specs.Results.{OnHandle, AtPath, Answers, AnswersOrMemory}
use Rattle.c_api.specs.Settings.{settings_config, settings_refusal}
use Rattle.c_api.specs.declared.settings.Settings.{Settings}
use Rattle.c_api.specs.declared.server.Took.{Took as TookResult}
use Rattle.c_api.specs.declared.server.ConnectionStatus.{ConnectionStatus}
use Rattle.c_handle.specs.declared.span.Parts.{Parts}
use Rattle.c_api.specs.declared.resources.ResourceState.{ResourceState}
use denote.Ref.{Bor}
use Rattle.coap_conn.specs.declared.phase.Reply.{Reply}
use Rattle.coap_store.specs.State.{state_of}
use Rattle.coap_store.specs.Store.{Representation}
use Rattle.coap_wire.specs.Reading.{message_of}
use Rattle.coap_server_engine.specs.values.HandedRequests.{handed_frame}
use Rattle.coap_server_engine.specs.values.ChangedRequests.{changing_frame, frame_key, ChangesBy}
use Rattle.coap_server_engine.specs.values.ServerAnswers.{responded_refusal, IsReplyOn, response_event}

-- No result besides the number.
abbrev pub Nothing : Type 0
Nothing = Unit {0}

-- The server is `after`, and shows one more event.
abbrev pub Does : AcceptedCall → ServerValue → ServerValue → ServerValue → Type 0
Does e after v v' = (v' ≡ after) × ((events : List AcceptedCall) → Shows v events → Shows v' (events ++ e ∷ []))

-- ---- new

-- A new server shows no event.
abbrev pub IsNew : Settings → Option PolledServer → ℕ → Type 0
IsNew s None r = r ≡ 2
IsNew s (Some v) r = (r ≡ 0) × ((v.engine ≡ new_server (settings_config s)) × Shows v.engine [])

abbrev pub MadeUnless : Option ℕ → Settings → Option PolledServer → ℕ → Type 0
MadeUnless None s v' r = IsNew s v' r
MadeUnless (Some number) s v' r = (r ≡ number) × (v' ≡ None)

-- `new` returns 3 if the handle has a server. Otherwise it fails with the number of a value out of range, or with 2,
-- and the handle stays empty; or it makes the server.
abbrev pub IsMade : Settings → Option PolledServer → Option PolledServer → ℕ → Type 0
IsMade s None v' r = MadeUnless (settings_refusal s) s v' r
IsMade s (Some v) v' r = (r ≡ 3) × (v' ≡ Some v)

-- ---- open, take, written

abbrev pub IsOpened : (id id' : ℕ) → Option PolledServer → Option PolledServer → ℕ → Type 0
IsOpened id id' = OnHandle (id' ≡ id) (λ v v' r.
    AnswersOrMemory (id' ≡ id) (option_map open_code (open_refusal v.engine))
    ((id' ≡ v.engine.ids + 1) × Does (Opened id') (server_opened v.engine) v.engine v'.engine) v v' r)

-- A result that reports nothing but accepted bytes, and whether an allocation failed.
abbrev pub IsTookBytes : (bytes memory : ℕ) → TookResult → Type 0
IsTookBytes bytes memory t = (t.bytes ≡ bytes) × ((t.handled ≡ 0) × ((t.reason ≡ 0) × ((t.memory ≡ memory)
    × (HasBytes [] t.request × HasBytes [] t.changed))))

abbrev pub IsBlank : TookResult → Type 0
IsBlank t = IsTookBytes 0 0 t

-- The stores of the worlds before and after a `take` differ at the path of the request that is reported,
-- and nowhere else.
abbrev pub Alters : ℕ → List ℕ → ℕ → ServerValue → Type 0
Alters id piece bytes v = (events : List AcceptedCall) → Shows v events →
    ChangesBy v.config events (Took id (take bytes piece)) (option_and_then frame_key (changing_frame v id piece))

-- A `take` that accepted bytes of `piece`, or none.
abbrev pub HasTaken : ℕ → Bor (List ℕ) → TookResult → ServerValue → ServerValue → Type 0
HasTaken id piece t v v' = (t.bytes ≡ count_taken v id piece.now)
    × ((t.handled ≡ handled_code (handled_by v id piece.now)) × ((t.reason ≡ handled_reason (handled_by v id piece.now))
    × (LendsFrame piece t.bytes t.request (handed_frame v id piece.now)
    × ((LendsFrame piece t.bytes t.changed (changing_frame v id piece.now) × Alters id piece.now t.bytes v)
    × Does (Took id (take t.bytes piece.now)) (server_taken v id piece.now) v v'))))

-- A `take` in which an allocation failed: the bytes before the last one of the message are accepted.
abbrev pub HasTakenPart : ℕ → List ℕ → TookResult → ServerValue → ServerValue → Type 0
HasTakenPart id piece t v v' = RefusesPieceOn v piece t.bytes (session_of id v.sessions)
    × (IsTookBytes t.bytes 1 t × Does (Took id (take t.bytes piece)) (server_taken v id (take t.bytes piece)) v v')

-- A `take` on a connection: what it accepted and handled, or what it accepted if an allocation failed (`memory`).
abbrev pub IsTakenOn : ℕ → Bor (List ℕ) → TookResult → ServerValue → ServerValue → Type 0
IsTakenOn id piece t v v' = ((t.memory ≡ 0) × ((is_there (session_of id v.sessions) ≡ true) × HasTaken id piece t v v'))
    ⊎ HasTakenPart id piece.now t v v'

-- A `take` that handles nothing makes no connection due. One that accepts no byte handles nothing.
pub record IsQuietTake (t : TookResult) (v v' : PolledServer) : Type 0 where
  pub same : t.handled ≡ 0 → v'.due ≡ v.due
  pub nothing : (events : List AcceptedCall) → Shows v.engine events → t.bytes ≡ 0 → t.handled ≡ 0

-- `take` returns 0, or 6 if there is no connection.
abbrev pub IsTaken : ℕ → Bor (List ℕ) → TookResult → Option PolledServer → Option PolledServer → ℕ → Type 0
IsTaken id piece t = OnHandle (IsBlank t) (λ v v' r.
    ((r ≡ 0) × (IsTakenOn id piece t v.engine v'.engine × IsQuietTake t v v'))
    ⊎ ((r ≡ 6) × ((session_of id v.engine.sessions ≡ None) × ((v' ≡ v) × IsBlank t))))

abbrev pub IsWritten : (id count : ℕ) → Option PolledServer → Option PolledServer → ℕ → Type 0
IsWritten id count = OnHandle Nothing (λ v v' r.
    Answers Nothing (option_map written_code (written_refusal v.engine id count))
    (Does (Wrote id count) (server_written v.engine id count) v.engine v'.engine) v v' r)

-- ---- tick, put, remove

abbrev pub IsTicked : ℕ → Option PolledServer → Option PolledServer → ℕ → Type 0
IsTicked now = OnHandle Nothing (λ v v' r. Answers Nothing (if nat_le v.engine.shared.now now then None else Some 9)
    (Does (Ticked now) (server_ticked v.engine now) v.engine v'.engine) v v' r)

-- `put` at the path that C names, if it names one.
abbrev pub IsPut : Option Path → Option ℕ → List ℕ → (version version' : ℕ) → Option PolledServer
    → Option PolledServer → ℕ → Type 0
IsPut named format bytes version version' =
    OnHandle (version' ≡ version) (AtPath (version' ≡ version) named (λ path v v' r.
    AnswersOrMemory (version' ≡ version) (option_map store_code (put_refusal v.engine.shared.store path bytes))
    ((version' ≡ v.engine.shared.store.versions + 1)
    × Does (Stored path format bytes) (server_put v.engine path format bytes) v.engine v'.engine) v v' r))

-- `remove` at the path that C names, if it names one.
abbrev pub IsRemoved : Option Path → Option PolledServer → Option PolledServer → ℕ → Type 0
IsRemoved named = OnHandle Nothing (AtPath Nothing named (λ path v v' r.
    Answers Nothing (option_map store_code (remove_refusal v.engine.shared.store path))
    (Does (Removed path) (server_removed v.engine path) v.engine v'.engine) v v' r))

-- ---- the application

abbrev pub IsResponded : ℕ → List ℕ → (reply reply' : ℕ) → Option PolledServer → Option PolledServer → ℕ → Type 0
IsResponded id response reply reply' =
    OnHandle (reply' ≡ reply)
    (λ v v' r. Answers (reply' ≡ reply) (option_map response_code (responded_refusal v.engine id response))
    (((queued : Reply) × (IsReplyOn response queued (session_of id v.engine.sessions) × (reply' ≡ reply_code queued)))
    × ((v'.engine ≡ server_given v.engine id response) × ((events : List AcceptedCall) → Shows v.engine events
    → Shows v'.engine (events ++ response_event id (message_of response)))))
    v v' r)

-- ---- output and deadlines

-- `next_output` yields the first connection that is due and has unwritten output, or returns 10 if there is none.
abbrev pub IsNextOutput : (id id' : ℕ) → Option PolledServer → Option PolledServer → ℕ → Type 0
IsNextOutput id id' = OnHandle (id' ≡ id) (λ v v' r. (v'.engine ≡ v.engine)
    × (((r ≡ 0) × Yields id' v v') ⊎ ((r ≡ 10) × ((id' ≡ id) × HasNoOutput v))))

-- The connection that a `next_output` with the result `r` yields.
abbrev pub yielded_by : (r id : ℕ) → Option ℕ
yielded_by r id = if r == 0 then Some id else None

-- `next_deadline` gives the next deadline, or returns 10 if there is none.
abbrev pub GivesDeadline : Option ℕ → (seconds seconds' : ℕ) → ℕ → Type 0
GivesDeadline None seconds seconds' r = (r ≡ 10) × (seconds' ≡ seconds)
GivesDeadline (Some due) seconds seconds' r = (r ≡ 0) × (seconds' ≡ due)

-- A `tick` with an earlier time than the deadline changes only the time.
abbrev pub IsNextDeadline : (seconds seconds' : ℕ) → Option PolledServer → Option PolledServer → ℕ → Type 0
IsNextDeadline seconds seconds' = OnHandle (seconds' ≡ seconds) (λ v v' r. (v' ≡ v)
    × (GivesDeadline (next_deadline v.engine) seconds seconds' r
    × ((later : ℕ) → v.engine.shared.now ≤ later → later < 2 ^ 64 → IsBefore later (next_deadline v.engine)
    → OnlyTimePasses v.engine later)))

-- ---- connections

-- 6 if there is no connection.
abbrev pub absent_code : Option SessionValue → Option ℕ
absent_code None = Some 6
absent_code (Some s) = None

abbrev pub IsEnded : ℕ → Option PolledServer → Option PolledServer → ℕ → Type 0
IsEnded id =
    OnHandle Nothing (λ v v' r. Answers Nothing (absent_code (session_of id v.engine.sessions))
    (Does (Ended id) (server_ended v.engine id) v.engine v'.engine) v v' r)

abbrev pub IsDropped : ℕ → Option PolledServer → Option PolledServer → ℕ → Type 0
IsDropped id =
    OnHandle Nothing (λ v v' r. Answers Nothing (absent_code (session_of id v.engine.sessions))
    (Does (Dropped id) (server_dropped v.engine id) v.engine v'.engine) v v' r)

abbrev pub IsReleased : ℕ → Option PolledServer → Option PolledServer → ℕ → Type 0
IsReleased id =
    OnHandle Nothing (λ v v' r. Answers Nothing (option_map release_code (released_refusal v.engine id))
    (Does (Released id) (server_released v.engine id) v.engine v'.engine) v v' r)

-- An announcement can also fail with 2, but only if the size is above the current one.
abbrev pub AnnouncedOrMemory : ℕ → ℕ → Option ℕ → PolledServer → PolledServer → ℕ → Type 0
AnnouncedOrMemory id size None v v' r =
    ((r ≡ 0) × Does (Announced id size) (server_announced v.engine id size) v.engine v'.engine)
    ⊎ ((r ≡ 2) × (WantsRoom size (session_of id v.engine.sessions) × (v' ≡ v)))
AnnouncedOrMemory id size (Some number) v v' r = (r ≡ number) × (v' ≡ v)

abbrev pub IsAnnouncedTo : (id size : ℕ) → Option PolledServer → Option PolledServer → ℕ → Type 0
IsAnnouncedTo id size = OnHandle Nothing (λ v v' r. AnnouncedOrMemory id size
    (option_map announce_code (announced_refusal_on size (session_of id v.engine.sessions))) v v' r)

-- ---- queries

-- A query changes nothing. It returns 6 if there is no connection or no resource, and leaves its result as it was then.
abbrev pub AsksOn : {A : Type 0} → Type 0 → (A → Type 0) → Option A → PolledServer → PolledServer → ℕ → Type 0
AsksOn same reported None v v' r = (r ≡ 6) × ((v' ≡ v) × same)
AsksOn same reported (Some x) v v' r = (r ≡ 0) × ((v' ≡ v) × reported x)

-- The parts have the queued bytes of a connection, in their order. Their addresses are not specified.
abbrev pub HasParts : ℕ → Option PolledServer → Option PolledServer → (parts parts' : Parts) → ℕ → Type 0
HasParts id v v' parts parts' r = OnHandle (parts' ≡ parts) (λ x x' n. AsksOn (parts' ≡ parts)
    (λ s. HaveBytes (waiting_at id x.engine) parts') (session_of id x.engine.sessions) x x' n) v v' r

-- The fields of a status.
abbrev pub ShowsStatus : ConnectionStatus → Status → Type 0
ShowsStatus c s =
    (c.phase ≡ phase_code s.phase) × ((c.reason ≡ phase_reason s.phase) × ((c.kept ≡ s.kept) × ((c.waiting ≡ s.waiting)
    × ((c.pending ≡ s.pending)
    × ((c.observers ≡ s.observers) × ((c.peer_max ≡ s.peer_max) × (c.finished ≡ (if s.finished then 1 else 0))))))))

abbrev pub HasStatus : ℕ → (status status' : ConnectionStatus) → Option PolledServer → Option PolledServer → ℕ → Type 0
HasStatus id status status' =
    OnHandle (status' ≡ status) (λ v v' r.
    AsksOn (status' ≡ status) (ShowsStatus status') (status_of v.engine id) v v' r)

-- The fields of the state of a resource. The address of its bytes is not specified.
abbrev pub ShowsState : ResourceState → Representation → Type 0
ShowsState s p = (s.version ≡ p.version) × ((s.format ≡ format_number p.format) × HasBytes p.bytes s.bytes)

-- The representation stored at a path, if there is one. A built-in resource has none.
abbrev pub lent_state : ServerValue → Path → Option Representation
lent_state v path = if is_dynamic (kind_of_path path) then state_of v.shared.store v.shared.now path else None

-- `state` at the path that C names, if it names one.
abbrev pub HasState : Option Path → (state state' : ResourceState) → Option PolledServer
    → Option PolledServer → ℕ → Type 0
HasState named state state' = OnHandle (state' ≡ state) (AtPath (state' ≡ state) named (λ path v v' r.
    AsksOn (state' ≡ state) (ShowsState state') (lent_state v.engine path) v v' r))
