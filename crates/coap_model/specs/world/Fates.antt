-- Defined by this project: the requests of a connection that the application answers, each with its fate. Both are
-- computed from the steps of the server.
use Rattle.std.specs.Prelude.{◌≡◌, ◌≢◌, ◌<◌, ◌≤◌, ◌⊎◌, ℕ, zero, suc, ◌+◌, Bool, true, false, not, ◌&&◌, List, [], ◌∷◌}
use Rattle.std.specs.Prelude.{◌++◌, length, map, drop, filter, take, Option, Some, None, is_none, is_some, slice_get}
use Rattle.std.specs.Prelude.{◌==◌, if◌then◌else◌}
use Rattle.std.specs.List.{AllByRecursion, list_any, flat_map}
use Rattle.std.specs.List.Sorted.{IsPermutation}
use Rattle.coap_wire.specs.Message.{Message}
use Rattle.coap_wire.specs.Codes as code
use Rattle.coap_conn.specs.Limits.{LimitValues}
use Rattle.coap_conn.specs.declared.phase.Phase.{Phase}
use Rattle.coap_conn.specs.declared.phase.Phase.TheVariants.{Stopped}
use Rattle.coap_conn.specs.declared.phase.Reply.TheVariants as reply
use Rattle.coap_conn.specs.declared.reason.Reason.TheVariants.{PeerTooSmall}
use Rattle.coap_conn.specs.declared.pending.Responder.{Responder}
use Rattle.coap_conn.specs.declared.pending.Responder.TheVariants.{Engine, Application}
use Rattle.coap_conn.specs.Fit.{fit, fitted, bare_response}
use Rattle.coap_conn.specs.Phases.{answers}
use Rattle.coap_conn.specs.History.{History, link_of, limit_now, after, may_hold}
use Rattle.coap_conn.specs.Announced.{announced, size_limit}
use Rattle.coap_conn.specs.PendingEntries.{PendingEntryValue}
use Rattle.coap_conn.specs.PendingEntries as pending
use Rattle.coap_conn.specs.Calls as call
use Rattle.coap_conn.specs.Reaction.{is_asking}
use Rattle.coap_conn.specs.Responses.{response_refusal, is_plain_response}
use Rattle.coap_path.specs.Paths.{same_bytes}
use Rattle.coap_path.specs.Applications.{ApplicationsValue}
use Rattle.coap_store.specs.Store.{StoreValue}
use Rattle.coap_store.specs.Answer.{only}
use Rattle.coap_store.specs.ApplicationRequests.{application_deadline}
use Rattle.coap_store.specs.Messages.{response_message}
use Rattle.coap_model.specs.Configs.{ConfigValues}
use Rattle.coap_model.specs.world.Connections.{Connection, Delay, delay_of, delay_for, handles, asks_answer}
use Rattle.coap_model.specs.world.Connections.{late_message, moment_after, next_pending, settled_once}
use Rattle.coap_model.specs.world.World.{World, Step, new_world, side_of, Opened, Handled, Responded, acted, step}
use Rattle.coap_model.specs.world.Events.{AcceptedCall, AreAccepted, steps_of, world_after}
use Rattle.coap_model.specs.world.Events as event
use Rattle.coap_model.specs.world.LastNotification.{asks_with, responds}

-- ---- requests and their fates

-- The fate of a request that the application answers.
-- - `Unanswered`: no response is queued. The request is pending, or its connection gave it up: it has stopped, or was
--   dropped.
-- - `Answered`: the message `sent` is queued, after this number of messages (`place`). The connection had handled
--   `handled` messages then. The message is the response as it fits the limit after these. The response is that of the
--   application, or an error of the engine.
pub data Fate : Type 0 where
  Unanswered : Fate
  Answered : (by : Responder) (response sent : Message) (handled place : ℕ) → Fate

-- A request that the application answers, and its deadline. `handled` and `queued` count the messages that its
-- connection had handled and queued before it. `alone` is true if no response with its token was pending then. `handed`
-- is true if the request was handed to the application: it got a place in the pending list.
pub record ApplicationRequest : Type 0 where
  pub request : Message
  pub deadline : ℕ
  pub handled : ℕ
  pub queued : ℕ
  pub alone : Bool
  pub handed : Bool
  pub fate : Fate

-- The message is a request that the application answers.
abbrev pub is_for_application : Option ApplicationsValue → Message → Bool
is_for_application a m = is_asking m && is_some (application_deadline a m)

-- The entry is a delayed response with this token.
abbrev pub awaits : List ℕ → PendingEntryValue → Bool
awaits token (pending.Answer by own moment) = same_bytes own token
awaits token (pending.Pong own) = false

-- No response is queued.
abbrev pub is_unanswered : Fate → Bool
is_unanswered Unanswered = true
is_unanswered (Answered by response sent handled place) = false

-- The messages that are queued: none, or one.
abbrev pub messages_of : Fate → List Message
messages_of Unanswered = []
messages_of (Answered by response sent handled place) = sent ∷ []

-- The pending entry of a request.
abbrev pub entry_of : ApplicationRequest → PendingEntryValue
entry_of r = pending.Answer Application r.request.token r.deadline

-- The entry is a request that waits for the application.
abbrev pub is_of_application : PendingEntryValue → Bool
is_of_application (pending.Answer Engine token moment) = false
is_of_application (pending.Answer Application token moment) = true
is_of_application (pending.Pong token) = false

-- The connection has stopped.
abbrev pub has_stopped : Phase → Bool
has_stopped (Stopped why) = true
has_stopped other = false

-- ---- responses

-- The fate for which these messages are queued of a response: none, or one. The numbers count the messages that were
-- handled and queued before.
abbrev pub fate_of : Responder → Message → List Message → (handled place : ℕ) → Fate
fate_of by response [] handled place = Unanswered
fate_of by response (sent ∷ others) handled place = Answered by response sent handled place

-- The fate of a request to which this response is sent. If the response does not fit, not even reduced, the connection
-- stops and nothing is queued.
abbrev pub fate_by : Responder → History → Message → Fate
fate_by by h response =
    if answers h.phase then fate_of by response
    (fitted response (bare_response response) (fit (limit_now h) response (bare_response response)))
    (length h.handled) (length h.queued)
    else Unanswered

-- The requests after the first one that passes the test got this fate.
unfoldable pub with_fate : (ApplicationRequest → Bool) → Fate → List ApplicationRequest → List ApplicationRequest
with_fate test fate [] = []
with_fate test fate (r ∷ rs) = if test r then record r { fate = fate } ∷ rs else r ∷ with_fate test fate rs

-- The request is unanswered, and has this token.
abbrev pub is_unanswered_with : List ℕ → ApplicationRequest → Bool
is_unanswered_with token r = is_unanswered r.fate && same_bytes r.request.token token

-- ---- the requests after an effect on their connection

-- The error 5.03 to a request that finds the pending list full.
abbrev pub refusal_of : Message → Message
refusal_of m = response_message m.token (only code.service_unavailable)

-- The fate of a request that was handled: it is pending, or 5.03 is sent at once if the list is full.
abbrev pub first_fate : History → Message → Fate
first_fate h m = if may_hold h then Unanswered else fate_by Engine h (refusal_of m)

-- A new request of this connection, if the application has this number of seconds for its response.
abbrev pub new_request : ℕ → Connection → Message → Option ℕ → List ApplicationRequest
new_request now s m None = []
new_request now s m (Some seconds) = record {
  request = m;
  deadline = moment_after now seconds;
  handled = length s.history.handled;
  queued = length s.history.queued;
  alone = not (list_any (awaits m.token) s.history.pending);
  handed = asks_answer s m && may_hold (after s.history (call.Handle m));
  fate = first_fate (after s.history (call.Handle m)) m;
} ∷ []

-- The requests after a message to this connection.
unfoldable pub requests_after : StoreValue → ℕ → Connection → Message → List ApplicationRequest
    → List ApplicationRequest
requests_after store now s m rs =
    if handles s && is_asking m then rs ++ new_request now s m (application_deadline store.applications m) else rs

-- The requests after a response of the application, which is the answer to the first one with its token that is
-- unanswered.
unfoldable pub requests_responded : Connection → Message → List ApplicationRequest → List ApplicationRequest
requests_responded s m rs =
    if is_none (response_refusal (link_of s.history) m)
    then with_fate (is_unanswered_with m.token) (fate_by Application s.history m) rs else rs

-- The requests after this entry was due: if it is a request, the answer is 5.04.
abbrev pub requests_due : Connection → Option PendingEntryValue → List ApplicationRequest → List ApplicationRequest
requests_due s None rs = rs
requests_due s (Some (pending.Answer Engine token moment)) rs = rs
requests_due s (Some (pending.Answer Application token moment)) rs =
    with_fate (λ r. is_unanswered_with token r && r.deadline == moment)
    (fate_by Engine s.history (late_message Application token)) rs
requests_due s (Some (pending.Pong token)) rs = rs

-- The requests after one round of settling.
unfoldable pub requests_once : ℕ → Connection → List ApplicationRequest → List ApplicationRequest
requests_once now s rs = requests_due s (next_pending now s) rs

-- The requests after this number of rounds of settling.
unfoldable pub requests_within : ℕ → StoreValue → ℕ → Connection → List ApplicationRequest → List ApplicationRequest
requests_within zero store now s rs = rs
requests_within (suc turns) store now s rs =
    requests_within turns store now (settled_once store now s) (requests_once now s rs)

-- The requests after the connection has settled.
unfoldable pub requests_settled : StoreValue → ℕ → Connection → List ApplicationRequest → List ApplicationRequest
requests_settled store now s rs = requests_within (length s.history.pending + length s.observers) store now s rs

-- ---- the requests after a step of the server

-- The requests after an effect on their connection, if it exists.
abbrev pub if_there : Option Connection → (Connection → List ApplicationRequest → List ApplicationRequest)
    → List ApplicationRequest → List ApplicationRequest
if_there None change rs = rs
if_there (Some s) change rs = change s rs

-- The requests of the connection with this id after a step's own effect. A new connection has none.
unfoldable pub requests_acted : ℕ → World → Step → List ApplicationRequest → List ApplicationRequest
requests_acted id w (Opened other) rs = if other == id && is_none (side_of id w.sides) then [] else rs
requests_acted id w (Handled other m) rs =
    if other == id then if_there (side_of id w.sides) (λ s. requests_after w.store w.now s m) rs else rs
requests_acted id w (Responded other m) rs =
    if other == id then if_there (side_of id w.sides) (λ s. requests_responded s m) rs else rs
requests_acted id w other rs = rs

-- The requests after a step: first its own effect, then the connection settles.
unfoldable pub requests_then : ℕ → World → List ApplicationRequest → List ApplicationRequest
requests_then id w rs = if_there (side_of id w.sides) (requests_settled w.store w.now) rs

-- The requests after a list of steps.
unfoldable pub requests_by : LimitValues → ℕ → World → List Step → List ApplicationRequest → List ApplicationRequest
requests_by limits id w [] rs = rs
requests_by limits id w (s ∷ ss) rs =
    requests_by limits id (step limits w s) ss (requests_then id (acted limits w s) (requests_acted id w s rs))

-- The requests on a connection that the application answers, in order, after a list of events.
unfoldable pub requests_on : ConfigValues → ℕ → List AcceptedCall → List ApplicationRequest
requests_on c id events = requests_by c.limits id (new_world c) (steps_of c.limits.max_message events) []

-- ---- the responses of the application

-- The responses that the application gave on a connection, in order.
abbrev pub given_in : ℕ → AcceptedCall → List Message
given_in id (event.Responded other m) = if other == id then m ∷ [] else []
given_in id other = []

unfoldable pub given_on : ℕ → List AcceptedCall → List Message
given_on id [] = []
given_on id (e ∷ es) = given_in id e ++ given_on id es

-- Those that are answers to requests, before they are reduced, with the places of the answers.
abbrev pub response_of : Fate → List (Message × ℕ)
response_of Unanswered = []
response_of (Answered Engine response sent handled place) = []
response_of (Answered Application response sent handled place) = (response, place) ∷ []

unfoldable pub responses_to : List ApplicationRequest → List (Message × ℕ)
responses_to [] = []
responses_to (r ∷ rs) = response_of r.fate ++ responses_to rs

-- ---- the requests handed to the application

-- These requests, in order.
abbrev pub handed_requests : List ApplicationRequest → List Message
handed_requests rs = map (λ r. r.request) (filter (λ r. r.handed) rs)

-- The application responds, and not the engine.
abbrev pub is_responder : Responder → Bool
is_responder Engine = false
is_responder Application = true

-- The response is delayed until the application responds.
abbrev pub is_by_application : Option Delay → Bool
is_by_application None = false
is_by_application (Some d) = is_responder d.by

-- The message, if the connection hands it to the application when it handles it. Then the server must answer it, and it
-- becomes a pending entry of the application.
abbrev pub handed_in : StoreValue → ℕ → Connection → Message → List Message
handed_in store now s m =
    if asks_answer s m && is_by_application (delay_for (after s.history (call.Handle m)) (delay_of store now m))
    then m ∷ [] else []

-- The messages that a connection handled between two states and handed to the application. The first state is that in
-- this world.
abbrev pub handed_between : World → Connection → Connection → List Message
handed_between w s t = flat_map (handed_in w.store w.now s) (drop (length s.history.handled) t.history.handled)

-- ---- properties of the requests

-- Each of these messages is queued before those after it in the list.
abbrev pub AreQueuedInOrder : List (Message × ℕ) → Type 0
AreQueuedInOrder [] = Unit {0}
AreQueuedInOrder (m ∷ ms) = AllByRecursion (λ other. m.1 < other.1) ms × AreQueuedInOrder ms

-- The response did not fit the limit of the connection, not even reduced, and so stopped it.
abbrev pub IsUnfit : History → Message → Type 0
IsUnfit h response =
    (fit (limit_now h) response (bare_response response) ≡ reply.Stopped) × (h.phase ≡ Stopped PeerTooSmall)

-- The responses that the application gave are its answers to requests, in the order in which they are queued. It gave
-- one more at most: the one that did not fit, not even reduced, and so stopped the connection.
pub record AreAnswers (h : History) (given : List Message) (responses : List (Message × ℕ)) : Type 0 where
  pub order : List (Message × ℕ)
  pub same : IsPermutation order responses
  pub in_order : AreQueuedInOrder order
  pub lost : List Message
  pub given_are : given ≡ map (λ m. m.0) order ++ lost
  pub few : length lost ≤ 1
  pub unfit : AllByRecursion (IsUnfit h) lost

-- The size of the largest message that a connection with these limits may send after it handled these messages. It is
-- the smaller of the local limit and the size that the peer announced last.
abbrev pub limit_after : LimitValues → List Message → ℕ
limit_after limits handled = size_limit limits.max_sent (announced handled)

-- The message `sent` is the response, reduced to this limit as `fit` says.
abbrev pub IsReduced : ℕ → Message → Message → Type 0
IsReduced limit response sent =
    fitted response (bare_response response) (fit limit response (bare_response response)) ≡ sent ∷ []

-- The response may answer this request, if it is queued at this place. If the request was handed to the application,
-- the response is one of the application, without Observe, or 5.04 of the engine. If not, it is 5.03 of the engine at
-- once.
abbrev pub MayAnswer : ApplicationRequest → Responder → Message → ℕ → Type 0
MayAnswer r Application response place =
    (r.handed ≡ true) × (response.token ≡ r.request.token) × (is_plain_response response ≡ true)
MayAnswer r Engine response place =
    (r.handed ≡ true → response ≡ late_message Application r.request.token)
    × (r.handed ≡ false → (response ≡ refusal_of r.request) × (place ≡ r.queued))

-- The answer to a request is queued at its place, after the request was handled. It is reduced to the limit at that
-- time. This is the limit after the first `handled` messages, of which the request is one.
pub record IsAnswer (h : History) (r : ApplicationRequest) (by : Responder) (response sent : Message)
    (handled place : ℕ) : Type 0 where
  pub allowed : MayAnswer r by response place
  pub reduced : IsReduced (limit_after h.limits (take handled h.handled)) response sent
  pub there : slice_get h.queued place ≡ Some sent
  pub later : r.queued ≤ place
  pub after_it : r.handled < handled
  pub within : handled ≤ length h.handled

-- The fate of a request is that of an unanswered one, or its answer is queued.
abbrev pub HasFate : History → ApplicationRequest → Fate → Type 0
HasFate h r Unanswered = Unit {0}
HasFate h r (Answered by response sent handled place) = IsAnswer h r by response sent handled place

-- Two fates have different places.
abbrev pub HaveOtherPlaces : Fate → Fate → Type 0
HaveOtherPlaces Unanswered other = Unit {0}
HaveOtherPlaces (Answered by response sent handled place) Unanswered = Unit {0}
HaveOtherPlaces (Answered by response sent handled place)
    (Answered other_by other_response other_sent other_handled other) = place ≢ other

-- No two requests share a response.
abbrev pub HaveOwnAnswers : List ApplicationRequest → Type 0
HaveOwnAnswers [] = Unit {0}
HaveOwnAnswers (r ∷ rs) = AllByRecursion (λ other. HaveOtherPlaces r.fate other.fate) rs × HaveOwnAnswers rs

-- If the answer to a request with this token is the error 5.04 of the engine, the deadline of the request has come.
abbrev pub IsTimely : ℕ → List ℕ → ℕ → Fate → Type 0
IsTimely now token deadline Unanswered = Unit {0}
IsTimely now token deadline (Answered Engine response sent handled place) =
    response ≡ late_message Application token → deadline ≤ now
IsTimely now token deadline (Answered Application response sent handled place) = Unit {0}

-- Of the responses with the token of a request that were queued after it, its answer is the only one. There are two
-- conditions. No response with the token was pending before, and no request with the token was handled later.
abbrev pub HasOnlyAnswer : List Message → List Message → ApplicationRequest → Type 0
HasOnlyAnswer handled queued r =
    r.alone ≡ true → AllByRecursion (λ m. asks_with r.request.token m ≡ false) (drop (suc r.handled) handled)
    → filter (responds r.request.token) (drop r.queued queued) ≡ messages_of r.fate

-- The connection was dropped. Its requests with their fates, and the responses of the application, are those of the
-- events before the drop. So the drop gave up what was pending.
pub record WasDropped (c : ConfigValues) (id : ℕ) (events : List AcceptedCall) : Type 0 where
  pub earlier : List AcceptedCall
  pub later : List AcceptedCall
  pub connection : Connection
  pub parts : events ≡ earlier ++ event.Dropped id ∷ later
  pub accepted : AreAccepted c earlier
  pub there : side_of id (world_after c earlier).sides ≡ Some connection
  pub requests : requests_on c id events ≡ requests_on c id earlier
  pub given : given_on id events ≡ given_on id earlier

-- The connection never existed and has no request and no response, or it was dropped.
abbrev pub IsGone : ConfigValues → ℕ → List AcceptedCall → Type 0
IsGone c id events = ((requests_on c id events ≡ []) × (given_on id events ≡ [])) ⊎ WasDropped c id events
