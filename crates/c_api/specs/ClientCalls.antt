-- Defined by this project: the results of the calls on the handle of a client.
use Rattle.std.specs.Prelude.{◌≡◌, ℕ, Bool, true, false, List, [], ◌∷◌, ◌++◌, length, take, Option, Some, None}
use Rattle.std.specs.Prelude.{option_map, Result, Ok, Err, nat_lt, if◌then◌else◌, ◌⊎◌, ◌<◌}
use Rattle.std.specs.Str.{IsUtf8}
use Rattle.coap_wire.specs.Uint.{bytes_of_uint}
use Rattle.coap_conn.specs.Limits.{LimitValues, limit_refusal}
use Rattle.coap_conn.specs.Calls.{may_forget}
use Rattle.coap_conn.specs.Release.{release_refusal}
use Rattle.coap_conn.specs.RequestState.{next_token}
use Rattle.coap_client_request.specs.Requests.{ExtrasValue}
use Rattle.coap_client_request.specs.Targets.{TargetValue, target_of}
use Rattle.coap_client_request.specs.declared.request.Method.{Method}
use Rattle.coap_client_engine.specs.ClientValues.{ClientValue, new_client, taking, client_written, client_ended}
use Rattle.coap_client_engine.specs.ClientValues.{client_sent, client_cancelled, client_pinged, send_refusal}
use Rattle.coap_client_engine.specs.ClientValues.{cancelling_refusal, ping_refusal, client_released}
use Rattle.coap_client_engine.specs.ClientValues.{client_forgotten, client_announced, announce_refusal}
use Rattle.coap_client_engine.specs.ClientWorld.{ClientCall, ClientShows, Took, Sent, Cancelled, Pinged, Wrote, Ended}
use Rattle.coap_client_engine.specs.ClientWorld.{Released, Announced, Forgot}
use Rattle.c_handle.specs.declared.span.Parts.{Parts}
use Rattle.c_api.specs.ClientEvents.{ShowsEvent, IsPlain, token_number}
use Rattle.c_api.specs.Loans.{HaveBytes}
use Rattle.c_api.specs.Numbers.{client_announce_code, limit_code, phase_code, phase_reason, request_code, send_code}
use Rattle.c_api.specs.RequestTexts.{call_of, flag_named, IsUriRefusal}
use Rattle.c_api.specs.Results.{OnHandle, Answers}
use Rattle.c_api.specs.Settings.{client_limits}
use Rattle.c_api.specs.declared.settings.ClientLimits.{ClientLimits}
use Rattle.c_api.specs.declared.client.ClientStatus.{ClientStatus}
use Rattle.c_api.specs.declared.events.ClientEvent.{ClientEvent}
use Rattle.c_api.specs.declared.requests.Request.{Request}

-- The client is `after`, and shows one more call.
abbrev pub Does : ClientCall → ClientValue → ClientValue → ClientValue → Type 0
Does call after v v' =
    (v' ≡ after)
    × ((tokens : ℕ) (calls : List ClientCall) → ClientShows v tokens calls → ClientShows v' tokens (calls ++ call ∷ []))

-- ---- new

-- A new client shows no call.
abbrev pub IsNew : LimitValues → ℕ → Option ClientValue → ℕ → Type 0
IsNew l tokens None r = r ≡ 2
IsNew l tokens (Some v) r = (r ≡ 0) × ((v ≡ new_client l tokens) × ClientShows v tokens [])

abbrev pub MadeUnless : Option ℕ → LimitValues → ℕ → Option ClientValue → ℕ → Type 0
MadeUnless None l tokens v' r = IsNew l tokens v' r
MadeUnless (Some number) l tokens v' r = (r ≡ number) × (v' ≡ None)

-- `new` returns 3 if the handle has a client. Otherwise it fails with the number of a limit out of range, or with 2,
-- and the handle stays empty; or it makes the client.
abbrev pub IsMade : ClientLimits → ℕ → Option ClientValue → Option ClientValue → ℕ → Type 0
IsMade l tokens None v' r =
    MadeUnless (option_map limit_code (limit_refusal (client_limits l))) (client_limits l) tokens v' r
IsMade l tokens (Some v) v' r = (r ≡ 3) × (v' ≡ Some v)

-- ---- requests

-- The engine's result of a request for a target: the number of its error, or the token.
abbrev pub SendsTo : TargetValue → Method → ExtrasValue → ClientValue → ClientValue → Result ℕ ℕ → Type 0
SendsTo target method extras v v' (Err r) =
    (option_map request_code (send_refusal v.link method target extras) ≡ Some r) × (v' ≡ v)
SendsTo target method extras v v' (Ok token) = (send_refusal v.link method target extras ≡ None)
    × ((token ≡ token_number (next_token v.link.tokens))
    × Does (Sent method target extras) (client_sent v method target extras) v v')

-- A URI that names a target, for which `call` holds, or the number of its error.
abbrev pub AtTarget : {T : Type 0} → List ℕ → ClientValue → ClientValue → (TargetValue → Type 0) → Result T ℕ → Type 0
AtTarget uri v v' call (Ok x) = IsUtf8 uri × ((target : TargetValue) × ((target_of uri ≡ Ok target) × call target))
AtTarget uri v v' call (Err r) =
    (IsUriRefusal uri r × (v' ≡ v))
    ⊎ (IsUtf8 uri × ((target : TargetValue) × ((target_of uri ≡ Ok target) × call target)))

-- A request with values that are not among those allowed is refused with 5, before its URI is read.
abbrev pub CallUnless : {T : Type 0} → Option (Method × ExtrasValue) → ClientValue → ClientValue
    → (Method → ExtrasValue → Type 0) → Result T ℕ → Type 0
CallUnless None v v' call (Ok x) = ⊥
CallUnless None v v' call (Err r) = (r ≡ 5) × (v' ≡ v)
CallUnless (Some a) v v' call result = call a.0 a.1

abbrev pub GivesSent : Request → (uri payload : List ℕ) → ClientValue → ClientValue → Result ℕ ℕ → Type 0
GivesSent request uri payload v v' result = CallUnless (call_of request payload) v v' (λ method extras.
    AtTarget uri v v' (λ target. SendsTo target method extras v v' result) result) result

-- The result of a call that gives a number: 0 and the number, or the error.
abbrev pub Gives : (Result ℕ ℕ → Type 0) → (old new : ℕ) → ℕ → Type 0
Gives holds old new r = ((r ≡ 0) × holds (Ok new)) ⊎ ((new ≡ old) × holds (Err r))

abbrev pub IsSent : Request → (uri payload : List ℕ) → (token token' : ℕ) → Option ClientValue
    → Option ClientValue → ℕ → Type 0
IsSent request uri payload token token' =
    OnHandle (token' ≡ token) (λ v v' r. Gives (GivesSent request uri payload v v') token token' r)

abbrev pub CancelsTo : TargetValue → List ℕ → ExtrasValue → ClientValue → ClientValue → Result (Unit {0}) ℕ → Type 0
CancelsTo target token extras v v' (Err r) =
    (option_map request_code (cancelling_refusal v.link token target extras) ≡ Some r) × (v' ≡ v)
CancelsTo target token extras v v' (Ok u) = (cancelling_refusal v.link token target extras ≡ None)
    × Does (Cancelled token target extras) (client_cancelled v token target extras) v v'

abbrev pub GivesCancelled : Request → List ℕ → ℕ → ClientValue → ClientValue → Result (Unit {0}) ℕ → Type 0
GivesCancelled request uri token v v' result = CallUnless (call_of request []) v v' (λ method extras.
    AtTarget uri v v' (λ target. CancelsTo target (bytes_of_uint token) extras v v' result) result) result

abbrev pub IsCancelled : Request → List ℕ → ℕ → Option ClientValue → Option ClientValue → ℕ → Type 0
IsCancelled request uri token =
    OnHandle (Unit {0}) (λ v v' r. ((r ≡ 0) × GivesCancelled request uri token v v' (Ok tt))
    ⊎ GivesCancelled request uri token v v' (Err r))

abbrev pub PingsWith : Option Bool → (token token' : ℕ) → ClientValue → ClientValue → ℕ → Type 0
PingsWith None token token' v v' r = (r ≡ 5) × ((v' ≡ v) × (token' ≡ token))
PingsWith (Some custody) token token' v v' r =
    Answers (token' ≡ token) (option_map request_code (ping_refusal v.link custody))
    ((token' ≡ token_number (next_token v.link.tokens)) × Does (Pinged custody) (client_pinged v custody) v v') v v' r

abbrev pub IsPinged : ℕ → (token token' : ℕ) → Option ClientValue → Option ClientValue → ℕ → Type 0
IsPinged custody token token' = OnHandle (token' ≡ token) (PingsWith (flag_named custody) token token')

-- ---- take, parts, written, ended

abbrev pub IsTaken : List ℕ → ClientEvent → Option ClientValue → Option ClientValue → ℕ → Type 0
IsTaken piece e =
    OnHandle (IsPlain 0 0 e)
    (λ v v' r. (r ≡ 0) × ((e.bytes ≡ (taking v piece).count) × (ShowsEvent (taking v piece).event e
    × Does (Took (take e.bytes piece)) (taking v piece).client v v')))

-- The parts have the queued bytes, in their order. Their addresses are not specified.
abbrev pub HasQueuedParts : Option ClientValue → Option ClientValue → (parts parts' : Parts) → ℕ → Type 0
HasQueuedParts v v' parts parts' r = OnHandle (parts' ≡ parts) (λ x x' n. (n ≡ 0) × ((x' ≡ x)
    × HaveBytes x.link.waiting parts')) v v' r

abbrev pub IsWritten : ℕ → Option ClientValue → Option ClientValue → ℕ → Type 0
IsWritten count =
    OnHandle (Unit {0}) (λ v v' r. Answers (Unit {0}) (if nat_lt (length v.link.waiting) count then Some 8 else None)
    (Does (Wrote count) (client_written v count) v v') v v' r)

abbrev pub IsEnded : Option ClientValue → Option ClientValue → ℕ → Type 0
IsEnded = OnHandle (Unit {0}) (λ v v' r. (r ≡ 0) × Does Ended (client_ended v) v v')

-- ---- release, announce, forget

abbrev pub IsReleased : Option ClientValue → Option ClientValue → ℕ → Type 0
IsReleased =
    OnHandle (Unit {0}) (λ v v' r. Answers (Unit {0}) (option_map send_code (release_refusal v.link))
    (Does Released (client_released v) v v') v v' r)

-- An announcement can also fail with 2, but only if the size is above the current one.
abbrev pub AnnouncedOrMemory : ℕ → Option ℕ → ClientValue → ClientValue → ℕ → Type 0
AnnouncedOrMemory size None v v' r =
    ((r ≡ 0) × Does (Announced size) (client_announced v size) v v') ⊎ ((r ≡ 2) × ((v.link.own_max < size) × (v' ≡ v)))
AnnouncedOrMemory size (Some number) v v' r = (r ≡ number) × (v' ≡ v)

abbrev pub IsAnnounced : ℕ → Option ClientValue → Option ClientValue → ℕ → Type 0
IsAnnounced size = OnHandle (Unit {0}) (λ v v' r. AnnouncedOrMemory size
    (option_map client_announce_code (announce_refusal v.link size)) v v' r)

-- 163 if nothing outstanding has the token.
abbrev pub unknown_code : Bool → Option ℕ
unknown_code true = None
unknown_code false = Some 163

abbrev pub IsForgotten : ℕ → Option ClientValue → Option ClientValue → ℕ → Type 0
IsForgotten token =
    OnHandle (Unit {0}) (λ v v' r. Answers (Unit {0}) (unknown_code (may_forget v.link (bytes_of_uint token)))
    (Does (Forgot (bytes_of_uint token)) (client_forgotten v (bytes_of_uint token)) v v') v v' r)

-- ---- status

abbrev pub ShowsStatus : ClientStatus → ClientValue → Type 0
ShowsStatus s v =
    (s.phase ≡ phase_code v.link.phase) × ((s.reason ≡ phase_reason v.link.phase) × ((s.waiting ≡ length v.link.waiting)
    × ((s.outstanding ≡ length v.link.outstanding) × (s.peer_max ≡ v.link.peer_max))))

abbrev pub HasStatus : (status status' : ClientStatus) → Option ClientValue → Option ClientValue → ℕ → Type 0
HasStatus status status' = OnHandle (status' ≡ status) (λ v v' r. (r ≡ 0) × ((v' ≡ v) × ShowsStatus status' v))
