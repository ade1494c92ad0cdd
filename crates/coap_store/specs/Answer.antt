-- RFC 7252 sections 5.8 to 5.10 and 12.1, RFC 6690 section 4, RFC 7641 section 4.1: the answer to a request. Error
-- responses have no payload, although RFC 7252 section 5.5.2 would allow a diagnostic one.
use Rattle.std.specs.Prelude.{ℕ, Bool, true, false, not, ◌&&◌, ◌||◌, List, [], ◌∷◌, length, Option, Some, None, codes}
use Rattle.std.specs.Prelude.{is_some, is_none, nat_le, nat_lt, ◌==◌, if◌then◌else◌}
use Rattle.std.specs.List.{list_any}
use Rattle.coap_wire.specs.Message.{Message}
use Rattle.coap_wire.specs.Codes as code
use Rattle.coap_wire.specs.OptionNumbers as numbers
use Rattle.coap_wire.specs.Recognition.{first_critical}
use Rattle.coap_path.specs.Paths.{Path, same_bytes}
use Rattle.coap_store.specs.Store.{Representation, StoreValue, put_in, removed_in}
use Rattle.coap_path.specs.ResourceKinds.{is_dynamic, is_time, is_async, is_observable, kind_of_path}
use Rattle.coap_store.specs.State.{text_plain, RequestTarget, target_of}
use Rattle.coap_path.specs.declared.resource_kind.ResourceKind.{ResourceKind}
use Rattle.coap_store.specs.declared.plan.Watch.{Watch}
use Rattle.coap_store.specs.declared.plan.Watch.TheVariants as watch
use Rattle.coap_store.specs.Requests.{values_of, value_of, has_option, path_of, number_of, is_get, is_post, is_put}
use Rattle.coap_store.specs.Requests.{is_delete, is_method, etag_of, preconditions_hold, is_good_query, seconds_of}

-- ---- the parts of an answer

-- A response without its token, which is that of the request: the code, the options and the payload.
pub record Response : Type 0 where
  pub code : ℕ
  pub etag : Option (List ℕ)
  pub format : Option ℕ
  pub max_age : Option ℕ
  pub location : Path
  pub size1 : Option ℕ
  pub payload : List ℕ

-- A change of the store.
pub data Change : Type 0 where
  Nothing : Change
  Put : (path : Path) (format : Option ℕ) (bytes : List ℕ) → Change
  Delete : (path : Path) → Change

-- An answer: the response, the change, the effect on the observers, and the delay of the response in seconds, if any.
pub record Answer : Type 0 where
  pub response : Response
  pub change : Change
  pub watch : Watch
  pub hold : Option ℕ

-- The response with this code and nothing else.
abbrev pub only : ℕ → Response
only c = record { code = c; etag = None; format = None; max_age = None; location = []; size1 = None; payload = [] }

-- The answer with this response and no other effect.
abbrev pub says : Response → Answer
says r = record { response = r; change = Nothing; watch = watch.Nothing; hold = None }

-- The answer of a plan that answers no request yet: code 0.00 and nothing else.
abbrev pub no_answer : Answer
no_answer = says (only code.empty)

-- ---- checks, one after the other

-- The answer, if the condition holds.
abbrev pub when : Bool → Answer → Option Answer
when true a = Some a
when false a = None

-- The answer with this error code, if the condition holds.
abbrev pub refuse : Bool → ℕ → Option Answer
refuse holds c = when holds (says (only c))

-- The answer of the first check that gives one, otherwise the last answer.
abbrev pub first_of : List (Option Answer) → Answer → Answer
first_of [] last = last
first_of (Some a ∷ checks) last = a
first_of (None ∷ checks) last = first_of checks last

-- ---- GET (RFC 7252 section 5.8.1)

-- A request accepts the format of a representation: it has no Accept, or its Accept names this format.
abbrev pub is_accepted : Option ℕ → Option ℕ → Bool
is_accepted None format = true
is_accepted (Some wanted) None = false
is_accepted (Some wanted) (Some format) = format == wanted

-- The ETag of a representation. Only created resources have one.
abbrev pub etag_at : ResourceKind → Representation → Option (List ℕ)
etag_at place r = if is_dynamic place then Some (etag_of r) else None

-- There is an ETag, and it is one of the values.
abbrev pub is_among : Option (List ℕ) → List (List ℕ) → Bool
is_among None values = false
is_among (Some etag) values = list_any (λ value. same_bytes value etag) values

-- The Max-Age of a resource in seconds: 1 for `/time`, none for the others.
abbrev pub max_age_at : ResourceKind → Option ℕ
max_age_at place = if is_time place then Some 1 else None

-- The 2.03 response for a representation.
abbrev pub valid : ResourceKind → Representation → Response
valid place r = record (only code.valid) { etag = etag_at place r }

-- The 2.05 response for a representation.
abbrev pub content : ResourceKind → Representation → Response
content place r = record (only code.content) {
  etag = etag_at place r;
  format = r.format;
  max_age = max_age_at place;
  payload = r.bytes;
}

-- There is a number, and it is `n`.
abbrev pub is_number : Option ℕ → ℕ → Bool
is_number None n = false
is_number (Some given) n = given == n

-- The effect of a GET on the observers: Observe 0 registers an observer of an observable resource.
abbrev pub watch_of : ResourceKind → Message → Watch
watch_of place m = if is_observable place && is_number (number_of numbers.observe m) 0 then watch.Add else watch.Nothing

-- The answer with this response and the effect of a GET on the observers.
abbrev pub watched : ResourceKind → Message → Response → Answer
watched place m r = record (says r) { watch = watch_of place m }

-- The answer with a response that is delayed by the seconds in the query.
abbrev pub late : ResourceKind → Representation → Message → Answer
late place r m = record (says (content place r)) { hold = Some (seconds_of (value_of numbers.uri_query m)) }

-- The response that is sent after every delay.
abbrev pub delayed_response : Response
delayed_response = record (only code.content) { format = Some text_plain; payload = codes "done" }

-- The response to a request that the application has not answered until its deadline.
abbrev pub expired_response : Response
expired_response = only code.gateway_timeout

-- The request is a GET of `/async`.
abbrev pub is_delayed : Message → Bool
is_delayed m = is_get m && is_async (kind_of_path (path_of m))

-- The answer to a GET of a resource that exists. The checks, in this order: Accept, ETag, the query of `/async`.
unfoldable pub get_answer : ResourceKind → Representation → Message → Answer
get_answer place r m =
    first_of (
    refuse (not (is_accepted (number_of numbers.accept m) r.format)) code.not_acceptable
    ∷ when (is_among (etag_at place r) (values_of numbers.etag m)) (watched place m (valid place r))
    ∷ refuse (is_async place && not (is_good_query (value_of numbers.uri_query m))) code.bad_request
    ∷ when (is_async place) (late place r m)
    ∷ [])
    (watched place m (content place r))

-- ---- PUT and POST (RFC 7252 sections 5.8.2, 5.8.3)

-- The largest version.
abbrev pub greatest_version : ℕ
greatest_version = 18446744073709551615

-- The change that stores the payload of a request at a path, with its Content-Format.
abbrev pub put_of : Path → Message → Change
put_of path m = Put path (number_of numbers.content_format m) m.payload

-- The path in the response after a resource was created: POST returns it, PUT does not.
abbrev pub location_at : Path → Message → Path
location_at path m = if is_post m then path else []

-- The answer that stores the payload at a path: 2.04 if the resource exists, otherwise 2.01.
abbrev pub stored : Path → Option Representation → Message → Answer
stored path (Some r) m = record (says (only code.changed)) { change = put_of path m }
stored path None m = record (says (record (only code.created) { location = location_at path m })) {
  change = put_of path m;
}

-- The same, if a resource can have the path. Otherwise the request was rejected before, and the first case does not
-- occur.
abbrev pub stored_under : Option Path → Option Representation → Message → Answer
stored_under None state m = says (only code.bad_request)
stored_under (Some path) state m = stored path state m

-- The answer to a payload above the maximum size: 4.13 with that size in Size1.
abbrev pub too_large : StoreValue → Answer
too_large s = says (record (only code.request_entity_too_large) { size1 = Some s.rep_max })

-- The answer to PUT and POST. The checks, in this order: the size, the path, the limit of created resources, the
-- versions.
unfoldable pub store_answer : StoreValue → RequestTarget → Message → Answer
store_answer s t m =
    first_of (
    when (nat_lt s.rep_max (length m.payload)) (too_large s)
    ∷ refuse (is_none t.state && is_none t.key) code.bad_request
    ∷ refuse (is_none t.state && nat_le s.dynamic_max (length s.resources)) code.not_acceptable
    ∷ refuse (s.versions == greatest_version) code.service_unavailable
    ∷ [])
    (stored_under t.key t.state m)

-- ---- DELETE (RFC 7252 section 5.8.4)

-- The change of a DELETE: the removal of the resource, if it exists.
abbrev pub deletion : Option Path → Option Representation → Change
deletion None state = Nothing
deletion (Some path) None = Nothing
deletion (Some path) (Some r) = Delete path

-- The answer to DELETE: 2.02, also if the resource does not exist.
abbrev pub delete_answer : RequestTarget → Answer
delete_answer t = record (says (only code.deleted)) { change = deletion t.key t.state }

-- ---- any request

-- The request needs a resource that exists. This holds for GET, and for PUT and POST if the store accepts no created
-- resources.
abbrev pub needs_resource : StoreValue → Message → Bool
needs_resource s m = is_get m || ((is_put m || is_post m) && s.dynamic_max == 0)

-- The answer to GET. An absent path was rejected before, so the first case does not occur.
abbrev pub read_answer : ResourceKind → Option Representation → Message → Answer
read_answer place None m = says (only code.not_found)
read_answer place (Some r) m = get_answer place r m

-- The answer by the method.
unfoldable pub method_answer : StoreValue → RequestTarget → Message → Answer
method_answer s t m =
    if is_get m then read_answer t.place t.state m
    else (if is_delete m then delete_answer t else store_answer s t m)

-- The answer by the checks of the resource, followed by those of the method.
unfoldable pub resource_answer : StoreValue → RequestTarget → Message → Answer
resource_answer s t m =
    first_of (
    refuse (is_none t.state && needs_resource s m) code.not_found
    ∷ refuse (not (is_dynamic t.place) && not (is_get m)) code.method_not_allowed
    ∷ refuse (not (preconditions_hold t.state m)) code.precondition_failed
    ∷ [])
    (method_answer s t m)

-- The answer by the checks of the request itself, followed by those of the resource.
unfoldable pub answer_at : StoreValue → RequestTarget → Message → Answer
answer_at s t m =
    first_of (
    refuse (is_some (first_critical m.options)) code.bad_option
    ∷ refuse (has_option numbers.proxy_uri m || has_option numbers.proxy_scheme m) code.proxying_not_supported
    ∷ refuse (not (is_method m)) code.method_not_allowed
    ∷ [])
    (resource_answer s t m)

-- The request is a GET with Observe 1, which removes an observer, whatever the response is.
abbrev pub removes_watch : Message → Bool
removes_watch m = is_get m && is_number (number_of numbers.observe m) 1

-- The answer, which also removes an observer if the flag is true.
abbrev pub with_observe_rule : Bool → Answer → Answer
with_observe_rule true a = record a { watch = watch.Drop }
with_observe_rule false a = a

-- The answer to a request at the time `now`.
unfoldable pub answer_of : StoreValue → ℕ → Message → Answer
answer_of s now m = with_observe_rule (removes_watch m) (answer_at s (target_of s now (path_of m)) m)

-- ---- the store afterwards

-- The store after a change.
abbrev pub changed : StoreValue → Change → StoreValue
changed s Nothing = s
changed s (Put path format bytes) = put_in s path format bytes
changed s (Delete path) = removed_in s path

-- ---- a full pending list

-- The answer with 5.03 in place of a response that would be delayed.
abbrev pub without_hold_if : Option ℕ → Answer → Answer
without_hold_if None a = a
without_hold_if (Some seconds) a = record a { response = only code.service_unavailable; hold = None }

-- The answer if the pending list is full.
abbrev pub without_hold : Answer → Answer
without_hold a = without_hold_if a.hold a

-- The answer to a request at the time `now`, if the pending list is full.
unfoldable pub immediate_answer : StoreValue → ℕ → Message → Answer
immediate_answer s now m = without_hold (answer_of s now m)
