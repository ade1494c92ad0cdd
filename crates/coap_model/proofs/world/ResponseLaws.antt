-- The messages that a connection queues for a message that it handles: one response to a request that is not delayed,
-- and no response otherwise. The observer that a registration adds, and the requests that are registrations.
use Rattle.std.proofs.Common.{◌≡◌, ℕ, Bool, true, false, List, [], ◌++◌, Option, Some, None, sym, arith, ◌&&◌, ◌==◌}
use Rattle.std.proofs.Common.{◌∷◌, refl, ap, ◌∙◌, nat_le}
use Rattle.coap_model.specs.Prelude.{AllByRecursion, Message, Server, is_open, fit, fitted, bare_response, is_response}
use Rattle.coap_model.specs.Prelude.{History, limit_now, after, StoreValue, Connection, handles, asks_answer, Delay}
use Rattle.coap_model.specs.Prelude.{delay_of, delay_for, side_after, side_answered, without_token, has_place}
use Rattle.coap_model.specs.Prelude.{prompt_answer, QueuesResponse, Observer, responds, response_with_observe}
use Rattle.coap_model.specs.Prelude.{entry_for, kept_open, immediate_answer, answer_of, answer_at, class_of, fits}
use Rattle.coap_model.specs.Prelude.{registers_by, registers, may_register, registered_response, registration_fits}
use Rattle.coap_model.specs.Prelude.{path_of, number_of, is_observable, RequestTarget, kind_of_path, is_whole}
use Rattle.std.proofs.lemmas.Bool.{cond_both, and_parts, eqb-true}
use Rattle.std.proofs.lemmas.List.{append-nil}
use Rattle.coap_conn.specs.Calls as call
use Rattle.coap_conn.proofs.RequestLemmas.{react_asks}
use Rattle.coap_conn.proofs.LinkLemmas.{announced_more}
use Rattle.coap_store.specs.Answer.{Answer, is_number, watch_of}
use Rattle.coap_model.proofs.world.WalkLaws.{said_request, pending_is}
use Rattle.coap_model.proofs.world.QueuedMessages.{message_queues, open_answers}
use Rattle.coap_model.proofs.world.RespondedLaws.{sent_is}
use Rattle.coap_model.proofs.world.AnswerCodes.{prompt_coded, bare_coded}
use Rattle.coap_model.proofs.world.KnownLaws.{bytes_itself}
use Rattle.coap_model.proofs.world.CustodyLaws.{request_quiet}
use Rattle.coap_model.proofs.world.SideLaws.{handles_parts, replied_cases}
use Rattle.coap_model.specs.world.Connections.{responded}
use Rattle.std.proofs.lemmas.Bool.Decides.{nat_tests}
use Rattle.coap_path.specs.ResourceKinds.{is_async}
use Rattle.coap_path.specs.declared.resource_kind.ResourceKind.{ResourceKind}
use Rattle.coap_path.specs.declared.resource_kind.ResourceKind.TheVariants.{Async}
use Rattle.coap_store.specs.State.{target_of}
use Rattle.coap_store.specs.declared.plan.Watch.TheVariants as watch
use Rattle.coap_wire.specs.OptionNumbers as numbers
use Rattle.coap_store.proofs.AnswerLaws.{answer_holds, answer_cases, known_get_cases, prompt_holds}
use Rattle.coap_store.proofs.ApplicationLaws.{prompt_cases}
use Rattle.coap_store.proofs.HoldLaws.{delayed_unwatched}
use Rattle.coap_store.proofs.WatchLaws.{watched_at_once}

-- ---- the requests that register an observer

-- The code of an error has another class.
error_class : (c : ℕ) → nat_le 128 c ≡ true → (class_of c == 2) ≡ false
error_class c error = grind (arith, nat_tests)

-- `/async` cannot be observed.
async_unobserved : (place : ResourceKind) → is_async place ≡ true → is_observable place ≡ false
async_unobserved Async is = refl
async_unobserved _ is = absurd cc

-- Observe 0 removes no observer.
added_stays : (observe : Option ℕ) → is_number observe 0 ≡ true → is_number observe 1 ≡ false
added_stays None is = absurd cc
added_stays (Some n) is = rw (eqb-true n 0 is) refl

-- A request with an answer that adds an observer is a registration.
abbrev IsRegistration : Message → Answer → Type 0
IsRegistration m a = a.watch ≡ watch.Add → registers_by m a ≡ true

watched_registers : (m : Message) (place : ResourceKind) → watch_of place m ≡ watch.Add
    → (is_observable place ≡ true) × (is_number (number_of numbers.observe m) 0 ≡ true)
watched_registers m place e = grind arith

answer_registers : (s : StoreValue) (now : ℕ) (m : Message) → IsRegistration m (answer_of s now m)
answer_registers s now m =
    answer_holds (IsRegistration m) s now m (grind (arith, watched_registers))

pub watch_registers : (store : StoreValue) (now : ℕ) (m : Message) → (prompt_answer store now m).watch ≡ watch.Add
    → registers store now m ≡ true
unfolding immediate_answer
watch_registers store now m =
    prompt_cases store now m (IsRegistration m) (λ e. absurd cc)
    (grind (arith, prompt_holds, answer_registers, delayed_unwatched))

-- The answer to a registration adds an observer.
abbrev Adds : Message → Answer → Type 0
Adds m a = registers_by m a ≡ true → a.watch ≡ watch.Add

at_adds : (s : StoreValue) (t : RequestTarget) (m : Message) → t.place ≡ kind_of_path (path_of m)
    → Adds m (answer_at s t m)
at_adds s t m same =
    answer_cases (Adds m) s t m (λ c error. grind (arith, error_class c error)) (record {
      read = λ r there. known_get_cases (Adds m) t.place r m (λ c error. grind (arith, error_class c error)) (grind (
        arith,
        async_unobserved,
        t.place,
      ));
      deleted = λ dynamic method. grind arith;
      stored = λ dynamic method. grind arith;
    })

answer_adds : (s : StoreValue) (now : ℕ) (m : Message) → Adds m (answer_of s now m)
unfolding answer_of
answer_adds s now m =
    grind (arith, at_adds s (target_of s now (path_of m)) m refl, added_stays (number_of numbers.observe m))

pub registers_watch : (store : StoreValue) (now : ℕ) (m : Message) → registers store now m ≡ true
    → (prompt_answer store now m).watch ≡ watch.Add
unfolding immediate_answer
registers_watch store now m =
    prompt_cases store now m (Adds m) (grind arith)
    (grind (arith, prompt_holds, answer_adds))

-- The answer to a registration is not delayed.
registers_at_once : (store : StoreValue) (now : ℕ) (m : Message) → (prompt_answer store now m).watch ≡ watch.Add
    → delay_of store now m ≡ None
unfolding prompt_answer immediate_answer
registers_at_once store now m e = grind (arith, watched_at_once store now m)

-- ---- a request

-- Nothing is queued by itself, the limits are unchanged, and the connection is open.
pub record IsReceived (h k : History) : Type 0 where
  pub queued : k.queued ≡ h.queued
  pub limit : limit_now k ≡ limit_now h
  pub limits : k.limits ≡ h.limits
  pub opened : is_open k.phase ≡ true

pub request_received : (s : Connection) (m : Message) → asks_answer s m ≡ true
    → IsReceived s.history (after s.history (call.Handle m))
request_received s m asks = grind (arith, react_asks, said_request, announced_more, append-nil, request_quiet)

-- ---- a response

-- The response to a request is one with its token, whole or reduced.
pub prompt_responds : (store : StoreValue) (now : ℕ) (m : Message) (observe : Bool)
    → let r = response_with_observe m.token observe (prompt_answer store now m).response in
    (responds m.token r ≡ true) × (responds m.token (bare_response r) ≡ true)
    × (r.code ≡ (prompt_answer store now m).response.code)
prompt_responds store now m observe =
    grind (arith, prompt_coded store now m, bare_coded (prompt_answer store now m).response.code, bytes_itself m.token)

-- A response is queued as it fits the limit.
pub reply_fitted : (h : History) (m : Message) → is_open h.phase ≡ true → (after h (call.Reply m)).queued
    ≡ h.queued ++ fitted m (bare_response m) (fit (limit_now h) m (bare_response m))
reply_fitted h m opened = grind (arith, open_answers h.phase opened, sent_is)

-- The answer to a request is queued so.
pub answered_queues : (store : StoreValue) (now : ℕ) (s : Connection) (m : Message) (a : Answer) (os : List Observer)
    → asks_answer s m ≡ true
    → QueuesResponse m.token (has_place s.history.limits.observers os a.watch) a.response s
    (side_answered store now (after s.history (call.Handle m)) os m a)
answered_queues store now s m a os asks =
    let k = after s.history (call.Handle m) in
    grind (arith, request_received s m asks, reply_fitted k)

module _ (store : StoreValue) (now : ℕ) (s : Connection) (m : Message) where
  abbrev pub delay : Option Delay
  delay = delay_for (after s.history (call.Handle m)) (delay_of store now m)

  pub answered_once : handles s ≡ true → asks_answer s m ≡ true → delay ≡ None
      → (observe : Bool)
      × QueuesResponse m.token observe (prompt_answer store now m).response s (side_after store now s m)
  unfolding side_after
  answered_once does asks none = (
    has_place s.history.limits.observers (without_token m.token s.observers) (prompt_answer store now m).watch,
    grind (
      arith,
      answered_queues store now s m (prompt_answer store now m) (without_token m.token s.observers) asks,
    ),
  )

  pub delayed_queues_none : (d : Delay) → handles s ≡ true → asks_answer s m ≡ true → delay ≡ Some d
      → (side_after store now s m).history.queued ≡ s.history.queued
  unfolding side_after
  delayed_queues_none d does asks is = grind (arith, request_received s m asks, pending_is)

  -- A message that asks for no answer queues no response.
  abbrev Others : Connection → Type 0
  Others t =
      (more : List Message) × (t.history.queued ≡ s.history.queued ++ more)
      × AllByRecursion (λ n. is_response n ≡ false) more

  pub other_queues_none : s.history.role ≡ Server → asks_answer s m ≡ false
      → Others (side_after store now s m)
  unfolding side_after
  other_queues_none server other =
      cond_both (handles s) _ s Others
      (λ does. grind (arith, message_queues s.history m server, handles_parts s does))
      (λ off. ([], sym (append-nil s.history.queued), tt))

-- ---- an observer

-- The response fits if and only if it is sent whole.
whole_fits : (limit : ℕ) (m less : Message) → is_whole (fit limit m less) ≡ fits limit m
whole_fits limit m less = grind arith

-- The observer of a response that fits is appended.
entered : (h : History) (os : List Observer) (entry : Observer) (response : Message) → is_open h.phase ≡ true
    → fits (limit_now h) response ≡ true → ((responded h os entry true response).observers ≡ os ++ entry ∷ [])
    × ((responded h os entry true response).history.queued ≡ h.queued ++ response ∷ [])
entered h os entry response opened small = grind (arith, open_answers h.phase opened)

-- ---- the observers after a request

module _ (store : StoreValue) (now : ℕ) (s : Connection) (m : Message) (does : handles s ≡ true)
    (asks : asks_answer s m ≡ true) where
  abbrev others : List Observer
  others = without_token m.token s.observers

  abbrev k : History
  k = after s.history (call.Handle m)

  abbrev answer : Answer
  answer = prompt_answer store now m

  is : IsReceived s.history k
  is = request_received s m asks

  -- The response has Observe if the request is a registration and there is a place.
  abbrev observes : Bool
  observes = has_place k.limits.observers others answer.watch

  observes_may : observes ≡ may_register store now s m
  observes_may = grind (arith, is.limits, watch_registers store now m, registers_watch store now m)

  answered_at_once : delay_for k (delay_of store now m) ≡ None
      → side_after store now s m ≡ side_answered store now k others m answer
  unfolding side_after
  answered_at_once none = rw (does, asks, none) refl

  -- A registration is not delayed.
  added_at_once : may_register store now s m ≡ true → delay_for k (delay_of store now m) ≡ None
  added_at_once may =
      ap (delay_for k) (registers_at_once store now m (registers_watch store now m (and_parts _ _ may).0))

  pub registration_added : may_register store now s m ≡ true → registration_fits store now s m ≡ true
      → ((side_after store now s m).observers ≡ others ++ entry_for store now m ∷ [])
      × ((side_after store now s m).history.queued ≡ s.history.queued ++ registered_response store now m ∷ [])
  registration_added may small =
      let small_now : fits (limit_now k) (registered_response store now m) ≡ true =
      ap (λ (n : ℕ). fits n (registered_response store now m)) is.limit ∙ small in
      let added = entered k others (entry_for store now m) (registered_response store now m) is.opened small_now in
      rw (answered_at_once (added_at_once may), observes_may ∙ may)
      (added.0, added.1 ∙ ap (λ ms. ms ++ registered_response store now m ∷ []) is.queued)

  -- No entry is appended unless the response with Observe is sent whole.
  not_entered : (b : Bool) → b ≡ may_register store now s m
      → (may_register store now s m && registration_fits store now s m) ≡ false
      → let response = response_with_observe m.token b answer.response in
      (b && is_whole (fit (limit_now k) response (bare_response response))) ≡ false
  not_entered true e none =
      whole_fits (limit_now k) (registered_response store now m) _
      ∙ (ap (λ (n : ℕ). fits n (registered_response store now m)) is.limit ∙ grind arith)
  not_entered false e none = refl

  pub none_added : (may_register store now s m && registration_fits store now s m) ≡ false
      → (side_after store now s m).observers ≡ kept_open (side_after store now s m).history others
  unfolding side_after
  none_added none = grind (arith, replied_cases, not_entered, observes_may)

  pub regular_response : may_register store now s m ≡ false → delay_for k (delay_of store now m) ≡ None
      → QueuesResponse m.token false answer.response s (side_after store now s m)
  regular_response none at_once =
      grind (
        arith,
        is.limits,
        observes_may,
        answered_at_once at_once,
        answered_queues store now s m answer others asks,
      )
