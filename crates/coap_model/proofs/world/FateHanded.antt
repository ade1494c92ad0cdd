-- The requests that an event hands to the application.
use Rattle.std.proofs.lemmas.Grind.{common_steps}
use Rattle.std.proofs.Common.{Bool, Err, List, None, Ok, Option, Result, Some, [], ap, arith, cond, drop, false, inl}
use Rattle.std.proofs.Common.{inr, length, refl, rules, subst, sym, true, ℕ, ◌&&◌, ◌++◌, ◌∙◌, ◌∷◌, ◌≡◌, ◌≢◌}
use Rattle.std.proofs.lemmas.Bool.{both_ways, cases_Bool, cases_eq, cond_both, eq-eqb}
use Rattle.std.proofs.lemmas.List.{append-nil, nil_from_length}
use Rattle.std.proofs.Math.Seq.{drop-append_seam}
use Rattle.std.specs.List.{flat_map}
use Rattle.coap_model.specs.Prelude.{AFault, AFrame, AcceptedCall, AllByRecursion, Application, ApplicationRequest}
use Rattle.coap_model.specs.Prelude.{AreAccepted, ConfigValues, Connection, Delay, Engine, Fate, FormatFault}
use Rattle.coap_model.specs.Prelude.{FrameEventValue, History, IsAccepted, LimitValues, Message, Step, StoreValue}
use Rattle.coap_model.specs.Prelude.{StreamFault, Took, World, after_steps, answer_of, asks_answer, delay_by, delay_for}
use Rattle.coap_model.specs.Prelude.{delay_or, frame_then, handed_between, handed_in, handed_requests, handles}
use Rattle.coap_model.specs.Prelude.{is_asking, is_by_application, may_hold, message_of, new_request, requests_acted}
use Rattle.coap_model.specs.Prelude.{requests_after, requests_by, requests_on, requests_responded, requests_then}
use Rattle.coap_model.specs.Prelude.{settled, side_after, side_faulted, side_of, size_on, steps_by, stream_on, takes}
use Rattle.coap_model.specs.Prelude.{with_fate, world_after}
use Rattle.coap_model.specs.world.Events.{front_of}
use Rattle.coap_frame.specs.Framing.{Nothing}
use Rattle.coap_frame.proofs.FrontLaws.{added_by}
use Rattle.coap_model.specs.world.Events as event
use Rattle.coap_model.specs.world.World as world
use Rattle.coap_model.proofs.OptionLemmas.{same_there}
use Rattle.coap_model.proofs.world.SideLaws.{handles_parts}
use Rattle.coap_model.proofs.world.AcrossLaws.{faulted_there, handled_there}
use Rattle.coap_model.proofs.world.StepLaws.{each_beyond, world_more, world_same, world_step}
use Rattle.coap_model.proofs.world.TookLaws.{Adds, adds_frame, no_bytes_steps}
use Rattle.coap_model.proofs.world.ReachedLaws.{IsReached, accepted_is, handling_goes_on, number_given, on_one}
use Rattle.coap_model.proofs.world.ReachedLaws.{takes_there}
use Rattle.coap_model.proofs.world.BecameLaws.{HandlesNone, IsElsewhere, rests_of, settled_handles_none, side_rejects}
use Rattle.coap_model.proofs.world.CustodyLaws.{HasReceived, handled_hears}
use Rattle.coap_model.proofs.world.AnsweredRequests.{answered_is_request}
use Rattle.coap_model.proofs.world.FateKept.{after_message}
use Rattle.coap_model.proofs.world.AnswerCounts.{one, requests}
use Rattle.coap_model.proofs.world.FateWalk.{acted_cases, before_steps, requests_last, steps_stay, then_stays}

-- ---- lists of requests

one_handed : (r : ApplicationRequest) (rs : List ApplicationRequest)
    → handed_requests (r ∷ rs) ≡ cond r.handed (r.request ∷ handed_requests rs) (handed_requests rs)
one_handed r rs = search rules

handed_more : (rs qs : List ApplicationRequest) → handed_requests (rs ++ qs) ≡ handed_requests rs ++ handed_requests qs
handed_more rs qs = grind (arith, common_steps)

-- Another fate changes none of them.
fate_hands : (test : ApplicationRequest → Bool) (fate : Fate) (rs : List ApplicationRequest)
    → handed_requests (with_fate test fate rs) ≡ handed_requests rs
unfolding with_fate
fate_hands test fate [] = refl
fate_hands test fate (r ∷ rs) = search (rules, cond_both, one_handed, fate_hands test fate rs)

then_hands : (id : ℕ) (w : World) (rs : List ApplicationRequest)
    → handed_requests (requests_then id w rs) ≡ handed_requests rs
then_hands id w rs =
    then_stays (λ now qs. handed_requests qs ≡ handed_requests rs)
    (λ now s token moment qs is same. fate_hands _ _ qs ∙ same) id w rs refl

-- ---- a message

module _ (store : StoreValue) (now : ℕ) (s : Connection) (m : Message) where
  abbrev h : History
  h = after_message s m

  -- The message, if these conditions hold.
  abbrev only_if : Bool → Bool → List Message
  only_if asks may = cond (asks && may) (m ∷ []) []

  only_none : (asks : Bool) → only_if asks false ≡ []
  only_none true = refl
  only_none false = refl

  engine_not : (hold : Option ℕ) → is_by_application (delay_for h (delay_by Engine hold)) ≡ false
  engine_not None = refl
  engine_not (Some seconds) = elim (cases_Bool (may_hold h)) [ inl may ↦ rw may refl | inr full ↦ rw full refl ]

  application_may : (d : Delay) → d.by ≡ Application → is_by_application (delay_for h (Some d)) ≡ may_hold h
  application_may d by = search rules

  new_hands : (o : Option ℕ) → handed_requests (new_request now s m o)
      ≡ only_if (asks_answer s m) (is_by_application (delay_for h (delay_or o (answer_of store now m).hold)))
  new_hands None = search (rules, engine_not, only_none)
  new_hands (Some seconds) = search (rules, one_handed, application_may)

  -- A message that is no request is not handed over.
  other_hands : is_asking m ≡ false → handed_in store now s m ≡ []
  other_hands other = search (rules, cases_Bool, both_ways, answered_is_request)

  after_hands : (rs : List ApplicationRequest) → handles s ≡ true
      → handed_requests (requests_after store now s m rs) ≡ handed_requests rs ++ handed_in store now s m
  unfolding requests_after
  after_hands rs does = search (rules, cond_both, handed_more, new_hands, other_hands, append-nil)

-- ---- steps that hand over nothing

-- The step does not open the connection, and is no message or error on it.
abbrev IsOther : ℕ → Step → Type 0
IsOther id (world.Opened other) = other ≢ id
IsOther id (world.Handled other m) = other ≢ id
IsOther id (world.Faulted other fault) = other ≢ id
IsOther id other = Unit {0}

elsewhere : (id : ℕ) (st : Step) → IsOther id st → IsElsewhere st id
elsewhere id (world.Handled other m) apart = apart
elsewhere id (world.Faulted other fault) apart = apart
elsewhere id other apart = tt

-- The connection existed before such steps, and handled no message.
others_before : (limits : LimitValues) (id : ℕ) (w : World) (ss : List Step) (t : Connection)
    → AllByRecursion (IsOther id) ss → side_of id (after_steps limits w ss).sides ≡ Some t
    → (s : Connection) × (side_of id w.sides ≡ Some s) × (t.history.handled ≡ s.history.handled)
others_before limits id =
    before_steps HandlesNone (λ h k. k.handled ≡ h.handled) (λ h. refl) (λ h k g one two. two ∙ one.handled)
    limits id (IsOther id) (λ apart. apart refl) (λ w st other. rests_of w st id (elsewhere id st other))

responded_hands : (s : Connection) (m : Message) (rs : List ApplicationRequest)
    → handed_requests (requests_responded s m rs) ≡ handed_requests rs
unfolding requests_responded
responded_hands s m rs = search (rules, cond_both, fate_hands)

others_same : (limits : LimitValues) (id : ℕ) (w : World) (ss : List Step) (rs : List ApplicationRequest)
    → AllByRecursion (IsOther id) ss → handed_requests (requests_by limits id w ss rs) ≡ handed_requests rs
others_same limits id w ss rs apart =
    steps_stay (λ now qs. handed_requests qs ≡ handed_requests rs)
    (λ now s token moment qs is same. fate_hands _ _ qs ∙ same) limits id (IsOther id) (λ v st qs other same.
    acted_cases (λ ps. handed_requests ps ≡ handed_requests rs) id v st qs same
    (λ is. absurd ((subst (IsOther id) is other) refl)) (λ m s is there. absurd ((subst (IsOther id) is other) refl))
    (λ m s is there. responded_hands s m qs ∙ same)) w ss rs apart refl

-- ---- an event

module _ (c : ConfigValues) (es : List AcceptedCall) (id : ℕ) (e : AcceptedCall) (s t : Connection)
    (reached : IsReached c es) (there : side_of id (world_after c es).sides ≡ Some s)
    (then : side_of id (world_after c (es ++ e ∷ [])).sides ≡ Some t) where
  abbrev w : World
  w = world_after c es

  abbrev rs : List ApplicationRequest
  rs = requests_on c id es

  abbrev M : ℕ
  M = c.limits.max_message

  abbrev HandsThose : Type 0
  HandsThose = handed_requests (requests_on c id (es ++ e ∷ [])) ≡ handed_requests rs ++ handed_between w s t

  -- No message was handled.
  quiet_hands : t.history.handled ≡ s.history.handled
      → handed_requests (requests_on c id (es ++ e ∷ [])) ≡ handed_requests rs → HandsThose
  quiet_hands same requests = grind (arith, common_steps)

  no_step : steps_by M es e ≡ [] → HandsThose
  unfolding requests_by
  no_step none = search (rules, same_there, world_same, quiet_hands, requests_last)

  -- The requests after one step.
  one_step : (st : Step) → steps_by M es e ≡ st ∷ []
      → handed_requests (requests_on c id (es ++ e ∷ [])) ≡ handed_requests (requests_acted id w st rs)
  unfolding requests_by
  one_step st one = search (rules, requests_last, then_hands)

  fault_hands : (fault : StreamFault) → handles s ≡ true → steps_by M es e ≡ world.Faulted id fault ∷ [] → HandsThose
  unfolding requests_acted
  fault_hands fault does one =
      let made : Connection = settled w.store w.now (side_faulted s fault) in
      let same : made ≡ t =
      same_there made t (sym (ap (λ (v : World). side_of id v.sides) (world_step c es e (world.Faulted id fault) one)
      ∙ faulted_there c.limits w id fault s there) ∙ then) in
      quiet_hands
      (grind (arith, settled_handles_none, side_rejects))
      (one_step (world.Faulted id fault) one)

  message_hands : (m : Message) → handles s ≡ true → steps_by M es e ≡ world.Handled id m ∷ [] → HandsThose
  unfolding requests_acted side_after
  message_hands m does one =
      let after = handled_there c.limits w id m s there in
      let made : Connection = settled after.0 w.now (side_after w.store w.now s m) in
      let same : made ≡ t = grind (arith, same_there, world_step, one) in
      let received : HasReceived w.store.applications m s.history (side_after w.store w.now s m).history =
      rw does (handled_hears w.store w.now s m) in
      let handled : t.history.handled ≡ s.history.handled ++ m ∷ [] =
      grind (arith, settled_handles_none, handles_parts) in
      let since : drop (length s.history.handled) t.history.handled ≡ m ∷ [] = grind (arith, drop-append_seam) in
      let requests : requests_acted id w (world.Handled id m) rs ≡ requests_after w.store w.now s m rs =
      grind (arith, eq-eqb) in
      one_step (world.Handled id m) one ∙ ap handed_requests requests ∙ after_hands w.store w.now s m rs does
      ∙ ap (λ ms. handed_requests rs ++ ms) (sym (append-nil (handed_in w.store w.now s m)))
      ∙ ap (λ ms. handed_requests rs ++ flat_map (handed_in w.store w.now s) ms) (sym since)

  -- The steps are no messages on the connection, and do not open it.
  others_hand : AllByRecursion (IsOther id) (steps_by M es e) → HandsThose
  others_hand apart = search (rules, others_before, world_more, quiet_hands, same_there, requests_last, others_same)

-- ---- a take

module _ (c : ConfigValues) (es : List AcceptedCall) (id : ℕ) (bytes : List ℕ) (s t : Connection)
    (reached : IsReached c es) (there : side_of id (world_after c es).sides ≡ Some s)
    (then : side_of id (world_after c (es ++ Took id bytes ∷ [])).sides ≡ Some t) where
  abbrev size : ℕ
  size = c.limits.max_message

  abbrev Hands : Type 0
  Hands = HandsThose c es id (Took id bytes) s t reached there then

  frame_hands : (frame : List ℕ) (read : Result Message FormatFault) → handles s ≡ true
      → Adds size id es bytes (frame_then frame read (record { messages = []; rest = []; fault = None })) → Hands
  frame_hands frame (Ok m) does adds = message_hands c es id (Took id bytes) s t reached there then m does adds.steps
  frame_hands frame (Err f) does adds = fault_hands c es id (Took id bytes) s t reached there then _ does adds.steps

  found_hands : (found : FrameEventValue) → handles s ≡ true
      → Adds size id es bytes (added_by (stream_on size id es).rest bytes found) → Hands
  found_hands Nothing does adds = no_step c es id (Took id bytes) s t reached there then adds.steps
  found_hands (AFrame frame) does adds = frame_hands frame (message_of frame) does adds
  found_hands (AFault fault) does adds = fault_hands c es id (Took id bytes) s t reached there then _ does adds.steps

  took_hands : takes c es id bytes ≡ length bytes → Hands
  took_hands all =
      let taken : cond (handles s) (front_of (size_on size id es) (stream_on size id es).rest bytes) 0 ≡ length bytes =
      rw (takes_there c es id bytes s there) at all in
      elim (cases_Bool (handles s)) [
        | inl does ↦
            found_hands _ does
            (adds_frame size id es bytes (handling_goes_on c es id s reached there does) (rw does at taken))
        | inr stopped ↦ (grind (arith, nil_from_length, no_step, no_bytes_steps))
      ]

-- ---- any event

-- The event neither opens the connection nor accepts bytes on it.
abbrev IsOtherEvent : ℕ → AcceptedCall → Type 0
IsOtherEvent id (event.Opened other) = other ≢ id
IsOtherEvent id (event.Took other bytes) = other ≢ id
IsOtherEvent id other = Unit {0}

other_steps : (id M : ℕ) (es : List AcceptedCall) (e : AcceptedCall) → IsOtherEvent id e
    → AllByRecursion (IsOther id) (steps_by M es e)
unfolding steps_by
other_steps id M es (event.Opened other) apart = (apart, tt)
other_steps id M es (event.Took other bytes) apart = search (rules, each_beyond)
other_steps id M es e apart = (tt, tt)

module _ (c : ConfigValues) (es : List AcceptedCall) (id : ℕ) (s : Connection) (accepted : AreAccepted c es)
    (there : side_of id (world_after c es).sides ≡ Some s) where
  reached_before : IsReached c es
  reached_before = accepted_is c es accepted

  abbrev After : AcceptedCall → Type 0
  After e =
      (t : Connection) → side_of id (world_after c (es ++ e ∷ [])).sides ≡ Some t
      → handed_requests (requests_on c id (es ++ e ∷ []))
      ≡ handed_requests (requests_on c id es) ++ handed_between (world_after c es) s t

  others : (e : AcceptedCall) → IsOtherEvent id e → After e
  others e apart t then = search (rules, others_hand, reached_before, other_steps)

  -- The requests handed to the application after an accepted event: those before it, and those that it hands over.
  pub event_hands : (e : AcceptedCall) → IsAccepted c es e → After e
  unfolding IsAccepted
  event_hands (event.Opened other) own = elim (cases_eq other id) [
    | inl here ↦
        absurd
        (omega (arith, own.0, here, (number_given c (world_after c es) id s reached_before.numbered there).within))
    | inr apart ↦ others (event.Opened other) apart
  ]
  event_hands (event.Took other bytes) own = elim (cases_eq other id) [
    | inl here ↦ subst (λ (n : ℕ). IsAccepted c es (event.Took n bytes) → After (event.Took n bytes)) (sym here)
        (λ its t then. took_hands c es id bytes s t reached_before there
        then (on_one (λ u. takes c es id bytes ≡ length bytes) (side_of id (world_after c es).sides) its).2) own
    | inr apart ↦ others (event.Took other bytes) apart
  ]
  event_hands e own = others e tt
