-- A connection has processed each message of its accepted bytes once and in order, and the error after them is the
-- reason of its stop.
use Rattle.std.proofs.Common.{◌≡◌, ℕ, ◌+◌, Bool, List, [], ◌∷◌, ◌++◌, length, take, Option, Some, None, Result, Ok, Err}
use Rattle.std.proofs.Common.{refl, sym, subst, ◌∙◌, ◌⊎◌, inl, inr, arith, option_map, IfOk, ◌≢◌, ap, true, false, ◌&&◌}
use Rattle.std.proofs.Common.{is_none, slice_get, option_and_then, if◌then◌else◌}
use Rattle.std.proofs.lemmas.Bool.{lt-ltb, le-ltb, cases_eq, cases_Bool}
use Rattle.std.proofs.lemmas.List.{append-nil, length-append, take_all}
use Rattle.coap_server_engine.specs.Prelude.{Stream, Reason, stop_of, after, ConfigValues, ServerState, Taken}
use Rattle.coap_server_engine.specs.Prelude.{TakeFault, SessionValue, taking, ServerValue, session_of, count_taken}
use Rattle.coap_server_engine.specs.Prelude.{server_taken, stop_on, handled_so, handled_on, handled_by, Connection}
use Rattle.coap_server_engine.specs.Prelude.{handles, new_side, Step, side_of, AcceptedCall, Took, stream_on, beyond}
use Rattle.coap_server_engine.specs.Prelude.{steps_by, world_after, takes, IfSide, IsAccepted, AreAccepted, taken_in}
use Rattle.coap_server_engine.specs.Prelude.{session_shown, Shows, handled_between, handled_in, count_of, TakeOutcome}
use Rattle.coap_server_engine.specs.Prelude.{server_taken_on, Message, message_of, World, handed, handed_read}
use Rattle.coap_server_engine.specs.Prelude.{handed_on, handed_frame, frame_message, is_handed, is_handed_over}
use Rattle.coap_server_engine.specs.Prelude.{request_in, request_to, message_between, takes_messages}
use Rattle.coap_model.proofs.world.StepLaws.{world_same, world_step, by_events, stream_same, stream_elsewhere}
use Rattle.coap_model.proofs.world.StepLaws.{taken_elsewhere}
use Rattle.coap_model.proofs.world.TookLaws.{no_bytes_stream, no_bytes_steps}
use Rattle.coap_model.proofs.world.ReachedLaws.{accepted_is, handling_goes_on, takes_there, piece_accepted, IsReached}
use Rattle.coap_model.proofs.world.ReachedLaws.{OpensNext, on_one}
use Rattle.coap_server_engine.proofs.world.ShowLaws.{sessions_shown, side_there, no_session, takes_shown, shows_taken}
use Rattle.coap_server_engine.proofs.world.ShowLaws.{Accepts, accepts, session_after, NoByte, NoFrame, Completes, Fails}
use Rattle.coap_server_engine.proofs.world.ShowLaws.{shared_shown, history_there}
use Rattle.coap_model.proofs.world.WalkLaws.{Between}
use Rattle.coap_model.proofs.world.AcrossLaws.{HoldsFrom, step_across}
use Rattle.coap_model.proofs.OptionLemmas.{same_there}
use Rattle.coap_model.specs.world.Events as event
use Rattle.coap_model.proofs.world.BecameLaws.{NoStep, OneMessage, OneFault, became, HandlesNone, no_message_reason}
use Rattle.coap_model.proofs.world.BecameLaws.{TakesSo, Became, IsElsewhere, rests_of, Agrees, rests_agrees}
use Rattle.coap_model.proofs.world.BecameLaws.{silent_agrees, became_agrees, AgreesOn, first_agrees, Stayed, Reacted}
use Rattle.coap_model.proofs.world.BecameLaws.{Rejected}
use Rattle.coap_conn.specs.Calls as call
use Rattle.coap_conn.specs.History.{link_of, IsHistory, after}
use Rattle.coap_conn.proofs.LinkLemmas.{after_link}
use Rattle.coap_model.specs.world.Connections.{asks_answer, delay_for, delay_of, Delay}
use Rattle.coap_server_session.specs.values.Sessions.{delay_in}
use Rattle.coap_server_session.proofs.world.SideShown.{shared_of}
use Rattle.std.proofs.lemmas.Option.{slice_get_past}
use Rattle.std.specs.Option.{option_to_list}
use Rattle.std.proofs.Math.Seq.{drop-length, drop-append_seam}
use Rattle.coap_conn.specs.declared.pending.Responder.{Responder}
use Rattle.coap_conn.specs.declared.pending.Responder.TheVariants.{Engine, Application}
use Rattle.coap_server_session.specs.values.HandedRequests.{is_application}
use Rattle.coap_model.specs.world.Fates.{requests_on, handed_requests, handed_in, handed_between, is_by_application}
use Rattle.coap_model.specs.world.Fates.{is_responder}
use Rattle.coap_model.proofs.world.FateHanded.{event_hands}

module _ (c : ConfigValues) (es : List AcceptedCall) (id : ℕ) (piece : List ℕ) (s : Connection) (is : IsReached c es)
    (there : side_of id (world_after c es).sides ≡ Some s) where
  -- The accepted bytes of the slice.
  abbrev pub bytes_taken : List ℕ
  bytes_taken = take (takes c es id piece) piece

  takes_so : (shared : ServerState) (k : TakeOutcome) (lent : Option (List ℕ))
      → Accepts c.limits.max_message id es piece s shared k lent
      → TakesSo c.limits.max_message id es bytes_taken s k.handled
  takes_so shared k lent (NoByte stopped) =
      rw (takes_there c es id piece s there, stopped) (NoStep refl (no_bytes_steps c.limits.max_message id es)
      (rw (no_bytes_stream c.limits.max_message id es)) (rw (no_bytes_stream c.limits.max_message id es)))
  takes_so shared k lent (NoFrame does e adds) =
      rw (takes_there c es id piece s there, does) (NoStep refl adds.steps (rw (adds.stream, append-nil))
      (rw adds.stream (sym (handling_goes_on c es id s is there does))))
  takes_so shared k lent (Completes does frame m reads adds) =
      rw (takes_there c es id piece s there, does) (OneMessage refl does m adds)
  takes_so shared k lent (Fails does fault rest adds) =
      rw (takes_there c es id piece s there, does) (OneFault refl does fault rest adds)

  -- The accepted bytes of any slice.
  pub took_so : (shared : ServerState) → TakesSo c.limits.max_message id es bytes_taken s
      (taking shared (session_after c.limits.max_message id es s) piece).handled
  took_so shared = takes_so shared _ _ (accepts c es id piece s is there shared)

-- The same for all bytes of an accepted take.
accepted_so : (c : ConfigValues) (es : List AcceptedCall) (id : ℕ) (bytes : List ℕ) (s : Connection) → IsReached c es
    → side_of id (world_after c es).sides ≡ Some s → takes c es id bytes ≡ length bytes
    → (message : Bool) × TakesSo c.limits.max_message id es bytes s message
accepted_so c es id bytes s is there all =
    let shared : ServerState = record { store = (world_after c es).store; now = (world_after c es).now } in
    (_, rw (take_all (takes c es id bytes) bytes (omega arith)) at (took_so c es id bytes s is there shared))

pub took_became : (c : ConfigValues) (es : List AcceptedCall) (id : ℕ) (bytes : List ℕ) (s t : Connection)
    → IsReached c es → takes c es id bytes ≡ length bytes → side_of id (world_after c es).sides ≡ Some s
    → side_of id (world_after c (es ++ Took id bytes ∷ [])).sides ≡ Some t
    → (message : Bool) × Became (stream_on c.limits.max_message id es)
    (stream_on c.limits.max_message id (es ++ Took id bytes ∷ [])) s t message
took_became c es id bytes s t is all there next =
    let so = accepted_so c es id bytes s is there all in
    let after = became c es id bytes s so.0 there so.1 in
    (so.0, rw (same_there after.0 t (sym after.1 ∙ next)) at after.2)

-- ---- the result that a take reports

reports_what_became : (before after : Stream) (s t : Connection) (message : Bool) → Became before after s t message
    → handled_so (handles s) message (stop_of t.history.phase) ≡ handled_between (Some s) (Some t)
reports_what_became before after s t message became = grind (arith, le-ltb, lt-ltb, length-append)

-- ---- the clause of a take

-- The reason for which a connection no longer accepts messages, if it exists.
abbrev pub side_stop : Option Connection → Option Reason
side_stop None = None
side_stop (Some t) = stop_of t.history.phase

module _ (v : ServerValue) (es : List AcceptedCall) (id : ℕ) (piece : List ℕ) (shows : Shows v es) where
  abbrev pub event_then : AcceptedCall
  event_then = Took id (take (count_taken v id piece) piece)

  abbrev pub stop_then : Option Reason
  stop_then = stop_on (session_of id (server_taken v id piece).sessions)

  -- This reason is the same in the server and in the model.
  pub stop_shown : (s : SessionValue) → session_of id v.sessions ≡ Some s
      → stop_then ≡ side_stop (side_of id (world_after v.config (es ++ event_then ∷ [])).sides)
  unfolding server_taken
  stop_shown s e =
      let after : ServerValue = server_taken v id piece in
      let fs : List AcceptedCall = es ++ event_then ∷ [] in
      let rest : List ℕ = (stream_on after.config.limits.max_message id fs).rest in
      ap stop_on (sessions_shown after fs id (shows_taken v es id piece s shows e))
      ∙ elim (side_of id (world_after after.config fs).sides)
      as (λ there. stop_on (option_map (session_shown rest) there) ≡ side_stop there) [ None ↦ refl | Some t ↦ refl ]
      ∙ ap (λ (k : ConfigValues). side_stop (side_of id (world_after k fs).sides))
      (ap (λ (o : Option SessionValue). (server_taken_on v id piece o).config) e)

  reports_handled : (there : Option Connection) → side_of id (world_after v.config es).sides ≡ there
      → handled_on v piece (session_of id v.sessions) stop_then ≡ handled_in v.config es event_then id
  reports_handled None none = rw (no_session v es id shows none, none)
  reports_handled (Some s) there =
      let at = side_there v es id s shows there in
      let so = took_so v.config es id piece s (accepted_is v.config es shows.accepted) there v.shared in
      let after = became v.config es id _ s _ there (rw (← takes_shown v es id piece shows) at so) in
      rw (at, stop_shown _ at, after.1, there) (reports_what_became _ _ s after.0 _ after.2)

pub take_says : (r : Result Taken TakeFault) (v : ServerValue) (id : ℕ) (piece : List ℕ)
    → IfOk r (λ t. t.bytes ≡ count_taken v id piece) → IfOk r (λ t. t.handled ≡ handled_by v id piece) → IfOk r
    (λ t. (es : List AcceptedCall) → Shows v es → t.handled ≡ handled_in v.config es (Took id (take t.bytes piece)) id)
unfolding handled_by
take_says (Ok t) v id piece count says = λ es shows. rw (says, count) (reports_handled v es id piece shows _ refl)
take_says (Err e) v id piece count says = tt

-- ---- the number of processed messages

counted : (before after : Stream) (s t : Connection) (message : Bool) → Became before after s t message
    → length t.history.handled ≡ length s.history.handled + count_of (handled_between (Some s) (Some t))
counted before after s t message became = grind (arith, le-ltb, lt-ltb, length-append, no_message_reason)

-- A take has processed as many messages as its result counts.
pub messages_counted : (c : ConfigValues) (es : List AcceptedCall) (id : ℕ) (piece : List ℕ) (s t : Connection)
    → AreAccepted c es → side_of id (world_after c es).sides ≡ Some s
    → side_of id (world_after c (es ++ Took id (take (takes c es id piece) piece) ∷ [])).sides ≡ Some t
    → length t.history.handled
    ≡ length s.history.handled + count_of (handled_in c es (Took id (take (takes c es id piece) piece)) id)
unfolding IsAccepted
messages_counted c es id piece s t accepted there next =
    let is = accepted_is c es accepted in
    let bytes = take _ piece in
    let all = rw there at (piece_accepted c es id piece s is there) in
    let after = took_became c es id bytes s t is all there next in
    rw (there, next) (counted _ _ s t after.0 after.1)

-- A take makes at most one step, since its bytes complete at most one message or error.
pub one_step_at_most : (c : ConfigValues) (es : List AcceptedCall) (id : ℕ) (piece : List ℕ) (s : Connection)
    → IsReached c es → side_of id (world_after c es).sides ≡ Some s → (beyond id (stream_on c.limits.max_message id es)
    (stream_on c.limits.max_message id (es ++ Took id (take (takes c es id piece) piece) ∷ [])) ≡ [])
    ⊎ ((st : Step) × (beyond id (stream_on c.limits.max_message id es)
    (stream_on c.limits.max_message id (es ++ Took id (take (takes c es id piece) piece) ∷ [])) ≡ st ∷ []))
unfolding steps_by
one_step_at_most c es id piece s is there =
    let so =
    took_so c es id piece s is there (record { store = (world_after c es).store; now = (world_after c es).now }) in
    grind arith

module _ (c : ConfigValues) (es : List AcceptedCall) (id : ℕ) (is : IsReached c es) (before : AgreesOn c es id) where
  -- The connection, or a new one, after a step that is none of its messages or errors.
  from_agrees : (st : Step) (t : Connection) → OpensNext c (world_after c es) st
      → HoldsFrom (Between HandlesNone) c.limits (world_after c es) st id t
      → Agrees (stream_on c.limits.max_message id es) t
  from_agrees st t next (inl old) =
      rests_agrees _ old.0 t (before old.0 old.1) old.2
  from_agrees st t next (inr new) =
      let opened = subst (OpensNext c (world_after c es)) new.1 next in
      rests_agrees _ (new_side c.limits) t
      (silent_agrees c.limits _ id es (is.silent id (omega (arith, opened.0)))) new.2

  -- An event that makes one step and accepts no byte on the connection.
  step_agrees : (e : AcceptedCall) (st : Step) → steps_by c.limits.max_message es e ≡ st ∷ []
      → OpensNext c (world_after c es) st → IsElsewhere st id → taken_in id e ≡ [] → AgreesOn c (es ++ e ∷ []) id
  step_agrees e st one next away none t there =
      rw (stream_same _ id es e none)
      (from_agrees st t next (step_across (Between HandlesNone) c.limits _ st id
      (rests_of (world_after c es) st id away) t (rw (world_step c es e st one) at there)))

  other_agrees : (other : ℕ) (bytes : List ℕ) (s : Connection) (message : Bool) → other ≢ id
      → TakesSo c.limits.max_message other es bytes s message → AgreesOn c (es ++ event.Took other bytes ∷ []) id
  other_agrees other bytes s message apart (NoStep e steps messages fault) t next =
      rw (stream_elsewhere c.limits.max_message id other es bytes apart)
      (before t (rw (world_same c es (event.Took other bytes) steps) at next))
  other_agrees other bytes s message apart (OneMessage e does m adds) t next =
      step_agrees _ _ adds.steps tt apart (taken_elsewhere id other bytes apart) t next
  other_agrees other bytes s message apart (OneFault e does fault rest adds) t next =
      step_agrees _ _ adds.steps tt apart (taken_elsewhere id other bytes apart) t next

  took_agrees : (other : ℕ) (bytes : List ℕ) (there : Option Connection)
      → side_of other (world_after c es).sides ≡ there → IfSide there (λ s. takes c es other bytes ≡ length bytes)
      → AgreesOn c (es ++ event.Took other bytes ∷ []) id
  took_agrees other bytes None at all = absurd all
  took_agrees other bytes (Some s) at all = elim (cases_eq other id) [
    | inl here ↦ λ t next. (
        let own = rw here at at in
        let after = took_became c es id bytes s t is (rw here at all) own (rw here at next) in
        rw here (became_agrees _ _ s t after.0 after.1 (before s own))
        )
    | inr apart ↦ let so = accepted_so c es other bytes s is at all in other_agrees other bytes s so.0 apart so.1
  ]

  event_agrees : (e : AcceptedCall) → IsAccepted c es e → AgreesOn c (es ++ e ∷ []) id
  unfolding IsAccepted steps_by
  event_agrees (event.Opened n) all = step_agrees _ _ refl (all.0, all.2) tt refl
  event_agrees (event.Took other bytes) all = took_agrees other bytes _ refl all
  event_agrees e all = step_agrees e _ refl tt tt refl

pub handled_agrees : (c : ConfigValues) (es : List AcceptedCall) (id : ℕ) (s : Connection) → AreAccepted c es
    → side_of id (world_after c es).sides ≡ Some s → Agrees (stream_on c.limits.max_message id es) s
handled_agrees c es id s accepted there =
    by_events c (λ fs. AgreesOn c fs id) (first_agrees c id)
    (λ fs e all last before. event_agrees c fs id (accepted_is c fs all) before e last) es accepted s there

-- The request that a take hands to the application is the one that the model hands over.

-- ---- the message that was handled last

past_the_end : {A : Type 0} (xs : List A) → slice_get xs (length xs) ≡ None
past_the_end xs = slice_get_past xs _ (omega arith)

at_the_end : {A : Type 0} (xs : List A) (x : A) → slice_get (xs ++ x ∷ []) (length xs) ≡ Some x
at_the_end [] x = refl
at_the_end (y ∷ xs) x = at_the_end xs x

pub none_between : (s t : Connection) → t.history.handled ≡ s.history.handled → message_between s t ≡ None
none_between s t same = rw same (past_the_end s.history.handled)

pub one_between : (s t : Connection) (m : Message) → t.history.handled ≡ s.history.handled ++ m ∷ []
    → message_between s t ≡ Some m
one_between s t m one = rw one (at_the_end s.history.handled m)

last_same : (ms : List Message) (m n : Message) → ms ++ m ∷ [] ≡ ms ++ n ∷ [] → m ≡ n
last_same ms m n same = cc (at_the_end ms m, at_the_end ms n, ap (λ all. slice_get all (length ms)) same)

-- A take that handled no message.
quiet_became : (before after : Stream) (s t : Connection) (message : Bool) → message ≡ false
    → Became before after s t message → message_between s t ≡ None
quiet_became before after s t message quiet (Stayed e same messages fault) = none_between s t (rw same)
quiet_became before after s t message quiet (Reacted e does m one stops messages fault) = absurd cc
quiet_became before after s t message quiet (Rejected e does fault rejects messages is) =
    none_between s t rejects.handled

-- A take that handled this message.
received_became : (before after : Stream) (s t : Connection) (message : Bool) (m : Message) → message ≡ true
    → after.messages ≡ before.messages ++ m ∷ [] → Became before after s t message → message_between s t ≡ Some m
received_became before after s t message m received adds (Stayed e same messages fault) = absurd cc
received_became before after s t message m received adds (Reacted e does n one stops messages fault) =
    rw (← last_same before.messages n m (sym messages ∙ adds)) (one_between s t n one)
received_became before after s t message m received adds (Rejected e does fault rejects messages is) = absurd cc

-- ---- the request

-- The model hands over the same requests.
same_request : (w : World) (rest : List ℕ) (s : Connection) (m : Message) → IsHistory s.history
    → is_handed_over (shared_of w.store w.now) (session_shown rest s).link m
    ≡ (asks_answer s m && is_handed (delay_for (after s.history (call.Handle m)) (delay_of w.store w.now m)))
same_request w rest s m history =
    rw (← after_link s.history (call.Handle m) tt history)
    (elim (delay_of w.store w.now m) as (λ d. (asks_answer s m && is_handed
    (delay_in (link_of (after s.history (call.Handle m))) d))
    ≡ (asks_answer s m && is_handed (delay_for (after s.history (call.Handle m)) d))) [ None ↦ refl | Some d ↦ refl ])

read_request : (shared : ServerState) (v : SessionValue) (frame : List ℕ) (m : Message) → message_of frame ≡ Ok m
    → option_and_then frame_message (handed_read shared v frame (Ok m))
    ≡ (if is_handed_over shared v.link m then Some m else None)
read_request shared v frame m reads = grind (arith, reads)

module _ (c : ConfigValues) (es : List AcceptedCall) (id : ℕ) (piece : List ℕ) (s : Connection) (is : IsReached c es)
    (there : side_of id (world_after c es).sides ≡ Some s) (history : IsHistory s.history) where
  abbrev w : World
  w = world_after c es

  abbrev shared : ServerState
  shared = shared_of w.store w.now

  abbrev bytes : List ℕ
  bytes = bytes_taken c es id piece s is there

  abbrev before : Stream
  before = stream_on c.limits.max_message id es

  abbrev later : Stream
  later = stream_on c.limits.max_message id (es ++ Took id bytes ∷ [])

  abbrev shown : SessionValue
  shown = session_shown before.rest s

  -- The connection after the take.
  pub after_take : (t : Connection) × (side_of id (world_after c (es ++ Took id bytes ∷ [])).sides ≡ Some t)
      × Became before later s t (taking shared shown piece).handled
  after_take = became c es id bytes s _ there (took_so c es id piece s is there shared)

  abbrev Same : Option (List ℕ) → Type 0
  Same lent =
      option_and_then frame_message lent ≡ option_and_then (request_to w.store w.now s) (message_between s after_take.0)

  none_same : (message : Bool) → Became before later s after_take.0 message → message ≡ false → Same None
  none_same message after quiet = rw (quiet_became before later s after_take.0 message quiet after)

  same_by : (k : TakeOutcome) (lent : Option (List ℕ)) → Accepts c.limits.max_message id es piece s shared k lent
      → Became before later s after_take.0 k.handled → Same lent
  same_by k lent (NoByte stopped) after = none_same false after refl
  same_by k lent (NoFrame does e adds) after = none_same false after refl
  same_by k lent (Fails does fault rest adds) after = none_same false after refl
  same_by k lent (Completes does frame m reads adds) after =
      let added : later.messages ≡ before.messages ++ m ∷ [] =
      rw (takes_there c es id piece s there, does, adds.stream) in
      read_request shared shown frame m reads
      ∙ ap (λ b. if b then Some m else None) (same_request w before.rest s m history)
      ∙ rw (received_became before later s after_take.0 true m refl added after)

  pub request_same : Same (handed shared shown piece)
  request_same = same_by _ _ (accepts c es id piece s is there shared) after_take.2

-- ---- the clause of a take

module _ (v : ServerValue) (es : List AcceptedCall) (id : ℕ) (piece : List ℕ) (shows : Shows v es) where
  -- A connection that no longer accepts messages hands over none.
  by_stop : (w : World) (s t : Connection) (found : Option (List ℕ)) (sv : SessionValue)
      → handed v.shared sv piece ≡ found
      → option_and_then frame_message found ≡ option_and_then (request_to w.store w.now s) (message_between s t)
      → (stop : Option Reason) → stop_of t.history.phase ≡ stop
      → option_and_then frame_message (handed_on v piece (Some sv) stop)
      ≡ (if is_none stop then option_and_then (request_to w.store w.now s) (message_between s t) else None)
  by_stop w s t found sv is same None stops = rw is same
  by_stop w s t found sv is same (Some why) stops = refl

  abbrev taken_event : AcceptedCall
  taken_event = Took id (take (takes v.config es id piece) piece)

  hands_over : (there : Option Connection) → side_of id (world_after v.config es).sides ≡ there
      → option_and_then frame_message (handed_on v piece (session_of id v.sessions) (stop_then v es id piece shows))
      ≡ request_in v.config es taken_event id
  hands_over None none = rw (no_session v es id shows none, none)
  hands_over (Some s) there =
      let is = accepted_is v.config es shows.accepted in
      let w = world_after v.config es in
      let shown : SessionValue = session_shown (stream_on _ id es).rest s in
      let at : session_of id v.sessions ≡ Some shown = side_there v es id s shows there in
      let history = history_there v.config es id s shows.moment there in
      let after = after_take v.config es id piece s is there history in
      let shared : handed v.shared shown piece ≡ handed _ shown piece =
      rw (shared_shown v es shows) in
      let stop : stop_then v es id piece shows ≡ stop_of after.0.history.phase =
      rw (stop_shown v es id piece shows shown at, takes_shown v es id piece shows, after.1) in
      rw (stop, at, there, after.1)
      (by_stop w s after.0 _ shown shared (request_same v.config es id piece s is there history)
      (stop_of after.0.history.phase) refl)

-- The message of the frame is the request of the event.
pub take_hands_over : (v : ServerValue) (id : ℕ) (piece : List ℕ) (n : ℕ) (frame : Option (List ℕ))
    → n ≡ count_taken v id piece → frame ≡ handed_frame v id piece → (es : List AcceptedCall) → Shows v es
    → option_and_then frame_message frame ≡ request_in v.config es (Took id (take n piece)) id
unfolding handed_frame
take_hands_over v id piece n frame count is es shows =
    rw (is, count, takes_shown v es id piece shows) (hands_over v es id piece shows _ refl)

-- The request that a take lends is the one that was handed to the application.

same_responder : (by : Responder) → is_responder by ≡ is_application by
same_responder Engine = refl
same_responder Application = refl

same_delay : (d : Option Delay) → is_by_application d ≡ is_handed d
same_delay None = refl
same_delay (Some d) = same_responder d.by

module _ (w : World) (s t : Connection) where
  -- The request that a take lends, as a list.
  abbrev lent : List Message
  lent = option_to_list (option_and_then (request_to w.store w.now s) (message_between s t))

  -- A message is handed over under both definitions, or under none.
  message_lent : (m : Message) → handed_in w.store w.now s m ≡ option_to_list (request_to w.store w.now s m)
  message_lent m =
      let delay : Option Delay = delay_for (after s.history (call.Handle m)) (delay_of w.store w.now m) in
      rw (same_delay delay)
      (elim (cases_Bool (asks_answer s m && is_handed delay)) [ inl is ↦ rw is | inr other ↦ rw other ])

  none_lent : t.history.handled ≡ s.history.handled → handed_between w s t ≡ lent
  none_lent same = rw (none_between s t same, same, drop-length _)

  one_lent : (m : Message) → t.history.handled ≡ s.history.handled ++ m ∷ [] → handed_between w s t ≡ lent
  one_lent m one =
      rw (one_between s t m one, one, drop-append_seam _ (m ∷ [])) (append-nil _ ∙ message_lent m)

  became_lent : (earlier later : Stream) (message : Bool) → Became earlier later s t message
      → handed_between w s t ≡ lent
  became_lent earlier later message (Stayed e same messages fault) = none_lent (rw same)
  became_lent earlier later message (Reacted e does m one stops messages fault) = one_lent m one
  became_lent earlier later message (Rejected e does fault rejects messages is) = none_lent rejects.handled

-- An accepted take adds to the requests handed over the one that it lends, unless the connection stopped.
pub lent_is_handed : (c : ConfigValues) (es : List AcceptedCall) (id : ℕ) (bytes : List ℕ) (s t : Connection)
    → AreAccepted c es → IsAccepted c es (Took id bytes) → side_of id (world_after c es).sides ≡ Some s
    → side_of id (world_after c (es ++ Took id bytes ∷ [])).sides ≡ Some t → takes_messages t.history.phase ≡ true
    → handed_requests (requests_on c id (es ++ Took id bytes ∷ []))
    ≡ handed_requests (requests_on c id es) ++ option_to_list (request_in c es (Took id bytes) id)
unfolding IsAccepted
lent_is_handed c es id bytes s t accepted own there later takes_more =
    let w : World = world_after c es in
    let all : takes c es id bytes ≡ length bytes =
    (on_one (λ u. takes c es id bytes ≡ length bytes) (side_of id w.sides) own).2 in
    let became = took_became c es id bytes s t (accepted_is c es accepted) all there later in
    let request : request_in c es (Took id bytes) id
    ≡ option_and_then (request_to w.store w.now s) (message_between s t) = rw (there, later, takes_more) in
    rw (request, ← became_lent w s t _ _ became.0 became.1) (event_hands c es id s accepted there (Took id bytes) own t
    later)
