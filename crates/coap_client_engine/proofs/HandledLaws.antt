-- The processed messages are exactly those that the accepted bytes encode, and malformed bytes stop the connection.
use Rattle.std.proofs.Common.{◌≡◌, ◌≤◌, ℕ, Bool, true, false, cond, List, [], ◌∷◌, ◌++◌, length, Some, None, Result, Ok}
use Rattle.std.proofs.Common.{Err, refl, sym, arith}
use Rattle.coap_client_engine.specs.Prelude.{nat_le, Message, message_of, FormatFault, StreamFault, OfFrame, Format}
use Rattle.coap_client_engine.specs.Prelude.{Stream, frame_then, FrameEventValue, Nothing, AFrame, AFault, framing}
use Rattle.coap_client_engine.specs.Prelude.{Stopped, takes_messages, reject_of, reject_reason, LimitValues, History}
use Rattle.coap_client_engine.specs.Prelude.{after, link_of, free_in, ClientCall, Took, Handles, Faults, size_in}
use Rattle.coap_client_engine.specs.Prelude.{stream_in, steps_by, step, client_after, handles, takes, IsAccepted}
use Rattle.coap_client_engine.specs.Prelude.{AreAccepted}
use Rattle.std.proofs.lemmas.Bool.{and_parts, leb-true}
use Rattle.std.proofs.lemmas.List.{append-nil, nil_from_length}
use Rattle.coap_frame.proofs.FrontLaws.{added_by}
use Rattle.coap_client_engine.proofs.ClientSteps.{stream_first, client_first, client_same, client_step, by_calls}
use Rattle.coap_client_engine.proofs.ClientSteps.{AddsTo, adds_whole, empty_take_steps, empty_take_stream}
use Rattle.coap_client_engine.proofs.ClientReached.{accepted_reach, Accepts, link_call, bare_after, bare_stream}

-- ---- the steps of accepted bytes

-- If messages are processed, they are accepted, and a message of maximum size has room.
pub handling_has_room : (h : History) → handles h ≡ true
    → (takes_messages h.phase ≡ true) × (h.limits.max_sent ≤ free_in (link_of h))
handling_has_room h does =
    let parts = and_parts (takes_messages h.phase) (nat_le h.limits.max_sent (free_in (link_of h))) does in
    (parts.0, leb-true h.limits.max_sent (free_in (link_of h)) parts.1)

-- The steps of accepted bytes: none, or that of the message or of the fault that they complete.
pub data TakeMakes (M : ℕ) (calls : List ClientCall) (bytes : List ℕ) (h : History) : Type 0 where
  NoStep : steps_by M calls (Took bytes) ≡ []
      → (stream_in M (calls ++ Took bytes ∷ [])).messages ≡ (stream_in M calls).messages
      → (stream_in M (calls ++ Took bytes ∷ [])).fault ≡ (stream_in M calls).fault → TakeMakes M calls bytes h
  OneMessage : handles h ≡ true → (m : Message)
      → AddsTo M calls bytes (record { messages = m ∷ []; rest = []; fault = None })
      → TakeMakes M calls bytes h
  OneFault : handles h ≡ true → (fault : StreamFault) (rest : List ℕ)
      → AddsTo M calls bytes (record { messages = []; rest = rest; fault = Some fault }) → TakeMakes M calls bytes h

module _ (M : ℕ) (calls : List ClientCall) (bytes : List ℕ) (h : History) where
  module _ (none : (stream_in M calls).fault ≡ None) (does : handles h ≡ true) where
    found_makes : (finding : FrameEventValue) → AddsTo M calls bytes (added_by (stream_in M calls).rest bytes finding)
        → TakeMakes M calls bytes h
    found_makes Nothing adds = NoStep adds.steps (rw adds.stream (append-nil _)) (rw adds.stream (sym none))
    found_makes (AFrame frame) adds = read_makes (message_of frame) adds
      where
        read_makes : (read : Result Message FormatFault)
            → AddsTo M calls bytes (frame_then frame read (record { messages = []; rest = []; fault = None }))
            → TakeMakes M calls bytes h
        read_makes (Ok m) adds = OneMessage does m adds
        read_makes (Err f) adds = OneFault does Format frame adds
    found_makes (AFault fault) adds = OneFault does (OfFrame fault) _ adds

  took_makes : (takes_messages h.phase ≡ true → (stream_in M calls).fault ≡ None) → (does : Bool) → handles h ≡ does
      → cond does (framing (size_in M calls) (stream_in M calls).rest bytes).taken 0 ≡ length bytes
      → TakeMakes M calls bytes h
  took_makes live true does all =
      let none = live (handling_has_room h does).0 in
      found_makes none does _ (adds_whole M calls bytes none all)
  took_makes live false does all =
      let none = nil_from_length bytes (sym all) in
      NoStep (rw none (empty_take_steps M calls)) (rw (none, empty_take_stream)) (rw (none, empty_take_stream))

-- All of the bytes are accepted.
pub take_makes : (limits : LimitValues) (tokens : ℕ) (calls : List ClientCall) (bytes : List ℕ)
    → AreAccepted limits tokens calls → IsAccepted limits tokens calls (Took bytes)
    → TakeMakes limits.max_message calls bytes (client_after limits tokens calls)
unfolding IsAccepted takes
take_makes limits tokens calls bytes accepted all =
    took_makes limits.max_message calls bytes _ (accepted_reach limits tokens calls accepted).live _ refl all

-- ---- the processed messages are those that the bytes encode

pub record AgreesWith (u : Stream) (h : History) : Type 0 where
  pub handled : h.handled ≡ u.messages
  pub stopped : (fault : StreamFault) → u.fault ≡ Some fault → h.phase ≡ Stopped (reject_reason (reject_of fault))

-- A call that accepts no bytes processes no message, and a stopped connection stays stopped.
bare_agrees : (u : Stream) (h : History) (c : ClientCall) → Accepts (link_of h) c → AgreesWith u h
    → AgreesWith u (after h (link_call c u.rest))
bare_agrees u h c may is = grind (arith, is)

-- ---- after accepted calls

module _ (limits : LimitValues) (tokens : ℕ) where
  abbrev AgreesAfter : List ClientCall → Type 0
  AgreesAfter calls = AgreesWith (stream_in limits.max_message calls) (client_after limits tokens calls)

  none_agrees : AgreesAfter []
  none_agrees = rw (client_first, stream_first) (record { handled = refl; stopped = λ fault at. absurd cc })

  module _ (calls : List ClientCall) (all : AreAccepted limits tokens calls) (is : AgreesAfter calls) where
    take_agrees : (bytes : List ℕ) → TakeMakes limits.max_message calls bytes (client_after limits tokens calls)
        → AgreesAfter (calls ++ Took bytes ∷ [])
    unfolding step
    take_agrees bytes (NoStep none messages fault) =
        rw (client_same limits tokens calls (Took bytes) none)
        (record { handled = rw messages is.handled; stopped = rw fault is.stopped })
    take_agrees bytes (OneMessage does m adds) =
        rw (
          client_step limits tokens calls (Took bytes) (Handles m) adds.steps,
          adds.stream,
          (handling_has_room (client_after limits tokens calls) does).0,
        ) (record { handled = rw is.handled; stopped = λ fault at. absurd cc })
    take_agrees bytes (OneFault does fault rest adds) =
        rw (
          client_step limits tokens calls (Took bytes) (Faults fault) adds.steps,
          adds.stream,
          (handling_has_room (client_after limits tokens calls) does).0,
        )
        (record { handled = rw append-nil is.handled; stopped = λ other at. grind (arith, at) })

    call_agrees : (c : ClientCall) → IsAccepted limits tokens calls c → AgreesAfter (calls ++ c ∷ [])
    unfolding IsAccepted
    call_agrees (Took bytes) last = take_agrees bytes (take_makes limits tokens calls bytes all last)
    call_agrees c may =
        rw (bare_after limits tokens calls c may, bare_stream limits tokens calls c may) (bare_agrees _ _ c may is)

-- The processed messages are those of the stream, and a fault in the bytes stops the connection.
pub agrees : (limits : LimitValues) (tokens : ℕ) (calls : List ClientCall) → AreAccepted limits tokens calls
    → AgreesWith (stream_in limits.max_message calls) (client_after limits tokens calls)
agrees limits tokens calls accepted =
    by_calls limits tokens (AgreesAfter limits tokens) (none_agrees limits tokens)
    (λ cs c all last before. call_agrees limits tokens cs all before c last) calls accepted
