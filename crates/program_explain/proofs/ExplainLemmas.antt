-- An explainer prints the lines of an explanation.
use Rattle.std.proofs.Common.{◌≡◌, ℕ, [], take, ◌+◌, true, false, List, ◌++◌, ◌≤◌, length, length-append, length-take}
use Rattle.std.proofs.Common.{Option, Some, None, is_some, nat_eq, refl, ap, arith, codes}
use Rattle.std.specs.Prelude.{Vec}
use Rattle.std.specs.declared.alloc.Global.{Global}
use Rattle.std.proofs.lemmas.Bool.{le-ltb}
use Rattle.std.proofs.lemmas.List.{take_at, drop_at}
use Rattle.indexmap.specs.IndexMap.{IndexMap, get, WritesThrough}
use Rattle.coap_conn.specs.Phases.{stop_of}
use Rattle.coap_conn.specs.declared.reason.Reason.{Reason}
use Rattle.coap_model.specs.declared.answers.WrittenFault.{WrittenFault}
use Rattle.coap_script.specs.declared.event.Event.{Event}
use Rattle.coap_script.specs.declared.event.Event.TheVariants as events
use Rattle.coap_script.specs.script.EventViews.{event_value}
use Rattle.coap_server_engine.specs.script.Replay.{drain_ran, drained as drained_bytes, on_connection}
use Rattle.coap_server_engine.specs.values.ServerAnswers.{written_refusal_on}
use Rattle.coap_server_engine.specs.values.Flushes.{waiting_in}
use Rattle.coap_server_engine.specs.values.InResults.{InResult}
use Rattle.coap_server_engine.specs.values.Servers.{ServerValue, is_there, server_written, session_of}
use Rattle.coap_server_session.specs.values.Sessions.{SessionValue}
use Rattle.program_explain.specs.Explanations.{Explains, messages_of, passes_bytes, with_messages, passing, stop_line}
use Rattle.program_explain.specs.Explanations.{queued_line, drained, rejected_line, stop_in, received_by}
use Rattle.program_explain.specs.Printed.{Prints, listed}
use Rattle.program_explain.specs.declared.explainer.Explainer.{Explainer}
use Rattle.program_explain.specs.declared.layout.Way.TheVariants as way
use Rattle.program_explain.specs.declared.messages.Followed.{Followed}
use Rattle.program_explain.specs.declared.printer.Printer.{Printer}
use Rattle.program_explain.proofs.PrintedLemmas.{printed_then}

module _ {O : Type 0} (written : O → Option (List ℕ)) (before after : Explainer O) (id : ℕ) where
  -- The lines of an `in`.
  pub receives : (one two : Printer O) (bytes : List ℕ) (r : InResult) (s : SessionValue) (stop : Option Reason)
      (count : ℕ) (v : ServerValue)
      → count ≡ r.count → stop ≡ stop_of s.link.phase → v ≡ r.server
      → Prints written before.printer one
      (passing (messages_of before) id way.In (take count bytes) [] (messages_of before id)).lines
      → Prints written one two (listed (rejected_line id count (length bytes)))
      → Prints written two after.printer (listed (stop_line id stop (stop_in (session_of id v.sessions))))
      → messages_of after
      ≡ (passing (messages_of before) id way.In (take count bytes) [] (messages_of before id)).messages
      → Explains written before after (received_by (messages_of before) id bytes r s)
  receives one two bytes r s stop count v counts stops servers p q last messages =
      rw (← counts, ← stops, ← servers)
      (record { prints = printed_then written (printed_then written p q) last; messages = messages })

  -- The lines of a `drain`. Its bytes pass in two parts.
  pub sends : (one : Printer O) (most : Option ℕ) (o : Option SessionValue) (first second : List ℕ)
      → true ≡ is_there o → first ++ second ≡ drained_bytes most (waiting_in o)
      → Prints written before.printer one
      (passing (messages_of before) id way.Out first second (messages_of before id)).lines
      → Prints written one after.printer (listed (queued_line id (length first + length second) most))
      → messages_of after ≡ (passing (messages_of before) id way.Out first second (messages_of before id)).messages
      → (cut : ℕ) × Explains written before after (drained cut (messages_of before) id most o)
  sends one most None first second is same p last messages = absurd cc
  sends one most (Some s) first second is same p last messages = (
    length first,
    rw (
      ← same,
      take_at first second (length first) refl,
      drop_at first second (length first) refl,
      length-append first second,
    ) (record { prints = printed_then written p last; messages = messages }),
  )

-- A connection that had stopped stops no more.
pub stopped_before : (id : ℕ) (before after : Option Reason) → is_some before ≡ true → stop_line id before after ≡ None
stopped_before id None after is = absurd cc
stopped_before id (Some reason) after is = refl

-- The messages of a connection were written through a map.
pub written_through : {S : Type 0} (m n : IndexMap ℕ Followed S) (id : ℕ) (w old : Followed)
    → WritesThrough nat_eq (nat_eq id) m w n → get nat_eq m id ≡ Some old
    → get nat_eq n ≡ with_messages (get nat_eq m) id (Some w)
written_through m n id w old writes is = λ j q. (writes.3 (ap is_some is)).0 q j

-- A connection exists.
pub there_is_one : {A : Type 0} (o : Option A) → true ≡ is_there o → (x : A) × (o ≡ Some x)
there_is_one None is = absurd cc
there_is_one (Some x) is = (x, refl)

-- A connection does not exist.
pub there_is_none : {A : Type 0} (o : Option A) → false ≡ is_there o → o ≡ None
there_is_none None is = refl
there_is_none (Some x) is = absurd cc

-- The queued bytes of a connection that pass are not too many.
pub never_too_many : (most : Option ℕ) (o : Option SessionValue) (first second : List ℕ) (fault : WrittenFault)
    → true ≡ is_there o
    → first ++ second ≡ drained_bytes most (waiting_in o)
    → written_refusal_on (length first + length second) o ≡ Some fault → ⊥
never_too_many most None first second fault is same refused = absurd cc
never_too_many most (Some s) first second fault is same refused =
    let fits : length first + length second ≤ length s.link.waiting =
    omega (arith, length-append first second, ap length same, at_most_waiting most s.link.waiting) in
    let e : None ≡ Some fault = rw (le-ltb (length s.link.waiting) (length first + length second) fits) at refused in
    absurd cc
  where
    at_most_waiting : (most : Option ℕ) (bytes : List ℕ) → length (drained_bytes most bytes) ≤ length bytes
    at_most_waiting None bytes = omega arith
    at_most_waiting (Some n) bytes = omega (arith, length-take n bytes)

-- The server after a `drain`.
pub drained_server : (v : ServerValue) (id : ℕ) (most : Option ℕ) (o : Option SessionValue) (first second : List ℕ)
    → true ≡ is_there o
    → first ++ second ≡ drained_bytes most (waiting_in o) → server_written v id (length first + length second)
    ≡ (on_connection v (codes "drain") id
    (λ (s : SessionValue). drain_ran v id (drained_bytes most s.link.waiting)) o).server
drained_server v id most None first second is same = absurd cc
drained_server v id most (Some s) first second is same =
    rw (← same, length-append first second)

-- An event that is no `in` and no `drain`.
pub passes_none : (e : Event) → ((id : ℕ) (bytes : Vec ℕ Global) → e ≡ events.In id bytes → ⊥)
    → ((id : ℕ) (most : Option ℕ) → e ≡ events.Drain id most → ⊥)
    → passes_bytes (event_value e) ≡ false
passes_none (events.In id bytes) not_in not_drain = absurd (not_in id bytes refl)
passes_none (events.Drain id most) not_in not_drain = absurd (not_drain id most refl)
passes_none other not_in not_drain = refl
