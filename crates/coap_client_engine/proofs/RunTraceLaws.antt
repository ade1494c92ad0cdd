-- Properties of every trace of a run. The accepted bytes are a prefix of the input, and the written bytes are a prefix
-- of the queued bytes.
use Rattle.std.proofs.Common.{◌≡◌, ◌+◌, ◌≤◌, ℕ, List, [], ◌∷◌, ◌++◌, length, take, drop, refl, sym, ◌∙◌, append_assoc}
use Rattle.std.proofs.Common.{arith}
use Rattle.coap_client_engine.specs.Prelude.{flat_map, Message, spelling, LimitValues, History, IsHistory, bytes_of}
use Rattle.coap_client_engine.specs.Prelude.{Got, Bytes, End, ClientPlan, ClientCall, Took, Wrote, Ended, ClientStep}
use Rattle.coap_client_engine.specs.Prelude.{after, Handles, Faults, link_of, waiting_of, taken_by, stream_in, steps_by}
use Rattle.coap_client_engine.specs.Prelude.{step, after_steps, client_after, client_of, IsAccepted, AreAcceptedAfter}
use Rattle.coap_client_engine.specs.Prelude.{AreAccepted, calls_read, calls_written, RunTrace, Begins, Turns, Reads}
use Rattle.coap_client_engine.specs.Prelude.{Calls, Refuses, GivesUp, Rests, default_limits, calls_in, history_in}
use Rattle.coap_client_engine.specs.Prelude.{waiting_in, taken_in, given_in, rest_in, written_in, IsPlanned, IsRunTrace}
use Rattle.std.proofs.lemmas.List.{append-nil, length-drop, length-take-le, take-append-drop, take-append-le}
use Rattle.std.proofs.Math.Seq.{drop-append_seam, take-append-add}
use Rattle.std.proofs.lemmas.List.Concat.{flat_map-append}
use Rattle.coap_client_engine.specs.RunTrace as trace
use Rattle.coap_client_engine.proofs.ClientSteps.{taken_with_call, client_first, client_more, client_same, client_step}
use Rattle.coap_client_engine.proofs.ClientReached.{accepted_reach, Accepts, link_call, bare_after}
use Rattle.coap_client_engine.proofs.FitLaws.{step_grows}
use Rattle.coap_client_engine.proofs.HandledLaws.{TakeMakes, NoStep, OneMessage, OneFault, take_makes}

-- ---- accepted bytes

read_taken : (calls : List ClientCall) (got : Got)
    → flat_map taken_by (calls ++ calls_read got) ≡ flat_map taken_by calls
read_taken calls got = grind (arith, flat_map-append, append-nil)

written_taken : (calls : List ClientCall) (got : Got)
    → flat_map taken_by (calls ++ calls_written got) ≡ flat_map taken_by calls
written_taken calls got = grind (arith, flat_map-append, append-nil)

-- A prefix and the bytes after it.
front_then : (n : ℕ) (xs bytes : List ℕ) → bytes ≡ take n xs → bytes ++ drop (length bytes) xs ≡ xs
front_then n xs bytes is =
    let whole : bytes ++ drop n xs ≡ xs = rw is (take-append-drop n xs) in
    rw (← whole) (rw drop-append_seam)

-- The accepted bytes and those left to process are the bytes that the wire gave.
pub trace_taken : (plan : ClientPlan) (c : RunTrace) → IsRunTrace plan c → given_in c ≡ taken_in c ++ rest_in c
trace_taken plan (Begins moment) is = refl
trace_taken plan (Turns before moment) is = trace_taken plan before is.0
trace_taken plan (Reads before got bytes) is =
    rw (trace_taken plan before is.0, is.3, append-nil, read_taken (calls_in before) got)
trace_taken plan (Calls before (Took bytes)) is =
    let left = front_then _ (rest_in before) bytes is.2.1 in
    rw (taken_with_call (calls_in before) (Took bytes), append_assoc, left) (trace_taken plan before is.0)
trace_taken plan (Calls before call) is =
    grind (arith, trace_taken plan before is.0, taken_with_call (calls_in before) call, append-nil)
trace_taken plan (Refuses before fault) is = trace_taken plan before is.0
trace_taken plan (GivesUp before) is = trace_taken plan before is.0
trace_taken plan (Rests before) is = trace_taken plan before is.0
trace_taken plan (trace.Writes before got) is = rw (written_taken (calls_in before) got) (trace_taken plan before is.0)

-- ---- written bytes

abbrev led_to : List ClientCall → History
led_to calls = client_after default_limits 0 calls

-- The queued bytes that were written.
abbrev sent_bytes : History → List ℕ
sent_bytes h = take h.written (bytes_of h.queued)

-- The number of bytes that a call removes from the queue.
abbrev wrote_by : ClientCall → ℕ
wrote_by (Wrote n) = n
wrote_by other = 0

-- Steps append to the queued messages.
steps_grow : (h : History) (ss : List ClientStep)
    → (more : List Message) × ((after_steps h ss).queued ≡ h.queued ++ more)
unfolding after_steps
steps_grow h [] = ([], sym (append-nil h.queued))
steps_grow h (s ∷ ss) =
    let one = step_grows h s in
    let others = steps_grow (step h s) ss in
    (one.0 ++ others.0, others.1 ∙ rw (one.1, append_assoc))

took_written : (calls : List ClientCall) (bytes : List ℕ)
    → TakeMakes default_limits.max_message calls bytes (led_to calls)
    → (led_to (calls ++ Took bytes ∷ [])).written ≡ (led_to calls).written + 0
unfolding step
took_written calls bytes (NoStep none messages fault) = rw (client_same default_limits 0 calls _ none) (omega arith)
took_written calls bytes (OneMessage does m adds) =
    rw (client_step default_limits 0 calls _ (Handles m) adds.steps) (grind arith)
took_written calls bytes (OneFault does fault rest adds) =
    rw (client_step default_limits 0 calls _ (Faults fault) adds.steps) (grind arith)

bare_written : (h : History) (rest : List ℕ) (c : ClientCall) → Accepts (link_of h) c
    → (after h (link_call c rest)).written ≡ h.written + wrote_by c
bare_written h rest c may = grind arith

call_written : (calls : List ClientCall) (c : ClientCall) → AreAccepted default_limits 0 calls
    → IsAccepted default_limits 0 calls c
    → (led_to (calls ++ c ∷ [])).written ≡ (led_to calls).written + wrote_by c
unfolding IsAccepted
call_written calls (Took bytes) all last = took_written calls bytes (take_makes default_limits 0 calls bytes all last)
call_written calls c all may =
    rw (bare_after default_limits 0 calls c may)
    (bare_written (led_to calls) (stream_in default_limits.max_message calls).rest c may)

written_within : (calls : List ClientCall) (c : ClientCall) → IsHistory (led_to calls)
    → IsAccepted default_limits 0 calls c
    → (led_to calls).written + wrote_by c ≤ length (bytes_of (led_to calls).queued)
unfolding IsAccepted
written_within calls (Wrote n) is few =
    omega (arith, length-drop (led_to calls).written (bytes_of (led_to calls).queued))
written_within calls c is may = omega arith

-- A longer prefix in two parts.
front_in_parts : (n m : ℕ) (xs : List ℕ) → n ≤ length xs → take (n + m) xs ≡ take n xs ++ take m (drop n xs)
front_in_parts n m xs few =
    rw (take-append-drop n xs, length-take-le n xs few) at (take-append-add (take n xs) (drop n xs) m)

-- The parts of a list of accepted calls.
accepted_parts : (limits : LimitValues) (tokens : ℕ) (earlier calls : List ClientCall) (c : ClientCall)
    → AreAcceptedAfter limits tokens earlier (calls ++ c ∷ [])
    → AreAcceptedAfter limits tokens earlier calls × IsAccepted limits tokens (earlier ++ calls) c
unfolding AreAcceptedAfter
accepted_parts limits tokens earlier [] c all = (tt, rw append-nil all.0)
accepted_parts limits tokens earlier (d ∷ calls) c all =
    let parts = accepted_parts limits tokens (earlier ++ d ∷ []) calls c all.1 in
    ((all.0, parts.0), rw append_assoc at parts.1)

record IsSent (calls : List ClientCall) (c : ClientCall) : Type 0 where
  before : AreAccepted default_limits 0 calls
  sent : sent_bytes (led_to (calls ++ c ∷ []))
      ≡ sent_bytes (led_to calls) ++ take (wrote_by c) (waiting_of (led_to calls))

call_sent : (calls : List ClientCall) (c : ClientCall) → AreAccepted default_limits 0 (calls ++ c ∷ [])
    → IsSent calls c
call_sent calls c all =
    let parts = accepted_parts default_limits 0 [] calls c all in
    let h : History = led_to calls in
    let is = (accepted_reach default_limits 0 calls parts.0).is_history in
    let within = written_within calls c is parts.1 in
    let grows = steps_grow h (steps_by default_limits.max_message calls c) in
    record {
      before = parts.0;
      sent =
          rw (call_written calls c parts.0 parts.1, client_more default_limits 0 calls c, grows.1)
          (rw (
            flat_map-append spelling h.queued grows.0,
            take-append-le (h.written + wrote_by c) (bytes_of h.queued) (bytes_of grows.0) within,
          )
          (front_in_parts h.written (wrote_by c) (bytes_of h.queued) is));
    }

-- The bytes still to be written are the queued bytes after those already written.
waits_after : (calls : List ClientCall) → (client_of default_limits 0 calls).link.waiting ≡ waiting_of (led_to calls)
unfolding client_of
waits_after calls = refl

planned_none : (plan : ClientPlan) (before : RunTrace) (call : ClientCall) → IsPlanned plan before call
    → wrote_by call ≡ 0
planned_none plan before (Wrote n) is = absurd is
planned_none plan before call is = refl

trace_sent : (plan : ClientPlan) (c : RunTrace) → IsRunTrace plan c → AreAccepted default_limits 0 (calls_in c)
    → written_in c ≡ sent_bytes (history_in c)
trace_sent plan (Begins moment) is all = rw client_first
trace_sent plan (Turns before moment) is all = trace_sent plan before is.0 all
trace_sent plan (Reads before End bytes) is all =
    let made = call_sent (calls_in before) Ended all in
    trace_sent plan before is.0 made.before ∙ rw (made.sent, append-nil)
trace_sent plan (Reads before got bytes) is all = rw append-nil (trace_sent plan before is.0 (rw append-nil at all))
trace_sent plan (Calls before call) is all =
    let made = call_sent (calls_in before) call all in
    trace_sent plan before is.0 made.before ∙ rw (made.sent, planned_none plan before call is.2, append-nil)
trace_sent plan (Refuses before fault) is all = trace_sent plan before is.0 all
trace_sent plan (GivesUp before) is all = trace_sent plan before is.0 all
trace_sent plan (Rests before) is all = trace_sent plan before is.0 all
trace_sent plan (trace.Writes before (Bytes n)) is all =
    let made = call_sent (calls_in before) (Wrote n) all in
    rw (made.sent, trace_sent plan before is.0 made.before, waits_after (calls_in before))
trace_sent plan (trace.Writes before got) is all =
    simp append-nil (trace_sent plan before is.0 (rw append-nil at all))

-- The written bytes and those still to be written are the queued bytes.
pub trace_queued : (plan : ClientPlan) (c : RunTrace) → IsRunTrace plan c → AreAccepted default_limits 0 (calls_in c)
    → bytes_of (history_in c).queued ≡ written_in c ++ waiting_in c
trace_queued plan c is all =
    rw (trace_sent plan c is all, waits_after (calls_in c)) (sym (take-append-drop (history_in c).written _))
