-- Lists of calls: their bytes, their steps, the connection after them, and which calls are accepted.
use Rattle.std.proofs.Common.{◌≡◌, ℕ, ◌-◌, ◌<◌, ◌≤◌, true, List, [], ◌∷◌, ◌++◌, length, map, None, refl, sym, ap, ◌∙◌}
use Rattle.std.proofs.Common.{append_assoc, arith}
use Rattle.coap_client_engine.specs.Prelude.{flat_map, Unfinished, prefix_kind, Stream, split, sized_split, sizes_first}
use Rattle.coap_client_engine.specs.Prelude.{constant_size, stream_after, split_on, framing, LimitValues, History}
use Rattle.coap_client_engine.specs.Prelude.{new_history, Client, ClientCall, Took, ClientStep, Handles, taken_by}
use Rattle.coap_client_engine.specs.Prelude.{stream_in, new_fault, size_by, size_in, sizes_in, beyond, AllByRecursion}
use Rattle.coap_client_engine.specs.Prelude.{KeepsSize, steps_by, later_steps, steps_of, after_steps, client_after}
use Rattle.coap_client_engine.specs.Prelude.{IsAccepted, AreAcceptedAfter, AreAccepted, Faults, Requests, Cancels}
use Rattle.coap_client_engine.specs.Prelude.{Pings, Forgets, Releases, Announces, Writes, Ends, reject_of, link_of}
use Rattle.coap_client_engine.specs.Prelude.{release_refusal, announce_refusal, may_announce, is_open}
use Rattle.std.proofs.lemmas.Bool.{cond_both}
use Rattle.std.proofs.lemmas.Bool.Decides.{nat_tests}
use Rattle.std.proofs.lemmas.List.{append-nil, length-append}
use Rattle.std.proofs.lemmas.List.Concat.{flat_map-append}
use Rattle.std.proofs.Math.Seq.{drop-length, drop-append_seam}
use Rattle.coap_wire.proofs.StreamSteps.{unfinished_empty, split_unfinished, split_is, split_same_to}
use Rattle.coap_wire.proofs.SizesLaws.{first_always, went_on, left_unfinished}
use Rattle.coap_conn.specs.Calls as call
use Rattle.coap_conn.specs.Calls.{Call, call_effect}
use Rattle.coap_conn.specs.History.{with_deed}
use Rattle.coap_conn.proofs.AskingLaws.{none_where}
use Rattle.coap_client_engine.specs.ClientWorld as client
use Rattle.coap_frame.proofs.FrontLaws.{added_by, added_whole}

-- ---- bytes

-- The bytes of one more call.
pub taken_with_call : (calls : List ClientCall) (c : ClientCall)
    → flat_map taken_by (calls ++ c ∷ []) ≡ flat_map taken_by calls ++ taken_by c
taken_with_call calls c = simp (flat_map-append, append-nil)

-- ---- sizes

-- The size after one more call.
pub size_with_call : (M : ℕ) (calls : List ClientCall) (c : ClientCall)
    → size_in M (calls ++ c ∷ []) ≡ size_by c (size_in M calls)
unfolding size_in
size_with_call M [] c = refl
size_with_call M (d ∷ calls) c = size_with_call (size_by d M) calls c

-- The size never decreases.
size_rises : (c : ClientCall) (M : ℕ) → M ≤ size_by c M
size_rises c M = grind (arith, nat_tests)

pub size_grows : (M : ℕ) (calls : List ClientCall) → M ≤ size_in M calls
unfolding size_in
size_grows M [] = omega arith
size_grows M (c ∷ calls) = omega (arith, size_rises c M, size_grows (size_by c M) calls)

-- Accepted bytes do not change the sizes.
pub sizes_with_take : (M : ℕ) (calls : List ClientCall) (bytes : List ℕ)
    → sizes_in M (calls ++ Took bytes ∷ []) ≡ sizes_in M calls
unfolding sizes_in
sizes_with_take M [] bytes = first_always (length bytes) M
sizes_with_take M (c ∷ calls) bytes =
    ap (sizes_first (length (taken_by c)) M) (sizes_with_take (size_by c M) calls bytes)

-- No earlier size was larger than the current one.
sizes_within : (M : ℕ) (calls : List ClientCall) (at : ℕ) → sizes_in M calls at ≤ size_in M calls
unfolding size_in sizes_in
sizes_within M [] at = omega arith
sizes_within M (c ∷ calls) at =
    let N : ℕ = size_by c M in
    grind (arith, nat_tests, size_rises c M, size_grows N calls, sizes_within N calls (at - length (taken_by c)))

-- The current size applies to the bytes that follow.
sizes_now : (M : ℕ) (calls : List ClientCall) (at : ℕ) → length (flat_map taken_by calls) ≤ at
    → sizes_in M calls at ≡ size_in M calls
unfolding size_in sizes_in
sizes_now M [] at past = refl
sizes_now M (c ∷ calls) at past =
    let whole = length-append (taken_by c) (flat_map taken_by calls) in
    grind (arith, nat_tests, sizes_now (size_by c M) calls (at - length (taken_by c)))

-- A call does not change the sizes of its own and earlier bytes.
sizes_before : (M : ℕ) (calls : List ClientCall) (c : ClientCall) (at : ℕ)
    → at < length (flat_map taken_by (calls ++ c ∷ [])) → sizes_in M (calls ++ c ∷ []) at ≡ sizes_in M calls at
unfolding sizes_in
sizes_before M [] c at within = grind (arith, nat_tests, length-append (taken_by c) [])
sizes_before M (d ∷ calls) c at within =
    let whole = length-append (taken_by d) (flat_map taken_by (calls ++ c ∷ [])) in
    grind (arith, nat_tests, sizes_before (size_by d M) calls c (at - length (taken_by d)))

-- ---- the stream

-- The bytes of a call are read with the sizes before it.
pub read_before : (M : ℕ) (calls : List ClientCall) (c : ClientCall)
    → stream_in M (calls ++ c ∷ []) ≡ sized_split (sizes_in M calls) (flat_map taken_by calls ++ taken_by c)
read_before M calls c =
    split_same_to (sizes_in M (calls ++ c ∷ [])) (sizes_in M calls) (flat_map taken_by (calls ++ c ∷ []))
    (sizes_before M calls c) ∙ ap (sized_split (sizes_in M calls)) (taken_with_call calls c)

-- A call without bytes keeps the stream.
pub stream_stays : (M : ℕ) (calls : List ClientCall) (c : ClientCall) → taken_by c ≡ []
    → stream_in M (calls ++ c ∷ []) ≡ stream_in M calls
stream_stays M calls c none = read_before M calls c ∙ rw (none, append-nil)

-- Accepted bytes continue the stream with the current size.
pub stream_by : (M : ℕ) (calls : List ClientCall) (c : ClientCall)
    → stream_in M (calls ++ c ∷ []) ≡ split_on (size_in M calls) (stream_in M calls) (taken_by c)
stream_by M calls c =
    read_before M calls c ∙ went_on (sizes_in M calls) (size_in M calls) (flat_map taken_by calls) (taken_by c)
    (sizes_within M calls) (sizes_now M calls)

-- The stream is empty before the first call.
pub stream_first : (M : ℕ) → stream_in M [] ≡ record { messages = []; rest = []; fault = None }
unfolding sizes_in
stream_first M = sym (split_is M []) ∙ split_unfinished M [] (unfinished_empty M)

-- The rest of a stream without a fault is unfinished for the current size.
pub stream_rest_unfinished : (M : ℕ) (calls : List ClientCall) → (stream_in M calls).fault ≡ None
    → prefix_kind (size_in M calls) (stream_in M calls).rest ≡ Unfinished
stream_rest_unfinished M calls none =
    left_unfinished (sizes_in M calls) (size_in M calls) (flat_map taken_by calls) (sizes_within M calls) none

-- ---- calls without an announcement

size_kept : (M : ℕ) (calls : List ClientCall) → AllByRecursion KeepsSize calls → size_in M calls ≡ M
unfolding size_in
size_kept M [] keeps = refl
size_kept M (c ∷ calls) keeps = rw (keeps.0 M) (size_kept M calls keeps.1)

sizes_kept : (M : ℕ) (calls : List ClientCall) → AllByRecursion KeepsSize calls → sizes_in M calls ≡ constant_size M
unfolding sizes_in
sizes_kept M [] keeps = refl
sizes_kept M (c ∷ calls) keeps =
    rw (keeps.0 M, sizes_kept M calls keeps.1) (first_always (length (taken_by c)) M)

-- The size of the limits applies to all bytes.
pub unannounced : (M : ℕ) (calls : List ClientCall) → AllByRecursion KeepsSize calls
    → (size_in M calls ≡ M) × (stream_in M calls ≡ split M (flat_map taken_by calls))
unannounced M calls keeps = (size_kept M calls keeps, rw (sizes_kept M calls keeps) (sym (split_is M _)))

-- ---- steps

-- The effect of two lists of steps in turn.
pub client_steps_then : (h : History) (ss ts : List ClientStep)
    → after_steps h (ss ++ ts) ≡ after_steps (after_steps h ss) ts
unfolding after_steps
client_steps_then h [] ts = refl
client_steps_then h (s ∷ ss) ts = client_steps_then (client.step h s) ss ts

-- The steps of two lists of calls in turn.
pub later_call_steps_more : (M : ℕ) (a calls more : List ClientCall)
    → later_steps M a (calls ++ more) ≡ later_steps M a calls ++ later_steps M (a ++ calls) more
unfolding later_steps
later_call_steps_more M a [] more = rw append-nil
later_call_steps_more M a (c ∷ calls) more = simp (append_assoc, later_call_steps_more M (a ++ c ∷ []) calls more)

pub steps_with_call : (M : ℕ) (calls : List ClientCall) (c : ClientCall)
    → steps_of M (calls ++ c ∷ []) ≡ steps_of M calls ++ steps_by M calls c
unfolding steps_of later_steps
steps_with_call M calls c = later_call_steps_more M [] calls (c ∷ []) ∙ simp append-nil

-- ---- the connection

-- The history before the first call, and after one more call.
pub client_first : (limits : LimitValues) (tokens : ℕ)
    → client_after limits tokens [] ≡ new_history Client limits tokens
unfolding client_after steps_of later_steps after_steps
client_first limits tokens = refl

pub client_more : (limits : LimitValues) (tokens : ℕ) (calls : List ClientCall) (c : ClientCall)
    → client_after limits tokens (calls ++ c ∷ [])
    ≡ after_steps (client_after limits tokens calls) (steps_by limits.max_message calls c)
unfolding client_after
client_more limits tokens calls c = rw steps_with_call (client_steps_then _ _ _)

-- The history after a call that makes no step, or one step.
pub client_same : (limits : LimitValues) (tokens : ℕ) (calls : List ClientCall) (c : ClientCall)
    → steps_by limits.max_message calls c ≡ []
    → client_after limits tokens (calls ++ c ∷ []) ≡ client_after limits tokens calls
unfolding after_steps
client_same limits tokens calls c none = client_more limits tokens calls c ∙ rw none

pub client_step : (limits : LimitValues) (tokens : ℕ) (calls : List ClientCall) (c : ClientCall) (s : ClientStep)
    → steps_by limits.max_message calls c ≡ s ∷ []
    → client_after limits tokens (calls ++ c ∷ []) ≡ client.step (client_after limits tokens calls) s
unfolding after_steps
client_step limits tokens calls c s one = client_more limits tokens calls c ∙ rw one

-- The call on the link that a step makes.
abbrev pub step_call : ClientStep → Call
step_call (Handles m) = call.Handle m
step_call (Faults fault) = call.Reject (reject_of fault)
step_call (Requests m observe) = call.Request m observe
step_call (Cancels token m) = call.Cancel token m
step_call (Pings custody) = call.Ping custody
step_call (Forgets token) = call.Forget token
step_call Releases = call.Release
step_call (Announces size) = call.Announce size
step_call (Writes n) = call.Written n
step_call (Ends cut) = call.End cut

-- Says that a step has an effect.
abbrev pub Acts : History → ClientStep → Type 0
Acts h Releases = (release_refusal (link_of h) ≡ None) × (is_open h.phase ≡ true)
Acts h (Announces size) = (announce_refusal (link_of h) size ≡ None) × (may_announce (link_of h) size ≡ true)
Acts h s = (call_effect (link_of h) (step_call s)).so ≡ true

-- The history after the effect of a step.
abbrev pub stepped : History → ClientStep → History
stepped h s = with_deed h (call_effect (link_of h) (step_call s)).deed

-- A property of a history and of the effect of a step holds after the step.
pub step_so : (h : History) (s : ClientStep) (P : History → Type 0) → P h → (Acts h s → P (stepped h s))
    → P (client.step h s)
unfolding client.step
step_so h Releases P stays acts =
    cond_both _ _ h P (λ none. cond_both _ _ h P (λ may. acts (none_where _ none, may)) (λ _. stays)) (λ _. stays)
step_so h (Announces size) P stays acts =
    cond_both _ _ h P (λ none. cond_both _ _ h P (λ may. acts (none_where _ none, may)) (λ _. stays)) (λ _. stays)
step_so h s P stays acts = cond_both _ _ h P acts (λ _. stays)

-- No step decreases the number of the last token.
pub step_tokens : (h : History) (s : ClientStep) → h.tokens ≤ (client.step h s).tokens
unfolding client.step
step_tokens h s = grind arith

-- ---- accepted calls

accepted_after_calls : (limits : LimitValues) (tokens : ℕ) (a calls : List ClientCall) (c : ClientCall)
    → AreAcceptedAfter limits tokens a calls → IsAccepted limits tokens (a ++ calls) c
    → AreAcceptedAfter limits tokens a (calls ++ c ∷ [])
unfolding AreAcceptedAfter
accepted_after_calls limits tokens a [] c before last = (rw append-nil at last, tt)
accepted_after_calls limits tokens a (d ∷ calls) c before last =
    (before.0, accepted_after_calls limits tokens (a ++ d ∷ []) calls c before.1 (rw append_assoc last))

-- The empty list of calls is accepted.
pub accepted_no_call : (limits : LimitValues) (tokens : ℕ) → AreAccepted limits tokens []
unfolding AreAcceptedAfter
accepted_no_call limits tokens = tt

-- One more accepted call.
pub accepted_with_call : (limits : LimitValues) (tokens : ℕ) (calls : List ClientCall) (c : ClientCall)
    → AreAccepted limits tokens calls → IsAccepted limits tokens calls c → AreAccepted limits tokens (calls ++ c ∷ [])
accepted_with_call limits tokens calls c before last = accepted_after_calls limits tokens [] calls c before last

-- Induction over accepted calls.
by_later_calls : (limits : LimitValues) (tokens : ℕ) (P : List ClientCall → Type 0)
    → ((calls : List ClientCall) (c : ClientCall) → AreAccepted limits tokens calls → IsAccepted limits tokens calls c
    → P calls → P (calls ++ c ∷ []))
    → (a calls : List ClientCall) → AreAccepted limits tokens a → P a
    → AreAcceptedAfter limits tokens a calls → P (a ++ calls)
unfolding AreAcceptedAfter
by_later_calls limits tokens P go a [] before holds all = rw append-nil holds
by_later_calls limits tokens P go a (c ∷ calls) before holds all =
    rw append_assoc at (by_later_calls limits tokens P go (a ++ c ∷ []) calls
    (accepted_with_call limits tokens a c before all.0) (go a c before all.0 holds) all.1)

pub by_calls : (limits : LimitValues) (tokens : ℕ) (P : List ClientCall → Type 0) → P []
    → ((calls : List ClientCall) (c : ClientCall) → AreAccepted limits tokens calls → IsAccepted limits tokens calls c
    → P calls → P (calls ++ c ∷ []))
    → (calls : List ClientCall) → AreAccepted limits tokens calls → P calls
by_calls limits tokens P first go calls all =
    by_later_calls limits tokens P go [] calls (accepted_no_call limits tokens) first all

-- ---- the stream and the steps of a take

-- The steps of a stream that bytes add, if the stream before has no fault.
abbrev pub steps_added : Stream → List ClientStep
steps_added added = map Handles added.messages ++ new_fault None added.fault

-- The steps of a `take` and the stream after it, given the stream that its bytes add.
pub record AddsTo (M : ℕ) (calls : List ClientCall) (bytes : List ℕ) (added : Stream) : Type 0 where
  pub steps : steps_by M calls (Took bytes) ≡ steps_added added
  pub stream : stream_in M (calls ++ Took bytes ∷ []) ≡ stream_after (stream_in M calls).messages added

pub take_adds : (M : ℕ) (calls : List ClientCall) (bytes : List ℕ) (added : Stream) → (stream_in M calls).fault ≡ None
    → split (size_in M calls) ((stream_in M calls).rest ++ bytes) ≡ added → AddsTo M calls bytes added
unfolding steps_by
take_adds M calls bytes added none is =
    let after : stream_in M (calls ++ Took bytes ∷ []) ≡ stream_after (stream_in M calls).messages added =
    stream_by M calls (Took bytes) ∙ rw (none, is) in
    record { steps = rw (after, none, drop-append_seam); stream = after }

-- Bytes that are accepted in full add what the framer finds in them, if the stream has no fault.
pub adds_whole : (M : ℕ) (calls : List ClientCall) (bytes : List ℕ) → (stream_in M calls).fault ≡ None
    → (framing (size_in M calls) (stream_in M calls).rest bytes).taken ≡ length bytes → AddsTo M calls bytes
    (added_by (stream_in M calls).rest bytes (framing (size_in M calls) (stream_in M calls).rest bytes).finding)
adds_whole M calls bytes none all =
    take_adds M calls bytes _ none
    (added_whole (size_in M calls) (stream_in M calls).rest bytes (stream_rest_unfinished M calls none) all)

-- ---- no bytes

-- The empty slice makes no step and keeps the stream, with or without a fault.
pub nothing_beyond_itself : (s : Stream) → beyond s s ≡ []
nothing_beyond_itself s = grind (arith, drop-length)

pub empty_take_stream : (M : ℕ) (calls : List ClientCall) → stream_in M (calls ++ Took [] ∷ []) ≡ stream_in M calls
empty_take_stream M calls = stream_stays M calls (Took []) refl

pub empty_take_steps : (M : ℕ) (calls : List ClientCall) → steps_by M calls (Took []) ≡ []
unfolding steps_by
empty_take_steps M calls = rw empty_take_stream (nothing_beyond_itself (stream_in M calls))
