-- The steps of `Link::respond`, on the value of a link.
use Rattle.std.proofs.Common.{◌≡◌, ℕ, ◌≤◌, Bool, true, false, cond, List, ◌++◌, length, Some, None, Result, Ok, Err}
use Rattle.std.proofs.Common.{refl, ◌∙◌, inl, inr, arith, Option, map, sym}
use Rattle.std.specs.Prelude.{OnOk}
use Rattle.coap_conn.specs.Prelude.{nat_lt, position, remove, Message, spelling, RefusedBy, Reply, Whole, fit, fits}
use Rattle.coap_conn.specs.Prelude.{bare_response, answers, PendingEntryValue, is_request_for, without_request, send}
use Rattle.coap_conn.specs.Prelude.{is_plain_response, sent_length, room_refusal, response_refusal, RespondFault}
use Rattle.coap_conn.specs.Prelude.{LinkValue, IsLink, free_in, limit_in, state_in, link_with, link_after, PendingEntry}
use Rattle.coap_conn.specs.Prelude.{pending_value}
use Rattle.coap_conn.specs.declared.phase.RespondFault.TheVariants as fault
use Rattle.coap_conn.specs.Calls as call
use Rattle.std.proofs.lemmas.List.{append-nil}
use Rattle.coap_conn.proofs.ApplicationLaws.{absent_request, there_request}

-- ---- errors

-- The position of a request in the entries of the code is that in the value of the link.
pub position_in : (v : LinkValue) (items pending : List PendingEntry) (one token : List ℕ) (i : Option ℕ)
    → map pending_value pending ≡ v.pending → items ≡ pending → one ≡ token
    → i ≡ position (is_request_for one) (map pending_value items) → position (is_request_for token) v.pending ≡ i
position_in v items pending one token i shown same same_token is = rw (← shown, ← same, ← same_token) (sym is)

pub refused_absent : (v : LinkValue) (m : Message) → position (is_request_for m.token) v.pending ≡ None
    → response_refusal v m ≡ Some fault.NoSuchRequest
unfolding response_refusal
refused_absent v m none = rw (absent_request v.pending m.token none) refl

pub refused_kind : (v : LinkValue) (m : Message) (i : ℕ) → position (is_request_for m.token) v.pending ≡ Some i
    → is_plain_response m ≡ false → response_refusal v m ≡ Some fault.NotAResponse
unfolding response_refusal
refused_kind v m i found other = rw (there_request v.pending m.token i found) (rw other refl)

-- If there is a request and the message may answer it, the room decides.
pub room_decides : (v : LinkValue) (m : Message) (i : ℕ) → position (is_request_for m.token) v.pending ≡ Some i
    → is_plain_response m ≡ true → response_refusal v m ≡ room_refusal v m
unfolding response_refusal
room_decides v m i found plain = rw (there_request v.pending m.token i found) (rw plain refl)

-- ---- room

pub whole_fits : (limit : ℕ) (m less : Message) → length (spelling m) ≤ limit → fit limit m less ≡ Whole
whole_fits limit m less small = grind (arith, small)

-- A whole response needs room for its encoding.
whole_length : (limit : ℕ) (m : Message) → length (spelling m) ≤ limit → sent_length limit m ≡ length (spelling m)
whole_length limit m small = rw (whole_fits limit m (bare_response m) small, append-nil) refl

pub whole_room : (v : LinkValue) (m : Message) → length (spelling m) ≤ limit_in v
    → room_refusal v m ≡ cond (nat_lt (free_in v) (length (spelling m))) (Some fault.NoRoom) None
whole_room v m small = rw (whole_length (limit_in v) m small) refl

-- ---- the link afterwards

-- Entries are pending only in phases that send responses.
answers_with : (v : LinkValue) (i : ℕ) (p : PendingEntryValue → Bool) → IsLink v → position p v.pending ≡ Some i
    → answers v.phase ≡ true
answers_with v i p is found = elim is.answering [
  | inl none ↦ (let bad = rw none at found in absurd cc)
  | inr answering ↦ answering
]

pub respond_link : (v : LinkValue) (m : Message) (i : ℕ) → IsLink v
    → position (is_request_for m.token) v.pending ≡ Some i → is_plain_response m ≡ true → room_refusal v m ≡ None
    → link_with v (send (record (state_in v) { pending = remove v.pending i }) m (bare_response m))
    ≡ link_after v (call.Respond m)
unfolding without_request
respond_link v m i is found plain room =
    rw (found, answers_with v i (is_request_for m.token) is found, room_decides v m i found plain, room) refl

-- The same for a result that may be an error.
pub respond_ok : (r : Result Reply RespondFault) (v new : LinkValue) (m : Message) (i : ℕ) → IsLink v
    → position (is_request_for m.token) v.pending ≡ Some i → is_plain_response m ≡ true → RefusedBy r (room_refusal v m)
    → OnOk r (new ≡ link_with v (send (record (state_in v) { pending = remove v.pending i }) m (bare_response m)))
    → OnOk r (new ≡ link_after v (call.Respond m))
respond_ok (Ok x) v new m i is found plain room after = after ∙ respond_link v m i is found plain room
respond_ok (Err e) v new m i is found plain room after = tt

pub whole_link : (v : LinkValue) (m : Message) (i : ℕ) → IsLink v → position (is_request_for m.token) v.pending ≡ Some i
    → is_plain_response m ≡ true → length (spelling m) ≤ limit_in v → room_refusal v m ≡ None
    → record v { waiting = v.waiting ++ spelling m; pending = remove v.pending i } ≡ link_after v (call.Respond m)
whole_link v m i is found plain small room =
    rw (← respond_link v m i is found plain room, whole_fits (limit_in v) m (bare_response m) small, append-nil) refl

-- The link that sends a bare response.
pub bare_link : (v : LinkValue) (m less : Message) (pending : List PendingEntryValue) → fits (limit_in v) m ≡ false
    → fits (limit_in v) less ≡ true
    → record v { waiting = v.waiting ++ spelling less; pending = pending }
    ≡ link_with v (send (record (state_in v) { pending = pending }) m less)
bare_link v m less pending large small = rw (large, small, append-nil) refl
