-- The pending entries of the code, as values: the entry that is due first, and removal.
use Rattle.std.proofs.Common.{◌≡◌, ℕ, ◌<◌, Bool, true, false, List, [], ◌∷◌, length, map, remove, slice_get, position}
use Rattle.std.proofs.Common.{Option, Some, refl, arith}
use Rattle.coap_conn.specs.Prelude.{Responder, IfSome, filter_map, position_or_len, PendingEntry, PendingEntryValue}
use Rattle.coap_conn.specs.Prelude.{Answer, Pong, due_index, first_due, without_due, pending_value, send, pong_with}
use Rattle.coap_conn.specs.Prelude.{LinkValue, state_in, link_with, link_after}
use Rattle.std.proofs.lemmas.Bool.{ltb-true}
use Rattle.std.proofs.lemmas.List.{append-nil, map-append, take-map, drop-map, length-map}
use Rattle.std.proofs.lemmas.Option.{slice_get-map}
use Rattle.coap_conn.specs.Calls as call

-- ---- tests of the code agree with those of values

pub moments_of : (moment : PendingEntryValue → Option ℕ) (pending : List PendingEntry)
    → filter_map (λ e. moment (pending_value e)) pending ≡ filter_map moment (map pending_value pending)
moments_of moment [] = refl
moments_of moment (e ∷ pending) = rw (moments_of moment pending) refl

-- The first position at which a test of values passes.
place_or_len : (test : PendingEntryValue → Bool) (pending : List PendingEntry)
    → position_or_len test (map pending_value pending) ≡ position_or_len (λ e. test (pending_value e)) pending
place_or_len test [] = refl
place_or_len test (e ∷ pending) = rw (place_or_len test pending) refl

pub place_of : (test : PendingEntryValue → Bool) (pending : List PendingEntry)
    → position (λ e. test (pending_value e)) pending ≡ position test (map pending_value pending)
place_of test pending = rw (place_or_len test pending, length-map) refl

-- The position of an entry that passes a test is within the list.
pub position_within : (test : PendingEntryValue → Bool) (pending : List PendingEntry)
    → IfSome (position test (map pending_value pending)) (λ i. i < length pending)
position_within test pending = grind (arith, ltb-true, length-map)

-- ---- removal

pub pending_without : (pending : List PendingEntry) (i : ℕ) → map pending_value (remove pending i)
    ≡ remove (map pending_value pending) i
pending_without pending i = simp (map-append, take-map, drop-map)

pub entry_at_index : (pending : List PendingEntry) (i : ℕ) (e : PendingEntry) → slice_get pending i ≡ Some e
    → slice_get (map pending_value pending) i ≡ Some (pending_value e)
entry_at_index pending i e there = rw (slice_get-map, there) refl

-- ---- the entry that is due, by its index

pub first_at_index : (now : ℕ) (pending : List PendingEntryValue) (i : ℕ) (e : PendingEntryValue)
    → due_index now pending ≡ Some i → slice_get pending i ≡ Some e → first_due now pending ≡ Some e
unfolding first_due
first_at_index now pending i e is there = rw is there

-- ---- the link after a due entry

pub answer_due : (v : LinkValue) (now i : ℕ) (by : Responder) (token : List ℕ) (moment : ℕ)
    → due_index now v.pending ≡ Some i → slice_get v.pending i ≡ Some (Answer by token moment)
    → record v { pending = remove v.pending i } ≡ link_after v (call.Due now)
unfolding first_due without_due
answer_due v now i by token moment is there = rw (is, there, append-nil) refl

abbrev pub link_sent : LinkValue → List ℕ → LinkValue
link_sent v token = link_with v (send (state_in v) (pong_with true token) (pong_with false token))

pub pong_due : (v : LinkValue) (now i : ℕ) (token : List ℕ) → due_index now v.pending ≡ Some i
    → slice_get v.pending i ≡ Some (Pong token)
    → link_sent (record v { pending = remove v.pending i }) token ≡ link_after v (call.Due now)
unfolding first_due without_due
pong_due v now i token is there = rw (is, there) refl
