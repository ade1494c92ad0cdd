-- Events and steps in sequence: the steps, the world and the bytes of a longer list, and the lists that are accepted.
use Rattle.std.proofs.Common.{◌≡◌, ◌≢◌, ℕ, ◌-◌, ◌<◌, ◌≤◌, List, [], ◌∷◌, ◌++◌, length, map, drop, Option, Some, None}
use Rattle.std.proofs.Common.{refl, sym, subst, ◌∙◌, append_assoc, arith}
use Rattle.coap_model.specs.Prelude.{AllByRecursion, Message, Unfinished, prefix_kind, StreamFault, Stream, sized_split}
use Rattle.coap_model.specs.Prelude.{split_on, LimitValues, ConfigValues, World, Step, new_world, after_steps}
use Rattle.coap_model.specs.Prelude.{AcceptedCall, Took, Announced, taken_in, taken_on, size_by, size_on, sizes_on}
use Rattle.coap_model.specs.Prelude.{stream_on, spelled_on, new_fault, beyond, steps_by, later_steps, steps_of}
use Rattle.coap_model.specs.Prelude.{world_after, IsAccepted, AreAcceptedAfter, AreAccepted}
use Rattle.std.proofs.lemmas.Bool.Decides.{nat_tests}
use Rattle.std.proofs.lemmas.Bool.{eq-eqb, ne_eqb}
use Rattle.std.proofs.lemmas.List.{append-nil, length-append}
use Rattle.coap_wire.proofs.StreamSteps.{split_is, split_same_to, split_unfinished, unfinished_empty}
use Rattle.coap_wire.proofs.SizesLaws.{first_always, went_on, left_unfinished}
use Rattle.coap_model.specs.world.World as world

-- ---- lists

-- The bytes accepted, with those of one more event.
pub taken_then : (id : ℕ) (es : List AcceptedCall) (e : AcceptedCall)
    → taken_on id (es ++ e ∷ []) ≡ taken_on id es ++ taken_in id e
unfolding taken_on
taken_then id [] e = append-nil (taken_in id e)
taken_then id (d ∷ es) e = rw (taken_then id es e) (sym (append_assoc (taken_in id d) (taken_on id es) (taken_in id e)))

-- Steps in sequence.
pub steps_then : (l : LimitValues) (w : World) (ss ts : List Step)
    → after_steps l w (ss ++ ts) ≡ after_steps l (after_steps l w ss) ts
unfolding after_steps
steps_then l w [] ts = refl
steps_then l w (s ∷ ss) ts = steps_then l (world.step l w s) ss ts

-- A property that each step keeps holds after all steps.
pub steps_keep : (P : World → Type 0) (l : LimitValues) → ((w : World) (s : Step) → P w → P (world.step l w s))
    → (w : World) (ss : List Step) → P w → P (after_steps l w ss)
unfolding after_steps
steps_keep P l go w [] holds = holds
steps_keep P l go w (s ∷ ss) holds = steps_keep P l go (world.step l w s) ss (go w s holds)

-- The steps of events in sequence.
pub later_steps_more : (M : ℕ) (a es fs : List AcceptedCall)
    → later_steps M a (es ++ fs) ≡ later_steps M a es ++ later_steps M (a ++ es) fs
unfolding later_steps
later_steps_more M a [] fs = grind (arith, append-nil a)
later_steps_more M a (e ∷ es) fs =
    rw (later_steps_more M (a ++ e ∷ []) es fs, append_assoc a (e ∷ []) es)
    (sym (append_assoc (steps_by M a e) (later_steps M (a ++ e ∷ []) es) (later_steps M (a ++ e ∷ es) fs)))

pub steps_of_more : (M : ℕ) (es : List AcceptedCall) (e : AcceptedCall)
    → steps_of M (es ++ e ∷ []) ≡ steps_of M es ++ steps_by M es e
unfolding steps_of later_steps
steps_of_more M es e = rw (later_steps_more M [] es (e ∷ []), append-nil (steps_by M es e)) refl

-- The world at first, and after one more event.
pub world_first : (c : ConfigValues) → world_after c [] ≡ new_world c
unfolding world_after steps_of later_steps after_steps
world_first c = refl

pub world_more : (c : ConfigValues) (es : List AcceptedCall) (e : AcceptedCall)
    → world_after c (es ++ e ∷ []) ≡ after_steps c.limits (world_after c es) (steps_by c.limits.max_message es e)
unfolding world_after
world_more c es e = grind (arith, steps_of_more, steps_then)

-- The same if the steps of the event are known: none, or one.
pub world_same : (c : ConfigValues) (es : List AcceptedCall) (e : AcceptedCall)
    → steps_by c.limits.max_message es e ≡ [] → world_after c (es ++ e ∷ []) ≡ world_after c es
unfolding after_steps
world_same c es e none = grind (arith, world_more)

pub world_step : (c : ConfigValues) (es : List AcceptedCall) (e : AcceptedCall) (s : Step)
    → steps_by c.limits.max_message es e ≡ s ∷ []
    → world_after c (es ++ e ∷ []) ≡ world.step c.limits (world_after c es) s
unfolding after_steps
world_step c es e s one = grind (arith, world_more)

-- ---- accepted events

after_accepted : (c : ConfigValues) (a es : List AcceptedCall) (e : AcceptedCall) → AreAcceptedAfter c a es
    → IsAccepted c (a ++ es) e → AreAcceptedAfter c a (es ++ e ∷ [])
unfolding AreAcceptedAfter
after_accepted c a [] e before last = (rw append-nil at last, tt)
after_accepted c a (d ∷ es) e before last =
    (before.0, after_accepted c (a ++ d ∷ []) es e before.1 (rw (append_assoc a (d ∷ []) es) last))

-- One more event.
pub accepted_more : (c : ConfigValues) (es : List AcceptedCall) (e : AcceptedCall) → AreAccepted c es
    → IsAccepted c es e → AreAccepted c (es ++ e ∷ [])
accepted_more c es e before last = after_accepted c [] es e before last

-- A property that holds at first, and after each further accepted event, holds of all lists of accepted events.
by_later_events : (c : ConfigValues) (P : List AcceptedCall → Type 0)
    → ((es : List AcceptedCall) (e : AcceptedCall) → AreAccepted c es → IsAccepted c es e → P es → P (es ++ e ∷ []))
    → (a es : List AcceptedCall) → AreAccepted c a → P a → AreAcceptedAfter c a es → P (a ++ es)
unfolding AreAcceptedAfter
by_later_events c P go a [] before holds all = subst P (sym (append-nil a)) holds
by_later_events c P go a (e ∷ es) before holds all =
    subst P (append_assoc a (e ∷ []) es)
    (grind (arith, accepted_more, by_later_events c P go (a ++ e ∷ []) es))

pub by_events : (c : ConfigValues) (P : List AcceptedCall → Type 0) → P []
    → ((es : List AcceptedCall) (e : AcceptedCall) → AreAccepted c es → IsAccepted c es e → P es → P (es ++ e ∷ []))
    → (es : List AcceptedCall) → AreAccepted c es → P es
unfolding AreAcceptedAfter
by_events c P first go es all = by_later_events c P go [] es tt first all

-- ---- sizes

-- One more event.
pub size_then : (M id : ℕ) (es : List AcceptedCall) (e : AcceptedCall)
    → size_on M id (es ++ e ∷ []) ≡ size_by id e (size_on M id es)
unfolding size_on
size_then M id [] e = refl
size_then M id (d ∷ es) e = size_then (size_by id d M) id es e

-- The size never decreases.
size_rises : (id : ℕ) (e : AcceptedCall) (M : ℕ) → M ≤ size_by id e M
size_rises id e M = grind (arith, nat_tests)

pub size_grows : (M id : ℕ) (es : List AcceptedCall) → M ≤ size_on M id es
unfolding size_on
size_grows M id [] = omega arith
size_grows M id (e ∷ es) = omega (arith, size_rises id e M, size_grows (size_by id e M) id es)

-- A size announced on another connection.
pub announced_elsewhere : (id other size : ℕ) → other ≢ id → (M : ℕ) → size_by id (Announced other size) M ≡ M
announced_elsewhere id other size apart M = rw (ne_eqb other id apart) refl

-- An event that is no announcement does not change the size.
abbrev pub size_stays : ℕ → AcceptedCall → Type 0
size_stays id e = (M : ℕ) → size_by id e M ≡ M

pub sizes_then : (M id : ℕ) (es : List AcceptedCall) (e : AcceptedCall) → size_stays id e
    → sizes_on M id (es ++ e ∷ []) ≡ sizes_on M id es
unfolding sizes_on
sizes_then M id [] e stays = grind (arith, first_always)
sizes_then M id (d ∷ es) e stays = grind (arith, sizes_then (size_by id d M) id es e stays)

-- No earlier size was larger than the current one.
sizes_within : (M id : ℕ) (es : List AcceptedCall) (at : ℕ) → sizes_on M id es at ≤ size_on M id es
unfolding size_on sizes_on
sizes_within M id [] at = omega arith
sizes_within M id (e ∷ es) at =
    let N = size_by id e M in
    grind (arith, nat_tests, size_rises, size_grows, sizes_within N id es (at - length (taken_in id e)))

-- The current size applies to the bytes that follow.
sizes_now : (M id : ℕ) (es : List AcceptedCall) (at : ℕ) → length (taken_on id es) ≤ at
    → sizes_on M id es at ≡ size_on M id es
unfolding size_on sizes_on taken_on
sizes_now M id [] at past = refl
sizes_now M id (e ∷ es) at past =
    grind (arith, length-append, nat_tests, sizes_now (size_by id e M) id es (at - length (taken_in id e)))

-- An event does not change the sizes of its own and earlier bytes.
sizes_before : (M id : ℕ) (es : List AcceptedCall) (e : AcceptedCall) (at : ℕ)
    → at < length (taken_on id (es ++ e ∷ [])) → sizes_on M id (es ++ e ∷ []) at ≡ sizes_on M id es at
unfolding sizes_on taken_on
sizes_before M id [] e at within = grind (arith, nat_tests, length-append)
sizes_before M id (d ∷ es) e at within =
    grind (arith, length-append, nat_tests, sizes_before (size_by id d M) id es e (at - length (taken_in id d)))

-- ---- streams

-- The bytes of an event are read with the sizes before it.
pub read_before : (M id : ℕ) (es : List AcceptedCall) (e : AcceptedCall)
    → stream_on M id (es ++ e ∷ []) ≡ sized_split (sizes_on M id es) (taken_on id es ++ taken_in id e)
read_before M id es e = grind (arith, split_same_to, sizes_before, taken_then)

-- An event without bytes of a connection does not change its stream: any event but `Took`, by refl, and `Took` of
-- another connection.
pub stream_same : (M id : ℕ) (es : List AcceptedCall) (e : AcceptedCall) → taken_in id e ≡ []
    → stream_on M id (es ++ e ∷ []) ≡ stream_on M id es
stream_same M id es e none = read_before M id es e ∙ rw (none, append-nil (taken_on id es)) refl

-- The bytes left over are unfinished for the current size.
pub rest_unfinished : (M id : ℕ) (es : List AcceptedCall) → (stream_on M id es).fault ≡ None
    → prefix_kind (size_on M id es) (stream_on M id es).rest ≡ Unfinished
rest_unfinished M id es none =
    left_unfinished (sizes_on M id es) (size_on M id es) (taken_on id es) (sizes_within M id es) none

-- All streams at once, for an event without bytes on any connection.
pub streams_same : (M : ℕ) (es : List AcceptedCall) (e : AcceptedCall) → ((id : ℕ) → taken_in id e ≡ [])
    → ◌≡◌ {A = ℕ → Stream} (λ id. stream_on M id (es ++ e ∷ [])) (λ id. stream_on M id es)
streams_same M es e none = grind (arith, stream_same M)

pub taken_elsewhere : (id other : ℕ) (bytes : List ℕ) → other ≢ id → taken_in id (Took other bytes) ≡ []
taken_elsewhere id other bytes apart = rw (ne_eqb other id apart) refl

pub taken_here : (id : ℕ) (bytes : List ℕ) → taken_in id (Took id bytes) ≡ bytes
taken_here id bytes = rw (eq-eqb id id refl) refl

pub stream_elsewhere : (M id other : ℕ) (es : List AcceptedCall) (bytes : List ℕ) → other ≢ id
    → stream_on M id (es ++ Took other bytes ∷ []) ≡ stream_on M id es
stream_elsewhere M id other es bytes apart =
    stream_same M id es (Took other bytes) (taken_elsewhere id other bytes apart)

-- The bytes of an event continue the stream with the current size.
stream_by : (M id : ℕ) (es : List AcceptedCall) (e : AcceptedCall)
    → stream_on M id (es ++ e ∷ []) ≡ split_on (size_on M id es) (stream_on M id es) (taken_in id e)
stream_by M id es e = grind (arith, read_before, went_on, sizes_within, sizes_now)

pub stream_more : (M id : ℕ) (es : List AcceptedCall) (bytes : List ℕ)
    → stream_on M id (es ++ Took id bytes ∷ []) ≡ split_on (size_on M id es) (stream_on M id es) bytes
stream_more M id es bytes = stream_by M id es (Took id bytes) ∙ rw (taken_here id bytes) refl

-- ---- stream and current size

-- The stream after more bytes, with the size after a change.
abbrev pub spelled_by : Stream × ℕ → List ℕ → (ℕ → ℕ) → Stream × ℕ
spelled_by s bytes size = (split_on s.1 s.0 bytes, size s.1)

pub spelled_then : (M id : ℕ) (es : List AcceptedCall) (e : AcceptedCall)
    → spelled_on M id (es ++ e ∷ []) ≡ spelled_by (spelled_on M id es) (taken_in id e) (size_by id e)
spelled_then M id es e = rw (stream_by M id es e, size_then M id es e) refl

-- An event without bytes and announcement on a connection changes neither.
pub spelled_same : (M id : ℕ) (es : List AcceptedCall) (e : AcceptedCall) → taken_in id e ≡ [] → size_stays id e
    → spelled_on M id (es ++ e ∷ []) ≡ spelled_on M id es
spelled_same M id es e none stays = grind (arith, stream_same, size_then)

-- At first the stream is empty.
abbrev pub nothing_spelled : ℕ → Stream × ℕ
nothing_spelled M = (record { messages = []; rest = []; fault = None }, M)

pub first_spelled : (M id : ℕ) → spelled_on M id [] ≡ nothing_spelled M
unfolding sizes_on taken_on size_on
first_spelled M id = grind (arith, split_is M, split_unfinished M, unfinished_empty M)

-- A property of each step that accepted bytes make.
pub each_beyond : (P : Step → Type 0) (id : ℕ) (before after : Stream) → ((m : Message) → P (world.Handled id m))
    → ((fault : StreamFault) → P (world.Faulted id fault)) → AllByRecursion P (beyond id before after)
each_beyond P id before after handled faulted =
    by (drop (length before.messages) after.messages) before.fault after.fault
  where
    by : (ms : List Message) (f g : Option StreamFault)
        → AllByRecursion P (map (world.Handled id) ms ++ new_fault id f g)
    by [] f None = tt
    by [] None (Some g) = (faulted g, tt)
    by [] (Some f) (Some g) = tt
    by (m ∷ ms) f g = (handled m, by ms f g)
