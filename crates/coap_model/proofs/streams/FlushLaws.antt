-- A flush leaves no queued bytes. If none are queued, a flush changes nothing.
use Rattle.std.proofs.Common.{◌≡◌, ℕ, zero, suc, ◌+◌, ◌≤◌, List, [], ◌++◌, length, Some, refl, sym, ap, subst, ◌∙◌, ◌⊎◌}
use Rattle.std.proofs.Common.{inl, inr, arith, append_assoc}
use Rattle.coap_model.specs.Prelude.{Message, LimitValues, StoreValue, is_due, Connection, waiting_on, side_written}
use Rattle.coap_model.specs.Prelude.{settled_once, settled_within, settled, World, Step, side_of, acted, step}
use Rattle.coap_model.specs.Prelude.{waiting_of, more_of, written_once, written_times, flushed}
use Rattle.std.proofs.Math.Nat.{add-zero}
use Rattle.std.proofs.lemmas.Bool.{le-leb}
use Rattle.std.proofs.lemmas.List.{append-nil, length-drop, drop_all}
use Rattle.coap_model.specs.world.World as world
use Rattle.coap_model.proofs.world.GrowLaws.{settled_handled, written_handled}
use Rattle.coap_model.proofs.world.EntryLemmas.{all_stay, all_to, count_within}
use Rattle.coap_model.proofs.world.SideLaws.{IsAtRest, left_on, once_less, at_rest, settled_rests, side_at_rest_stays}
use Rattle.coap_model.proofs.world.PlaceLaws.{AreDistinct, places_unchanged}
use Rattle.coap_model.proofs.world.EndOfInputLaws.{AllHear, step_hears}
use Rattle.coap_model.proofs.world.CustodyLaws.{written_same}
use Rattle.coap_model.proofs.world.WalkLaws.{written_between}
use Rattle.coap_model.proofs.world.AcrossLaws.{written_there}
use Rattle.coap_model.proofs.world.ReachedLaws.{step_distinct}
use Rattle.coap_model.proofs.world.LimitLaws.{step_fits}

-- ---- one write

-- A write does not change the observers.
written_observers : (s : Connection) (n : ℕ) → (side_written s n).observers ≡ s.observers
unfolding side_written
written_observers s n = grind arith

-- After all queued bytes were written, none are queued.
written_empties : (s : Connection) → waiting_on (side_written s (length (waiting_on s))) ≡ []
unfolding side_written
written_empties s = grind (arith, le-leb, drop_all, length-drop)

-- Writing zero bytes does not change the connection.
none_written : (s : Connection) → side_written s 0 ≡ s
unfolding side_written
none_written s = rw (le-leb 0 (length (waiting_on s)) (omega arith), add-zero) refl

-- ---- the number of messages still to be sent

-- Settling does not increase the number.
within_left : (turns : ℕ) (store : StoreValue) (now : ℕ) (s : Connection)
    → left_on store now (settled_within turns store now s) ≤ left_on store now s
unfolding settled_within
within_left zero store now s = omega arith
within_left (suc turns) store now s = grind (
  arith,
  once_less store now s,
  at_rest (suc turns) store now s,
  within_left turns store now (settled_once store now s),
)

-- If settling sends anything, the number decreases.
within_less : (turns : ℕ) (store : StoreValue) (now : ℕ) (s : Connection) → left_on store now s ≤ turns
    → IsAtRest store now s ⊎ (left_on store now (settled_within turns store now s) + 1 ≤ left_on store now s)
unfolding settled_within
within_less turns store now s few = grind (arith, once_less, within_left)

-- The number is at most that of pending entries and observers together.
left_within : (store : StoreValue) (now : ℕ) (s : Connection) → left_on store now s ≤ more_of (Some s)
left_within store now s = omega (arith, count_within (is_due store now) s.observers)

-- Settling sends nothing, or the number decreases.
settled_less : (store : StoreValue) (now : ℕ) (s : Connection)
    → IsAtRest store now s ⊎ (left_on store now (settled store now s) + 1 ≤ left_on store now s)
unfolding settled
settled_less store now s = within_less (more_of (Some s)) store now s (left_within store now s)

-- ---- a connection in one round of a flush

-- The connection after all its queued bytes were written and it settled.
abbrev side_once : StoreValue → ℕ → Connection → Connection
side_once store now s = settled store now (side_written s (length (waiting_on s)))

-- No bytes are queued, and nothing is due.
abbrev IsFlushedAndAtRest : StoreValue → ℕ → Connection → Type 0
IsFlushedAndAtRest store now s = (waiting_on s ≡ []) × IsAtRest store now s

once_stays : (store : StoreValue) (now : ℕ) (s : Connection) → IsFlushedAndAtRest store now s
    → side_once store now s ≡ s
unfolding settled
once_stays store now s rests = rw (rests.0, none_written) (at_rest (more_of (Some s)) store now s rests.1)

-- After a round no bytes are queued, or fewer messages are to be sent.
once_turn : (store : StoreValue) (now : ℕ) (s : Connection) → IsFlushedAndAtRest store now (side_once store now s)
    ⊎ (left_on store now (side_once store now s) + 1 ≤ left_on store now s)
unfolding settled
once_turn store now s =
    grind (arith, written_same, written_observers, settled_less, at_rest, written_empties, settled_rests)

-- If nothing is pending and there is no observer, a round leaves this so and does not change the phase.
once_alone : (store : StoreValue) (now : ℕ) (s : Connection) → more_of (Some s) ≡ 0
    → (more_of (Some (side_once store now s)) ≡ 0) × ((side_once store now s).history.phase ≡ s.history.phase)
unfolding settled settled_within
once_alone store now s none =
    let n = length (waiting_on s) in
    let u = side_written s n in
    let none_left : more_of (Some u) ≡ 0 = cc (written_same s n, written_observers s n, none) in
    let stays : side_once store now s ≡ u = ap (λ turns. settled_within turns store now u) none_left in (
      ap (λ t. more_of (Some t)) stays ∙ none_left,
      ap (λ t. t.history.phase) stays
          ∙ written_between (λ h k. k.phase ≡ h.phase) (λ h. refl) (λ h n within. refl) s n,
    )

-- ---- a world, round by round

-- The effect of a number of rounds of a flush on a world and a connection in it. More is queued on the connection, and
-- no message was handled. The phase is the same if nothing was pending and nobody observed. Finally no bytes are queued
-- and nothing is due, or fewer messages are to be sent.
pub record IsLeft (id turns : ℕ) (w : World) (s : Connection) (v : World) : Type 0 where
  pub side : Connection
  pub there : side_of id v.sides ≡ Some side
  pub distinct : AreDistinct w.sides → AreDistinct v.sides
  pub more : List Message
  pub queued : side.history.queued ≡ s.history.queued ++ more
  pub handled : side.history.handled ≡ s.history.handled
  pub alone : more_of (Some s) ≡ 0 → (more_of (Some side) ≡ 0) × (side.history.phase ≡ s.history.phase)
  pub rests : IsFlushedAndAtRest v.store v.now side ⊎ (left_on v.store v.now side + turns ≤ left_on v.store v.now s)

turns_leave : (limits : LimitValues) (id turns : ℕ) (w : World) (s : Connection) → side_of id w.sides ≡ Some s
    → IsLeft id turns w s (written_times limits id turns w)
unfolding written_times step acted
turns_leave limits id zero w s there = grind (arith, append-nil)
turns_leave limits id (suc turns) w s there =
    let v = written_times limits id turns w in
    let so_far = turns_leave limits id turns w s there in
    let t = so_far.side in
    let st = world.Written id (length (waiting_of (side_of id v.sides))) in
    let n = length (waiting_on t) in
    let next = side_once v.store v.now t in
    let there_now : side_of id (written_once limits id v).sides ≡ Some next =
    rw so_far.there (written_there limits v id n t so_far.there) in
    let fits = step_fits limits v st id t next so_far.there there_now in
    record {
      side = next;
      there = there_now;
      distinct = λ are. step_distinct limits v st (so_far.distinct are);
      more = so_far.more ++ fits.0;
      queued =
          grind (arith, append_assoc);
      handled = settled_handled v.store v.now (side_written t n) ∙ written_handled t n ∙ so_far.handled;
      alone = λ none. grind (arith, once_alone v.store v.now t);
      rests = grind (arith, once_stays, once_turn);
    }

-- The number of rounds that a flush has on this connection.
pub flushed_so : (limits : LimitValues) (id : ℕ) (w : World) (s : Connection) → side_of id w.sides ≡ Some s
    → flushed limits id w ≡ written_times limits id (suc (more_of (Some s))) w
unfolding flushed
flushed_so limits id w s there = grind arith

-- A flush leaves no queued bytes: one round more than the number of pending entries and observers is enough.
pub flush_leaves : (limits : LimitValues) (id : ℕ) (w : World) (s : Connection) → side_of id w.sides ≡ Some s
    → (left : IsLeft id (suc (more_of (Some s))) w s (flushed limits id w)) × (waiting_on left.side ≡ [])
flush_leaves limits id w s there =
    let turns = suc (more_of (Some s)) in
    let left =
    subst (IsLeft id turns w s) (sym (flushed_so limits id w s there)) (turns_leave limits id turns w s there) in (
      left,
      elim left.rests [
        | inl rests ↦ rests.0
        | inr few ↦ grind (arith, left_within)
      ],
    )

-- ---- no queued bytes

-- In a world in which no change is lost, a step without an effect of its own changes nothing.
pub idle_step : (limits : LimitValues) (w : World) (st : Step) → AllHear w
    → acted limits w st ≡ w → step limits w st ≡ w
unfolding step
idle_step limits w st hear idle =
    grind (arith, all_to, side_at_rest_stays, all_stay)

-- If no bytes are queued, a round does not change the world.
quiet_once : (limits : LimitValues) (id : ℕ) (w : World) (s : Connection) → AllHear w → side_of id w.sides ≡ Some s
    → waiting_on s ≡ [] → written_once limits id w ≡ w
unfolding acted
quiet_once limits id w s hear there none =
    rw (there, none) (idle_step limits w (world.Written id 0) hear (simp (none_written, places_unchanged)))

-- A property of a number that passes on to the next number holds of all larger numbers.
pub from_there_on : (P : ℕ → Type 0) (few many : ℕ) → few ≤ many → P few → ((n : ℕ) → P n → P (suc n)) → P many
from_there_on P few zero within first on = grind arith
from_there_on P few (suc many) within first on = grind (arith, from_there_on P few many)

-- Further rounds of a flush do not change it either.
pub times_further : (limits : LimitValues) (id turns most : ℕ) (w : World) (t : Connection) → AllHear w
    → side_of id (written_times limits id turns w).sides ≡ Some t → waiting_on t ≡ [] → turns ≤ most
    → written_times limits id turns w ≡ written_times limits id most w
unfolding written_times
times_further limits id turns most w t hear there none within =
    let v = written_times limits id turns w in
    let takes_input : AllHear v = grind (arith, from_there_on, step_hears) in
    from_there_on (λ n. v ≡ written_times limits id n w) turns most within refl
    (λ n same. grind (arith, quiet_once))

-- A flush does not change it either.
pub quiet_flush : (limits : LimitValues) (id : ℕ) (w : World) (s : Connection) → AllHear w → side_of id w.sides ≡ Some s
    → waiting_on s ≡ [] → flushed limits id w ≡ w
unfolding flushed written_times
quiet_flush limits id w s hear there none =
    sym (times_further limits id 0 (suc (more_of (side_of id w.sides))) w s hear there none (omega arith))
