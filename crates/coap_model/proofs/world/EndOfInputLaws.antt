-- Facts that hold of every world, and the theorem that no change is lost in it.
use Rattle.std.proofs.Common.{◌≡◌, ℕ, ◌≤◌, Bool, false, List, [], ◌∷◌, map, Some, refl, arith, ◌&&◌, rules}
use Rattle.coap_model.specs.Prelude.{AllByRecursion, LimitValues, StoreValue, found_in, Change, Put, Delete, changed}
use Rattle.coap_model.specs.Prelude.{ConfigValues, Connection, side_after, change_after, side_ended, IsUpToDate}
use Rattle.coap_model.specs.Prelude.{ConnectionEntry, World, new_world, side_of, stored_after, Step, Handled, acted}
use Rattle.coap_model.specs.Prelude.{settled_place, step, after_steps, AcceptedCall, steps_of, world_after}
use Rattle.coap_model.specs.Prelude.{takes_messages, normalised_step, received_steps, normalised_steps, all_settled}
use Rattle.coap_model.specs.Prelude.{on_side}
use Rattle.std.proofs.lemmas.Bool.Decides.{nat_tests}
use Rattle.std.proofs.lemmas.Bool.{leb-true}
use Rattle.coap_model.specs.world.World.{changed_at, Opened, Ticked, Stored, Removed, Responded, Dropped}
use Rattle.coap_model.proofs.world.KnownLaws.{still_versioned, IsVersioned}
use Rattle.coap_model.proofs.world.AcrossLaws.{world_keeps}
use Rattle.coap_model.proofs.world.EntryLemmas.{all_to, all_append, all_filter, all_map, all_stay}
use Rattle.coap_model.proofs.world.SideLaws.{IsKnownSide, still_known_side, plain_known, responded_known, after_known}
use Rattle.coap_model.proofs.world.SideLaws.{hears_at_rest, settled_rests, settled_known, side_at_rest_stays}
use Rattle.coap_model.proofs.world.WalkLaws.{there_or_not, Fault, Write, End, Release, Announcement}
use Rattle.coap_model.proofs.world.PlaceLaws.{AreDistinct, of_each}
use Rattle.coap_model.proofs.world.ReachedLaws.{step_distinct}
use Rattle.coap_model.specs.world.World as world

-- ---- facts on a world

-- The facts hold of the connection in a place.
abbrev pub IsKnownPlace : StoreValue → ConnectionEntry → Type 0
IsKnownPlace store p = IsKnownSide store p.side

pub record IsKnownWorld (w : World) : Type 0 where
  pub versioned : IsVersioned w.store
  pub moment : w.now ≤ 18446744073709551615
  pub places : AllByRecursion (IsKnownPlace w.store) w.sides

-- ---- steps

-- A world with these connections has the facts.
with_places : (w : World) (sides : List ConnectionEntry) → IsKnownWorld w → AllByRecursion (IsKnownPlace w.store) sides
    → IsKnownWorld (record w { sides = sides })
with_places w sides known places = grind arith

on_side_known : (w : World) (id : ℕ) (f : Connection → Connection)
    → ((s : Connection) → IsKnownSide w.store s → IsKnownSide w.store (f s)) → IsKnownWorld w
    → IsKnownWorld (on_side id f w)
on_side_known w id f keeps known =
    with_places w _ known (all_map (IsKnownPlace w.store) _ (changed_at id f)
    (λ p is. grind arith) w.sides
    known.places)

-- Any change of the store keeps the facts.
changed_known : (w : World) (change : Change) → IsKnownWorld w
    → IsKnownWorld (record w { store = changed w.store change })
changed_known w change known = search (rules, still_versioned, all_to, still_known_side)

pub acted_known : (limits : LimitValues) (w : World) (s : Step) → IsKnownWorld w → IsKnownWorld (acted limits w s)
unfolding acted
acted_known limits w (Opened id) known = grind (arith, all_append)
acted_known limits w (Handled id m) known =
    let after = on_side_known w id (λ s. side_after w.store w.now s m)
    (λ s. after_known w.store w.now known.moment known.versioned s m) known in
    there_or_not (side_of id w.sides)
    (λ found. IsKnownWorld
    (record (on_side id (λ s. side_after w.store w.now s m) w) { store = stored_after w m found }))
    (λ e. after) (λ s e. changed_known _ (change_after w.store w.now s m) after)
acted_known limits w (Ticked now) known = grind (arith, leb-true)
acted_known limits w (Stored path format bytes) known = grind (arith, changed_known w (Put path format bytes) known)
acted_known limits w (Removed path) known = changed_known w (Delete path) known
acted_known limits w (Responded id m) known = on_side_known w id _ (λ s. responded_known w.store s m) known
acted_known limits w (Dropped id) known = grind (arith, with_places, all_filter)
acted_known limits w other known =
    search (rules, on_side_known, plain_known, Fault, Write, End, Release, Announcement)

step_known : (limits : LimitValues) (w : World) (s : Step) → IsKnownWorld w → IsKnownWorld (step limits w s)
unfolding step
step_known limits w s before =
    let v = acted limits w s in
    let known = acted_known limits w s before in
    with_places v _ known (all_map (IsKnownPlace v.store) _ (settled_place v.store v.now)
    (λ p. settled_known v.store v.now known.moment known.versioned p.side) v.sides known.places)

-- The facts hold of the world after any events.
pub world_known : (c : ConfigValues) (events : List AcceptedCall) → c.starts.moment ≤ 18446744073709551615
    → IsKnownWorld (world_after c events)
unfolding found_in
world_known c events small =
    let versioned : IsVersioned (new_world c).store = grind arith in
    world_keeps c IsKnownWorld (step_known c.limits)
    (record { versioned = versioned; moment = small; places = tt }) events

-- ---- no change is lost

-- On each connection with room, each observer was last sent the current state of its path, and no pending entry is due.
abbrev pub AllHear : World → Type 0
AllHear w = AllByRecursion (λ p. IsUpToDate w.store w.now p.side) w.sides

settled_hear : (store : StoreValue) (now : ℕ) (ps : List ConnectionEntry)
    → AllByRecursion (λ p. IsUpToDate store now p.side) (map (settled_place store now) ps)
settled_hear store now [] = tt
settled_hear store now (p ∷ ps) =
    (grind (arith, hears_at_rest, settled_rests, settled_hear store now ps))

pub step_hears : (limits : LimitValues) (w : World) (s : Step) → AllHear (step limits w s)
unfolding step
step_hears limits w s = grind (arith, settled_hear)

-- The same after any events.
pub world_hears : (c : ConfigValues) (events : List AcceptedCall) → AllHear (world_after c events)
world_hears c = world_keeps c AllHear (λ w s hear. step_hears c.limits w s) tt

-- A world in which no change is lost is settled.
pub world_stays : (w : World) → AllHear w → all_settled w ≡ w
world_stays w hear = grind (arith, all_stay, all_to, side_at_rest_stays)

-- ---- the end of input

-- After a stop, the end of input has no effect, whether it cuts a message or not.
ends_if_taking : (s : Connection) (cut : Bool) → side_ended s (takes_messages s.history.phase && cut) ≡ side_ended s cut
unfolding side_ended
ends_if_taking s cut = grind arith

map_same : {B : Type 0} (f g : ConnectionEntry → B) (ps : List ConnectionEntry)
    → AllByRecursion (λ p. f p ≡ g p) ps → map f ps ≡ map g ps
map_same f g [] each = refl
map_same f g (p ∷ ps) each = cc (each.0, map_same f g ps each.1)

-- Two functions agree on all places if they agree on the connection of each id.
pub each_same : {B : Type 0} (f g : ConnectionEntry → B) (ps : List ConnectionEntry) → AreDistinct ps
    → ((id : ℕ) (s : Connection) → side_of id ps ≡ Some s
    → f (record { id = id; side = s }) ≡ g (record { id = id; side = s })) → map f ps ≡ map g ps
each_same f g ps distinct same =
    map_same f g ps
    (of_each (λ id s. f (record { id = id; side = s }) ≡ g (record { id = id; side = s })) ps distinct same)

-- ---- a step, and all of them

received_acted : (limits : LimitValues) (w : World) (s : Step) → AreDistinct w.sides
    → acted limits w (normalised_step w s) ≡ acted limits w s
unfolding acted
received_acted limits w s distinct = grind (arith, each_same, nat_tests, ends_if_taking)

all_received : (limits : LimitValues) (w : World) (ss : List Step) → AreDistinct w.sides
    → after_steps limits w (received_steps limits w ss) ≡ after_steps limits w ss
unfolding after_steps received_steps world.step
all_received limits w [] distinct = refl
all_received limits w (s ∷ ss) distinct =
    rw (received_acted limits w s distinct, after_steps)
    (all_received limits (world.step limits w s) ss (step_distinct limits w s distinct))

-- The received steps lead to the same world as the events.
pub received_world : (c : ConfigValues) (es : List AcceptedCall)
    → after_steps c.limits (new_world c) (normalised_steps c es) ≡ world_after c es
unfolding normalised_steps world_after
received_world c es = all_received c.limits (new_world c) (steps_of c.limits.max_message es) tt

-- So if the received steps are equal, the worlds are equal.
pub same_received : (c : ConfigValues) (es fs : List AcceptedCall) → normalised_steps c es ≡ normalised_steps c fs
    → world_after c es ≡ world_after c fs
same_received c es fs alike = grind (arith, received_world c es, received_world c fs)

-- Equal steps are received as equal steps.
pub received_alike : (c : ConfigValues) (es fs : List AcceptedCall)
    → steps_of c.limits.max_message es ≡ steps_of c.limits.max_message fs
    → normalised_steps c es ≡ normalised_steps c fs
unfolding normalised_steps
received_alike c es fs alike = grind arith

-- The end of input after a stop.
pub quiet_end : (w : World) (id : ℕ) (s : Connection) (cut : Bool) → side_of id w.sides ≡ Some s
    → takes_messages s.history.phase ≡ false → normalised_step w (world.Ended id cut) ≡ world.Ended id false
quiet_end w id s cut there over = grind arith
