-- Other connections affect a connection through the store alone: after the steps that it views, it is the same as after
-- all steps.
use Rattle.std.proofs.Common.{◌≡◌, ℕ, true, false, List, [], ◌∷◌, map, Option, Some, None, refl, is_none, option_map}
use Rattle.std.proofs.Common.{◌==◌, arith}
use Rattle.std.proofs.lemmas.Bool.Decides.{nat_tests}
use Rattle.std.proofs.lemmas.Bool.{eqb-false}
use Rattle.coap_model.specs.Prelude.{Message, LimitValues, Path, Representation, StoreValue, is_dynamic, kind_of_path}
use Rattle.coap_model.specs.Prelude.{key_for, state_at, target_of, Change, Nothing, Put, Delete, changed, stored_under}
use Rattle.coap_model.specs.Prelude.{deletion, answer_at, answer_of, immediate_answer, prompt_answer, put_refusal}
use Rattle.coap_model.specs.Prelude.{remove_refusal, ConfigValues, Connection, new_side, side_after, change_after}
use Rattle.coap_model.specs.Prelude.{side_faulted, side_written, side_ended, side_released, side_announced}
use Rattle.coap_model.specs.Prelude.{side_responded, settled, World, Step, new_world, side_of, stored_after, acted}
use Rattle.coap_model.specs.Prelude.{after_steps, change_steps, change_on, concerns, view_step, view_of, after_view}
use Rattle.coap_model.specs.Prelude.{AllConcern}
use Rattle.coap_store.specs.Answer.{Answer}
use Rattle.coap_store.proofs.AnswerLaws.{answer_cases, get_cases, store_cases, CanStore, key_is, state_dynamic}
use Rattle.coap_store.proofs.AnswerLaws.{change_finally, change_without_hold}
use Rattle.coap_model.specs.world.World.{changed_at}
use Rattle.coap_model.specs.world.World as world
use Rattle.coap_model.specs.world.View.{change_by}
use Rattle.coap_store.proofs.ApplicationLaws.{prompt_cases}
use Rattle.coap_model.proofs.world.StepLaws.{steps_then}
use Rattle.coap_model.proofs.world.PlaceLaws.{first_there, nobody, all_there, changed_here, changed_elsewhere}
use Rattle.coap_model.proofs.world.PlaceLaws.{new_there, other_more, dropped_here, dropped_elsewhere}
use Rattle.coap_model.proofs.world.AcrossLaws.{opened_world}
use Rattle.coap_model.proofs.world.EntryLemmas.{all_append}
use Rattle.coap_model.proofs.world.SideLaws.{at_rest, settled_rests}
use Rattle.coap_conn.proofs.AskingLaws.{none_where}

-- ---- the store does not refuse a change that a message makes

-- Neither a put nor a removal is refused.
abbrev pub IsNotRefused : StoreValue → Change → Type 0
IsNotRefused s Nothing = Unit {0}
IsNotRefused s (Put path format bytes) = put_refusal s path bytes ≡ None
IsNotRefused s (Delete path) = remove_refusal s path ≡ None

-- The checks of a put are those of the request that makes it.
put_passes : (s : StoreValue) (now : ℕ) (path q : Path) (m : Message) → is_dynamic (kind_of_path path) ≡ true
    → CanStore s (target_of s now path) m → key_for path ≡ Some q → put_refusal s q m.payload ≡ None
unfolding put_refusal
put_passes s now path q m dynamic can key =
    grind (arith, nat_tests, key_is path q key, state_dynamic s now (key_for path) (kind_of_path path) dynamic)

stored_passes : (s : StoreValue) (key : Option Path) (state : Option Representation) (m : Message)
    → ((q : Path) → key ≡ Some q → put_refusal s q m.payload ≡ None) → IsNotRefused s (stored_under key state m).change
stored_passes s key state m passes = grind arith

deletion_by : (s : StoreValue) (now : ℕ) (path : Path) (key : Option Path) (state : Option Representation)
    → is_dynamic (kind_of_path path) ≡ true → key_for path ≡ key
    → state_at s now (key_for path) (kind_of_path path) ≡ state → IsNotRefused s (deletion key state)
unfolding remove_refusal
deletion_by s now path (Some q) (Some r) dynamic key found =
    grind (arith, key_is path q key, state_dynamic s now (key_for path) (kind_of_path path) dynamic)
deletion_by s now path key state dynamic is found = tt

answer_passes : (s : StoreValue) (now : ℕ) (path : Path) (m : Message)
    → IsNotRefused s (answer_at s (target_of s now path) m).change
answer_passes s now path m =
    let t = target_of s now path in
    let P : Answer → Type 0 = λ a. IsNotRefused s a.change in
    answer_cases P s t m (λ c e. tt) (record {
      read = λ r is. grind (arith, get_cases P t.place r m);
      deleted = λ dynamic other. grind (arith, deletion_by);
      stored = λ dynamic other.
          grind (arith, store_cases P s t m, stored_passes s t.key t.state m, put_passes s now path);
    })

immediate_passes : (s : StoreValue) (now : ℕ) (m : Message) → IsNotRefused s (immediate_answer s now m).change
unfolding immediate_answer answer_of
immediate_passes s now m =
    grind (arith, change_without_hold, change_finally, answer_passes)

prompt_passes : (s : StoreValue) (now : ℕ) (m : Message) → IsNotRefused s (prompt_answer s now m).change
prompt_passes s now m = prompt_cases s now m (λ a. IsNotRefused s a.change) tt (immediate_passes s now m)

on_passes : (w : World) (m : Message) (there : Option Connection) → IsNotRefused w.store (change_on w m there)
unfolding change_after
on_passes w m there = grind (arith, prompt_passes)

pub by_passes : (w : World) (s : Step) → IsNotRefused w.store (change_by w s)
by_passes w s = grind (arith, on_passes)

-- ---- the part of a world that matters to a connection

-- The store, the time, and the connection if it exists.
pub record Share : Type 0 where
  pub store : StoreValue
  pub now : ℕ
  pub side : Option Connection

abbrev pub share : StoreValue → ℕ → Option Connection → Share
share store now side = record { store = store; now = now; side = side }

abbrev pub share_of : ℕ → World → Share
share_of id w = share w.store w.now (side_of id w.sides)

-- ---- settling

abbrev pub settled_share : Share → Share
settled_share x = record x { side = option_map (settled x.store x.now) x.side }

settled_again : (store : StoreValue) (now : ℕ) (there : Option Connection)
    → option_map (settled store now) (option_map (settled store now) there) ≡ option_map (settled store now) there
unfolding settled
settled_again store now there = grind (arith, at_rest, settled_rests)

-- Settling does not change this part.
abbrev pub SettlesAlike : ℕ → World → Type 0
SettlesAlike id w = settled_share (share_of id w) ≡ share_of id w

-- ---- steps

pub step_share : (limits : LimitValues) (id : ℕ) (w : World) (s : Step)
    → share_of id (world.step limits w s) ≡ settled_share (share_of id (acted limits w s))
unfolding world.step
step_share limits id w s = grind (arith, all_there id)

pub step_rests : (limits : LimitValues) (id : ℕ) (w : World) (s : Step) → SettlesAlike id (world.step limits w s)
step_rests limits id w s = grind (arith, step_share, settled_again)

-- ---- a step that is viewed unchanged

-- A step of a connection with another id.
abbrev pub renamed : ℕ → Step → Step
renamed n (world.Opened id) = world.Opened n
renamed n (world.Handled id m) = world.Handled n m
renamed n (world.Faulted id fault) = world.Faulted n fault
renamed n (world.Written id k) = world.Written n k
renamed n (world.Ended id cut) = world.Ended n cut
renamed n (world.Released id) = world.Released n
renamed n (world.Announced id size) = world.Announced n size
renamed n (world.Responded id m) = world.Responded n m
renamed n (world.Dropped id) = world.Dropped n
renamed n other = other

own_number : (id : ℕ) (s : Step) → concerns id s ≡ true → renamed id s ≡ s
unfolding concerns
own_number id s own = grind (arith, nat_tests)

-- Two worlds with two connections that have the same part.
module _ (limits : LimitValues) (id n : ℕ) (w v : World) (alike : share_of id w ≡ share_of n v) where
  -- A change of the connection and of the store.
  changed_alike : (store : Share → StoreValue) (f : Share → Connection → Connection)
      → share (store (share_of id w)) w.now (side_of id (map (changed_at id (f (share_of id w))) w.sides))
      ≡ share (store (share_of n v)) v.now (side_of n (map (changed_at n (f (share_of n v))) v.sides))
  changed_alike store f = grind (arith, changed_here)

  opened_here : (m : ℕ) (u : World) → is_none (side_of m u.sides) ≡ true
      → share_of m (opened_world limits u m) ≡ record (share_of m u) { side = Some (new_side limits) }
  opened_here m u free = grind (arith, new_there, none_where, first_there)

  acted_alike : (s : Step) → share_of id (acted limits w (renamed id s)) ≡ share_of n (acted limits v (renamed n s))
  unfolding acted
  acted_alike (world.Opened k) = grind (arith, opened_here)
  acted_alike (world.Handled k m) =
      changed_alike (λ x. stored_after (record { sides = []; ids = 0; store = x.store; now = x.now }) m x.side)
      (λ x s. side_after x.store x.now s m)
  acted_alike (world.Faulted k fault) = changed_alike (λ x. x.store) (λ x s. side_faulted s fault)
  acted_alike (world.Written k bytes) = changed_alike (λ x. x.store) (λ x s. side_written s bytes)
  acted_alike (world.Ticked now) = grind (arith, alike)
  acted_alike (world.Stored path format bytes) = grind (arith, alike)
  acted_alike (world.Removed path) = grind arith
  acted_alike (world.Ended k cut) = changed_alike (λ x. x.store) (λ x s. side_ended s cut)
  acted_alike (world.Released k) = changed_alike (λ x. x.store) (λ x. side_released)
  acted_alike (world.Announced k size) = changed_alike (λ x. x.store) (λ x s. side_announced s size)
  acted_alike (world.Responded k m) = changed_alike (λ x. x.store) (λ x s. side_responded s m)
  acted_alike (world.Dropped k) = grind (arith, dropped_here)

  -- A step of the connection, or of none.
  pub own_alike : (s : Step) → concerns id s ≡ true
      → share_of id (world.step limits w s) ≡ share_of n (world.step limits v (renamed n s))
  own_alike s own = grind (arith, step_share, own_number, acted_alike s)

  -- A change of the store that another connection made.
  pub change_alike : (change : Change) → SettlesAlike id w → IsNotRefused w.store change
      → settled_share (share (changed w.store change) w.now (side_of id w.sides))
      ≡ share_of n (after_steps limits v (change_steps change))
  unfolding after_steps acted concerns
  change_alike change rests passes = grind (arith, step_share, own_alike)

-- ---- a step of another connection

-- The store after another connection's message is the store after the change of that message.
stored_by_change : (w : World) (m : Message) (there : Option Connection)
    → stored_after w m there ≡ changed w.store (change_on w m there)
stored_by_change w m there = grind arith

changed_apart : (id other : ℕ) (w : World) (f : Connection → Connection) → (other == id) ≡ false
    → share w.store w.now (side_of id (map (changed_at other f) w.sides)) ≡ share_of id w
changed_apart id other w f apart = grind (arith, changed_elsewhere)

-- Only the store changes, and only by the change of the step.
pub other_did : (limits : LimitValues) (id : ℕ) (w : World) (s : Step) → concerns id s ≡ false
    → share_of id (acted limits w s) ≡ share (changed w.store (change_by w s)) w.now (side_of id w.sides)
unfolding concerns acted
other_did limits id w s apart =
    grind (arith, other_more, eqb-false, changed_elsewhere, stored_by_change, changed_apart, dropped_elsewhere)

-- ---- the view of a step has the same effect

view_alike : (limits : LimitValues) (id : ℕ) (w v : World) (s : Step) → SettlesAlike id w
    → share_of id w ≡ share_of id v
    → share_of id (world.step limits w s) ≡ share_of id (after_steps limits v (view_step id w s))
unfolding view_step after_steps
view_alike limits id w v s rests alike =
    grind (
      arith,
      own_alike limits id id w v alike s,
      own_number id s,
      step_share limits id w s,
      other_did limits id w s,
      change_alike limits id id w v alike (change_by w s) rests (by_passes w s),
    )

-- Each step in turn, from two worlds in which the connection has the same part.
views_alike : (limits : LimitValues) (id : ℕ) (ss : List Step) (w v : World) → SettlesAlike id w
    → share_of id w ≡ share_of id v
    → share_of id (after_steps limits w ss) ≡ share_of id (after_steps limits v (view_of limits id w ss))
unfolding after_steps view_of
views_alike limits id [] w v rests alike = alike
views_alike limits id (s ∷ ss) w v rests alike =
    grind (arith, views_alike limits id ss, step_rests, view_alike, steps_then)

-- ---- each viewed step is one of the connection, or of none

changes_concern : (id : ℕ) (change : Change) → AllConcern id (change_steps change)
unfolding concerns
changes_concern id change = grind arith

step_concerns : (id : ℕ) (w : World) (s : Step) → AllConcern id (view_step id w s)
unfolding view_step
step_concerns id w s = grind (arith, changes_concern id (change_by w s))

pub view_concerns : (limits : LimitValues) (id : ℕ) (w : World) (ss : List Step)
    → AllConcern id (view_of limits id w ss)
unfolding view_of
view_concerns limits id w [] = tt
view_concerns limits id w (s ∷ ss) =
    all_append (λ t. concerns id t ≡ true) (view_step id w s) (view_of limits id (world.step limits w s) ss)
    (step_concerns id w s) (view_concerns limits id (world.step limits w s) ss)

-- ---- from the first world on

pub new_rests : (c : ConfigValues) (id : ℕ) → SettlesAlike id (new_world c)
new_rests c id = rw (nobody id) refl

-- So after its view a connection has the same part as after all steps.
pub view_shares : (c : ConfigValues) (id : ℕ) (ss : List Step)
    → share_of id (after_steps c.limits (new_world c) ss) ≡ share_of id (after_view c id ss)
view_shares c id ss = views_alike c.limits id ss (new_world c) (new_world c) (new_rests c id) refl
