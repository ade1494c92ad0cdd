-- A relation between a connection before and after. If it holds across every effect on a connection, it holds across
-- settling and across each step. So a property that every effect keeps is kept by all events.
use Rattle.std.proofs.Common.{Bool, List, None, Option, Some, [], cond, inl, inr, map, refl, rules, subst, sym, ℕ, ◌++◌}
use Rattle.std.proofs.Common.{◌∙◌, ◌∷◌, ◌≡◌, ◌⊎◌}
use Rattle.std.proofs.lemmas.Bool.{cases_eq, cond_both}
use Rattle.coap_model.specs.Prelude.{AcceptedCall, Change, ConfigValues, Connection, ConnectionEntry, Delete, History}
use Rattle.coap_model.specs.Prelude.{LimitValues, Message, Nothing, Put, Server, Step, StoreValue, StreamFault, World}
use Rattle.coap_model.specs.Prelude.{acted, change_after, changed, new_history, new_side, new_world, settled}
use Rattle.coap_model.specs.Prelude.{settled_once, settled_place, side_after, side_announced, side_ended, side_faulted}
use Rattle.coap_model.specs.Prelude.{side_of, side_released, side_responded, side_written, steps_of, stored_after}
use Rattle.coap_model.specs.Prelude.{world_after}
use Rattle.coap_model.specs.world.World.{changed_at}
use Rattle.coap_wire.proofs.NumberLaws.{none_or_some}
use Rattle.coap_model.specs.world.World as world
use Rattle.coap_model.proofs.world.StepLaws.{steps_keep}
use Rattle.coap_model.proofs.world.PlaceLaws.{all_there, changed_elsewhere, changed_here, dropped_elsewhere}
use Rattle.coap_model.proofs.world.PlaceLaws.{dropped_here, first_there, found, new_there, nobody, still_there}
use Rattle.coap_model.proofs.world.WalkLaws.{Announces, Between, Composes, Ends, Hears, Holds, LetsGo, Pongs, Rejects}
use Rattle.coap_model.proofs.world.WalkLaws.{Releases, Replies, Responds, Writes, after_between, announced_between}
use Rattle.coap_model.proofs.world.WalkLaws.{ended_between, faulted_between, once_between, released_between}
use Rattle.coap_model.proofs.world.WalkLaws.{responded_between, settled_keeps, written_between}
use Rattle.coap_model.proofs.OptionLemmas.{one_made}

-- ---- a step

-- The relation holds across every effect that a step has on the connection with this id.
pub record HoldsOf (R : Connection → Connection → Type 0) (w : World) (st : Step) (id : ℕ) : Type 0 where
  pub same : (s : Connection) → R s s
  pub handled : (m : Message) → st ≡ world.Handled id m → (s : Connection) → R s (side_after w.store w.now s m)
  pub faulted : (fault : StreamFault) → st ≡ world.Faulted id fault → (s : Connection) → R s (side_faulted s fault)
  pub written : (s : Connection) (n : ℕ) → R s (side_written s n)
  pub ended : (s : Connection) (cut : Bool) → R s (side_ended s cut)
  pub released : (s : Connection) → R s (side_released s)
  pub announced : (size : ℕ) → st ≡ world.Announced id size → (s : Connection) → R s (side_announced s size)
  pub responded : (s : Connection) (m : Message) → R s (side_responded s m)
  -- It also holds if settling follows.
  pub reported : (store : StoreValue) (now : ℕ) (s t : Connection) → R s t → R s (settled_once store now t)

-- The relation holds between the connection before a step and after it, or from a new connection if the step opened it.
abbrev pub HoldsFrom : (Connection → Connection → Type 0) → LimitValues → World → Step → ℕ → Connection → Type 0
HoldsFrom R limits w st id t =
    ((s : Connection) × (side_of id w.sides ≡ Some s) × R s t)
    ⊎ ((side_of id w.sides ≡ None) × (st ≡ world.Opened id) × R (new_side limits) t)

-- The world with a new connection.
abbrev pub opened_world : LimitValues → World → ℕ → World
opened_world limits w id = record w { sides = w.sides ++ record { id = id; side = new_side limits } ∷ []; ids = id }

module _ (R : Connection → Connection → Type 0) (limits : LimitValues) (w : World) (st : Step) (id : ℕ)
    (holds : HoldsOf R w st id) where
  same_across : (t : Connection) → side_of id w.sides ≡ Some t → HoldsFrom R limits w st id t
  same_across t e = inl (t, e, holds.same t)

  -- If the step changes only the connection with one id, the relation is known only of that one.
  changed_across : (at : ℕ) (f : Connection → Connection) (t : Connection) → (at ≡ id → (s : Connection) → R s (f s))
      → side_of id (map (changed_at at f) w.sides) ≡ Some t → HoldsFrom R limits w st id t
  changed_across at f t go e = search (rules, cases_eq, one_made, changed_here, same_across, changed_elsewhere)

  opened_across : (at : ℕ) (t : Connection) (there : Option Connection) → st ≡ world.Opened at
      → side_of id w.sides ≡ there → side_of id (w.sides ++ record { id = at; side = new_side limits } ∷ []) ≡ Some t
      → HoldsFrom R limits w st id t
  opened_across at t None is none e = search (rules, found, new_there, none_or_some, nobody)
  opened_across at t (Some s) is there e = same_across t (there ∙ sym (still_there id s w.sides _ there) ∙ e)

  if_across : (v : World) (t : Connection) (does : Bool) → (side_of id v.sides ≡ Some t → HoldsFrom R limits w st id t)
      → side_of id (cond does v w).sides ≡ Some t → HoldsFrom R limits w st id t
  if_across v t does go = search rules

  acted_across : (did : Step) → st ≡ did → (t : Connection) → side_of id (acted limits w did).sides ≡ Some t
      → HoldsFrom R limits w st id t
  unfolding acted
  acted_across (world.Opened at) is t = search (rules, if_across, opened_across)
  acted_across (world.Dropped at) is t =
      search (rules, cases_eq, none_or_some, dropped_here, same_across, dropped_elsewhere)
  acted_across did is t = search (rules, changed_across, if_across, same_across)

  once_across : (store : StoreValue) (now : ℕ) (t : Connection) → HoldsFrom R limits w st id t
      → HoldsFrom R limits w st id (settled_once store now t)
  once_across store now t (inl old) = inl (old.0, old.1, holds.reported store now old.0 t old.2)
  once_across store now t (inr new) = inr (new.0, new.1, holds.reported store now (new_side limits) t new.2)

  pub step_across : (t : Connection) → side_of id (world.step limits w st).sides ≡ Some t → HoldsFrom R limits w st id t
  unfolding world.step
  step_across t e =
      let did : World = acted limits w st in
      let made = one_made (settled did.store did.now) (side_of id did.sides) t
      (sym (all_there id (settled did.store did.now) did.sides) ∙ e) in
      let From : Connection → Type 0 = HoldsFrom R limits w st id in
      subst From made.2
      (settled_keeps From did.store did.now (once_across did.store did.now) made.0 (acted_across st refl made.0 made.1))

-- ---- the effect of a step on an existing connection

pub settles_there : (id : ℕ) (store : StoreValue) (now : ℕ) (f : Connection → Connection) (ps : List ConnectionEntry)
    (s : Connection) → side_of id ps ≡ Some s
    → side_of id (map (settled_place store now) (map (changed_at id f) ps)) ≡ Some (settled store now (f s))
settles_there id store now f ps s there =
    rw (all_there id (settled store now) (map (changed_at id f) ps), changed_here id f ps, there) refl

module _ (limits : LimitValues) (w : World) (id : ℕ) where
  pub opened_there : side_of id w.sides ≡ None
      → side_of id (world.step limits w (world.Opened id)).sides ≡ Some (settled w.store w.now (new_side limits))
  unfolding world.step acted
  opened_there none =
      let place : ConnectionEntry = record { id = id; side = new_side limits } in
      rw (
        none,
        all_there id (settled w.store w.now) (w.sides ++ place ∷ []),
        new_there id w.sides (place ∷ []) none,
        first_there id place [] refl,
      ) refl

  pub handled_there : (m : Message) (s : Connection) → side_of id w.sides ≡ Some s
      → (store : StoreValue) × (side_of id (world.step limits w (world.Handled id m)).sides
      ≡ Some (settled store w.now (side_after w.store w.now s m)))
  unfolding world.step acted
  handled_there m s there = (
    stored_after w m (side_of id w.sides),
    settles_there id _ w.now (λ u. side_after w.store w.now u m) w.sides s there,
  )

  pub faulted_there : (fault : StreamFault) (s : Connection) → side_of id w.sides ≡ Some s
      → side_of id (world.step limits w (world.Faulted id fault)).sides
      ≡ Some (settled w.store w.now (side_faulted s fault))
  unfolding world.step acted
  faulted_there fault s there = settles_there id w.store w.now (λ u. side_faulted u fault) w.sides s there

  pub written_there : (n : ℕ) (s : Connection) → side_of id w.sides ≡ Some s
      → side_of id (world.step limits w (world.Written id n)).sides ≡ Some (settled w.store w.now (side_written s n))
  unfolding world.step acted
  written_there n s there = settles_there id w.store w.now (λ u. side_written u n) w.sides s there

  pub ended_there : (cut : Bool) (s : Connection) → side_of id w.sides ≡ Some s
      → side_of id (world.step limits w (world.Ended id cut)).sides ≡ Some (settled w.store w.now (side_ended s cut))
  unfolding world.step acted
  ended_there cut s there = settles_there id w.store w.now (λ u. side_ended u cut) w.sides s there

-- ---- a relation between histories

-- Every part of an effect keeps the relation.
pub record KeepsAll (R : History → History → Type 0) : Type 0 where
  pub composes : Composes R
  pub takes_input : Hears R
  pub replies : Replies R
  pub holds : Holds R
  pub lets_go : LetsGo R
  pub pongs : Pongs R
  pub rejects : Rejects R
  pub ends : Ends R
  pub releases : Releases R
  pub announces : Announces R
  pub responds : Responds R
  pub writes : Writes R

module _ (R : History → History → Type 0) (keeps : KeepsAll R) where
  pub after_all : (store : StoreValue) (now : ℕ) (s : Connection) (m : Message) → Between R s (side_after store now s m)
  after_all =
      after_between R R keeps.composes.same keeps.composes.then keeps.takes_input keeps.composes.same
      keeps.replies keeps.holds

  pub faulted_all : (s : Connection) (fault : StreamFault) → Between R s (side_faulted s fault)
  faulted_all = faulted_between R keeps.composes.same keeps.rejects

  pub all_across : (w : World) (st : Step) (id : ℕ) → HoldsOf (Between R) w st id
  all_across w st id = record {
    same = λ s. keeps.composes.same s.history;
    handled = λ m is s. after_all w.store w.now s m;
    faulted = λ fault is s. faulted_all s fault;
    written = written_between R keeps.composes.same keeps.writes;
    ended = ended_between R keeps.composes.same keeps.ends;
    released = released_between R keeps.composes.same keeps.releases;
    announced = λ size is s. announced_between R keeps.composes.same keeps.announces s size;
    responded = responded_between R keeps.composes.same keeps.responds;
    reported = λ store now s t is.
        keeps.composes.then s.history t.history _ is
        (once_between R R keeps.composes.same keeps.composes.then keeps.replies keeps.lets_go keeps.pongs store now t);
  }

-- ---- properties kept by steps are kept by events

pub world_keeps : (c : ConfigValues) (P : World → Type 0)
    → ((w : World) (st : Step) → P w → P (world.step c.limits w st)) → P (new_world c)
    → (es : List AcceptedCall) → P (world_after c es)
unfolding world_after
world_keeps c P keeps first es = steps_keep P c.limits keeps (new_world c) (steps_of c.limits.max_message es) first

-- A property P of a new connection holds of every connection after any events, if two conditions hold. The relation R
-- keeps P. In the worlds that the events reach, which have the property W, R holds across every effect.
pub kept_where : (c : ConfigValues) (W : World → Type 0) → W (new_world c)
    → ((w : World) (st : Step) → W w → W (world.step c.limits w st))
    → (R : Connection → Connection → Type 0) (P : Connection → Type 0) → P (new_side c.limits)
    → ((s t : Connection) → R s t → P s → P t) → ((w : World) (st : Step) (id : ℕ) → W w → HoldsOf R w st id)
    → (es : List AcceptedCall) (id : ℕ) (s : Connection) → side_of id (world_after c es).sides ≡ Some s → P s
kept_where c W start goes R P first keeps holds es =
    let Each : World → Type 0 = λ w. (id : ℕ) (s : Connection) → side_of id w.sides ≡ Some s → P s in
    let kept : (w : World) (st : Step) → W w × Each w → W (world.step c.limits w st) × Each (world.step c.limits w st) =
    λ w st both. (
      goes w st both.0,
      λ id t there. elim (step_across R c.limits w st id (holds w st id both.0) t there) [
        | inl old ↦ keeps old.0 t old.2 (both.1 id old.0 old.1)
        | inr new ↦ keeps (new_side c.limits) t new.2 first
      ],
    ) in
    (world_keeps c (λ w. W w × Each w) kept
    (start, λ id s there. absurd (none_or_some s (sym (nobody id) ∙ there))) es).1

-- The same, if the relation holds across every effect.
pub kept_by : (c : ConfigValues) (R : Connection → Connection → Type 0) (P : Connection → Type 0)
    → P (new_side c.limits) → ((s t : Connection) → R s t → P s → P t)
    → ((w : World) (st : Step) (id : ℕ) → HoldsOf R w st id)
    → (es : List AcceptedCall) (id : ℕ) (s : Connection) → side_of id (world_after c es).sides ≡ Some s → P s
kept_by c R P first keeps holds =
    kept_where c (λ w. Unit {0}) tt (λ w st is. tt) R P first keeps (λ w st id is. holds w st id)

-- ---- the applications

changed_applications : (store : StoreValue) (change : Change) → (changed store change).applications ≡ store.applications
changed_applications store Nothing = refl
changed_applications store (Put path format bytes) = refl
changed_applications store (Delete path) = refl

stored_applications : (w : World) (m : Message) (there : Option Connection)
    → (stored_after w m there).applications ≡ w.store.applications
stored_applications w m None = refl
stored_applications w m (Some s) = changed_applications w.store (change_after w.store w.now s m)

-- No step changes the applications of the store.
pub applications_stay : (limits : LimitValues) (w : World) (st : Step)
    → (world.step limits w st).store.applications ≡ w.store.applications
unfolding world.step acted
applications_stay limits w (world.Opened id) = search (rules, cond_both)
applications_stay limits w (world.Handled id m) = stored_applications w m (side_of id w.sides)
applications_stay limits w (world.Ticked now) = search (rules, cond_both)
applications_stay limits w (world.Stored path format bytes) = search (rules, cond_both)
applications_stay limits w other = refl

-- Keeping a property composes.
pub keeping_composes : (P : History → Type 0) → Composes (λ h k. P h → P k)
keeping_composes P = record { same = λ h is. is; then = λ h k g one two is. two (one is) }

-- The same for a property of a history that every part of an effect keeps.
pub kept_history : (c : ConfigValues) (P : History → Type 0) → P (new_history Server c.limits 0)
    → KeepsAll (λ h k. P h → P k)
    → (es : List AcceptedCall) (id : ℕ) (s : Connection) → side_of id (world_after c es).sides ≡ Some s → P s.history
kept_history c P first keeps =
    kept_by c (Between (λ h k. P h → P k)) (λ s. P s.history) first (λ s t kept. kept)
    (all_across (λ h k. P h → P k) keeps)
