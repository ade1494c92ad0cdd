-- The view of accepted events is a list of accepted events. It leads to the same connection, store and time as all
-- events.
use Rattle.std.proofs.Common.{◌≡◌, ◌≢◌, ℕ, ◌≤◌, ◌<◌, true, false, List, [], ◌∷◌, ◌++◌, length, map, drop, Option, refl}
use Rattle.std.proofs.Common.{sym, ap, ◌∙◌, append_assoc, arith}
use Rattle.coap_model.specs.Prelude.{AllByRecursion, Message, StreamFault, Stream, LimitValues, Change, Nothing, Put}
use Rattle.coap_model.specs.Prelude.{Delete, changed, ConfigValues, World, Step, side_of, after_steps, AcceptedCall}
use Rattle.coap_model.specs.Prelude.{Opened, Took, Wrote, Stored, Removed, Ended, Released, Announced, Responded}
use Rattle.coap_model.specs.Prelude.{Dropped, taken_in, size_by, stream_on, spelled_on, new_fault, beyond, steps_by}
use Rattle.coap_model.specs.Prelude.{world_after, takes, IsAccepted, AreAcceptedAfter, AreAccepted, concerns}
use Rattle.coap_model.specs.Prelude.{first_number, change_events, changes_of, view_event, later_view, view_events}
use Rattle.std.proofs.lemmas.Bool.{eq-eqb, ne_eqb}
use Rattle.std.proofs.lemmas.Bool.Decides.{nat_tests}
use Rattle.coap_model.proofs.world.AcrossLaws.{world_keeps}
use Rattle.std.proofs.lemmas.List.{append-nil}
use Rattle.coap_model.specs.world.World as world
use Rattle.coap_model.specs.world.View.{change_by}
use Rattle.coap_model.proofs.world.StepLaws.{size_stays, spelled_then, spelled_same, first_spelled, each_beyond}
use Rattle.coap_model.proofs.world.StepLaws.{world_first, world_more, world_step, accepted_more, by_events}
use Rattle.coap_model.proofs.world.PlaceLaws.{nobody}
use Rattle.coap_model.proofs.world.ReachedLaws.{accepted_is, opens, step_keeps}
use Rattle.coap_model.proofs.world.ViewLaws.{IsNotRefused, by_passes, share, share_of, settled_share, SettlesAlike}
use Rattle.coap_model.proofs.world.ViewLaws.{step_share, step_rests, other_did, renamed, own_alike, change_alike}
use Rattle.coap_model.proofs.world.ViewLaws.{new_rests}

-- ---- lists

view_more : (c : ConfigValues) (id : ℕ) (a es : List AcceptedCall) (e : AcceptedCall)
    → later_view c id a (es ++ e ∷ []) ≡ later_view c id a es ++ view_event c id (a ++ es) e
unfolding later_view
view_more c id a [] e = rw (append-nil a, append-nil (view_event c id a e)) refl
view_more c id a (d ∷ es) e =
    rw (view_more c id (a ++ d ∷ []) es e, append_assoc a (d ∷ []) es)
    (sym (append_assoc (view_event c id a d) (later_view c id (a ++ d ∷ []) es) (view_event c id (a ++ d ∷ es) e)))

-- ---- steps and events with another id

beyond_renamed : (id n : ℕ) (before after : Stream) → beyond n before after ≡ map (renamed n) (beyond id before after)
beyond_renamed id n before after = by (drop (length before.messages) after.messages) before.fault after.fault
  where
    by : (ms : List Message) (f g : Option StreamFault)
        → map (world.Handled n) ms ++ new_fault n f g ≡ map (renamed n) (map (world.Handled id) ms ++ new_fault id f g)
    by [] f g = grind arith
    by (m ∷ ms) f g = ap (λ ss. world.Handled n m ∷ ss) (by ms f g)

own_steps : (limits : LimitValues) (id n : ℕ) (ss : List Step) (w v : World)
    → AllByRecursion (λ s. concerns id s ≡ true) ss → share_of id w ≡ share_of n v
    → share_of id (after_steps limits w ss) ≡ share_of n (after_steps limits v (map (renamed n) ss))
unfolding after_steps
own_steps limits id n [] w v each alike = alike
own_steps limits id n (s ∷ ss) w v each alike =
    grind (arith, own_steps limits id n ss, own_alike)

-- The id of an event's connection; `id` for an event of no connection.
abbrev number : ℕ → AcceptedCall → ℕ
number id (Opened other) = other
number id (Took other bytes) = other
number id (Wrote other n) = other
number id (Ended other) = other
number id (Released other) = other
number id (Announced other size) = other
number id (Responded other m) = other
number id (Dropped other) = other
number id e = id

-- The event of a connection with another id.
abbrev moved : ℕ → AcceptedCall → AcceptedCall
moved n (Opened id) = Opened n
moved n (Took id bytes) = Took n bytes
moved n (Wrote id k) = Wrote n k
moved n (Ended id) = Ended n
moved n (Released id) = Released n
moved n (Announced id size) = Announced n size
moved n (Responded id m) = Responded n m
moved n (Dropped id) = Dropped n
moved n e = e

-- It has the same bytes and announces the same size.
same_taken : (id n : ℕ) (e : AcceptedCall) → number id e ≡ id → taken_in id e ≡ taken_in n (moved n e)
same_taken id n e own = grind (arith, nat_tests)

same_size : (id n : ℕ) (e : AcceptedCall) (M : ℕ) → number id e ≡ id → size_by id e M ≡ size_by n (moved n e) M
same_size id n e M own = grind (arith, nat_tests)

-- A property of each step of accepted bytes.
each_taken : (P : Step → Type 0) (M : ℕ) (es : List AcceptedCall) (id : ℕ) (bytes : List ℕ)
    → ((m : Message) → P (world.Handled id m)) → ((fault : StreamFault) → P (world.Faulted id fault))
    → AllByRecursion P (steps_by M es (Took id bytes))
unfolding steps_by
each_taken P M es id bytes = each_beyond P id (stream_on M id es) (stream_on M id (es ++ Took id bytes ∷ []))

-- ---- steps that open no connection

abbrev OpensNone : Step → Type 0
OpensNone s = (id : ℕ) → s ≡ world.Opened id → ⊥

-- The step of any event that opens no connection is no such step.
opening_none : (M : ℕ) (es : List AcceptedCall) (e : AcceptedCall) → ((id : ℕ) → e ≡ Opened id → ⊥)
    → AllByRecursion OpensNone (steps_by M es e)
unfolding steps_by
opening_none M es (Opened id) none = absurd (none id refl)
opening_none M es (Took id bytes) none = grind (arith, each_taken OpensNone M es id bytes, opens)
opening_none M es e none = ((λ n opens. cc), tt)

-- No connection exists, and no id was assigned.
abbrev pub IsFresh : ConfigValues → World → Type 0
IsFresh c w = (w.sides ≡ []) × (w.ids ≡ c.starts.ids)

-- The last id does not decrease, and such a world remains one.
abbrev Stays : ConfigValues → World → World → Type 0
Stays c w v = (w.ids ≤ v.ids) × (IsFresh c w → IsFresh c v)

step_stays : (c : ConfigValues) (w : World) (s : Step) → OpensNone s → Stays c w (world.step c.limits w s)
step_stays c w s none = grind (arith, step_keeps (Stays c w) c.limits w, opens)

steps_stay : (c : ConfigValues) (ss : List Step) (w : World) → AllByRecursion OpensNone ss
    → Stays c w (after_steps c.limits w ss)
unfolding after_steps
steps_stay c [] w each = grind arith
steps_stay c (s ∷ ss) w each = grind (arith, step_stays, steps_stay c ss)

event_stays : (c : ConfigValues) (es : List AcceptedCall) (e : AcceptedCall) → ((id : ℕ) → e ≡ Opened id → ⊥)
    → Stays c (world_after c es) (world_after c (es ++ e ∷ []))
event_stays c es e none =
    grind (arith, world_more, steps_stay, opening_none)

-- ---- a view

module _ (c : ConfigValues) (id : ℕ) where
  abbrev pub n : ℕ
  n = first_number c

  abbrev pub M : ℕ
  M = c.limits.max_message

  -- These events are a view of the events that led to a world. If the connection is not yet opened, the view has no
  -- connection.
  pub record IsView (w : World) (spelled : Stream × ℕ) (ids : ℕ) (vs : List AcceptedCall) : Type 0 where
    pub alike : share_of id w ≡ share_of n (world_after c vs)
    pub spells : spelled ≡ spelled_on M n vs
    pub accepted : AreAccepted c vs
    pub fresh : ids < id → IsFresh c (world_after c vs)

  -- One more event that makes one step.
  module _ (w : World) (spelled : Stream × ℕ) (ids : ℕ) (vs : List AcceptedCall) (is : IsView w spelled ids vs) where
    view_stored : (w' : World) (e : AcceptedCall) (s : Step) → steps_by M vs e ≡ s ∷ []
        → ((k : ℕ) → e ≡ Opened k → ⊥) → taken_in n e ≡ [] → size_stays n e → IsAccepted c vs e
        → share_of id w' ≡ share_of n (world.step c.limits (world_after c vs) s) → IsView w' spelled ids (vs ++ e ∷ [])
    view_stored w' e s one none quiet stays ok same =
        grind (arith, share_of n, world_step, spelled_same M n, accepted_more, event_stays)

    -- A change made by another connection.
    view_change : (w' : World) (change : Change) → IsNotRefused w.store change → SettlesAlike id w
        → share_of id w' ≡ settled_share (share (changed w.store change) w.now (side_of id w.sides))
        → IsView w' spelled ids (vs ++ change_events change)
    unfolding steps_by after_steps IsAccepted
    view_change w' Nothing passes rests same = grind (arith, append-nil)
    view_change w' (Put path format bytes) passes rests same =
        view_stored w' (Stored path format bytes) _ refl (λ k opens. cc) refl (λ N. refl)
        (rw (ap (λ x. x.store) is.alike) at passes)
        (same ∙ change_alike c.limits id n w (world_after c vs) is.alike (Put path format bytes) rests passes)
    view_change w' (Delete path) passes rests same =
        view_stored w' (Removed path) _ refl (λ k opens. cc) refl (λ N. refl)
        (rw (ap (λ x. x.store) is.alike) at passes)
        (same ∙ change_alike c.limits id n w (world_after c vs) is.alike (Delete path) rests passes)

  -- Steps of another connection.
  view_others : (ss : List Step) (w : World) (spelled : Stream × ℕ) (ids : ℕ) (vs : List AcceptedCall)
      → AllByRecursion (λ s. concerns id s ≡ false) ss → SettlesAlike id w → IsView w spelled ids vs
      → IsView (after_steps c.limits w ss) spelled ids (vs ++ changes_of c.limits w ss)
  unfolding after_steps changes_of
  view_others [] w spelled ids vs each rests is = rw (append-nil vs) is
  view_others (s ∷ ss) w spelled ids vs each rests is =
      let next = world.step c.limits w s in
      let changes = change_events (change_by w s) in
      grind (
        arith,
        append_assoc vs changes,
        view_others ss next spelled ids (vs ++ changes) each.1,
        step_rests,
        view_change w spelled ids vs is next (change_by w s) (by_passes w s) rests,
        by_passes w s,
        step_share,
        other_did,
      )

  -- ---- one more event

  abbrev pub Sees : List AcceptedCall → List AcceptedCall → Type 0
  Sees es vs = IsView (world_after c es) (spelled_on M id es) (world_after c es).ids vs

  module _ (es vs : List AcceptedCall) (all : AreAccepted c es) (sees : Sees es vs) where
    abbrev w : World
    w = world_after c es

    abbrev v : World
    v = world_after c vs

    opened_last : (k : ℕ) → IsAccepted c es (Opened k) → (world_after c (es ++ Opened k ∷ [])).ids ≡ k
    unfolding IsAccepted steps_by world.step
    opened_last k ok =
        ap (λ u. u.ids) (world_step c es (Opened k) (world.Opened k) refl)
        ∙ ap (λ u. u.ids) (opens c w k (accepted_is c es all).numbered ok.0)

    -- The last id does not decrease. If it is lower than the connection's, the event of the connection opened none.
    last_rises : (e : AcceptedCall) → IsAccepted c es e → w.ids ≤ (world_after c (es ++ e ∷ [])).ids
    unfolding IsAccepted
    last_rises e ok = grind (arith, opened_last, event_stays, opens)

    fresh_then : (e : AcceptedCall) → number id e ≡ id → IsAccepted c es e → (world_after c (es ++ e ∷ [])).ids < id
        → IsFresh c (world_after c (vs ++ moved n e ∷ []))
    fresh_then e own ok low = grind (arith, opened_last, event_stays, opens, last_rises)

    -- An event of the connection itself, or of none.
    spells_then : (e : AcceptedCall) → number id e ≡ id
        → spelled_on M id (es ++ e ∷ []) ≡ spelled_on M n (vs ++ moved n e ∷ [])
    spells_then e own = grind (arith, spelled_then, same_taken, same_size)

    own_makes : (e : AcceptedCall) → number id e ≡ id → steps_by M vs (moved n e) ≡ map (renamed n) (steps_by M es e)
    unfolding steps_by
    own_makes e own = grind (arith, spells_then, beyond_renamed)

    own_concern : (e : AcceptedCall) → number id e ≡ id → AllByRecursion (λ s. concerns id s ≡ true) (steps_by M es e)
    unfolding steps_by concerns
    own_concern (Took k bytes) own =
        each_taken (λ s. concerns id s ≡ true) M es k bytes (λ m. eq-eqb k id own) (λ fault. eq-eqb k id own)
    own_concern e own = (grind (arith, nat_tests), tt)

    own_accepted : (e : AcceptedCall) → number id e ≡ id → IsAccepted c es e → IsAccepted c vs (moved n e)
    unfolding IsAccepted takes
    own_accepted e own ok = grind (arith, accepted_is)

    own_sees : (e : AcceptedCall) → number id e ≡ id → IsAccepted c es e → Sees (es ++ e ∷ []) (vs ++ moved n e ∷ [])
    own_sees e own ok = grind (
      arith,
      world_more,
      own_makes,
      own_steps,
      own_concern,
      spells_then,
      accepted_more,
      own_accepted,
      fresh_then,
    )

    own_view : (e : AcceptedCall) → number id e ≡ id → view_event c id es e ≡ moved n e ∷ []
    unfolding view_event
    own_view e own = grind (arith, nat_tests)

    -- An event of another connection.
    other_steps : (e : AcceptedCall) → number id e ≢ id → AllByRecursion (λ s. concerns id s ≡ false) (steps_by M es e)
    unfolding steps_by concerns
    other_steps (Took k bytes) apart =
        each_taken (λ s. concerns id s ≡ false) M es k bytes (λ m. ne_eqb k id apart) (λ fault. ne_eqb k id apart)
    other_steps e apart = (grind (arith, nat_tests), tt)

    other_sees : (e : AcceptedCall) → number id e ≢ id → IsAccepted c es e
        → Sees (es ++ e ∷ []) (vs ++ changes_of c.limits w (steps_by M es e))
    other_sees e apart ok =
        let rests = world_keeps c (SettlesAlike id) (λ u s was. step_rests c.limits id u s) (new_rests c id) es in
        let is = view_others (steps_by M es e) w (spelled_on M id es) w.ids vs (other_steps e apart) rests sees in
        grind (arith, world_more, spelled_same, nat_tests, last_rises)

    other_view : (e : AcceptedCall) → number id e ≢ id
        → view_event c id es e ≡ changes_of c.limits w (steps_by M es e)
    unfolding view_event changes_of steps_by
    other_view e apart = grind (arith, nat_tests)

    event_concerns : (e : AcceptedCall) → IsAccepted c es e → Sees (es ++ e ∷ []) (vs ++ view_event c id es e)
    event_concerns e ok = grind (arith, own_view, own_sees, other_view, other_sees)

  -- ---- all events

  sees_nothing : Sees [] (view_events c id [])
  unfolding view_events later_view AreAcceptedAfter
  sees_nothing = grind (arith, world_first, nobody, first_spelled)

  -- The view is accepted, and the connection is the same after it.
  pub events_concern : (es : List AcceptedCall) → AreAccepted c es → Sees es (view_events c id es)
  unfolding view_events
  events_concern es all =
      by_events c (λ fs. Sees fs (view_events c id fs)) sees_nothing
      (λ fs e before ok sees. grind (arith, view_more, event_concerns fs)) es
      all
