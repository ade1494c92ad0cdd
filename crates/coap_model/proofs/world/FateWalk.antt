-- The requests that the application answers, along the events of a server. Let each effect on a connection keep a
-- property of the connection and its requests. Then the property holds after all events.
use Rattle.std.proofs.Common.{Bool, List, Option, Some, [], cond, inl, inr, length, map, refl, rules, subst, suc, sym}
use Rattle.std.proofs.Common.{zero, ℕ, ◌&&◌, ◌++◌, ◌+◌, ◌==◌, ◌∙◌, ◌∷◌, ◌≡◌, ◌≢◌, arith}
use Rattle.std.proofs.lemmas.Bool.{and_parts, cases_eq, cond_both, eq-eqb, eqb-true, ne_eqb}
use Rattle.coap_model.specs.Prelude.{AcceptedCall, AllByRecursion, Answer, Application, ApplicationRequest}
use Rattle.coap_model.specs.Prelude.{ApplicationsValue, ConfigValues, Connection, ConnectionEntry, Engine, History}
use Rattle.coap_model.specs.Prelude.{LimitValues, Message, PendingEntryValue, Step, StoreValue, World, acted}
use Rattle.coap_model.specs.Prelude.{after_steps, fate_by, if_there, is_unanswered_with, late_message, new_side}
use Rattle.coap_model.specs.Prelude.{new_world, next_pending, requests_acted, requests_after, requests_by, requests_due}
use Rattle.coap_model.specs.Prelude.{requests_on, requests_once, requests_responded, requests_settled, requests_then}
use Rattle.coap_model.specs.Prelude.{requests_within, settled, settled_once, settled_place, settled_within, side_after}
use Rattle.coap_model.specs.Prelude.{side_of, side_responded, steps_by, steps_of, with_fate, world_after}
use Rattle.coap_model.specs.world.World.{changed_at}
use Rattle.coap_wire.proofs.NumberLaws.{none_or_some}
use Rattle.coap_model.specs.world.World as world
use Rattle.coap_model.proofs.OptionLemmas.{one_made, same_there}
use Rattle.coap_model.proofs.world.PlaceLaws.{all_there, changed_elsewhere, changed_here, dropped_elsewhere}
use Rattle.coap_model.proofs.world.PlaceLaws.{dropped_here, first_there, new_there, nobody, other_more}
use Rattle.coap_model.proofs.world.WalkLaws.{Between, there_or_not, PlainCall, Fault, Write, End, Release, Announcement}
use Rattle.coap_model.proofs.world.AcrossLaws.{HoldsOf, applications_stay, step_across}
use Rattle.coap_model.proofs.world.RespondedLaws.{allowed}
use Rattle.coap_model.proofs.world.StepLaws.{steps_of_more}

-- A property of a new connection without requests that every effect keeps, in a server with these applications.
pub record KeepsRequests (limits : LimitValues) (a : Option ApplicationsValue)
    (P : Connection → List ApplicationRequest → Type 0) : Type 0 where
  pub first : P (new_side limits) []
  pub handled : (store : StoreValue) (now : ℕ) (s : Connection) (m : Message) (rs : List ApplicationRequest)
      → store.applications ≡ a → P s rs
      → P (side_after store now s m) (requests_after store now s m rs)
  pub plain : (s t : Connection) (rs : List ApplicationRequest) → PlainCall s t → P s rs → P t rs
  pub responded : (s : Connection) (m : Message) (rs : List ApplicationRequest) → P s rs
      → P (side_responded s m) (requests_responded s m rs)
  pub reported : (store : StoreValue) (now : ℕ) (s : Connection) (rs : List ApplicationRequest) → P s rs
      → P (settled_once store now s) (requests_once now s rs)

module _ (limits : LimitValues) (a : Option ApplicationsValue) (P : Connection → List ApplicationRequest → Type 0)
    (keeps : KeepsRequests limits a P) where
  -- Settling keeps it.
  within_good : (turns : ℕ) (store : StoreValue) (now : ℕ) (s : Connection) (rs : List ApplicationRequest) → P s rs
      → P (settled_within turns store now s) (requests_within turns store now s rs)
  unfolding settled_within requests_within
  within_good zero store now s rs is = is
  within_good (suc turns) store now s rs is = search (rules, within_good turns store now)

  settled_good : (store : StoreValue) (now : ℕ) (s : Connection) (rs : List ApplicationRequest) → P s rs
      → P (settled store now s) (requests_settled store now s rs)
  unfolding settled requests_settled
  settled_good store now s rs = within_good (length s.history.pending + length s.observers) store now s rs

  module _ (id : ℕ) where
    -- The connection with this id, if it exists, has the property with these requests.
    abbrev AllGood : List ConnectionEntry → List ApplicationRequest → Type 0
    AllGood sides rs = (s : Connection) → side_of id sides ≡ Some s → P s rs

    -- A change of the connection with one id.
    changed_good : (sides : List ConnectionEntry) (at : ℕ) (f : Connection → Connection) (qs : List ApplicationRequest)
        → (at ≡ id → (s : Connection) → side_of id sides ≡ Some s → P (f s) qs) → (at ≢ id → AllGood sides qs)
        → AllGood (map (changed_at at f) sides) qs
    changed_good sides at f qs goes away t there = search (rules, cases_eq, one_made, changed_here, changed_elsewhere)

    module _ (w : World) (rs : List ApplicationRequest) (good : AllGood w.sides rs) where
      -- A new connection.
      opened_good : (at : ℕ) → AllGood (acted limits w (world.Opened at)).sides
          (requests_acted id w (world.Opened at) rs)
      unfolding acted requests_acted
      opened_good at = grind (
        arith,
        cases_eq,
        eq-eqb,
        there_or_not,
        first_there,
        new_there,
        same_there,
        ne_eqb,
        cond_both,
        other_more,
      )

      -- A change of the connection with one id leaves the requests, or changes them too if this is the id.
      same_good : (at : ℕ) (f : Connection → Connection) → ((s : Connection) → P s rs → P (f s) rs)
          → AllGood (map (changed_at at f) w.sides) rs
      same_good at f kept = search (rules, changed_good)

      own_good : (at : ℕ) (f : Connection → Connection)
          (g : Connection → List ApplicationRequest → List ApplicationRequest)
          → ((s : Connection) → P s rs → P (f s) (g s rs))
          → AllGood (map (changed_at at f) w.sides) (cond (at == id) (if_there (side_of id w.sides) g rs) rs)
      own_good at f g kept = search (rules, changed_good, eq-eqb, ne_eqb)

      acted_good : (st : Step) → w.store.applications ≡ a
          → AllGood (acted limits w st).sides (requests_acted id w st rs)
      unfolding acted requests_acted
      acted_good (world.Opened at) same = opened_good at
      acted_good (world.Handled at m) same = own_good at _ _ (λ s. keeps.handled w.store w.now s m rs same)
      acted_good (world.Responded at m) same = own_good at _ _ (λ s. keeps.responded s m rs)
      acted_good (world.Dropped at) same = search (rules, cases_eq, none_or_some, dropped_here, dropped_elsewhere)
      acted_good st same =
          search (rules, cond_both, same_good, keeps.plain, Fault, Write, End, Release, Announcement)

    then_good : (w : World) (rs : List ApplicationRequest) → AllGood w.sides rs
        → AllGood (map (settled_place w.store w.now) w.sides) (requests_then id w rs)
    unfolding requests_then
    then_good w rs good t there =
        let made = one_made (settled w.store w.now) (side_of id w.sides) t
        (sym (all_there id (settled w.store w.now) w.sides) ∙ there) in
        rw made.1 (grind (arith, settled_good))

    steps_good : (w : World) (ss : List Step) (rs : List ApplicationRequest) → w.store.applications ≡ a
        → AllGood w.sides rs → AllGood (after_steps limits w ss).sides (requests_by limits id w ss rs)
    unfolding after_steps requests_by world.step
    steps_good w [] rs same good = good
    steps_good w (s ∷ ss) rs same good =
        steps_good (world.step limits w s) ss (requests_then id (acted limits w s) (requests_acted id w s rs))
        (applications_stay limits w s ∙ same)
        (grind (arith, then_good, acted_good))

-- So each connection has the property with its requests after any events.
pub requests_kept : (c : ConfigValues) (P : Connection → List ApplicationRequest → Type 0)
    → KeepsRequests c.limits c.applications P → (es : List AcceptedCall) (id : ℕ) (s : Connection)
    → side_of id (world_after c es).sides ≡ Some s → P s (requests_on c id es)
unfolding world_after requests_on
requests_kept c P keeps es id s there =
    steps_good c.limits c.applications P keeps id (new_world c) (steps_of c.limits.max_message es) [] refl
    (λ t none. absurd (none_or_some t (sym (nobody id) ∙ none))) s there

-- ---- properties of the requests alone

-- The requests after a step's own effect: none, the same, or those after a message or a response.
pub acted_cases : (P : List ApplicationRequest → Type 0) (id : ℕ) (w : World) (st : Step)
    (rs : List ApplicationRequest) → P rs → (st ≡ world.Opened id → P [])
    → ((m : Message) (s : Connection) → st ≡ world.Handled id m → side_of id w.sides ≡ Some s
    → P (requests_after w.store w.now s m rs))
    → ((m : Message) (s : Connection) → st ≡ world.Responded id m → side_of id w.sides ≡ Some s
    → P (requests_responded s m rs))
    → P (requests_acted id w st rs)
unfolding requests_acted
acted_cases P id w (world.Opened other) rs same opened handled responded =
    search (rules, cond_both, eqb-true, and_parts)
acted_cases P id w (world.Handled other m) rs same opened handled responded =
    search (rules, cond_both, there_or_not, eqb-true)
acted_cases P id w (world.Responded other m) rs same opened handled responded =
    search (rules, cond_both, there_or_not, eqb-true)
acted_cases P id w other rs same opened handled responded = same

-- The unanswered requests of this entry.
abbrev pub expires : List ℕ → ℕ → ApplicationRequest → Bool
expires token moment r = is_unanswered_with token r && r.deadline == moment

-- A property of the requests at a time, if each request that is answered by 5.04 keeps it.
module _ (P : ℕ → List ApplicationRequest → Type 0)
    (due : (now : ℕ) (s : Connection) (token : List ℕ) (moment : ℕ) (rs : List ApplicationRequest)
    → next_pending now s ≡ Some (Answer Application token moment) → P now rs
    → P now (with_fate (expires token moment) (fate_by Engine s.history (late_message Application token)) rs)) where
  due_stays : (now : ℕ) (s : Connection) (found : Option PendingEntryValue) (rs : List ApplicationRequest)
      → next_pending now s ≡ found → P now rs → P now (requests_due s found rs)
  due_stays now s (Some (Answer Application token moment)) rs is has = due now s token moment rs is has
  due_stays now s (Some (Answer Engine token moment)) rs is has = has
  due_stays now s other rs is has = has

  within_stays : (turns : ℕ) (store : StoreValue) (now : ℕ) (s : Connection) (rs : List ApplicationRequest) → P now rs
      → P now (requests_within turns store now s rs)
  unfolding requests_within requests_once
  within_stays zero store now s rs is = is
  within_stays (suc turns) store now s rs is = search (rules, due_stays, within_stays turns store now)

  pub then_stays : (id : ℕ) (w : World) (rs : List ApplicationRequest) → P w.now rs → P w.now (requests_then id w rs)
  unfolding requests_then requests_settled
  then_stays id w rs is = search (rules, there_or_not, within_stays)

  -- Steps keep it, if their own effects do.
  pub steps_stay : (limits : LimitValues) (id : ℕ) (Allowed : Step → Type 0)
      → ((w : World) (st : Step) (rs : List ApplicationRequest) → Allowed st → P w.now rs
      → P (acted limits w st).now (requests_acted id w st rs))
      → (w : World) (ss : List Step) (rs : List ApplicationRequest) → AllByRecursion Allowed ss → P w.now rs
      → P (after_steps limits w ss).now (requests_by limits id w ss rs)
  unfolding after_steps requests_by world.step
  steps_stay limits id Allowed acts w [] rs allowed is = is
  steps_stay limits id Allowed acts w (s ∷ ss) rs allowed is =
      steps_stay limits id Allowed acts (world.step limits w s) ss _ allowed.1
      (grind (arith, then_stays))

-- A connection existed before steps that do not open it. A relation E holds since then, if it continues a relation R
-- that holds across each of the steps.
module _ (R E : History → History → Type 0) (same : (h : History) → E h h)
    (then : (h k g : History) → R h k → E k g → E h g) (limits : LimitValues) (id : ℕ) (Allowed : Step → Type 0)
    (opens : Allowed (world.Opened id) → ⊥)
    (across : (w : World) (st : Step) → Allowed st → HoldsOf (Between R) w st id) where
  pub before_steps : (w : World) (ss : List Step) (t : Connection) → AllByRecursion Allowed ss
      → side_of id (after_steps limits w ss).sides ≡ Some t
      → (s : Connection) × (side_of id w.sides ≡ Some s) × E s.history t.history
  unfolding after_steps
  before_steps w [] t allowed there = (t, there, same t.history)
  before_steps w (st ∷ ss) t allowed there =
      let u = before_steps (world.step limits w st) ss t allowed.1 there in
      elim (step_across (Between R) limits w st id (across w st allowed.0) u.0 u.1) [
        | inl old ↦ (old.0, old.1, then old.0.history u.0.history t.history old.2 u.2)
        | inr new ↦ absurd (opens (subst Allowed new.1 allowed.0))
      ]

-- The requests after more steps, and after one more event.
requests_more : (limits : LimitValues) (id : ℕ) (w : World) (ss ts : List Step) (rs : List ApplicationRequest)
    → requests_by limits id w (ss ++ ts) rs
    ≡ requests_by limits id (after_steps limits w ss) ts (requests_by limits id w ss rs)
unfolding requests_by after_steps
requests_more limits id w [] ts rs = refl
requests_more limits id w (s ∷ ss) ts rs = requests_more limits id (world.step limits w s) ss ts _

pub requests_last : (c : ConfigValues) (id : ℕ) (es : List AcceptedCall) (e : AcceptedCall)
    → requests_on c id (es ++ e ∷ [])
    ≡ requests_by c.limits id (world_after c es) (steps_by c.limits.max_message es e) (requests_on c id es)
unfolding requests_on world_after
requests_last c id es e = search (rules, steps_of_more, requests_more)
