-- The deadlines of the requests that the application answers.
use Rattle.std.proofs.Common.{Bool, List, None, Option, Some, [], arith, cond, false, filter, map, nat_le, rules, subst}
use Rattle.std.proofs.Common.{sym, true, ℕ, ◌<◌, ◌∷◌, ◌≡◌, ◌≤◌}
use Rattle.std.proofs.lemmas.Bool.{and_parts, both_ways, cases_Bool, cond_both, eqb-true, leb-false, leb-true}
use Rattle.coap_model.specs.Prelude.{AcceptedCall, AllByRecursion, Answered, Application, ApplicationRequest}
use Rattle.coap_model.specs.Prelude.{ConfigValues, Connection, Engine, Fate, History, IsTimely, IsUpToDate, LimitValues}
use Rattle.coap_model.specs.Prelude.{Message, Step, StoreValue, Unanswered, World, acted, due_moment, entry_of, fate_by}
use Rattle.coap_model.specs.Prelude.{has_room, has_stopped, is_unanswered, is_unanswered_with, late_message}
use Rattle.coap_model.specs.Prelude.{new_request, new_world, refusal_of, requests_after, requests_on}
use Rattle.coap_model.specs.Prelude.{requests_responded, side_of, steps_of, with_fate, world_after}
use Rattle.coap_conn.proofs.PendingLaws.{due_answer}
use Rattle.coap_model.specs.world.World as world
use Rattle.coap_model.proofs.world.WalkLaws.{sent}
use Rattle.coap_model.proofs.world.EntryLemmas.{all_append, all_filter, all_to}
use Rattle.coap_model.proofs.world.PlaceLaws.{of_number}
use Rattle.coap_model.proofs.world.SideLaws.{pending_room}
use Rattle.coap_model.proofs.world.EndOfInputLaws.{world_hears}
use Rattle.coap_model.proofs.world.FateLists.{fate_all, fate_cases, waits}
use Rattle.coap_model.proofs.world.FateKept.{after_message, requests_accounted}
use Rattle.coap_model.proofs.world.FateWalk.{acted_cases, expires, steps_stay}

-- ---- 5.04 after the deadline

abbrev AreTimely : ℕ → List ApplicationRequest → Type 0
AreTimely now rs = AllByRecursion (λ r. IsTimely now r.request.token r.deadline r.fate) rs

timely_later : (now later : ℕ) → now ≤ later → (token : List ℕ) (deadline : ℕ) (fate : Fate)
    → IsTimely now token deadline fate → IsTimely later token deadline fate
timely_later now later h token deadline Unanswered is = tt
timely_later now later h token deadline (Answered Engine response sent handled place) is =
    λ same. omega (arith, h, is same)
timely_later now later h token deadline (Answered Application response sent handled place) is = tt

-- A fate of the engine, if its response is no 5.04 or the deadline has come.
engine_timely : (now : ℕ) (token : List ℕ) (deadline : ℕ) (h : History) (m : Message)
    → (m ≡ late_message Application token → deadline ≤ now) → IsTimely now token deadline (fate_by Engine h m)
engine_timely now token deadline h m come =
    fate_cases (λ f. IsTimely now token deadline f) Engine h m tt (λ sent. come)

-- 5.03 is not 5.04.
never_late : (m : Message) (token : List ℕ) → refusal_of m ≡ late_message Application token → ⊥
never_late m token same = search rules

new_timely : (now at : ℕ) (s : Connection) (m : Message) (o : Option ℕ) → AreTimely at (new_request now s m o)
new_timely now at s m None = tt
new_timely now at s m (Some seconds) = search (rules, after_message, cond_both, engine_timely, never_late)

after_timely : (store : StoreValue) (now : ℕ) (s : Connection) (m : Message) (rs : List ApplicationRequest)
    → AreTimely now rs → AreTimely now (requests_after store now s m rs)
unfolding requests_after
after_timely store now s m rs are = search (rules, cond_both, all_append, new_timely)

-- Another fate, if it is timely.
fate_timely : (now : ℕ) (test : ApplicationRequest → Bool) (fate : Fate)
    → ((r : ApplicationRequest) → test r ≡ true → IsTimely now r.request.token r.deadline fate)
    → (rs : List ApplicationRequest) → AreTimely now rs → AreTimely now (with_fate test fate rs)
fate_timely now test fate is rs are = fate_all _ _ test fate (λ r so. so) (λ r passes so. is r passes) rs are

responded_timely : (now : ℕ) (s : Connection) (m : Message) (rs : List ApplicationRequest) → AreTimely now rs
    → AreTimely now (requests_responded s m rs)
unfolding requests_responded
responded_timely now s m rs are = search (rules, cond_both, fate_timely, fate_cases)

-- The time does not go back.
acted_later : (limits : LimitValues) (w : World) (st : Step) → w.now ≤ (acted limits w st).now
unfolding acted
acted_later limits w (world.Opened other) = search (rules, cond_both)
acted_later limits w (world.Ticked now) = search (rules, cond_both, leb-true, and_parts)
acted_later limits w (world.Stored path format bytes) = search (rules, cond_both)
acted_later limits w other = omega arith

-- After any events, a request is answered by 5.04 only if its deadline has come.
pub expired_late : (c : ConfigValues) (es : List AcceptedCall) (id : ℕ)
    → AllByRecursion (λ r. IsTimely (world_after c es).now r.request.token r.deadline r.fate) (requests_on c id es)
unfolding world_after requests_on
expired_late c es id =
    steps_stay AreTimely (λ now s token moment rs is are. (
    let first = due_answer now s.history.pending Application token moment (pending_room now s _ is).1 in
    fate_timely now (expires token moment) _ (λ r passes. engine_timely now r.request.token r.deadline s.history
    (late_message Application token) (λ same. omega (
      arith,
      first.has_come,
      eqb-true r.deadline moment (and_parts (is_unanswered_with token r) _ passes).1,
    ))) rs are))
    c.limits id (λ st. Unit {0}) (λ w st rs any are. all_to _ _
    (λ r. timely_later w.now _ (acted_later c.limits w st) r.request.token r.deadline r.fate) _
    (acted_cases (AreTimely w.now) id w st rs are (λ is. tt) (λ m s is there. after_timely w.store w.now s m rs are)
    (λ m s is there. responded_timely w.now s m rs are)))
    (new_world c) (steps_of c.limits.max_message es) [] (all_units (steps_of c.limits.max_message es)) tt
  where
    all_units : (ss : List Step) → AllByRecursion (λ st. Unit {0}) ss
    all_units [] = tt
    all_units (s ∷ ss) = (tt, all_units ss)

-- ---- deadlines to come

not_come : (now deadline : ℕ) → (cond (nat_le deadline now) (Some deadline) None) ≡ None → now < deadline
not_come now deadline = search (rules, cond_both, leb-false)

-- No deadline of an unanswered request has come, if no entry is due.
deadlines_come : (now : ℕ) (rs : List ApplicationRequest)
    → AllByRecursion (λ e. due_moment now e ≡ None) (map entry_of (filter waits rs))
    → AllByRecursion (λ r. is_unanswered r.fate ≡ true → now < r.deadline) rs
deadlines_come now [] none = tt
deadlines_come now (r ∷ rs) none = grind (arith, cases_Bool, waits, not_come, both_ways, deadlines_come now rs)

pub deadlines_later : (c : ConfigValues) (es : List AcceptedCall) (id : ℕ) (s : Connection)
    → side_of id (world_after c es).sides ≡ Some s → has_stopped s.history.phase ≡ false → has_room s ≡ true
    → AllByRecursion (λ r. is_unanswered r.fate ≡ true → (world_after c es).now < r.deadline) (requests_on c id es)
deadlines_later c es id s there live room =
    let w : World = world_after c es in
    let up : IsUpToDate w.store w.now s =
    of_number (λ n t. IsUpToDate w.store w.now t) id s w.sides (world_hears c es) there in
    deadlines_come w.now (requests_on c id es)
    (subst (AllByRecursion (λ e. due_moment w.now e ≡ None)) (sym ((requests_accounted c es id s there).pending live))
    (grind (arith, all_filter)))
