-- Lists of requests that the application answers: one of them gets another fate.
use Rattle.std.proofs.Common.{Bool, List, Some, [], ap, arith, cond, drop, false, filter, length, map, refl, slice_get}
use Rattle.std.proofs.Common.{subst, suc, true, zero, ℕ, ◌++◌, ◌<◌, ◌∷◌, ◌≡◌, ◌≤◌}
use Rattle.std.proofs.lemmas.List.{length-append, take-append-le}
use Rattle.std.proofs.lemmas.Bool.{both_ways, cases_Bool, cond_both}
use Rattle.std.proofs.lemmas.Option.{slice_get_within}
use Rattle.std.proofs.lemmas.Grind.{common_steps}
use lib.Pointwise.{bytes_decides}
use Rattle.coap_model.specs.Prelude.{AllByRecursion, Answered, ApplicationRequest, Fate, HasFate, HaveOtherPlaces}
use Rattle.coap_model.specs.Prelude.{History, Message, PendingEntryValue, Responder, Unanswered, after, awaits}
use Rattle.coap_model.specs.Prelude.{entry_of, fate_by, has_stopped, is_unanswered, list_any, stay, with_fate}
use Rattle.coap_model.proofs.world.EntryLemmas.{all_to}
use Rattle.coap_model.proofs.world.WalkLaws.{sent}

-- ---- a list without the first element that passes a test

unfoldable pub without_passing : {A : Type 0} → (A → Bool) → List A → List A
without_passing p [] = []
without_passing p (x ∷ xs) = cond (p x) xs (x ∷ without_passing p xs)

-- That element is known.
pub without_found : {A : Type 0} (p : A → Bool) (before : List A) (x : A) (after : List A)
    → AllByRecursion (λ y. p y ≡ false) before → p x ≡ true → without_passing p (before ++ x ∷ after) ≡ before ++ after
unfolding without_passing
without_found p [] x after none is = rw is refl
without_found p (y ∷ before) x after none is = rw none.0 (ap (λ ys. y ∷ ys) (without_found p before x after none.1 is))

pub all_less : {A : Type 0} (P : A → Type 0) (p : A → Bool) (xs : List A) → AllByRecursion P xs
    → AllByRecursion P (without_passing p xs)
unfolding without_passing
all_less P p [] all = tt
all_less P p (x ∷ xs) all = grind (arith, common_steps, cond_both, all_less P p xs all.1)

-- The elements that pass another test are without it too.
pub filter_without : {A : Type 0} (f p : A → Bool) → ((x : A) → p x ≡ true → f x ≡ true) → (xs : List A)
    → filter f (without_passing p xs) ≡ without_passing p (filter f xs)
unfolding without_passing
filter_without f p to [] = refl
filter_without f p to (x ∷ xs) = grind (arith, to x, filter_without f p to xs)

pub map_without : {A B : Type 0} (f : A → B) (p : A → Bool) (q : B → Bool) (xs : List A)
    → AllByRecursion (λ x. p x ≡ q (f x)) xs → map f (without_passing p xs) ≡ without_passing q (map f xs)
unfolding without_passing
map_without f p q [] same = refl
map_without f p q (x ∷ xs) same = grind (arith, same.0, map_without f p q xs same.1)

-- ---- properties of each element

pub all_both : {A : Type 0} (P Q : A → Type 0) (xs : List A) → AllByRecursion P xs → AllByRecursion Q xs
    → AllByRecursion (λ x. P x × Q x) xs
all_both P Q [] ps qs = tt
all_both P Q (x ∷ xs) ps qs = ((ps.0, qs.0), all_both P Q xs ps.1 qs.1)

pub all_parts : {A : Type 0} (P : A → Type 0) (xs ys : List A) → AllByRecursion P (xs ++ ys)
    → AllByRecursion P xs × AllByRecursion P ys
all_parts P [] ys all = (tt, all)
all_parts P (x ∷ xs) ys all = let rest = all_parts P xs ys all.1 in ((all.0, rest.0), rest.1)

-- An element that passes a test.
pub found_one : {A : Type 0} (P : A → Type 0) (test : A → Bool) (xs : List A) → list_any test xs ≡ true
    → AllByRecursion P xs → (x : A) × (test x ≡ true) × P x
found_one P test [] some all = absurd cc
found_one P test (x ∷ xs) some all = grind (arith, common_steps, cases_Bool, found_one P test xs)

-- An element at an index that was not dropped.
pub kept_at : {A : Type 0} (P : A → Type 0) (n i : ℕ) (xs : List A) (x : A) → n ≤ i → slice_get xs i ≡ Some x
    → AllByRecursion P (drop n xs) → P x
kept_at P zero zero (y ∷ xs) x few there all = subst P (cc) all.0
kept_at P zero (suc i) (y ∷ xs) x few there all = kept_at P zero i xs x (omega arith) there all.1
kept_at P (suc n) zero (y ∷ xs) x few there all = absurd (omega (arith, few))
kept_at P (suc n) (suc i) (y ∷ xs) x few there all = kept_at P n i xs x (omega (arith, few)) there all
kept_at P n i [] x few there all = absurd cc

pub filter_none : {A : Type 0} (p : A → Bool) (xs : List A) → AllByRecursion (λ x. p x ≡ false) xs → filter p xs ≡ []
filter_none p [] none = refl
filter_none p (x ∷ xs) none = rw none.0 (filter_none p xs none.1)

pub filter_whole : {A : Type 0} (p : A → Bool) (xs : List A) → AllByRecursion (λ x. p x ≡ true) xs → filter p xs ≡ xs
filter_whole p [] all = refl
filter_whole p (x ∷ xs) all = rw (all.0, filter_whole p xs all.1) refl

-- A test on some elements of a list.
pub any_filter : {A : Type 0} (p f : A → Bool) → ((x : A) → p x ≡ true → f x ≡ true) → (xs : List A)
    → list_any p xs ≡ true → list_any p (filter f xs) ≡ true
any_filter p f to [] is = is
any_filter p f to (x ∷ xs) is = grind (arith, to x, any_filter p f to xs)

pub none_filter : {A : Type 0} (p f : A → Bool) (xs : List A) → list_any p xs ≡ false → list_any p (filter f xs) ≡ false
none_filter p f [] none = none
none_filter p f (x ∷ xs) none = grind (arith, none_filter p f xs)

-- ---- another fate

-- A request is unanswered.
abbrev pub waits : ApplicationRequest → Bool
waits r = is_unanswered r.fate

-- The request that is answered is no longer among the unanswered ones.
pub waiting_without : (test : ApplicationRequest → Bool) (fate : Fate) → is_unanswered fate ≡ false
    → ((r : ApplicationRequest) → test r ≡ true → waits r ≡ true) → (rs : List ApplicationRequest)
    → filter waits (with_fate test fate rs) ≡ without_passing test (filter waits rs)
unfolding with_fate without_passing
waiting_without test fate over to [] = refl
waiting_without test fate over to (r ∷ rs) = grind (arith, over, to r, waiting_without test fate over to rs)

-- The requests stay the same.
pub fate_requests : (test : ApplicationRequest → Bool) (fate : Fate) (rs : List ApplicationRequest)
    → map (λ r. r.request) (with_fate test fate rs) ≡ map (λ r. r.request) rs
unfolding with_fate
fate_requests test fate [] = refl
fate_requests test fate (r ∷ rs) = grind (arith, common_steps, cond_both, fate_requests test fate rs)

-- An unanswered request whose entry passes a test.
pub any_waiting : (test : ApplicationRequest → Bool) (entry : PendingEntryValue → Bool)
    → ((r : ApplicationRequest) → waits r ≡ true → test r ≡ entry (entry_of r)) → (rs : List ApplicationRequest)
    → list_any entry (map entry_of (filter waits rs)) ≡ true → list_any test rs ≡ true
any_waiting test entry same [] is = is
any_waiting test entry same (r ∷ rs) is = grind (arith, same r, any_waiting test entry same rs)

-- Under a condition no entry with the token is pending. Then no unanswered request has it.
pub none_waiting : (token : List ℕ) (when : Bool) (rs : List ApplicationRequest)
    → (when ≡ true → list_any (awaits token) (map entry_of (filter waits rs)) ≡ false)
    → AllByRecursion (λ r. when ≡ true → r.request.token ≡ token → waits r ≡ false) rs
none_waiting token when [] none = tt
none_waiting token when (r ∷ rs) none =
    grind (arith, common_steps, cases_Bool, both_ways, bytes_decides, none_waiting token when rs)

-- The fate of a request to which a response is sent.
pub fate_cases : (P : Fate → Type 0) (by : Responder) (h : History) (response : Message) → P Unanswered
    → ((sent : Message) → P (Answered by response sent (length h.handled) (length h.queued)))
    → P (fate_by by h response)
fate_cases P by h response none sent = grind (arith, cond_both)

-- A property of each request.
pub fate_all : (P Q : ApplicationRequest → Type 0) (test : ApplicationRequest → Bool) (fate : Fate)
    → ((r : ApplicationRequest) → P r → Q r)
    → ((r : ApplicationRequest) → test r ≡ true → P r → Q (record r { fate = fate })) → (rs : List ApplicationRequest)
    → AllByRecursion P rs → AllByRecursion Q (with_fate test fate rs)
unfolding with_fate
fate_all P Q test fate stay change [] all = tt
fate_all P Q test fate stay change (r ∷ rs) all =
    grind (arith, common_steps, cond_both, all_to, fate_all P Q test fate stay change rs all.1)

-- ---- places

-- If a response is queued, its place is this one or a later one.
abbrev pub IsNew : ℕ → Fate → Type 0
IsNew n Unanswered = Unit {0}
IsNew n (Answered by response sent handled place) = n ≤ place

-- If a response is queued, its place is an earlier one.
abbrev pub IsOld : ℕ → Fate → Type 0
IsOld n Unanswered = Unit {0}
IsOld n (Answered by response sent handled place) = place < n

pub old_fate : (h : History) (r : ApplicationRequest) (fate : Fate) → HasFate h r fate → IsOld (length h.queued) fate
old_fate h r Unanswered has = tt
old_fate h r (Answered by response sent handled place) has = slice_get_within h.queued place sent has.there

pub old_then_new : (n : ℕ) (old new : Fate) → IsOld n old → IsNew n new → HaveOtherPlaces old new
old_then_new n Unanswered new is then = tt
old_then_new n (Answered by response sent handled place) Unanswered is then = tt
old_then_new n (Answered by response sent handled place)
    (Answered other_by other_response other_sent other_handled other) is then =
    λ same. absurd (omega (arith, is, then, same))

pub new_then_old : (n : ℕ) (new old : Fate) → IsNew n new → IsOld n old → HaveOtherPlaces new old
new_then_old n Unanswered old is then = tt
new_then_old n (Answered by response sent handled place) Unanswered is then = tt
new_then_old n (Answered by response sent handled place)
    (Answered other_by other_response other_sent other_handled other) is then =
    λ same. absurd (omega (arith, is, then, same))

-- ---- queued messages

-- A message stays at its place.
pub still_at : {A : Type 0} (xs ys : List A) (i : ℕ) (x : A) → slice_get xs i ≡ Some x → slice_get (xs ++ ys) i ≡ Some x
still_at [] ys i x e = absurd cc
still_at (z ∷ xs) ys zero x e = e
still_at (z ∷ xs) ys (suc i) x e = still_at xs ys i x e

pub next_at : {A : Type 0} (xs : List A) (x : A) (ys : List A) → slice_get (xs ++ x ∷ ys) (length xs) ≡ Some x
next_at [] x ys = refl
next_at (z ∷ xs) x ys = next_at xs x ys

-- A history has the fixed values and the messages of another one. It handled these messages since, and perhaps
-- queued more.
pub record Extends (received : List Message) (h k : History) : Type 0 where
  pub fixed : (k.limits ≡ h.limits) × (k.role ≡ h.role)
  pub handled : k.handled ≡ h.handled ++ received
  pub more : List Message
  pub queued : k.queued ≡ h.queued ++ more
  pub running : has_stopped k.phase ≡ false → has_stopped h.phase ≡ false

-- The fate of a request stays.
pub still_fate : {received : List Message} (h k : History) → Extends received h k → (r : ApplicationRequest)
    (fate : Fate) → HasFate h r fate → HasFate k r fate
still_fate h k e r Unanswered has = tt
still_fate {received} h k e r (Answered by response sent handled place) has =
    grind (arith, common_steps, take-append-le, still_at, length-append)
