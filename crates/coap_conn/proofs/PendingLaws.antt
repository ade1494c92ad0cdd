-- The entry that is due first, and Pongs with Custody that wait for pending entries.
use Rattle.std.proofs.Common.{◌≡◌, ℕ, zero, suc, ◌+◌, ◌<◌, ◌≤◌, Bool, true, false, List, [], ◌∷◌, ◌++◌, length, get_or}
use Rattle.std.proofs.Common.{take, drop, min, Option, Some, None, refl, sym, ap, subst, ◌∙◌, arith, inl, inr}
use Rattle.coap_conn.specs.Prelude.{Responder, slice_get, AllByRecursion, list_any, filter_map, cons_option, fold}
use Rattle.coap_conn.specs.Prelude.{reduce, position, position_from, Message, Reason, stop_of, ConnectionState}
use Rattle.coap_conn.specs.Prelude.{ReactionResult, Reaction, react, is_custody_pong, PendingEntryValue, Answer, Pong}
use Rattle.coap_conn.specs.Prelude.{due_moment, earliest_due, is_answer_at, answer_index, pong_index, else_index}
use Rattle.coap_conn.specs.Prelude.{due_index, entry_at, without_at, first_due, without_due, NothingIsDue, IsDueFirst}
use Rattle.std.proofs.lemmas.Bool.{leb-true, eqb-true, eq-eqb, or_cases}
use Rattle.std.proofs.lemmas.List.{append-nil, length-append}
use Rattle.std.proofs.lemmas.List.Quantifiers.{position-Some}
use Rattle.std.proofs.lemmas.Iterator.Adapters.{position_from-zero}
use Rattle.std.proofs.lemmas.Option.{slice_get-get_or}
use Rattle.coap_conn.specs.declared.phase.Phase.TheVariants as phase
use Rattle.coap_conn.proofs.ReactionLaws.{IsPlain, Reacts, Replies, Stops, Waits, reacts}

-- ---- the earliest time that has come

pub cons_parts : {X : Type 0} (P : X → Type 0) (o : Option X) (xs : List X) → AllByRecursion P (cons_option o xs)
    → ((x : X) → o ≡ Some x → P x) × AllByRecursion P xs
cons_parts P None xs each = (λ x e. absurd cc, each)
cons_parts P (Some y) xs each = (λ x e. let same : y ≡ x = cc in subst P same each.0, each.1)

has_come : (now moment : ℕ) (e : PendingEntryValue) → due_moment now e ≡ Some moment
    → (moment ≤ now) × (is_answer_at moment e ≡ true)
has_come now moment e is = grind (arith, leb-true, eq-eqb)

-- No time that has come is earlier.
abbrev NoneEarlier : ℕ → List PendingEntryValue → ℕ → Type 0
NoneEarlier now pending m = AllByRecursion (λ e. (other : ℕ) → due_moment now e ≡ Some other → m ≤ other) pending

abbrev NoAnswerAt : ℕ → List PendingEntryValue → Type 0
NoAnswerAt m pending = AllByRecursion (λ e. is_answer_at m e ≡ false) pending

-- The least of the time `a` and of the times that have come.
record IsLeast (now a : ℕ) (pending : List PendingEntryValue) (m : ℕ) : Type 0 where
  below : m ≤ a
  least : NoneEarlier now pending m
  there : NoAnswerAt m pending → a ≡ m

fold_least : (now a : ℕ) (pending : List PendingEntryValue)
    → IsLeast now a pending (fold min a (filter_map (due_moment now) pending))
fold_least now a [] = record { below = omega arith; least = tt; there = λ none. refl }
fold_least now a (e ∷ pending) = by (due_moment now e) refl (λ b. fold_least now b pending)
  where
    by : (o : Option ℕ) → due_moment now e ≡ o
        → ((b : ℕ) → IsLeast now b pending (fold min b (filter_map (due_moment now) pending)))
        → IsLeast now a (e ∷ pending) (fold min a (cons_option o (filter_map (due_moment now) pending)))
    by None is later =
        let h = later a in
        record { below = h.below; least = (λ other due. absurd cc, h.least); there = λ none. h.there none.1 }
    by (Some t) is later =
        let h = later (min a t) in
        record {
          below = omega (arith, h.below);
          least = (λ other due. let same : t ≡ other = cc in omega (arith, h.below), h.least);
          there = λ none. grind (arith, h.there none.1, has_come now t e is, none.0);
        }

-- The earliest time that has come.
record IsEarliest (now : ℕ) (pending : List PendingEntryValue) (m : ℕ) : Type 0 where
  come : m ≤ now
  least : NoneEarlier now pending m
  there : NoAnswerAt m pending → ⊥

abbrev Earliest : ℕ → List PendingEntryValue → Option ℕ → Type 0
Earliest now pending None = AllByRecursion (λ e. due_moment now e ≡ None) pending
Earliest now pending (Some m) = IsEarliest now pending m

is_earliest : (now : ℕ) (pending : List PendingEntryValue) → Earliest now pending (earliest_due now pending)
is_earliest now [] = tt
is_earliest now (e ∷ pending) = by (due_moment now e) refl (is_earliest now pending)
  where
    later : (o : Option ℕ) → due_moment now e ≡ None → Earliest now pending o → Earliest now (e ∷ pending) o
    later None is h = (is, h)
    later (Some m) is h = record {
      come = h.come;
      least = (λ other due. absurd cc, h.least);
      there = λ none. h.there none.1;
    }

    by : (o : Option ℕ) → due_moment now e ≡ o → Earliest now pending (earliest_due now pending)
        → Earliest now (e ∷ pending) (reduce min (cons_option o (filter_map (due_moment now) pending)))
    by None is h = later _ is h
    by (Some t) is h =
        let f = fold_least now t pending in
        let come = has_come now t e is in
        record {
          come = omega (arith, f.below, come.0);
          least = (λ other due. let same : t ≡ other = cc in omega (arith, f.below), f.least);
          there = λ none. cc (f.there none.1, come.1, none.0);
        }

-- ---- positions

-- A list is the part before an element, the element, and the part after it.
pub split_at : {X : Type 0} (xs : List X) (i : ℕ) (x : X) → slice_get xs i ≡ Some x
    → xs ≡ take i xs ++ x ∷ drop (suc i) xs
split_at [] i x e = absurd cc
split_at (y ∷ xs) zero x e = cc
split_at (y ∷ xs) (suc i) x e = cc (split_at xs i x e)

-- No element before the position found passes the test.
pub none_before : {X : Type 0} (p : X → Bool) (xs : List X) (i : ℕ) (d : X)
    → ((k : ℕ) → k < i → p (get_or xs k d) ≡ false) → AllByRecursion (λ x. p x ≡ false) (take i xs)
none_before p [] zero d none = tt
none_before p [] (suc i) d none = tt
none_before p (x ∷ xs) zero d none = tt
none_before p (x ∷ xs) (suc i) d none =
    (none 0 (omega arith), none_before p xs i d (λ k within. none (suc k) (omega (arith, within))))

none_from : {X : Type 0} (p : X → Bool) (n : ℕ) (xs : List X) → position_from p n xs ≡ None
    → AllByRecursion (λ x. p x ≡ false) xs
none_from p n [] e = tt
none_from p n (x ∷ xs) e =
    let other : p x ≡ false = grind arith in
    (other, none_from p (n + 1) xs (rw other at e))

pub no_position : {X : Type 0} (p : X → Bool) (xs : List X) → position p xs ≡ None
    → AllByRecursion (λ x. p x ≡ false) xs
no_position p xs e = none_from p 0 xs (sym (position_from-zero p xs) ∙ e)

-- ---- the entry that is due first

-- The entry that is due first, and the entries without it: a response of the earliest time, a Pong that no entry
-- precedes, or none.
data FirstDue (now : ℕ) (pending : List PendingEntryValue)
    : Option PendingEntryValue → List PendingEntryValue → Type 0 where
  AnswerDue : (by : Responder) (token : List ℕ) (moment : ℕ) (rest : List PendingEntryValue)
      → IsDueFirst now pending by token moment rest → FirstDue now pending (Some (Answer by token moment)) rest
  PongDue : (token : List ℕ) (rest : List PendingEntryValue) → pending ≡ Pong token ∷ rest
      → AllByRecursion (λ e. due_moment now e ≡ None) pending → FirstDue now pending (Some (Pong token)) rest
  NoneDue : NothingIsDue now pending → FirstDue now pending None pending

abbrev FirstAt : ℕ → List PendingEntryValue → Option ℕ → Type 0
FirstAt now pending i = FirstDue now pending (entry_at pending i) (without_at pending i)

-- The first response of the earliest time is due first.
answer_first : (now m : ℕ) (pending : List PendingEntryValue) (i : ℕ) (e : PendingEntryValue)
    → IsEarliest now pending m → position (is_answer_at m) pending ≡ Some i → slice_get pending i ≡ Some e
    → is_answer_at m e ≡ true → FirstAt now pending (Some i)
answer_first now m pending i (Pong token) h found there passes = absurd cc
answer_first now m pending i (Answer by token moment) h found there passes =
    let same = eqb-true moment m passes in
    rw there (AnswerDue by token moment _ (record {
      before = take i pending;
      after = drop (suc i) pending;
      there = split_at pending i (Answer by token moment) there;
      without = refl;
      has_come = omega (arith, same, h.come);
      least = rw same h.least;
      earliest = rw same (none_before (is_answer_at m) pending i (Pong [])
          (position-Some (is_answer_at m) pending i (Pong []) found).2);
    }))

-- The case in which no response is due.
pong_first : (now : ℕ) (pending : List PendingEntryValue) → AllByRecursion (λ e. due_moment now e ≡ None) pending
    → FirstAt now pending (pong_index pending)
pong_first now [] none = NoneDue (none, refl)
pong_first now (Answer by token moment ∷ pending) none = NoneDue (none, refl)
pong_first now (Pong token ∷ pending) none = PongDue token pending refl none

-- Both cases, by the earliest time and the position of its response.
first_at : (now : ℕ) (pending : List PendingEntryValue) (m : Option ℕ) (found : Option ℕ) → Earliest now pending m
    → answer_index m pending ≡ found → FirstAt now pending (else_index found (pong_index pending))
first_at now pending None None h is = pong_first now pending h
first_at now pending None (Some i) h is = absurd cc
first_at now pending (Some m) None h is = absurd (h.there (no_position (is_answer_at m) pending is))
first_at now pending (Some m) (Some i) h is =
    let at = position-Some (is_answer_at m) pending i (Pong []) is in
    answer_first now m pending i (get_or pending i (Pong [])) h is (slice_get-get_or pending i _ at.0) at.1

first_is : (now : ℕ) (pending : List PendingEntryValue)
    → FirstDue now pending (first_due now pending) (without_due now pending)
unfolding due_index first_due without_due
first_is now pending = first_at now pending (earliest_due now pending) _ (is_earliest now pending) refl

pub due_answer : (now : ℕ) (pending : List PendingEntryValue) (by : Responder) (token : List ℕ) (moment : ℕ)
    → first_due now pending ≡ Some (Answer by token moment) → IsDueFirst now pending by token moment
    (without_due now pending)
due_answer now pending by token moment = of (first_is now pending)
  where
    of : {o : Option PendingEntryValue} {rest : List PendingEntryValue} → FirstDue now pending o rest
        → o ≡ Some (Answer by token moment) → IsDueFirst now pending by token moment rest
    of (AnswerDue other_by other at rest first) is =
        let one : by ≡ other_by = cc in
        let two : token ≡ other = cc in
        let three : moment ≡ at = cc in
        rw (one, two, three) first
    of _ is = absurd cc

pub due_pong : (now : ℕ) (pending : List PendingEntryValue) (token : List ℕ) → first_due now pending ≡ Some (Pong token)
    → pending ≡ Pong token ∷ without_due now pending
due_pong now pending token = of (first_is now pending)
  where
    of : {o : Option PendingEntryValue} {rest : List PendingEntryValue} → FirstDue now pending o rest
        → o ≡ Some (Pong token) → pending ≡ Pong token ∷ rest
    of (PongDue other rest there none) is = cc
    of _ is = absurd cc

pub due_alone : (now : ℕ) (pending : List PendingEntryValue) (token : List ℕ)
    → first_due now pending ≡ Some (Pong token) → AllByRecursion (λ e. due_moment now e ≡ None) pending
due_alone now pending token = of (first_is now pending)
  where
    of : {o : Option PendingEntryValue} {rest : List PendingEntryValue} → FirstDue now pending o rest
        → o ≡ Some (Pong token) → AllByRecursion (λ e. due_moment now e ≡ None) pending
    of (PongDue other rest there none) is = none
    of _ is = absurd cc

pub due_nothing : (now : ℕ) (pending : List PendingEntryValue) → first_due now pending ≡ None
    → NothingIsDue now pending × (without_due now pending ≡ pending)
due_nothing now pending = of (first_is now pending)
  where
    of : {o : Option PendingEntryValue} {rest : List PendingEntryValue} → FirstDue now pending o rest
        → o ≡ None → NothingIsDue now pending × (rest ≡ pending)
    of (NoneDue nothing) is = (nothing, refl)
    of _ is = absurd cc

pub due_fewer : (now : ℕ) (pending : List PendingEntryValue) (e : PendingEntryValue) → first_due now pending ≡ Some e
    → length pending ≡ 1 + length (without_due now pending)
due_fewer now pending e = of (first_is now pending)
  where
    of : {o : Option PendingEntryValue} {rest : List PendingEntryValue} → FirstDue now pending o rest → o ≡ Some e
        → length pending ≡ 1 + length rest
    of (AnswerDue by token moment rest first) is =
        rw (first.there, first.without) (simp length-append (omega arith))
    of (PongDue token rest there none) is = omega (arith, ap length there)
    of (NoneDue nothing) is = absurd cc

-- ---- Pongs with Custody wait for pending entries

no_custody : (ms : List Message) → AllByRecursion IsPlain ms → list_any is_custody_pong ms ≡ true → ⊥
no_custody [] plain is = cc
no_custody (m ∷ ms) plain is = elim (or_cases (is_custody_pong m) _ is) [
  | inl one ↦ cc (plain.0.1)
  | inr more ↦ no_custody ms plain.1 more
]

pub custody_at_once : (s : ConnectionState) (m : Message)
    → list_any is_custody_pong (react s m).effect.queued ≡ true → s.pending ≡ []
custody_at_once s m = by (reacts s m)
  where
    by : {over : Option Reason} {r : Reaction} → Reacts s m over r → list_any is_custody_pong r.effect.queued ≡ true
        → s.pending ≡ []
    by (Stops why farewell last) is = absurd (no_custody farewell last.plain is)
    by (Replies n may small) is = grind (arith, may.alone)
    by _ is = absurd cc

pub pending_few : (s : ConnectionState) (m : Message) → length s.pending ≤ s.most
    → length (react s m).effect.pending ≤ s.most
pending_few s m few = by (reacts s m)
  where
    by : {over : Option Reason} {r : Reaction} → Reacts s m over r → length r.effect.pending ≤ s.most
    by (Stops why farewell last) = omega arith
    by (Waits now ping asks some room) = omega (arith, length-append s.pending (Pong m.token ∷ []))
    by _ = few

-- Pending entries stay in the list, and others may be appended.
abbrev HoldsMore : ConnectionState → ReactionResult → Type 0
HoldsMore s e = (more : List PendingEntryValue) × (e.pending ≡ s.pending ++ more)

pub pending_more : (s : ConnectionState) (m : Message) → stop_of (react s m).effect.phase ≡ None
    → HoldsMore s (react s m).effect
pending_more s m = by (reacts s m)
  where
    by : {over : Option Reason} {r : Reaction} → Reacts s m over r → stop_of r.effect.phase ≡ None
        → HoldsMore s r.effect
    by (Stops why farewell last) live = absurd cc
    by (Waits now ping asks some room) live = (Pong m.token ∷ [], refl)
    by _ live = ([], sym (append-nil s.pending))

-- A Release keeps the pending entries.
pub pending_released : (s : ConnectionState) (m : Message) (why : Reason) → s.phase ≡ phase.Open
    → (react s m).effect.phase ≡ phase.Releasing why → (react s m).effect.pending ≡ s.pending
pending_released s m why opened = by (reacts s m)
  where
    by : {over : Option Reason} {r : Reaction} → Reacts s m over r → r.effect.phase ≡ phase.Releasing why
        → r.effect.pending ≡ s.pending
    by (Stops because farewell last) is = absurd cc
    by (Waits now ping asks some room) is = absurd cc
    by _ is = refl

-- A stop drops the pending entries.
pub pending_given_up : (s : ConnectionState) (m : Message) (why : Reason) → stop_of s.phase ≡ None
    → (react s m).effect.phase ≡ phase.Stopped why → (react s m).effect.pending ≡ []
pending_given_up s m why live = by (reacts s m)
  where
    by : {over : Option Reason} {r : Reaction} → Reacts s m over r → r.effect.phase ≡ phase.Stopped why
        → r.effect.pending ≡ []
    by (Stops because farewell last) is = refl
    by _ is = absurd cc
