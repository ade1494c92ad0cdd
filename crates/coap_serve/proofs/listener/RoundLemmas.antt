-- The connections that a turn serves or skips, one after another, the effect of a sweep, and the entry of a connection
-- that was released.
use Rattle.std.proofs.Common.{ℕ, ◌≡◌, ◌+◌, ◌<◌, ◌≤◌, true, false, List, [], ◌∷◌, ◌++◌, length, take, drop, Some}
use Rattle.std.proofs.Common.{IfSome, refl, sym, ◌∙◌, arith, slice_get, remove, append_assoc, ◌==◌, Option, None, ap}
use Rattle.std.proofs.Common.{subst, zero, suc, nat_eq, if◌then◌else◌, map, position, get_or, option_map, inl, inr}
use Rattle.std.proofs.Common.{is_some}
use Rattle.std.proofs.lemmas.List.{append-nil, drop_all, take_all}
use Rattle.std.proofs.lemmas.Option.{slice_get-map, slice_get_within, slice_get_cases, get_or_from_slice_get}
use Rattle.coap_serve.specs.Prelude.{AreServed, CanGoOn, Continues, HasAccepted, HasGoneOn, History, IsAccepted, NoMore}
use Rattle.coap_serve.specs.Prelude.{IsVisited, Journal, LoopState, Over, Peer, PeerOutcome, ServerValue, Skipped, Way}
use Rattle.coap_serve.specs.Prelude.{Visited, history_then, keys_of, loop_state, no_history, AddsCalls}
use Rattle.coap_serve.specs.Prelude.{Answering, DoorCall, Following, LiesAt, journal, one_drop, set_value_at}
use Rattle.coap_serve.specs.Prelude.{status_of_peer}
use Rattle.coap_serve.specs.Prelude.{visit, DropReason, IsReasonFor, work_of, SilenceAction, Released, ArePaired, acted}
use Rattle.coap_serve.specs.Prelude.{one_call, server_released, released_refusal, status_of, released_at, unswept}
use Rattle.coap_serve.specs.Prelude.{silence_action, drop_one, due_sweep, Sweep, swept, swept_one, HasSwept, HasSweptAt}
use Rattle.coap_serve.specs.Prelude.{ReleaseFault, IsDistinct, released_on}
use Rattle.coap_serve.specs.declared.door.peer.PeerOutcome.TheVariants.{Open}
use Rattle.coap_serve.proofs.listener.EntryLemmas.{back_removed, back_written, beside_written, carried_on, front_kept}
use Rattle.coap_serve.proofs.listener.EntryLemmas.{front_stays, front_written, next_first, length_written}
use Rattle.coap_model.proofs.OptionLemmas.{there_at}
use Rattle.coap_serve.proofs.listener.ServingLemmas.{accepted_none, accepted_then, swept_called, then_assoc, then_none}
use Rattle.std.proofs.lemmas.Bool.Decides.{nat_tests}
use Rattle.coap_server_engine.specs.declared.monitor.DropReason.TheVariants as drop
use Rattle.coap_serve.specs.listener.Silence.{release_one}
use Rattle.coap_serve.proofs.listener.SleepLemmas.{paired_same, paired_written}
use Rattle.std.proofs.lemmas.Bool.{eq-eqb, eqb-true}
use Rattle.std.proofs.lemmas.Cmp.{nat_eq_equiv}
use Rattle.std.proofs.lemmas.Map.{NonePasses, lookup-none}
use Rattle.std.proofs.lemmas.Map.Entries.{none_past_head, lookup_from_place, length-keys_of}
use Rattle.std.specs.List.{position_or_len}
use Rattle.std.specs.Map.{lookup}
use Rattle.std.proofs.lemmas.List.Quantifiers.{position-Some}

module _ {W : Type 0} (S : Way W) where
  -- ---- one after the other

  -- The progress of a turn: the connections before an index were served or skipped. If the others are too, all are.
  pub record AreServedTo (start now : LoopState W) (at : ℕ) (h : History W) : Type 0 where
    pub rest : (w : LoopState W) (k : History W) → AreServed S (loop_state now.server (drop at now.entries)) w k
        → AreServed S start (loop_state w.server (take at now.entries ++ w.entries)) (history_then h k)

  pub none_served : {start : LoopState W} → AreServedTo start start 0 no_history
  none_served = record { rest = λ w k served. served }

  one_skipped : {start now : LoopState W} (at : ℕ) {h : History W} {e : ℕ × Peer W} → slice_get now.entries at ≡ Some e
      → CanGoOn (status_of_peer S now.server e) false → AreServedTo start now at h → AreServedTo start now (at + 1) h
  one_skipped {start = start} {now = now} at {h = h} {e = e} there calm so_far = record {
    rest = λ w k served.
        let others = so_far.rest (loop_state w.server (e ∷ w.entries)) k (rw (next_first now.entries at there)
        (Skipped now.server e (drop (at + 1) now.entries) w k calm served)) in
        rw (front_kept now.entries at e there, append_assoc (take at now.entries) (e ∷ []) w.entries) others;
  }

  -- The connections up to another index were skipped.
  pub skipped_to : {start now : LoopState W} (at to : ℕ) {h : History W} → at ≤ to → to ≤ length now.entries
      → ((i : ℕ) → at ≤ i → i < to → IfSome (slice_get now.entries i) (λ e. CanGoOn (status_of_peer S now.server e)
      false)) → AreServedTo start now at h → AreServedTo start now to h
  skipped_to {start = start} {now = now} at to {h = h} order within calm so_far =
      carried_on (λ k. AreServedTo start now k h) at to order so_far
      (λ i after below before.
      (let there = there_at now.entries i (omega (arith, below, within)) in
      one_skipped i there.1 (rw there.1 at (calm i after below)) before))

  pub one_served : {start s after : LoopState W} {i at : ℕ} {h k : History W} → HasGoneOn S s i after at k → AreServedTo
      start s i h → AreServedTo start after at (history_then h k)
  one_served {s = s} {after = after} {i = i} {h = h} {k = k} gone so_far = record {
    rest = λ w l served.
        rw (gone.front, append_assoc (take i s.entries) gone.its w.entries, then_assoc h k l)
        (so_far.rest (loop_state w.server (gone.its ++ w.entries)) (history_then k l)
        (rw (next_first s.entries i gone.there) (Visited s.server gone.e (drop (i + 1) s.entries)
        (loop_state after.server gone.its) k w l gone.can gone.part (rw gone.back at served))));
  }

  pub all_are_served : {start now : LoopState W} {at : ℕ} {h : History W} → length now.entries ≤ at → AreServedTo start
      now at h → AreServed S start now h
  all_are_served {start = start} {now = now} {at = at} {h = h} most so_far =
      let all = so_far.rest (loop_state now.server []) no_history (rw (drop_all at now.entries most)
      (NoMore now.server)) in
      rw (append-nil (take at now.entries), take_all at now.entries most, then_none {h = h}) at all

  -- ---- one connection

  module _ {v between : ServerValue} {es : List (ℕ × Peer W)} {i id : ℕ} {was p : Peer W} {a b : Journal W}
      {outcome : PeerOutcome} (there : slice_get es i ≡ Some (id, was))
      (ready : IfSome (slice_get es i) (λ e. CanGoOn (status_of_peer S v e) true))
      (part : HasAccepted (λ h. IsVisited S v (id, was) (visit between p outcome h)) (Continues a b) v between) where
    pub one_open : outcome ≡ Open → HasAccepted (HasGoneOn S (loop_state v es) i
        (loop_state between (set_value_at es i p)) (i + 1)) (Continues a b) v between
    one_open open_now = record {
      history = part.history;
      made = record {
        e = (id, was);
        its = (id, p) ∷ [];
        there = there;
        can = rw there at ready;
        part = record {
          its = visit between p outcome part.history;
          part = part.made;
          server = rw open_now refl;
          far_end = rw open_now refl;
          all = rw open_now (sym then_none);
        };
        front = front_written es i id was p there;
        back = back_written es i p;
      };
      accepted = part.accepted;
    }

    pub one_over : {c : Journal W} {after : ServerValue} {now : List (ℕ × Peer W)} {reason : DropReason}
        → outcome ≡ Over reason → now ≡ remove (set_value_at es i p) i
        → HasSwept (Continues b c) (drop_one between (id, p)) between after
        → HasAccepted (HasGoneOn S (loop_state v es) i (loop_state after now) i) (Continues a c) v after
    one_over over removed dropped =
        record {
          history = history_then part.history (one_drop id p.wire);
          made = record {
            e = (id, was);
            its = [];
            there = there;
            can = rw there at ready;
            part = record {
              its = visit between p outcome part.history;
              part = part.made;
              server = rw over dropped.server;
              far_end = rw over refl;
              all = rw over refl;
            };
            front = rw (removed, beside_written es i p, append-nil) (front_stays es i (slice_get_within es i _ there));
            back = rw (removed, beside_written es i p) (back_removed es i (slice_get_within es i _ there));
          };
          accepted = accepted_then part.accepted dropped.accepted;
        }

-- ---- the effect of a sweep, connection by connection

-- A value was recorded at the index.
pub as_many_recorded : {X : Type 0} (f : ℕ × X → X) (es left : List (ℕ × X)) (i : ℕ) → i < length es
    → IfSome (slice_get es i) (λ e. left ≡ set_value_at es i (f e)) → length left ≡ length es
as_many_recorded f es left i within is =
    let at = there_at es i within in
    ap length (rw at.1 at is) ∙ length_written es i (f at.0)

-- ---- one connection

-- Any connection may be dropped as silent.
pub silent_reason : {W : Type 0} (v : ServerValue) (es : List (ℕ × Peer W)) (i : ℕ) → IfSome (slice_get es i)
    (λ e. IfSome (work_of v e.0) (IsReasonFor drop.Silent))
silent_reason v es i = grind arith

pub dropped_here : {W : Type 0} (Known : History W → Type 0) (v after : ServerValue) (es left : List (ℕ × Peer W))
    (i : ℕ) → i < length es → left ≡ remove es i
    → IfSome (slice_get es i) (λ e. HasSwept Known (drop_one v e) v after)
    → IfSome (slice_get es i) (λ e. HasSweptAt Known (drop_one v e) (loop_state v es) i (loop_state after left) i)
dropped_here Known v after es left i within is dropped =
    let at = there_at es i within in
    rw at.1 (record {
      has = rw at.1 at dropped;
      front = rw (is, append-nil) (front_stays es i within);
      back = rw is (back_removed es i within);
    })

pub released_here : {W : Type 0} {Known : History W → Type 0} (now : ℕ) {v after : ServerValue}
    {es left : List (ℕ × Peer W)} (i : ℕ) {e : ℕ × Peer W} → slice_get es i ≡ Some e → after ≡ server_released v e.0
    → left ≡ set_value_at es i (released_at now e.1) → IsAccepted Known v after (one_call (Released e.0))
    → HasSweptAt Known (release_one now v e) (loop_state v es) i (loop_state after left) (i + 1)
released_here now {es = es} i {e = e} there released is accepted = record {
  has = record { server = released; accepted = accepted };
  front = rw is (front_written es i e.0 e.1 (released_at now e.1) there);
  back = rw is (back_written es i (released_at now e.1));
}

-- The connection stays.
pub kept_here : {W : Type 0} {a : Journal W} {s : LoopState W} {i : ℕ} {e : ℕ × Peer W} → slice_get s.entries i ≡ Some e
    → HasSweptAt (Continues a a) (unswept s.server (e ∷ [])) s i s (i + 1)
kept_here {s = s} {i = i} {e = e} there = record {
  has = search accepted_none;
  front = front_kept s.entries i e there;
  back = refl;
}

-- The action is that of the rule, and `release` has this result.
pub acted_here : {W : Type 0} {Known : History W → Type 0} (idle now : ℕ) {s after : LoopState W} {i next : ℕ}
    {e : ℕ × Peer W} (action : SilenceAction) {refusal : Option ReleaseFault}
    → slice_get s.entries i ≡ Some e → action ≡ silence_action idle now (status_of s.server e.0) e.1.activity
    → refusal ≡ released_refusal s.server e.0 → HasSweptAt Known (acted action refusal now s.server e) s i after next
    → IfSome (slice_get s.entries i) (λ e. HasSweptAt Known (swept_one idle now s.server e) s i after next)
acted_here idle now action at is refused part = rw (at, ← is, ← refused) part

-- ---- pairs

pub paired_released : {W : Type 0} (now : ℕ) {v after : ServerValue} (i : ℕ) {es left : List (ℕ × Peer W)}
    → keys_of after.sessions ≡ keys_of v.sessions → i < length es → IfSome (slice_get es i) (λ e. left ≡ set_value_at es
    i (released_at now e.1)) → ArePaired v es → ArePaired after left
paired_released now i {es = es} keys within is paired =
    let at = there_at es i within in
    paired_written paired i (released_at now at.0.1) keys (rw at.1 at is)

-- ---- all connections

-- The part of a sweep with the effect `s` that was made: `front` are the entries that were visited, and `rest` those
-- still to visit.
pub record IsSweptTo {W : Type 0} (Known : History W → Type 0) (s : Sweep W) (idle now : ℕ) (u v : ServerValue)
    (front rest : List (ℕ × Peer W)) : Type 0 where
  pub history : History W
  pub accepted : IsAccepted Known u v history
  pub server : (swept idle now v rest).server ≡ s.server
  pub entries : front ++ (swept idle now v rest).entries ≡ s.entries
  pub made : history_then history (swept idle now v rest).history ≡ s.history

pub none_swept : {W : Type 0} (a : Journal W) {idle now : ℕ} {v : ServerValue} (es : List (ℕ × Peer W))
    → IsSweptTo (Continues a a) (swept idle now v es) idle now v v (take 0 es) (drop 0 es)
none_swept a {v = v} es = record {
  history = no_history;
  accepted = accepted_none a v v refl;
  server = refl;
  entries = refl;
  made = refl;
}

pub one_more_swept : {W : Type 0} {a : Journal W} {m n : Following} {p q : Answering} {d e : Option (List (DoorCall W))}
    (calls : List (DoorCall W)) {s : Sweep W} (idle now : ℕ) {u v w : ServerValue} (es left : List (ℕ × Peer W))
    (i at : ℕ) → i < length es
    → IsSweptTo (Continues a (journal m p d)) s idle now u v (take i es) (drop i es) → IfSome (slice_get es i)
    (λ x. HasSweptAt (Continues (journal m p (Some [])) (journal n q (Some calls))) (swept_one idle now v x)
    (loop_state v es) i (loop_state w left) at) → AddsCalls d e calls
    → IsSweptTo (Continues a (journal n q e)) s idle now u w (take at left) (drop at left)
unfolding swept
one_more_swept {m = m} {n = n} {p = p} {q = q} calls idle now {v = v} {w = w} es left i at within so_far part
    called =
    let there = there_at es i within in
    let one = rw there.1 at part in
    let has = swept_called called one.has in
    let before = rw (next_first es i there.1) at so_far in
    rw (one.front, one.back, one.has.server) (record {
      history = history_then before.history (swept_one idle now v there.0).history;
      accepted = accepted_then before.accepted (rw one.has.server at has.accepted);
      server = before.server;
      entries = rw append_assoc before.entries;
      made = rw then_assoc before.made;
    })

pub all_swept : {W : Type 0} {Known : History W → Type 0} {s : Sweep W} {idle now : ℕ} {u v : ServerValue}
    (es : List (ℕ × Peer W)) (i : ℕ) → length es ≤ i → IsSweptTo Known s idle now u v (take i es) (drop i es)
    → HasSwept Known s u v × (es ≡ s.entries)
unfolding swept
all_swept {Known = Known} {s = s} {u = u} {v = v} es i most so_far =
    let done = rw (drop_all i es most, take_all i es most) at so_far in
    let same : done.history ≡ s.history = sym (then_none) ∙ done.made in (
      record { server = done.server; accepted = subst (IsAccepted Known u v) same done.accepted },
      rw append-nil at
          done.entries,
    )

-- ---- no sweep

pub unswept_made : {W : Type 0} (a : Journal W) {v : ServerValue} (es : List (ℕ × Peer W)) → HasSwept (Continues a a)
    (unswept v es) v v
unswept_made a es = search accepted_none

-- The sweep of this second was made.
pub made_before : {W : Type 0} (a : Journal W) (idle : Option ℕ) {last second : ℕ} {v : ServerValue}
    (es : List (ℕ × Peer W)) → second ≡ last → HasSwept (Continues a a) (due_sweep idle last second v es) v v
made_before a None {v = v} es same = unswept_made a es
made_before a (Some idle) {last = last} {second = second} {v = v} es same =
    let is : (second == last) ≡ true = grind (arith, nat_tests) in
    rw is (unswept_made a es)

-- ---- the entry of a connection that was released

-- The entry at the place of a number has that number.
pub number_at : {X : Type 0} (id : ℕ) (es : List (ℕ × X)) (i k : ℕ) (x : X) → Some i ≡ position (nat_eq id) (keys_of es)
    → slice_get es i ≡ Some (k, x) → k ≡ id
number_at {X} id es i k x there at =
    let passes = (position-Some (nat_eq id) (keys_of es) i k (sym there)).1 in
    let key : get_or (keys_of es) i k ≡ k = get_or_from_slice_get (keys_of es) i k k (slice_get-map (λ e. e.0)
    es i ∙ ap (λ o. option_map (λ e. e.0) o) at) in
    sym (eqb-true id k (rw key at passes))

-- A connection of the server has an entry.
found_so : {X : Type 0} (id : ℕ) (es : List (ℕ × X)) → position_or_len (nat_eq id) (keys_of es) < length es
    → lookup (nat_eq id) es ≡ None → ⊥
found_so id [] within none = omega (arith, within)
found_so id (e ∷ es) within none = grind (arith, nat_tests, found_so id es)

pub found_there : {W : Type 0} {v : ServerValue} {es : List (ℕ × Peer W)} (id at : ℕ) → ArePaired v es
    → LiesAt id at v.sessions → lookup (nat_eq id) es ≡ None → ⊥
found_there {v = v} {es = es} id at paired lies none =
    found_so id es (rw paired.keys (omega (
      arith,
      lies.index,
      lies.within,
      length-keys_of es,
      length-keys_of v.sessions,
      ap length paired.keys,
    ))) none

-- ---- one entry that is recorded anew

-- A place that was not found has no entry.
pub none_found : {A B : Type 0} (r : Option A) (o : Option B) → is_some r ≡ is_some o → r ≡ None → o ≡ None
none_found r o found is = grind arith

-- `f` makes the new value of an entry.
module _ {W : Type 0} (f : ℕ × Peer W → Peer W) where
  -- The entries with a new value for this number.
  abbrev changed_on : ℕ → List (ℕ × Peer W) → List (ℕ × Peer W)
  changed_on id es = map (λ e. if nat_eq id e.0 then (e.0, f e) else e) es

  changed_nowhere : (id : ℕ) (es : List (ℕ × Peer W)) → NonePasses (nat_eq id) es → changed_on id es ≡ es
  changed_nowhere id [] none = refl
  changed_nowhere id (e ∷ es) none = rw (none.0, changed_nowhere id es none.1) refl

  -- No connection has the number.
  pub changed_without : (id : ℕ) {es : List (ℕ × Peer W)} → NonePasses (nat_eq id) es → es ≡ changed_on id es
  changed_without id {es = es} none = sym (changed_nowhere id es none)

  -- The value is recorded at the index of the number.
  pub changed_there : (id : ℕ) (es : List (ℕ × Peer W)) (i : ℕ) (p : Peer W) → IsDistinct nat_eq (keys_of es)
      → slice_get es i ≡ Some (id, p) → set_value_at es i (f (id, p)) ≡ changed_on id es
  unfolding IsDistinct
  changed_there id [] i p distinct at = absurd cc
  changed_there id (e ∷ es) zero p distinct at =
      let same : e ≡ (id, p) = cc in
      let is : nat_eq id e.0 ≡ true = eq-eqb id e.0 (sym (ap (λ e. e.0) same)) in
      rw (is, changed_nowhere id es (none_past_head nat_eq_equiv id e es distinct is)) (ap (λ e'. (e.0, f e') ∷ es)
      (sym same))
  changed_there id (e ∷ es) (suc i) p distinct at =
      let there = lookup_from_place nat_eq_equiv es i id p distinct.1 at in
      elim (nat_eq id e.0) as (λ b. nat_eq id e.0 ≡ b → e ∷ set_value_at es i (f (id, p)) ≡ (if b then (e.0, f e) else
      e) ∷ changed_on id es) [
        | true ↦ λ is. let none = lookup-none (nat_eq id) es (none_past_head nat_eq_equiv id e es distinct is) in
            absurd (cc (there, none))
        | false ↦ λ is. ap (λ es. e ∷ es) (changed_there id es i p distinct.1 at)
      ] refl

  -- The same for a place that was looked up.
  pub changed_found : (id : ℕ) (es : List (ℕ × Peer W)) {now : List (ℕ × Peer W)} {i : ℕ} → IsDistinct nat_eq
      (keys_of es) → Some i ≡ position (nat_eq id) (keys_of es) → i < length es
      → IfSome (slice_get es i) (λ e. now ≡ set_value_at es i (f e)) → now ≡ changed_on id es
  changed_found id es {now = now} {i = i} distinct there within set = elim (slice_get_cases es i).1 as (λ _. now ≡
      changed_on id es) [
        | inl h ↦ let e = h.0 in
            let same : e.0 ≡ id = number_at id es i e.0 e.1 there h.2 in
            rw h.2 at set ∙
            rw (← same) (changed_there e.0 es i e.1 distinct h.2)
        | inr h ↦ absurd (omega (arith, within, h.0))
      ]

-- The numbers stay where a connection was released.
pub paired_released_on : {W : Type 0} (now id : ℕ) {v after : ServerValue} {es left : List (ℕ × Peer W)}
    → keys_of after.sessions ≡ keys_of v.sessions → left ≡ released_on now id es → ArePaired v es → ArePaired after left
paired_released_on now id {es = es} keys is paired = paired_same paired keys (ap keys_of is ∙ same_keys now id es)
  where
    same_keys : {W : Type 0} (now id : ℕ) (es : List (ℕ × Peer W)) → keys_of (released_on now id es) ≡ keys_of es
    same_keys now id [] = refl
    same_keys now id (e ∷ es) = grind (arith, same_keys now id es)
