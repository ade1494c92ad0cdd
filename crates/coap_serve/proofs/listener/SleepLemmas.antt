-- Looks at connections: whether something can be done on them, and how long the listener may wait. The connections of a
-- server and their transport sides, and those that sleep.
use Rattle.std.proofs.Common.{◌≡◌, ◌≢◌, ℕ, suc, ◌+◌, ◌<◌, ◌≤◌, Bool, true, false, List, ◌∷◌, [], ◌++◌, length}
use Rattle.std.proofs.Common.{map, nat_eq, Option, Some, None, IfSome, OnOk, OnErr, Result, Ok, Err, refl, sym, ap, ◌∙◌}
use Rattle.std.proofs.Common.{inl, inr, arith, remove, slice_get, ◌||◌, is_some, drop, subst, ◌&&◌}
use Rattle.std.specs.List.{position_or_len}
use Rattle.std.specs.Set.{remove_key}
use Rattle.std.proofs.lemmas.Bool.{cases_eq, cases_lt, or_parts, or_left}
use Rattle.std.proofs.lemmas.Bool.Decides.{nat_tests}
use Rattle.std.proofs.lemmas.List.{length-append, map-append, drop_all}
use Rattle.std.proofs.lemmas.Map.Entries.{length-keys_of}
use Rattle.std.proofs.lemmas.Option.{slice_get-map, slice_get_within}
use Rattle.indexmap.proofs.CallerLemmas.{keys-shift_remove_entry}
use Rattle.indexmap.proofs.SetLemmas.{map-remove}
use Rattle.coap_model.proofs.OptionLemmas.{one_made, there_at, there_is_none}
use Rattle.coap_model.proofs.world.FateLists.{still_at}
use Rattle.coap_serve.specs.Prelude.{AreAsleep, ArePaired, AreSettled, CanGoOn, IsDistinct, IsOutside, KeepsBeside}
use Rattle.coap_serve.specs.Prelude.{LiesAt, MaySleep, Peer, PeerInterest, PeerStatus, ServerValue, SleepOn, bit_of}
use Rattle.coap_serve.specs.Prelude.{insert_entry, keys_of, work_of, peer_status, server_dropped, server_opened}
use Rattle.coap_serve.specs.Prelude.{set_value_at, shift_remove_entry, status_with, values_of, interest_of, KeepsOthers}
use Rattle.coap_serve.specs.Prelude.{KeepsWork, CanAnyGoOn, IsReadiness, IsWaitAfter, No, is_known_ready, known}
use Rattle.coap_serve.specs.Prelude.{least_with, sooner, wait_until}
use Rattle.coap_serve.specs.declared.door.awake.Awake.{Awake}
use Rattle.coap_server_engine.proofs.values.ServerLemmas.{lies_by_key, lies_still}
use Rattle.coap_server_engine.proofs.values.WorkLemmas.{dropped_keys, opened_keeps, opened_keys}
use Rattle.coap_serve.proofs.listener.EntryLemmas.{each_written, keys_written, set_there, value_at, carried_on}
use Rattle.coap_serve.proofs.listener.EntryLemmas.{next_first}

-- ---- one connection

-- A possible result of asking a wire for its readiness.
pub an_answer : (wanted : Bool) (recorded : Option Bool) → (answer : Bool) × IsReadiness wanted recorded answer
an_answer true None = (false, tt)
an_answer true (Some recorded) = (recorded, refl)
an_answer false recorded = (false, refl)

-- The readiness of a connection whose wire returned `reads` for a read.
can_with : (e : PeerStatus) (reads : Bool) → IsReadiness e.interest.read e.readable reads
    → CanGoOn e (e.interest.visit || reads
    || (an_answer e.interest.write e.writable).0)
can_with e reads requested =
    let writes = an_answer e.interest.write e.writable in
    record { reads = reads; writes = writes.0; read = requested; write = writes.1; is = refl }

-- The connection is ready: it must be visited whatever its wire does, or its wire must be read and may be.
pub can_go_on_so : (e : PeerStatus) (reads : Bool) {result : Bool} → IsReadiness e.interest.read e.readable reads
    → (e.interest.visit || reads) ≡ true → result ≡ true → CanGoOn e result
can_go_on_so e reads requested may is = subst (CanGoOn e) (or_left (e.interest.visit || reads) _ may ∙ sym is)
    (can_with e reads requested)

known_readiness : (wanted : Bool) {answer : Bool} (recorded : Option Bool) → IsReadiness wanted recorded answer
    → answer ≡ false → (wanted && known recorded) ≡ false
known_readiness wanted recorded requested is = grind arith

readiness_known : (wanted : Bool) (recorded : Option Bool) → IsReadiness wanted recorded (wanted && known recorded)
readiness_known wanted recorded = grind arith

-- Nothing can be done on the connection.
pub calm_from : (e : PeerStatus) → CanGoOn e false → is_known_ready e ≡ false
calm_from e can =
    let writes = or_parts (e.interest.visit || can.reads) can.writes (sym can.is) in
    let reads = or_parts e.interest.visit can.reads writes.0 in
    rw (
      reads.0,
      known_readiness e.interest.read e.readable can.read reads.1,
      known_readiness e.interest.write e.writable can.write writes.1,
    ) refl

pub idle_from : {e : PeerStatus} → MaySleep e → CanGoOn e false
idle_from {e = e} sleeps = record {
  reads = _;
  writes = _;
  read = readiness_known e.interest.read e.readable;
  write = readiness_known e.interest.write e.writable;
  is = sym sleeps.calm;
}

-- ---- all connections

-- Some result that is possible for these connections.
some_answer : (all : List PeerStatus) → (ready : Bool) × CanAnyGoOn all ready
some_answer [] = (false, refl)
some_answer (e ∷ es) =
    let reads = an_answer e.interest.read e.readable in
    let first = e.interest.visit || reads.0 || (an_answer e.interest.write e.writable).0 in
    let others = some_answer es in
    (first || others.0, (first, others.0, can_with e reads.0 reads.1, others.1, refl))

-- Nothing can be done on the connections before an index, and `due` is their earliest deadline.
pub record IsIdleTo (all : List PeerStatus) (at : ℕ) (due : Option ℕ) : Type 0 where
  pub any : (ready : Bool) → CanAnyGoOn (drop at all) ready → CanAnyGoOn all ready
  pub least : least_with due (drop at all) ≡ least_with None all

pub none_idle : {all : List PeerStatus} → IsIdleTo all 0 None
none_idle = record { any = λ ready can. can; least = refl }

pub one_idle : {all : List PeerStatus} (at : ℕ) {due later : Option ℕ} {e : PeerStatus} → slice_get all at ≡ Some e
    → CanGoOn e false → later ≡ sooner due e.interest.due → IsIdleTo all at due → IsIdleTo all (at + 1) later
one_idle {all = all} at {e = e} there calm is idle =
    let first = next_first all at there in
    record {
      any = λ ready can. idle.any ready (rw first (false, ready, calm, can, refl));
      least = rw is (rw first at idle.least);
    }

sooner_never : {due : Option ℕ} → due ≡ sooner due None
sooner_never = grind arith

-- Connections that sleep are skipped.
pub sleepers_idle : {all : List PeerStatus} (at to : ℕ) {due : Option ℕ} → at ≤ to → to ≤ length all
    → ((i : ℕ) (e : PeerStatus) → slice_get all i ≡ Some e → at ≤ i → i < to → MaySleep e) → IsIdleTo all at due
    → IsIdleTo all to due
sleepers_idle {all = all} at to {due = due} on within sleep idle =
    carried_on (λ k. IsIdleTo all k due) at to on idle
    (λ i after below before.
    (let there = there_at all i (omega (arith, below, within)) in
    let sleeps = sleep i there.0 there.1 after below in
    one_idle i {due = due} there.1 (idle_from sleeps) (rw sleeps.never sooner_never) before))

-- ---- the wait

-- A connection was opened.
pub opened_wait : (all : List PeerStatus) → IsWaitAfter true all No
opened_wait all = let some = some_answer all in record { ready = some.0; can = some.1; is = refl }

-- Something can be done at once on the next connection.
pub ready_wait : {all : List PeerStatus} (at : ℕ) {due : Option ℕ} {e : PeerStatus} → slice_get all at ≡ Some e
    → CanGoOn e true → IsIdleTo all at due → IsWaitAfter false all No
ready_wait {all = all} at there can idle =
    let others = some_answer (drop (at + 1) all) in
    record {
      ready = true;
      can = idle.any true (rw (next_first all at there) (true, others.0, can, others.1, refl));
      is = refl;
    }

-- Nothing can be done at once.
pub calm_wait : {all : List PeerStatus} (at : ℕ) {due : Option ℕ} → length all ≤ at → IsIdleTo all at due → IsWaitAfter
    false all (wait_until due)
calm_wait {all = all} at {due = due} most idle =
    let least = rw (drop_all at all most) at idle.least in
    record { ready = false; can = idle.any false (rw (drop_all at all most) refl); is = ap wait_until least }

-- ---- pairs

module _ {W : Type 0} {v : ServerValue} {es : List (ℕ × Peer W)} (paired : ArePaired v es) where
  -- A connection has the index of its entry.
  pub lies_there : (i : ℕ) {e : ℕ × Peer W} → slice_get es i ≡ Some e → LiesAt e.0 i v.sessions
  lies_there i {e = e} at = lies_by_key e.0 i v.sessions (rw (← paired.keys) paired.distinct) (rw (
    ← paired.keys,
    slice_get-map,
    at,
  ) refl)

  pub paired_same : {after : ServerValue} {now : List (ℕ × Peer W)} → keys_of after.sessions ≡ keys_of v.sessions
      → keys_of now ≡ keys_of es → ArePaired after now
  paired_same keys same = record { keys = same ∙ paired.keys ∙ sym keys; distinct = rw same paired.distinct }

  pub paired_on : {after : ServerValue} → keys_of after.sessions ≡ keys_of v.sessions → ArePaired after es
  paired_on keys = paired_same keys refl

  -- One entry was written.
  pub paired_written : {after : ServerValue} {now : List (ℕ × Peer W)} (at : ℕ) (p : Peer W) → keys_of after.sessions ≡
      keys_of v.sessions → now ≡ set_value_at es at p → ArePaired after now
  paired_written at p keys is = paired_same keys (ap keys_of is ∙ keys_written es at p)

  -- A connection was dropped.
  pub paired_without : {after : ServerValue} {now : List (ℕ × Peer W)} (id i : ℕ) → AreSettled v.shared v.sessions
      → slice_get (keys_of es) i ≡ Some id → after ≡ server_dropped v id → now ≡ remove es i → IsDistinct nat_eq
      (keys_of now) → ArePaired after now
  paired_without id i settled number dropped is distinct =
      let lies = lies_by_key id i v.sessions (rw (← paired.keys) paired.distinct) (rw (← paired.keys) number) in
      record {
        keys = rw (is, dropped) (map-remove (λ e. e.0) es i ∙ ap (λ ks. remove ks i) paired.keys ∙ sym (dropped_keys v
            settled id i lies));
        distinct = distinct;
      }

  -- The same by its number.
  pub paired_left : {after : ServerValue} {now : List (ℕ × Peer W)} (id i : ℕ) → AreSettled v.shared v.sessions
      → LiesAt id i v.sessions → after ≡ server_dropped v id → now ≡ shift_remove_entry (nat_eq id) es → IsDistinct
      nat_eq (keys_of now) → ArePaired after now
  paired_left id i settled lies dropped is distinct = record {
    keys = rw (is, dropped) (
        keys-shift_remove_entry (nat_eq id) es ∙ ap (remove_key (nat_eq id)) paired.keys ∙ removed_key id
        (keys_of v.sessions)
        ∙ ap (remove (keys_of v.sessions)) lies.index ∙ sym (dropped_keys v settled id i lies));
    distinct = distinct;
  }
    where
      removed_key : (id : ℕ) (ks : List ℕ) → remove_key (nat_eq id) ks ≡ remove ks (position_or_len (nat_eq id) ks)
      removed_key id [] = refl
      removed_key id (k ∷ ks) = elim (nat_eq id k) as (λ b. nat_eq id k ≡ b → remove_key (nat_eq id) (k ∷ ks) ≡ remove
          (k ∷ ks) (position_or_len (nat_eq id) (k ∷ ks))) [
            | true ↦ λ is. rw is refl
            | false ↦ λ is.
                let next : position_or_len (nat_eq id) (k ∷ ks) ≡ suc (position_or_len (nat_eq id) ks) =
                grind (arith, nat_tests) in
                rw (next, is) (ap (λ xs. k ∷ xs) (removed_key id ks))
          ] refl

-- A number that no entry has goes last.
goes_last : {P : Type 0} (id : ℕ) (p : P) (es : List (ℕ × P)) → position_or_len (nat_eq id) (keys_of es ++ id ∷ []) ≡
    length es → insert_entry nat_eq es id p ≡ es ++ (id, p) ∷ []
goes_last id p [] first = refl
goes_last id p (e ∷ es) first =
    let apart : nat_eq id e.0 ≡ false = grind (arith, nat_tests) in
    let more : position_or_len (nat_eq id) (keys_of es ++ id ∷ []) ≡ length es = grind (arith, nat_tests) in
    rw apart (ap (λ xs. e ∷ xs) (goes_last id p es more))

-- ---- sleep over calls of the server

pub sleep_same : {a : Awake} {v : ServerValue} → SleepOn a a v v
sleep_same = record { keys = refl; each = λ i id lies outside. (outside, refl) }

pub sleep_then : {a b c : Awake} {u v w : ServerValue} → SleepOn a b u v → SleepOn b c v w → SleepOn a c u w
sleep_then {u = u} {v = v} one two = record {
  keys = two.keys ∙ one.keys;
  each = λ i id lies outside.
      let later = two.each i id (lies_still id i u.sessions v.sessions one.keys lies) outside in
      let first = one.each i id lies later.0 in
      (first.0, later.1 ∙ first.1);
}

-- The connections of a set woke, and the others have the same work left.
pub sleep_joined : {a b : Awake} {v after : ServerValue} {words : List ℕ} → KeepsWork words v after
    → ((i : ℕ) → IsOutside b.set.words i → IsOutside a.set.words i × IsOutside words i) → SleepOn a b v after
sleep_joined keeps outside = record {
  keys = keeps.keys;
  each = λ i id lies out. ((outside i out).0, keeps.work i id lies (outside i out).1);
}

-- All connections woke.
pub sleep_none : {a b : Awake} {v after : ServerValue} (id : ℕ) → KeepsOthers id v after → ((i : ℕ) → i < 256
    → bit_of b.set.words i ≡ 1) → SleepOn a b v after
sleep_none id keeps all = record {
  keys = keeps.keys;
  each = λ i other lies out. absurd (omega (arith, all i out.within, out.bit));
}

-- The connection at an index woke, and the others have the same work left.
pub sleep_woken : {a b : Awake} {v after : ServerValue} (id at : ℕ) → KeepsOthers id v after → LiesAt id at
    after.sessions → (IsOutside b.set.words at → ⊥) → ((i : ℕ) → IsOutside b.set.words i → IsOutside a.set.words i)
    → SleepOn a b v after
sleep_woken {b = b} {v = v} {after = after} id at keeps lies awake asleep = record {
  keys = keeps.keys;
  each = λ i other there out.
      let was = lies_still id at after.sessions v.sessions (sym keeps.keys) lies in (
        asleep i out,
        keeps.work other (λ (same : other ≡ id). let here : i ≡ at = cc (there.index, was.index) in awake
            (rw here at out)),
      );
}

-- A call that fails changes nothing.
pub kept_or_not : {T E : Type 0} (r : Result T E) {v after next : ServerValue} (words : List ℕ) → KeepsWork words v next
    → OnOk r (after ≡ next) → OnErr r (after ≡ v) → KeepsWork words v after
kept_or_not (Ok x) words keeps ok err = rw ok keeps
kept_or_not (Err e) words keeps ok err = rw err (record {
  keys = refl;
  same = λ i id lies outside. refl;
  work = λ i id lies outside. refl;
})

-- A read, then bytes that are passed, then a write.
pub beside_served : {v received taken after : ServerValue} {words : List ℕ} (id : ℕ) → KeepsOthers id v received
    → KeepsWork words received taken → KeepsOthers id taken after → KeepsBeside id words v after
beside_served {v = v} {received = received} id first took last = record {
  keys = last.keys ∙ took.keys ∙ first.keys;
  work = λ i other lies apart outside. last.work other apart ∙ took.work i other (lies_still other i v.sessions
      received.sessions first.keys lies) outside ∙ first.work other apart;
}

-- A read that failed.
pub beside_read : {v received : ServerValue} {words : List ℕ} (id : ℕ) → KeepsOthers id v received
    → KeepsBeside id words v received
beside_read id first = record { keys = first.keys; work = λ i other lies apart outside. first.work other apart }

-- ---- connections that sleep

-- If a connection sleeps after a look, it may do so.
pub looked_sleeps : (b : Awake) (at : ℕ) (e : PeerStatus) (ready : Bool) → CanGoOn e ready
    → ((ready || is_some e.interest.due) ≡ true → IsOutside b.set.words at → ⊥) → IsOutside b.set.words at → MaySleep e
looked_sleeps b at e ready can awake outside =
    elim (ready || is_some e.interest.due) as (λ stays. (ready || is_some e.interest.due) ≡ stays → MaySleep e) [
      | true ↦ λ stays. absurd (awake stays outside)
      | false ↦ λ rests. let parts = or_parts ready (is_some e.interest.due) rests in
          record { calm = calm_from e (rw parts.0 at can); never = there_is_none e.interest.due parts.1 }
    ] refl

-- A fact on the indices up to one index, of this one, and on those after it.
pub each_on : {P : ℕ → Type 0} {from to : ℕ} (at : ℕ) → ((i : ℕ) → from ≤ i → i < at → P i) → P at
    → ((i : ℕ) → at + 1 ≤ i → i < to → P i) → (i : ℕ) → from ≤ i → i < to → P i
each_on {P = P} at before one later i after below = elim (cases_lt i at) [
  | inl less ↦ before i after less
  | inr most ↦ elim (cases_eq i at) [ inl same ↦ rw same one | inr apart ↦ later i (omega (arith, most, apart)) below ]
]

module _ {W : Type 0} (readable writable : W → Option Bool) where
  -- A connection with the same work left has the same status.
  still_sleeps : (v after : ServerValue) (e : ℕ × Peer W) → work_of after e.0 ≡ work_of v e.0
      → MaySleep (peer_status readable writable v e) → MaySleep (peer_status readable writable after e)
  still_sleeps v after e same sleeps = rw same sleeps

  -- A look at the connection at an index.
  pub looked_at : (v : ServerValue) (es : List (ℕ × Peer W)) (at : ℕ) {p : Peer W} {interest : PeerInterest}
      {ready : Bool}
      → IfSome (slice_get es at) (λ e. interest ≡ interest_of v e.0 e.1.rest) → slice_get (values_of es) at ≡ Some p
      → CanGoOn (status_with readable writable p.wire interest) ready
      → (e : ℕ × Peer W) × (slice_get es at ≡ Some e) × (interest ≡ interest_of v e.0 e.1.rest)
      × CanGoOn (peer_status readable writable v e) ready
  looked_at v es at {p = p} {interest = interest} {ready = ready} is there can =
      let here = value_at es at p there in
      let so = rw here.1 at is in (here.0, here.1, so, rw (← so, here.2) can)

  -- ---- an opened connection

  module _ {v after : ServerValue} {es now : List (ℕ × Peer W)} {id : ℕ} (p : Peer W) (settled : AreSettled v.shared
      v.sessions) (paired : ArePaired v es) (number : id ≡ v.ids + 1) (opened : after ≡ server_opened v)
      (lies : LiesAt id (length v.sessions) after.sessions) (is : now ≡ insert_entry nat_eq es id p)
      (distinct : IsDistinct nat_eq (keys_of now)) where
    as_many : length es ≡ length v.sessions
    as_many = sym (length-keys_of es) ∙ ap length paired.keys ∙ length-keys_of v.sessions

    all_keys : keys_of after.sessions ≡ keys_of es ++ id ∷ []
    all_keys = rw (opened, paired.keys, number) (opened_keys v settled)

    last_one : now ≡ es ++ (id, p) ∷ []
    last_one = is ∙ goes_last id p es (ap (position_or_len (nat_eq id)) (sym all_keys) ∙ lies.index ∙ sym as_many)

    pub paired_with_one : ArePaired after now
    paired_with_one = record {
      keys = ap keys_of last_one ∙ map-append (λ e. e.0) es ((id, p) ∷ []) ∙ sym all_keys;
      distinct = distinct;
    }

    pub asleep_with_one : {a b : Awake} {count : ℕ} → count ≡ length es → (IsOutside b.set.words count → ⊥)
        → ((i : ℕ) → IsOutside b.set.words i → IsOutside a.set.words i) → AreAsleep readable writable a v es
        → AreAsleep readable writable b after now
    asleep_with_one {count = count} counted awake kept asleep = record {
      each = λ i e here outside.
          let place : slice_get (es ++ (id, p) ∷ []) i ≡ Some e = rw last_one at here in
          elim (cases_lt i (length es)) [
            | inl early_on ↦
                let apart : e.0 ≢ v.ids + 1 = λ (same : e.0 ≡ v.ids + 1).
                let again : i ≡ length v.sessions = cc ((lies_there paired_with_one i here).index, lies.index) in
                omega (arith, again, early_on, as_many) in
                let was = there_at es i early_on in
                let before : slice_get es i ≡ Some e =
                cc (was.1, place, still_at es ((id, p) ∷ []) i was.0 was.1) in
                still_sleeps v after e (rw opened (opened_keeps v settled e.0 apart))
                (asleep.each i e before (kept i outside))
            | inr late ↦
                let last : i ≡ count = omega (
                  arith,
                  late,
                  counted,
                  slice_get_within (es ++ (id, p) ∷ []) i e place,
                  length-append es ((id, p) ∷ []),
                ) in
                absurd (awake (rw last at outside))
          ];
    }

module _ {W : Type 0} {readable writable : W → Option Bool} where
  -- If all connections are awake, none sleeps.
  pub none_asleep : {a : Awake} {v : ServerValue} {es : List (ℕ × Peer W)} → ((i : ℕ) → i < 256 → bit_of a.set.words i ≡
      1) → AreAsleep readable writable a v es
  none_asleep all = record { each = λ i e at outside. absurd (omega (arith, all i outside.within, outside.bit)) }

  pub some_woken : {a b : Awake} {v : ServerValue} {es : List (ℕ × Peer W)} → ((i : ℕ) → IsOutside b.set.words i
      → IsOutside a.set.words i) → AreAsleep readable writable a v es → AreAsleep readable writable b v es
  some_woken kept asleep = record { each = λ i e at outside. asleep.each i e at (kept i outside) }

  pub asleep_on : {a b : Awake} {v after : ServerValue} {es : List (ℕ × Peer W)} → SleepOn a b v after → ArePaired v es
      → AreAsleep readable writable a v es → AreAsleep readable writable b after es
  asleep_on {v = v} {after = after} on paired asleep = record {
    each = λ i e at outside. let same = on.each i e.0 (lies_there paired i at) outside in still_sleeps readable writable
        v after e same.1
        (asleep.each i e at same.0);
  }

  -- The connection at an index was served.
  pub asleep_beside : {a b : Awake} {v after : ServerValue} {es now : List (ℕ × Peer W)} (words : List ℕ) (at id : ℕ)
      (was p : Peer W) → KeepsBeside id words v after → ArePaired v es → slice_get es at ≡ Some (id, was)
      → now ≡ set_value_at es at p
      → ((i : ℕ) → i ≢ at → IsOutside b.set.words i → IsOutside a.set.words i × IsOutside words i)
      → (IsOutside b.set.words at → MaySleep (peer_status readable writable after (id, p))) → AreAsleep readable
      writable a v es → AreAsleep readable writable b after now
  asleep_beside {v = v} {after = after} {es = es} words at id was p keeps paired there is outside sleeps asleep =
      record {
        each = λ i e here out.
            elim (cases_eq i at) [
              | inl same ↦
                  let entry : e ≡ (id, p) = cc (set_there es at p id was there) in
                  rw entry (sleeps (rw same at out))
              | inr apart ↦
                  let before : slice_get es i ≡ Some e = cc (each_written es at p i apart) in
                  let parts = outside i apart out in
                  let lies = lies_there paired i before in
                  let other : e.0 ≢ id =
                  λ (same : e.0 ≡ id). apart (cc (lies.index, (lies_there paired at there).index)) in
                  still_sleeps readable writable v after e (keeps.work i e.0 lies other parts.1) (asleep.each i e before
                  parts.0)
            ];
      }

  module _ {a : Awake} {v : ServerValue} {es : List (ℕ × Peer W)} (asleep : AreAsleep readable writable a v es) where
    -- Nothing can be done on connections that sleep.
    pub sleepers_skipped : {from to : ℕ} → ((i : ℕ) → from ≤ i → i < to → IsOutside a.set.words i) → (i : ℕ) → from ≤ i
        → i < to → IfSome (slice_get es i) (λ e. CanGoOn (peer_status readable writable v e) false)
    sleepers_skipped outside i after below = elim (slice_get es i) as (λ o. slice_get es i ≡ o
        → IfSome o (λ e. CanGoOn (peer_status readable writable v e) false)) [
          | None ↦ λ none. tt
          | Some e ↦ λ here. idle_from (asleep.each i e here (outside i after below))
        ] refl

    pub sleepers_rest : {from to : ℕ} → ((i : ℕ) → from ≤ i → i < to → IsOutside a.set.words i)
        → (i : ℕ) (s : PeerStatus) → slice_get (map (peer_status readable writable v) es) i ≡ Some s → from ≤ i → i < to
        → MaySleep s
    sleepers_rest outside i s here after below =
        let one = one_made (peer_status readable writable v) (slice_get es i) s
        (sym (slice_get-map (peer_status readable writable v) es i) ∙ here) in
        rw (← one.2) (asleep.each i one.0 one.1 (outside i after below))

    -- A look at one connection may put it to sleep.
    pub one_looked : {b : Awake} (at : ℕ) {e : ℕ × Peer W} {ready : Bool} {due : Option ℕ} → slice_get es at ≡ Some e
        → CanGoOn (peer_status readable writable v e) ready → due ≡ (interest_of v e.0 e.1.rest).due
        → ((i : ℕ) → i ≢ at → IsOutside b.set.words i → IsOutside a.set.words i) → ((ready || is_some due) ≡ true
        → IsOutside b.set.words at → ⊥) → AreAsleep readable writable b v es
    one_looked {b = b} at {e = e} {ready = ready} there can is kept awake = record {
      each = λ i f here outside.
          elim (cases_eq i at) [
            | inl same ↦
                let found : f ≡ e = cc (here, there, same) in
                rw found (looked_sleeps b at (peer_status readable writable v e) ready can (rw is at awake)
                (rw same at outside))
            | inr apart ↦ asleep.each i f here (kept i apart outside)
          ];
    }
