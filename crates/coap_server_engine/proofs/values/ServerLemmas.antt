-- The connections of a server: found by id, and changed at their index.
use Rattle.std.proofs.Common.{◌≡◌, ℕ, zero, suc, ◌+◌, ◌<◌, ◌≤◌, Bool, true, false, List, [], ◌∷◌, ◌++◌, length, Option}
use Rattle.std.proofs.Common.{Some, None, is_some, refl, sym, ap, ◌∙◌, arith, map, filter, remove, IfNone, IfSome}
use Rattle.std.proofs.Common.{OnErr, Result, Ok, Err, not, nat_eq, option_map, nat_lt, slice_get, ◌==◌, if◌then◌else◌}
use Rattle.coap_server_engine.specs.Prelude.{AllByRecursion, IsDistinct, position_or_len, position, lookup, keys_of}
use Rattle.coap_server_engine.specs.Prelude.{values_of, nat_eq_equiv, set_value_at, insert_entry, ServerState}
use Rattle.coap_server_engine.specs.Prelude.{SessionValue, new_session, session_settled, IsSettled, ServerValue, LiesAt}
use Rattle.coap_server_engine.specs.Prelude.{session_of, is_there, changed_at, session_becomes, on_session}
use Rattle.coap_server_engine.specs.Prelude.{settled_entry, server_settled, server_ticked, server_opened}
use Rattle.coap_server_engine.specs.Prelude.{server_dropped, AreSettled, IsServer, open_refusal, splits_of}
use Rattle.coap_server_engine.specs.Prelude.{AreAllMarked, MarkedSession, unmarked, unmarked_entry, IsMarked}
use Rattle.std.proofs.lemmas.Bool.{eqb-true, ne_eqb, cond_both}
use Rattle.std.proofs.lemmas.List.{length-map, length_push}
use Rattle.std.proofs.lemmas.List.Sums.{length-filter, count_by-le-length}
use Rattle.std.proofs.lemmas.Bool.Decides.{nat_tests}
use Rattle.std.proofs.lemmas.Map.Entries.{length-keys_of, length-values_of}
use Rattle.std.proofs.lemmas.Map.Keys.{IsDistinct-head, IsDistinct-tail}
use Rattle.std.proofs.lemmas.Map.Made.{keys_of-map_values}
use Rattle.std.proofs.lemmas.Option.{cond_some, slice_get-map, slice_get_within}
use Rattle.coap_server_session.proofs.values.SettleLemmas.{none_is_pending, settled_quiet, settled_is_settled}
use Rattle.coap_server_session.proofs.values.SettleLemmas.{settled_stays}
use Rattle.coap_model.proofs.OptionLemmas.{there_at, same_there}
use Rattle.coap_model.proofs.world.EntryLemmas.{all_to, all_append, all_filter, all_map, all_stay}

abbrev pub Entries : Type 0
Entries = List (ℕ × SessionValue)

abbrev pub MarkedEntries : Type 0
MarkedEntries = List (ℕ × MarkedSession)

-- ---- search

-- A property of all connections holds for the one at an index.
pub one_of_all : {S : Type 0} (P : S → Type 0) (i : ℕ) (es : List (ℕ × S)) (s : S) → AllByRecursion (λ e. P e.1) es
    → slice_get (values_of es) i ≡ Some s → P s
one_of_all P i [] s all at = absurd cc
one_of_all P zero (e ∷ es) s all at = rw (same_there e.1 s at) at all.0
one_of_all P (suc i) (e ∷ es) s all at = one_of_all P i es s all.1 at

-- ---- without the marks

pub unmarked_looked_up : (id : ℕ) (es : MarkedEntries) → session_of id (unmarked es) ≡ option_map
    (λ (s : MarkedSession). s.session) (lookup (nat_eq id) es)
unfolding session_of
unmarked_looked_up id [] = refl
unmarked_looked_up id (e ∷ es) = grind (arith, nat_tests, unmarked_looked_up id es)

pub keys_unmarked : (es : MarkedEntries) → keys_of (unmarked es) ≡ keys_of es
keys_unmarked = keys_of-map_values (λ s. s.session)

value_unmarked : (es : MarkedEntries) (i : ℕ) → slice_get (values_of (unmarked es)) i ≡ option_map
    (λ (s : MarkedSession). s.session) (slice_get (values_of es) i)
value_unmarked es i = grind (arith, slice_get-map)

pub unmarked_at : (es : MarkedEntries) (i : ℕ) (s : MarkedSession) → slice_get (values_of es) i ≡ Some s
    → slice_get (values_of (unmarked es)) i ≡ Some s.session
unmarked_at es i s at = rw (value_unmarked es i, at)

pub set_unmarked : (es : MarkedEntries) (i : ℕ) (s : MarkedSession) (v : SessionValue) → s.session ≡ v
    → unmarked (set_value_at es i s) ≡ set_value_at (unmarked es) i v
set_unmarked [] i s v is = refl
set_unmarked (e ∷ es) zero s v is = cc
set_unmarked (e ∷ es) (suc i) s v is = cc (set_unmarked es i s v is)

-- A property of all connections still holds for all if it holds for the one that is written.
pub all_written : (P : MarkedSession → Type 0) (es : MarkedEntries) (i : ℕ) (s : MarkedSession) → AllByRecursion
    (λ e. P e.1) es → P s → AllByRecursion (λ e. P e.1) (set_value_at es i s)
all_written P [] i s all one = tt
all_written P (e ∷ es) zero s all one = (one, all.1)
all_written P (e ∷ es) (suc i) s all one = (all.0, all_written P es i s all.1 one)

pub within_unmarked : (id i : ℕ) (es : MarkedEntries) → LiesAt id i (unmarked es) → i < length es
within_unmarked id i es lies = omega (arith, lies.within, length-map es unmarked_entry)

pub inserted_unmarked : (es : MarkedEntries) (id : ℕ) (s : MarkedSession)
    → unmarked (insert_entry nat_eq es id s) ≡ insert_entry nat_eq (unmarked es) id s.session
inserted_unmarked [] id s = refl
inserted_unmarked (e ∷ es) id s = grind (arith, nat_tests, inserted_unmarked es id s)

pub all_inserted : (P : MarkedSession → Type 0) (es : MarkedEntries) (id : ℕ) (s : MarkedSession)
    → AllByRecursion (λ e. P e.1) es → P s → AllByRecursion (λ e. P e.1) (insert_entry nat_eq es id s)
all_inserted P [] id s all one = (one, tt)
all_inserted P (e ∷ es) id s all one = grind (arith, all_inserted P es id s all.1)

-- The result of the lookup, for an absent and for a present id.
pub none_where_none : (id : ℕ) (es : MarkedEntries) (r : Option ℕ) → is_some r ≡ is_some (lookup (nat_eq id) es)
    → IfNone r (session_of id (unmarked es) ≡ None)
none_where_none id es r found = grind (arith, unmarked_looked_up id es)

pub one_where_some : (id : ℕ) (es : MarkedEntries) (r : Option ℕ) → IsDistinct nat_eq (keys_of es)
    → r ≡ position (nat_eq id) (keys_of es) → IfSome r (λ i. i < length es)
    → IfSome r (λ i. slice_get (values_of es) i ≡ lookup (nat_eq id) es) → IfSome r (λ i. LiesAt id i (unmarked es))
one_where_some id es None distinct index within value = tt
one_where_some id es (Some i) distinct index within value =
    record {
      distinct = rw (keys_unmarked es) distinct;
      index = rw (keys_unmarked es) (cond_some _ _ i (sym index)).1;
      within = rw (length-map es unmarked_entry) within;
      found = rw (unmarked_looked_up id es, ← value, value_unmarked es i);
    }

-- The key at an index is none that each key differs from.
differs_at : (k id i : ℕ) (ks : List ℕ) → AllByRecursion (λ y. nat_eq k y ≡ false) ks → slice_get ks i ≡ Some id
    → nat_eq k id ≡ false
differs_at k id i [] each at = absurd cc
differs_at k id zero (y ∷ ks) each at = rw (same_there y id at) at each.0
differs_at k id (suc i) (y ∷ ks) each at = differs_at k id i ks each.1 at

-- The index of a key, if all are distinct.
first_of : (id i : ℕ) (ks : List ℕ) → IsDistinct nat_eq ks → slice_get ks i ≡ Some id → position_or_len (nat_eq id) ks ≡
    i
first_of id i [] distinct at = absurd cc
first_of id zero (k ∷ ks) distinct at = let same : k ≡ id = cc in grind (arith, nat_tests)
first_of id (suc i) (k ∷ ks) distinct at =
    let apart : nat_eq k id ≡ false = differs_at k id i ks (IsDistinct-head nat_eq k ks distinct) at in
    let rest = first_of id i ks (IsDistinct-tail nat_eq k ks distinct) at in
    grind (arith, nat_tests)

-- Induction for a property of the entries from the one with this id on, from the first entry.
at_number : (P : Entries → ℕ → Type 0) (id : ℕ) → ((e : ℕ × SessionValue) (es : Entries) → nat_eq e.0 id ≡ true
    → AllByRecursion (λ k. nat_eq id k ≡ false) (keys_of es) → P (e ∷ es) 0)
    → ((e : ℕ × SessionValue) (es : Entries) (i : ℕ) → nat_eq e.0 id ≡ false → P es i → P (e ∷ es) (suc i))
    → (es : Entries) (i : ℕ) → IsDistinct nat_eq (keys_of es) → position_or_len (nat_eq id) (keys_of es) ≡ i
    → i < length es → P es i
unfolding IsDistinct
at_number P id here none_first [] i distinct index within = absurd (omega arith)
at_number P id here none_first (e ∷ es) zero distinct index within =
    let there : nat_eq id e.0 ≡ true = grind arith in
    here e es (nat_eq_equiv.symm e.0 id ∙ there) (rw (eqb-true id e.0 there) distinct.0)
at_number P id here none_first (e ∷ es) (suc i) distinct index within =
    let later : (nat_eq id e.0 ≡ false) × (position_or_len (nat_eq id) (keys_of es) ≡ i) = grind arith in
    none_first e es i (nat_eq_equiv.symm e.0 id ∙ later.0) (at_number P id here none_first es i distinct.1 later.1
    (omega arith))

found_at : (id i : ℕ) (es : Entries) → IsDistinct nat_eq (keys_of es) → position_or_len (nat_eq id) (keys_of es) ≡ i
    → i < length es → session_of id es ≡ slice_get (values_of es) i
unfolding session_of
found_at id i es =
    at_number (λ es i. session_of id es ≡ slice_get (values_of es) i) id (λ e es here apart. rw here)
    (λ e es i other rest. rw other rest) es i

-- A connection is at the index of its id.
pub lies_by_key : (id i : ℕ) (es : Entries) → IsDistinct nat_eq (keys_of es) → slice_get (keys_of es) i ≡ Some id
    → LiesAt id i es
lies_by_key id i es distinct at =
    let index = first_of id i _ distinct at in
    let within : i < length es = omega (arith, slice_get_within (keys_of es) i id at, length-keys_of es) in
    record { distinct = distinct; index = index; within = within; found = found_at id i es distinct index within }

-- It stays there while the ids are the same.
pub lies_still : (id i : ℕ) (es fs : Entries) → keys_of fs ≡ keys_of es → LiesAt id i es → LiesAt id i fs
lies_still id i es fs keys lies =
    let distinct : IsDistinct nat_eq _ = rw keys lies.distinct in
    let index = ap (position_or_len (nat_eq id)) keys ∙ lies.index in
    let within : i < length fs = omega (arith, lies.within, length-keys_of fs, length-keys_of es, ap length keys) in
    record { distinct = distinct; index = index; within = within; found = found_at id i fs distinct index within }

pub lies_at_key : (id i : ℕ) (s : MarkedSession) (es : MarkedEntries) → IsDistinct nat_eq (keys_of es)
    → slice_get es i ≡ Some (id, s) → LiesAt id i (unmarked es)
lies_at_key id i s es distinct at =
    lies_by_key id i _ (rw (keys_unmarked es) distinct) (rw (keys_unmarked es, slice_get-map, at))

-- ---- changes

abbrev pub settling : ServerState → (SessionValue → SessionValue) → SessionValue → SessionValue
settling shared f s = session_settled shared (f s)

-- A connection is written at an index.
pub written_at_index : (f : SessionValue → SessionValue) (es : Entries) (i : ℕ) (s : SessionValue)
    → slice_get (values_of es) i ≡ Some s → set_value_at es i (f s) ≡ changed_at i f es
unfolding changed_at
written_at_index f [] i s at = refl
written_at_index f (e ∷ es) zero s at = cc (same_there e.1 s at)
written_at_index f (e ∷ es) (suc i) s at = cc (written_at_index f es i s at)

-- A connection is written at an index, with the value that a function makes of it.
pub written_unmarked : (f : SessionValue → SessionValue) (es : MarkedEntries) (i : ℕ) (s after : MarkedSession)
    → slice_get (values_of es) i ≡ Some s → after.session ≡ f s.session
    → unmarked (set_value_at es i after) ≡ changed_at i f (unmarked es)
written_unmarked f es i s after at is =
    set_unmarked es i after _ is ∙ written_at_index f (unmarked es) i s.session (unmarked_at es i s at)

-- A call on the connection at an index, which settles then.
pub record IsSettledAt (shared : ServerState) (i : ℕ) (f : SessionValue → SessionValue) (es fs : MarkedEntries)
    : Type 0 where
  pub after : unmarked fs ≡ changed_at i (settling shared f) (unmarked es)
  pub marked : AreAllMarked shared fs

pub settled_call : {shared : ServerState} {es : MarkedEntries} {i : ℕ} {s : MarkedSession} {called : SessionValue}
    (f : SessionValue → SessionValue) (new : MarkedSession) → AreAllMarked shared es
    → slice_get (values_of es) i ≡ Some s → called ≡ f s.session → new.session ≡ session_settled shared called
    → IsMarked shared new → IsSettledAt shared i f es (set_value_at es i new)
settled_call {shared = shared} {es = es} {i = i} {s = s} f new marked at is settles own = record {
  after = written_unmarked _ es i s new at (settles ∙ ap (session_settled shared) is);
  marked = all_written (IsMarked shared) es i new marked own;
}

-- The connection that was at an index, and the one that is written there.
pub read_written : {S : Type 0} (es : List (ℕ × S)) (i : ℕ) (s new : S) → slice_get (values_of es) i ≡ Some s
    → slice_get (values_of (set_value_at es i new)) i ≡ Some new
read_written [] i s new at = absurd cc
read_written (e ∷ es) zero s new at = refl
read_written (e ∷ es) (suc i) s new at = read_written es i s new at

-- A connection that is written with the same split frame.
pub splits_written : (es : MarkedEntries) (i : ℕ) (s new : MarkedSession) → slice_get (values_of es) i ≡ Some s
    → new.split ≡ s.split → splits_of (set_value_at es i new) ≡ splits_of es
splits_written [] i s new at same = refl
splits_written (e ∷ es) zero s new at same = cc (same_there e.1 s at)
splits_written (e ∷ es) (suc i) s new at same = cc (splits_written es i s new at same)

split_there : (es : MarkedEntries) (i : ℕ) (s : MarkedSession) → slice_get (values_of es) i ≡ Some s
    → slice_get (splits_of es) i ≡ Some s.split
split_there es i s at = grind (arith, slice_get-map)

-- If no split frame changed, that of the connection at an index is the same.
pub same_split : (es fs : MarkedEntries) (i : ℕ) (s t : MarkedSession) → slice_get (values_of es) i ≡ Some s
    → slice_get (values_of fs) i ≡ Some t → splits_of fs ≡ splits_of es → t.split ≡ s.split
same_split es fs i s t at now same =
    same_there t.split s.split (rw same at (sym (split_there fs i t now)) ∙ split_there es i s at)

-- A write and a change at the same index.
pub changed_written : (i : ℕ) (f : SessionValue → SessionValue) (es : Entries) (s : SessionValue)
    → changed_at i f (set_value_at es i s) ≡ changed_at i (λ _. f s) es
unfolding changed_at
changed_written i f [] s = refl
changed_written zero f (e ∷ es) s = refl
changed_written (suc i) f (e ∷ es) s = cc (changed_written i f es s)

pub length-written : {S : Type 0} (es : List (ℕ × S)) (i : ℕ) (s : S) → length (set_value_at es i s) ≡ length es
length-written [] i s = refl
length-written (e ∷ es) zero s = refl
length-written (e ∷ es) (suc i) s = ap suc (length-written es i s)

-- The present value is written again.
pub written_back : {S : Type 0} (es : List (ℕ × S)) (i : ℕ) (s back : S) → slice_get (values_of es) i ≡ Some s
    → back ≡ s → set_value_at es i back ≡ es
written_back [] i s back at is = refl
written_back (e ∷ es) zero s back at is = rw (is, ← same_there e.1 s at)
written_back (e ∷ es) (suc i) s back at is = cc (written_back es i s back at is)

-- Connections with other ids stay the same.
others_same : (id : ℕ) (f : SessionValue → SessionValue) (es : Entries)
    → AllByRecursion (λ k. nat_eq id k ≡ false) (keys_of es) → map (session_becomes id f) es ≡ es
others_same id f [] apart = refl
others_same id f (e ∷ es) apart = rw (nat_eq_equiv.symm e.0 id ∙ apart.0) (cc (others_same id f es apart.1))

-- A change at the index of an id is a change of the connection with this id alone.
pub changed_one : (id : ℕ) (f : SessionValue → SessionValue) (es : Entries) (i : ℕ) → IsDistinct nat_eq (keys_of es)
    → position_or_len (nat_eq id) (keys_of es) ≡ i → i < length es → changed_at i f es ≡ map (session_becomes id f) es
unfolding changed_at
changed_one id f =
    at_number (λ es i. changed_at i f es ≡ map _ es) id
    (λ e es here apart. cc (here, others_same id f es apart)) (λ e es i other rest. cc (other, rest))

-- ---- settling

-- If all connections were settled, only the changed one needs to settle.
pub one_settles : (shared : ServerState) (id : ℕ) (f : SessionValue → SessionValue) (es : Entries)
    → AreSettled shared es
    → map (session_becomes id (settling shared f)) es ≡ map (settled_entry shared) (map (session_becomes id f) es)
one_settles shared id f [] all = refl
one_settles shared id f (e ∷ es) all = grind (arith, settled_stays shared e.1 all.0, one_settles shared id f es all.1)

pub all_are_settled : (shared : ServerState) (es : Entries) → AreSettled shared (map (settled_entry shared) es)
all_are_settled shared [] = tt
all_are_settled shared (e ∷ es) = (settled_is_settled shared e.1, all_are_settled shared es)

pub all_settled_stay : (shared : ServerState) (es : Entries) → AreSettled shared es → map (settled_entry shared) es ≡ es
all_settled_stay shared es all =
    all_stay _ es (all_to (λ (e : ℕ × SessionValue). IsSettled shared e.1)
    (λ e. settled_entry shared e ≡ e) (λ e is. rw (settled_stays shared e.1 is)) es all)

-- A property of all entries still holds if the changed entry keeps it.
pub all_still : (P : ℕ × SessionValue → Type 0) (id : ℕ) (f : SessionValue → SessionValue) → ((e : ℕ × SessionValue)
    → P e → P (e.0, f e.1)) → (es : Entries) → AllByRecursion P es → AllByRecursion P (map (session_becomes id f) es)
all_still P id f to = all_map P P _ (λ e holds. cond_both (nat_eq e.0 id) (e.0, f e.1) e P
    (λ _. to e holds) (λ _. holds))

-- ---- a server after one connection may have changed and all have settled

pub settled_server : (v : ServerValue) (entries : Entries) → entries ≡ map (settled_entry v.shared) v.sessions
    → AllByRecursion (λ e. e.0 ≤ v.ids) v.sessions → length v.sessions ≤ v.config.connections
    → IsServer (record v { sessions = entries })
settled_server v entries is numbered few = rw is (record {
  settled = all_are_settled v.shared _;
  numbered = all_map (λ e. e.0 ≤ v.ids) (λ e. e.0 ≤ v.ids) (settled_entry v.shared) (λ e low. low) _ numbered;
  few = rw (length-map v.sessions _) few;
})

pub taken_server_with : (v : ServerValue) (id : ℕ) (f : SessionValue → SessionValue) (shared : ServerState) → IsServer v
    → IsServer (server_settled (record (on_session id f v) { shared = shared }))
taken_server_with v id f shared server =
    settled_server (record (on_session id f v) { shared = shared }) _ refl
    (all_still (λ e. e.0 ≤ v.ids) id f (λ e low. low) _ server.numbered)
    (rw (length-map v.sessions _) server.few)

-- Ids keep their index.
pub keys_where_one_changed : (id : ℕ) (f : SessionValue → SessionValue) (es : Entries)
    → keys_of (map (session_becomes id f) es) ≡ keys_of es
keys_where_one_changed id f [] = refl
keys_where_one_changed id f (e ∷ es) = grind (arith, keys_where_one_changed id f es)

pub keys_where_settled : (id : ℕ) (f : SessionValue → SessionValue) (shared : ServerState) (es : Entries)
    → keys_of (map (settled_entry shared) (map (session_becomes id f) es)) ≡ keys_of es
keys_where_settled id f shared es =
    keys_of-map_values (session_settled shared) (map (session_becomes id f) es) ∙ keys_where_one_changed id f es

pub lies_where_taken : (id i : ℕ) (f : SessionValue → SessionValue) (shared : ServerState) (es : Entries)
    → LiesAt id i es → LiesAt id i (map (settled_entry shared) (map (session_becomes id f) es))
lies_where_taken id i f shared es = lies_still id i es _
    (keys_where_settled id f shared es)

-- The connections of a server after one of them was changed by `f`, and settled.
pub record IsChanged (v : ServerValue) (id i : ℕ) (f : SessionValue → SessionValue) (entries : Entries) : Type 0 where
  pub server : IsServer (record v { sessions = entries })
  pub value : record v { sessions = entries } ≡ server_settled (on_session id f v)
  pub lies : LiesAt id i entries

pub is_changed : {v : ServerValue} {id i : ℕ} {entries : Entries} (f : SessionValue → SessionValue) → IsServer v
    → LiesAt id i v.sessions → entries ≡ changed_at i (settling v.shared f) v.sessions → IsChanged v id i f entries
is_changed {v = v} {id = id} {i = i} f server lies is = rw (
  is,
  changed_one id _ v.sessions i lies.distinct lies.index lies.within,
  one_settles v.shared id f _ server.settled,
) (record {
  server = taken_server_with v id f v.shared server;
  value = refl;
  lies = lies_where_taken id i f v.shared v.sessions lies;
})

-- A tick to the current time changes nothing.
pub same_moment : (v : ServerValue) (now : ℕ) → IsServer v → now ≡ v.shared.now → v ≡ server_ticked v now
same_moment v now server same = rw (same, all_settled_stay v.shared _ server.settled)

-- ---- a connection is removed

abbrev pub is_other : ℕ → ℕ × SessionValue → Bool
is_other id e = not (e.0 == id)

-- If no connection has this id, all stay.
others_are_kept : (id : ℕ) (es : Entries) → AllByRecursion (λ k. nat_eq id k ≡ false) (keys_of es)
    → filter (is_other id) es ≡ es
others_are_kept id [] apart = refl
others_are_kept id (e ∷ es) apart = rw (nat_eq_equiv.symm e.0 id ∙ apart.0) (cc (others_are_kept id es apart.1))

-- The connection at the index of its id is removed.
pub one_removed : (v : ServerValue) (id i : ℕ) → AreSettled v.shared v.sessions → LiesAt id i v.sessions
    → remove v.sessions i ≡ map (settled_entry v.shared) (filter (is_other id) v.sessions)
one_removed v id i settled lies =
    rw (all_settled_stay v.shared _ (all_filter (λ e. IsSettled v.shared e.1)
    (is_other id) _ settled)) (at_number (λ es i. remove es i ≡ filter (is_other id) es) id
    (λ e es here apart. cc (here, others_are_kept id es apart)) (λ e es i other rest. cc (other, rest))
    _ i lies.distinct lies.index lies.within)

module _ (v : ServerValue) (id i : ℕ) (entries : Entries) (server : IsServer v) (lies : LiesAt id i v.sessions)
    (is : entries ≡ remove v.sessions i) where
  one_gone : entries ≡ map (settled_entry v.shared) (filter (is_other id) v.sessions)
  one_gone = is ∙ one_removed v id i server.settled lies

  pub dropped_value : record v { sessions = entries } ≡ server_dropped v id
  dropped_value = rw one_gone

  pub dropped_server : IsServer (record v { sessions = entries })
  dropped_server =
      settled_server (record v { sessions = filter (is_other id) v.sessions }) entries one_gone
      (all_filter (λ e. e.0 ≤ v.ids) (is_other id) v.sessions server.numbered)
      (omega (arith, length-filter (is_other id) v.sessions, count_by-le-length (is_other id) v.sessions, server.few))

-- ---- a connection is added

-- A new id is added at the end.
goes_last : (n : ℕ) (s : SessionValue) (es : Entries) → AllByRecursion (λ e. e.0 ≤ n) es
    → insert_entry nat_eq es (n + 1) s ≡ es ++ (n + 1, s) ∷ []
goes_last n s [] all = refl
goes_last n s (e ∷ es) all = rw (ne_eqb (n + 1) e.0 (λ is. omega (arith, all.0))) (cc (goes_last n s es all.1))

abbrev pub with_new : ServerValue → Entries
with_new v = v.sessions ++ (v.ids + 1, new_session v.config.limits) ∷ []

pub one_opened : (v : ServerValue) → AreSettled v.shared v.sessions → map (settled_entry v.shared) (with_new v)
    ≡ with_new v
one_opened v settled =
    let quiet = settled_quiet v.shared _ (none_is_pending v.shared.now [] (omega arith))
    refl in
    all_settled_stay v.shared _ (all_append (λ e. IsSettled v.shared e.1) v.sessions _ settled (quiet, tt))

module _ (v : ServerValue) (entries : Entries) (server : IsServer v) (is : entries ≡ insert_entry nat_eq v.sessions
    (v.ids + 1) (new_session v.config.limits)) where
  pub one_last : entries ≡ with_new v
  one_last = is ∙ goes_last v.ids _ v.sessions server.numbered

  one_more_last : entries ≡ map (settled_entry v.shared) (with_new v)
  one_more_last = one_last ∙ sym (one_opened v server.settled)

  pub opened_lies : IsDistinct nat_eq (keys_of entries) → LiesAt (v.ids + 1) (length v.sessions) entries
  opened_lies distinct = lies_by_key (v.ids + 1) (length v.sessions) entries distinct
      (rw one_last (last_key v.sessions))
    where
      last_key : (es : Entries) → slice_get (keys_of (es ++ (v.ids + 1, new_session v.config.limits) ∷ [])) (length es)
          ≡ Some (v.ids + 1)
      last_key [] = refl
      last_key (e ∷ es) = last_key es

  pub opened_value : record v { ids = v.ids + 1; sessions = entries } ≡ server_opened v
  opened_value = rw one_more_last

  pub opened_server : length v.sessions < v.config.connections
      → IsServer (record v { ids = v.ids + 1; sessions = entries })
  opened_server room =
      let lower = all_to (λ e. e.0 ≤ v.ids) (λ e. e.0 ≤ v.ids + 1) (λ e low. omega arith) v.sessions server.numbered in
      settled_server (record v { ids = v.ids + 1; sessions = with_new v }) entries one_more_last
      (all_append (λ e. e.0 ≤ v.ids + 1) v.sessions _ lower (omega arith, tt))
      (omega (arith, length_push v.sessions (v.ids + 1, new_session v.config.limits)))

-- ---- the results of calls

pub opens : (v : ServerValue) → length v.sessions < v.config.connections → (v.ids ≡ 18446744073709551615 → ⊥)
    → open_refusal v ≡ None
opens v few left = grind (arith, few, left)

pub enough_waits : {E : Type 0} (fault : E) (waiting count : ℕ) → count ≤ waiting → (if nat_lt waiting count then Some
    fault else None) ≡ None
enough_waits fault waiting count enough = grind (arith, enough)

pub is_there_at : (id i : ℕ) (es : Entries) → LiesAt id i es → true ≡ is_there (session_of id es)
is_there_at id i es lies = cc (lies.found, (there_at (values_of es) i (rw (length-values_of es) lies.within)).1)

-- ---- one iteration of a flush

pub same_session : (o : Option SessionValue) (s t : SessionValue) → o ≡ Some s → o ≡ Some t → s ≡ t
same_session o s t is also = cc

-- A property of one connection, stated for every value that is equal to it.
pub for_one_on_fault : {T E : Type 0} (r : Result T E) (o : Option SessionValue) (P : SessionValue → Type 0)
    (t : SessionValue) → o ≡ Some t → P t → OnErr r ((s : SessionValue) → o ≡ Some s → P s)
for_one_on_fault (Ok x) o P t is holds = tt
for_one_on_fault (Err e) o P t is holds = λ s also. rw (same_session o s t also is) holds
