-- The connections that a call leaves as they were reported.
use Rattle.std.proofs.Common.{◌≡◌, ◌≢◌, ℕ, zero, suc, ◌+◌, ◌<◌, ◌≤◌, nat_eq, List, [], ◌∷◌, ◌++◌, length, remove, map}
use Rattle.std.proofs.Common.{Option, Some, None, refl, sym, ap, ◌∙◌, inl, inr, arith, slice_get}
use Rattle.std.proofs.Common.{add-one, false}
use Rattle.std.specs.List.{AllByRecursion, IsDistinct}
use Rattle.std.proofs.lemmas.Bool.{cases_lt, eqb-true}
use Rattle.std.proofs.lemmas.List.{length_push, map-append}
use Rattle.std.proofs.lemmas.Map.Entries.{length-keys_of, length-values_of}
use Rattle.coap_server_engine.specs.Prelude.{AddsAffected, AreSettled, IsOutside, KeepsOthers, KeepsWork}
use Rattle.coap_server_engine.specs.Prelude.{LiesAt, ServerValue, SessionValue, bit_of, keys_of}
use Rattle.coap_server_engine.specs.Prelude.{on_session, position_or_len, server_dropped}
use Rattle.coap_server_engine.specs.Prelude.{server_opened, server_settled, server_taken, server_ticked, session_of}
use Rattle.coap_server_engine.specs.Prelude.{server_written, session_becomes, session_written}
use Rattle.coap_server_engine.specs.Prelude.{values_of, waiting_at, new_session}
use Rattle.coap_server_engine.specs.values.Flushes.{waiting_in}
use Rattle.coap_server_engine.proofs.values.ConcernedLemmas.{outside_inserted}
use Rattle.coap_server_engine.proofs.values.ServerLemmas.{Entries, all_settled_stay, lies_by_key, lies_still}
use Rattle.coap_server_engine.proofs.values.ServerLemmas.{one_opened, one_removed}
use Rattle.coap_server_engine.proofs.values.WorkLemmas.{keeps_others}
use Rattle.coap_server_polled.specs.declared.polled_server.PolledServer.{PolledServer}
use Rattle.coap_server_polled.specs.Reports.{IsReported, KeepsReported}

-- ---- the same server

pub keeps_same : (x y : PolledServer) → y ≡ x → KeepsReported (Some x) (Some y)
unfolding KeepsReported
keeps_same x y is id reported = rw (← is) (reported, refl)

pub keeps_engine : (x : PolledServer) (v : ServerValue) → v ≡ x.engine
    → KeepsReported (Some x) (Some (record x { engine = v }))
keeps_engine x v is = keeps_same x (record x { engine = v }) (rw is)

pub keeps_handle : (h h' : Option PolledServer) → h' ≡ h → KeepsReported h h'
unfolding KeepsReported
keeps_handle h h' is id reported =
    rw (← is) (reported, refl)

pub keeps_none : (h : Option PolledServer) → KeepsReported h None
unfolding KeepsReported
keeps_none h id reported = absurd reported

-- All connections are due.
pub keeps_new : (h : Option PolledServer) (x : PolledServer) → ((i : ℕ) → i < 256 → bit_of x.due.words i ≡ 1)
    → KeepsReported h (Some x)
unfolding KeepsReported
keeps_new h x full id reported =
    absurd (omega (arith, full reported.at reported.outside.within, reported.outside.bit))

-- ---- a call on one connection

pub one_keeps : (x y : PolledServer) (id : ℕ) → KeepsOthers id x.engine y.engine → (IsReported id y → ⊥)
    → ((i : ℕ) → IsOutside y.due.words i → IsOutside x.due.words i) → KeepsReported (Some x) (Some y)
unfolding KeepsReported
one_keeps x y id keeps own others other reported =
    let apart : other ≢ id = λ same. own (rw (← same) reported) in (
      record {
        at = reported.at;
        lies = lies_still other reported.at y.engine.sessions x.engine.sessions (sym keeps.keys) reported.lies;
        outside = others reported.at reported.outside;
      },
      ap waiting_in (keeps.same other apart),
    )

-- The call changes the connection, and all settle.
pub one_changed : (x y : PolledServer) (id : ℕ) (f : SessionValue → SessionValue) → AreSettled x.engine.shared
    x.engine.sessions → y.engine ≡ server_settled (on_session id f x.engine) → (IsReported id y → ⊥)
    → ((i : ℕ) → IsOutside y.due.words i → IsOutside x.due.words i) → KeepsReported (Some x) (Some y)
one_changed x y id f settled is = one_keeps x y id (rw is (keeps_others x.engine id f settled))

-- The same, if the index of the connection is added to the set.
pub one_inserted : (x y : PolledServer) (id at : ℕ) (f : SessionValue → SessionValue)
    → AreSettled x.engine.shared x.engine.sessions → LiesAt id at x.engine.sessions
    → y.engine ≡ server_settled (on_session id f x.engine) → bit_of y.due.words at ≡ 1
    → ((i : ℕ) → i ≢ at → bit_of y.due.words i ≡ bit_of x.due.words i) → KeepsReported (Some x) (Some y)
one_inserted x y id at f settled here is own others =
    let keeps : KeepsOthers id x.engine y.engine = rw is (keeps_others x.engine id f settled) in
    let before = outside_inserted x.due.words y.due.words at (λ (small : at < 256). own) others in
    one_keeps x y id keeps (λ reported.
    let lies = lies_still id reported.at y.engine.sessions x.engine.sessions (sym keeps.keys) reported.lies in
    (before reported.at reported.outside).0 (sym lies.index ∙ here.index)) (λ i outside. (before i outside).1)

-- ---- a call that changes nothing

same_entries : (id : ℕ) (f : SessionValue → SessionValue) (es : Entries) → ((s : SessionValue) → f s ≡ s)
    → map (session_becomes id f) es ≡ es
same_entries id f [] same = refl
same_entries id f (e ∷ es) same = grind (arith, same e.1, same_entries id f es same)

same_server : (x y : PolledServer) → y.engine ≡ x.engine → y.due ≡ x.due → y ≡ x
same_server x y engine due =
    ap (λ (v : ServerValue). record y { engine = v }) engine ∙ ap (λ d. record x { due = d }) due

-- No byte was written.
pub none_written : (x y : PolledServer) (id count : ℕ) → count ≡ 0 → AreSettled x.engine.shared x.engine.sessions
    → y.engine ≡ server_written x.engine id count → y.due ≡ x.due → y ≡ x
none_written x y id count none settled is =
    same_server x y (rw (
      is,
      none,
      same_entries id (λ s. session_written s 0) x.engine.sessions (λ s. refl),
      all_settled_stay x.engine.shared x.engine.sessions settled,
    ))

-- ---- a change that concerns some connections

pub some_keep : (x y : PolledServer) (words : List ℕ) → KeepsWork words x.engine y.engine
    → ((i : ℕ) → IsOutside y.due.words i → IsOutside x.due.words i × IsOutside words i)
    → KeepsReported (Some x) (Some y)
unfolding KeepsReported
some_keep x y words keeps joined other reported =
    let parts = joined reported.at reported.outside in
    let lies = lies_still other reported.at y.engine.sessions x.engine.sessions (sym keeps.keys) reported.lies in (
      record { at = reported.at; lies = lies; outside = parts.0 },
      ap waiting_in (keeps.same reported.at other lies parts.1),
    )

pub some_changed : (x y : PolledServer) (words : List ℕ) (after : ServerValue) → y.engine ≡ after
    → KeepsWork words x.engine after
    → ((i : ℕ) → IsOutside y.due.words i → IsOutside x.due.words i × IsOutside words i)
    → KeepsReported (Some x) (Some y)
some_changed x y words after is keeps = some_keep x y words (rw is keeps)

-- The time stays the same.
pub time_stays : (x y : PolledServer) (now : ℕ) → now ≡ x.engine.shared.now
    → AreSettled x.engine.shared x.engine.sessions → y.engine ≡ server_ticked x.engine now → y.due ≡ x.due
    → KeepsReported (Some x) (Some y)
time_stays x y now same settled is due =
    keeps_same x y
    (same_server x y (rw (is, same, all_settled_stay x.engine.shared x.engine.sessions settled)) due)

-- ---- a take

-- A take that handled something. The connection at the index was added to the set after it.
pub take_keeps : (x y : PolledServer) (id at : ℕ) (piece words : List ℕ) → LiesAt id at x.engine.sessions
    → y.engine ≡ server_taken x.engine id piece
    → AddsAffected id x.due.words words x.engine (server_taken x.engine id piece)
    → bit_of y.due.words at ≡ 1 → ((i : ℕ) → i ≢ at → bit_of y.due.words i ≡ bit_of words i)
    → KeepsReported (Some x) (Some y)
unfolding KeepsReported
take_keeps x y id at piece words here is adds own others other reported =
    let keys : keys_of y.engine.sessions ≡ keys_of x.engine.sessions = rw is adds.keys in
    let lies = lies_still other reported.at y.engine.sessions x.engine.sessions (sym keys) reported.lies in
    let before = outside_inserted words y.due.words at (λ small. own) others reported.at reported.outside in
    let apart : other ≢ id = λ same. before.0 (rw (← lies.index, same) here.index) in (
      record { at = reported.at; lies = lies; outside = adds.kept reported.at before.1 },
      rw is (ap waiting_in (adds.same reported.at other apart lies before.1)),
    )

-- A take that leaves the ids, the output of each connection, and the set.
pub quiet_keeps : (x y : PolledServer) → keys_of y.engine.sessions ≡ keys_of x.engine.sessions
    → ((id : ℕ) → waiting_at id y.engine ≡ waiting_at id x.engine) → y.due ≡ x.due
    → KeepsReported (Some x) (Some y)
unfolding KeepsReported
quiet_keeps x y keys same due id reported = (
  record {
    at = reported.at;
    lies = lies_still id reported.at y.engine.sessions x.engine.sessions (sym keys) reported.lies;
    outside = rw (← due) reported.outside;
  },
  same id,
)

-- ---- the id at an index

key_there : (id i : ℕ) (ks : List ℕ) → position_or_len (nat_eq id) ks ≡ i → i < length ks → slice_get ks i ≡ Some id
key_there id i [] index within = absurd (omega (arith, within))
key_there id zero (k ∷ ks) index within = grind (arith, eqb-true id k)
key_there id (suc i) (k ∷ ks) index within = grind (arith, key_there id i ks)

pub key_at : (id i : ℕ) (es : Entries) → LiesAt id i es → slice_get (keys_of es) i ≡ Some id
key_at id i es lies = key_there id i (keys_of es) lies.index (omega (arith, lies.within, length-keys_of es))

-- ---- a new connection

early : {X : Type 0} (xs ys : List X) (i : ℕ) → i < length xs → slice_get (xs ++ ys) i ≡ slice_get xs i
early [] ys i within = absurd (omega (arith, within))
early (x ∷ xs) ys zero within = refl
early (x ∷ xs) ys (suc i) within = early xs ys i (omega (arith, within))

all_front : (P : ℕ → Type 0) (xs ys : List ℕ) → AllByRecursion P (xs ++ ys) → AllByRecursion P xs
all_front P [] ys all = tt
all_front P (x ∷ xs) ys all = (all.0, all_front P xs ys all.1)

distinct_front : (xs ys : List ℕ) → IsDistinct nat_eq (xs ++ ys) → IsDistinct nat_eq xs
unfolding IsDistinct
distinct_front [] ys distinct = tt
distinct_front (x ∷ xs) ys distinct =
    (all_front (λ y. nat_eq x y ≡ false) xs ys distinct.0, distinct_front xs ys distinct.1)

-- A connection before the last one of a list.
lies_early : (id i : ℕ) (xs ys : Entries) (last : ℕ × SessionValue) → ys ≡ xs ++ last ∷ [] → LiesAt id i ys
    → i < length xs → LiesAt id i xs × (session_of id ys ≡ session_of id xs)
lies_early id i xs ys last is lies within =
    let keys : keys_of ys ≡ keys_of xs ++ last.0 ∷ [] = rw is (map-append (λ e. e.0) xs (last ∷ [])) in
    let values : values_of ys ≡ values_of xs ++ last.1 ∷ [] = rw is (map-append (λ e. e.1) xs (last ∷ [])) in
    let key : slice_get (keys_of xs) i ≡ Some id =
    rw (← early (keys_of xs) (last.0 ∷ []) i (omega (arith, length-keys_of xs)), ← keys) (key_at id i ys lies) in
    let there = lies_by_key id i xs (distinct_front (keys_of xs) (last.0 ∷ []) (rw keys at lies.distinct)) key in (
      there,
      rw (lies.found, there.found, values)
          (early (values_of xs) (last.1 ∷ []) i (omega (arith, length-values_of xs))),
    )

pub open_keeps : (x y : PolledServer) (count : ℕ) → AreSettled x.engine.shared x.engine.sessions
    → count ≡ length x.engine.sessions → y.engine ≡ server_opened x.engine
    → (count < 256 → bit_of y.due.words count ≡ 1)
    → ((i : ℕ) → i ≢ count → bit_of y.due.words i ≡ bit_of x.due.words i) → KeepsReported (Some x) (Some y)
unfolding KeepsReported
open_keeps x y count settled counted is own others other reported =
    let v = x.engine in
    let last : ℕ × SessionValue = (v.ids + 1, new_session v.config.limits) in
    let entries : y.engine.sessions ≡ v.sessions ++ last ∷ [] =
    ap (λ (w : ServerValue). w.sessions) is ∙ one_opened v settled in
    let before = outside_inserted x.due.words y.due.words count own others reported.at reported.outside in
    let most : length y.engine.sessions ≡ length v.sessions + 1 =
    ap length entries ∙ length_push v.sessions last in
    let within : reported.at < length v.sessions = omega (arith, reported.lies.within, most, before.0, counted) in
    let parts = lies_early other reported.at v.sessions y.engine.sessions last entries reported.lies within in (
      record { at = reported.at; lies = parts.0; outside = before.1 },
      ap waiting_in parts.1,
    )

-- ---- a removed connection

-- The element at an index after one was removed.
kept_before : {X : Type 0} (xs : List X) (at i : ℕ) → i < at → slice_get (remove xs at) i ≡ slice_get xs i
kept_before [] zero i less = refl
kept_before [] (suc at) i less = refl
kept_before (x ∷ xs) zero i less = absurd (omega (arith, less))
kept_before (x ∷ xs) (suc at) zero less = refl
kept_before (x ∷ xs) (suc at) (suc i) less = kept_before xs at i (omega (arith, less))

kept_after : {X : Type 0} (xs : List X) (at i : ℕ) → at ≤ i → slice_get (remove xs at) i ≡ slice_get xs (suc i)
kept_after [] zero i more = refl
kept_after [] (suc at) i more = refl
kept_after (x ∷ xs) zero i more = refl
kept_after (x ∷ xs) (suc at) zero more = absurd (omega (arith, more))
kept_after (x ∷ xs) (suc at) (suc i) more = kept_after xs at i (omega (arith, more))

map_removed : {X Y : Type 0} (f : X → Y) (xs : List X) (i : ℕ) → map f (remove xs i) ≡ remove (map f xs) i
map_removed f [] zero = refl
map_removed f [] (suc i) = refl
map_removed f (x ∷ xs) zero = refl
map_removed f (x ∷ xs) (suc i) = rw (map_removed f xs i)

-- The connection at an index of the list without one, which was at the index `j` before.
lies_where_removed : (id i j at : ℕ) (xs ys : Entries) → ys ≡ remove xs at → IsDistinct nat_eq (keys_of xs)
    → ((X : Type 0) (zs : List X) → slice_get (remove zs at) i ≡ slice_get zs j) → LiesAt id i ys
    → LiesAt id j xs × (session_of id ys ≡ session_of id xs)
lies_where_removed id i j at xs ys is distinct place lies =
    let keys : keys_of ys ≡ remove (keys_of xs) at = rw is (map_removed (λ e. e.0) xs at) in
    let values : values_of ys ≡ remove (values_of xs) at = rw is (map_removed (λ e. e.1) xs at) in
    let key : slice_get (keys_of xs) j ≡ Some id = rw (← place ℕ (keys_of xs), ← keys) (key_at id i ys lies) in
    let there = lies_by_key id j xs distinct key in
    (there, rw (lies.found, there.found, values) (place SessionValue (values_of xs)))

pub drop_keeps : (x y : PolledServer) (id at count : ℕ) → AreSettled x.engine.shared x.engine.sessions
    → LiesAt id at x.engine.sessions → count ≡ length x.engine.sessions → count ≤ 256
    → y.engine ≡ server_dropped x.engine id
    → ((i : ℕ) → i < at → bit_of y.due.words i ≡ bit_of x.due.words i)
    → ((i : ℕ) → at ≤ i → i + 1 < count → bit_of y.due.words i ≡ bit_of x.due.words (i + 1))
    → KeepsReported (Some x) (Some y)
unfolding KeepsReported
drop_keeps x y id at count settled here counted few is before later other reported =
    let v = x.engine in
    let i = reported.at in
    let entries : y.engine.sessions ≡ remove v.sessions at =
    ap (λ (w : ServerValue). w.sessions) is ∙ sym (one_removed v id at settled here) in
    elim (cases_lt i at) [
      | inl less ↦
          let parts = lies_where_removed other i i at v.sessions y.engine.sessions entries here.distinct
          (λ X zs. kept_before zs at i less) reported.lies in (
            record {
              at = i;
              lies = parts.0;
              outside = record { within = reported.outside.within; bit = sym (before i less) ∙ reported.outside.bit };
            },
            ap waiting_in parts.1,
          )
      | inr more ↦
          let parts = lies_where_removed other i (suc i) at v.sessions y.engine.sessions entries here.distinct
          (λ X zs. kept_after zs at i more) reported.lies in
          let next : i + 1 < count = omega (arith, parts.0.within, counted) in
          let bit : bit_of x.due.words (suc i) ≡ 0 =
          rw add-one at (sym (later i more next) ∙ reported.outside.bit) in (
            record { at = suc i; lies = parts.0; outside = record { within = omega (arith, next, few); bit = bit } },
            ap waiting_in parts.1,
          )
    ]
