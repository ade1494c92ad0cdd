-- The sets of the connections that a change may concern have each such connection.
use Rattle.std.proofs.Common.{◌≡◌, ◌≢◌, ℕ, zero, suc, ◌+◌, ◌<◌, ◌≤◌, Bool, true, false, List, [], ◌∷◌, length}
use Rattle.std.proofs.Common.{replicate, Some, None, refl, sym, ap, ◌∙◌, ◌⊎◌, inl, inr, arith, map, OnOk, OnErr}
use Rattle.std.proofs.Common.{option_map, ◌++◌, Result, Ok, Err, slice_get, slice_set, remove, subst, ◌-◌, add-zero}
use Rattle.std.proofs.Common.{◌^◌, Option, add-one}
use Rattle.std.proofs.lemmas.Bool.{cases_eq, cases_lt}
use Rattle.std.proofs.lemmas.Option.{slice_get-map}
use Rattle.coap_model.proofs.OptionLemmas.{same_there, one_made, there_at}
use Rattle.coap_server_engine.specs.declared.server.Server.TheInside.{Inside}
use Rattle.coap_server_engine.specs.views.ServerViews.{IsMarkedServer}
use Rattle.coap_server_engine.specs.Prelude.{IsFlushedOnce, server_value, IsServer, ServerValue, on_session}
use Rattle.coap_server_engine.specs.Prelude.{server_settled, LiesAt, values_of, set_value_at, ServerState, Cause}
use Rattle.coap_server_engine.specs.Prelude.{SessionValue, LimitValues, MarkedSession, new_session, session_settled}
use Rattle.coap_server_engine.specs.Prelude.{changed_at, settled_entry, unmarked, IsFlushedAt, session_written}
use Rattle.coap_server_engine.specs.Prelude.{AreUntouched, IndexSet, Concerned, IsOutside, bit_of, Covers, AreCovered}
use Rattle.coap_server_engine.specs.Prelude.{AreCoveredBut, may_concern, last_hash, Message, FormatFault}
use Rattle.coap_server_engine.specs.Prelude.{session_given_by, map, slice_get, AllByRecursion, Change, Nothing, Put}
use Rattle.coap_server_engine.specs.Prelude.{Delete, IsStore, shared_changed, IsSettled, AreSettled, change_hash}
use Rattle.coap_server_engine.specs.Prelude.{IsUnaffected, UnaffectedAreSettled, AreOthersSettled, unmarked_entry}
use Rattle.coap_server_engine.specs.Prelude.{IsMarked, ConcernsNone, IsMarkedBut, AreMarkedBut, AreAllMarked}
use Rattle.coap_server_engine.specs.Prelude.{AreMarkedAfter, settled_pending}
use Rattle.coap_server_session.specs.declared.cause.Cause.TheVariants as cause
use Rattle.coap_server_session.proofs.values.ConcernLemmas.{written_adds, AddsNone, AddsLast, still_unconcerned}
use Rattle.coap_server_session.proofs.values.ConcernLemmas.{unconcerned, settled_adds, adds_settled, same_adds}
use Rattle.coap_server_session.proofs.values.ConcernLemmas.{given_adds}
use Rattle.coap_server_engine.proofs.values.ServerLemmas.{is_changed, Entries, MarkedEntries, settling, unmarked_at}
use Rattle.coap_server_engine.proofs.values.ServerLemmas.{set_unmarked, all_written, one_of_all, written_at_index}
use Rattle.coap_server_engine.proofs.values.ServerLemmas.{written_back}
use Rattle.coap_model.proofs.world.EntryLemmas.{all_to}
use Rattle.coap_server_session.proofs.values.SettleLemmas.{settled_is_settled, settled_stays}
use Rattle.std.proofs.lemmas.Map.Entries.{length-values_of}
use Rattle.coap_server_session.proofs.values.DueLemmas.{at_moment, stays_settled}
use Rattle.coap_server_session.proofs.values.CauseLemmas.{but_changed, but_later, but_none, marked_untouched}
use Rattle.coap_server_session.proofs.values.CauseLemmas.{settled_elsewhere}

-- ---- the connection at an index

-- The connection at an index after one was written.
written_cases : (es : Entries) (k : ℕ) (v : SessionValue) (i : ℕ) (u : SessionValue)
    → slice_get (values_of (set_value_at es k v)) i ≡ Some u
    → ((i ≡ k) × (u ≡ v)) ⊎ (slice_get (values_of es) i ≡ Some u)
written_cases [] k v i u at = absurd cc
written_cases (e ∷ es) zero v zero u at = inl (refl, cc)
written_cases (e ∷ es) zero v (suc i) u at = inr at
written_cases (e ∷ es) (suc k) v zero u at = inr at
written_cases (e ∷ es) (suc k) v (suc i) u at =
    elim (written_cases es k v i u at) [ inl own ↦ inl (ap suc own.0, own.1) | inr other ↦ inr other ]

same_value : (es : Entries) (i k : ℕ) (u v : SessionValue) → slice_get (values_of es) i ≡ Some u
    → slice_get (values_of es) k ≡ Some v → i ≡ k → u ≡ v
same_value es i k u v at there same = cc

-- ---- calls that add no observer and no pending entry

-- Each connection was at its index, and has no observer and no pending entry that it did not have.
abbrev AddNone : Entries → Entries → Type 0
AddNone es fs =
    (i : ℕ) (t : SessionValue) → slice_get (values_of fs) i ≡ Some t
    → (s : SessionValue) × (slice_get (values_of es) i ≡ Some s) × AddsNone s t

covers_still : (why : Cause) (words : List ℕ) (es fs : Entries) → AddNone es fs → Covers why words es
    → Covers why words fs
covers_still why words es fs adds covers i t at outside =
    let was = adds i t at in still_unconcerned why was.0 t was.2 (covers i was.0 was.1 outside)

covered_by : (c : Concerned) (es fs : Entries)
    → ((why : Cause) (words : List ℕ) → Covers why words es → Covers why words fs) → AreCovered c es → AreCovered c fs
covered_by c es fs covers old = record {
  many = old.many;
  paths = λ hash set there. covers (cause.Path hash) set.words (old.paths hash set there);
  time = λ before. covers (cause.Moment before) c.time.words (old.time before);
}

covered_still : (c : Concerned) (es fs : Entries) → AddNone es fs → AreCovered c es → AreCovered c fs
covered_still c es fs adds = covered_by c es fs (λ why words. covers_still why words es fs adds)

changed_add : (k : ℕ) (f : SessionValue → SessionValue) → ((s : SessionValue) → AddsNone s (f s)) → (es : Entries)
    → AddNone es (changed_at k f es)
unfolding changed_at
changed_add k f adds [] i t at = absurd cc
changed_add zero f adds (e ∷ es) zero t at = (e.1, refl, rw (← same_there (f e.1) t at) (adds e.1))
changed_add (suc k) f adds (e ∷ es) (suc i) t at = changed_add k f adds es i t at
changed_add k f adds (e ∷ es) i t at = (t, at, same_adds t t.frame)

pub covered_changed_by : (c : Concerned) (k : ℕ) (f : SessionValue → SessionValue) (es fs : Entries)
    → ((s : SessionValue) → AddsNone s (f s)) → fs ≡ changed_at k f es → AreCovered c es → AreCovered c fs
covered_changed_by c k f es fs adds is = rw is (covered_still c es (changed_at k f es) (changed_add k f adds es))

settled_at : (shared : ServerState) (es : Entries) (i : ℕ) → slice_get (values_of (map (settled_entry shared) es)) i
    ≡ option_map (session_settled shared) (slice_get (values_of es) i)
settled_at shared es i = grind (arith, slice_get-map)

pub covered_settled : (c : Concerned) (shared : ServerState) (es fs : Entries) → fs ≡ map (settled_entry shared) es
    → AreCovered c es → AreCovered c fs
covered_settled c shared es fs is = rw is (covered_still c es _ (λ i t at.
    let was = one_made _ _ t (rw (settled_at shared es i) at at) in
    (was.0, was.1, subst (AddsNone was.0) was.2 (settled_adds shared was.0))))

-- A response of the application.
pub given_by_adds : (read : Result Message FormatFault) (s : SessionValue) → AddsNone s (session_given_by read s)
given_by_adds (Ok m) s = given_adds m s
given_by_adds (Err e) s = same_adds s s.frame

-- ---- a new connection

last_cases : (es : Entries) (e : ℕ × SessionValue) (i : ℕ) (s : SessionValue)
    → slice_get (values_of (es ++ e ∷ [])) i ≡ Some s → (slice_get (values_of es) i ≡ Some s) ⊎ (e.1 ≡ s)
last_cases [] e zero s at = inr (same_there e.1 s at)
last_cases [] e (suc i) s at = absurd cc
last_cases (f ∷ es) e zero s at = inl at
last_cases (f ∷ es) e (suc i) s at = last_cases es e i s at

new_unconcerned : (limits : LimitValues) (why : Cause) → may_concern why (new_session limits) ≡ false
new_unconcerned limits why = grind arith

pub covered_opened : (c : Concerned) (id : ℕ) (limits : LimitValues) (es fs : Entries)
    → fs ≡ es ++ (id, new_session limits) ∷ [] → AreCovered c es → AreCovered c fs
covered_opened c id limits es fs is =
    rw is (covered_by c es (es ++ (id, new_session limits) ∷ []) (λ why words covers i s at outside.
    elim (last_cases es (id, new_session limits) i s at) [
      | inl old ↦ covers i s old outside
      | inr new ↦ rw (← new) (new_unconcerned limits why)
    ]))

-- ---- a removed connection

-- Without the last connection, each other one keeps its index.
kept_before_last : (es : Entries) (k i : ℕ) (s : SessionValue) → length es ≤ k + 1
    → slice_get (values_of (remove es k)) i ≡ Some s → slice_get (values_of es) i ≡ Some s
kept_before_last [] zero i s last at = at
kept_before_last [] (suc k) i s last at = at
kept_before_last (e ∷ []) zero i s last at = absurd cc
kept_before_last (e ∷ f ∷ es) zero i s last at = absurd (omega arith)
kept_before_last (e ∷ es) (suc k) zero s last at = at
kept_before_last (e ∷ es) (suc k) (suc i) s last at = kept_before_last es k i s (omega arith) at

pub covered_without_last : (c : Concerned) (es : Entries) (k count : ℕ) → count ≤ k + 1 → length es ≡ count
    → AreCovered c es → AreCovered c (remove es k)
covered_without_last c es k count last many =
    covered_by c es _ (λ why words covers i s at. covers i s (kept_before_last es k i s (omega arith) at))

-- ---- full sets

same_replicated : {A : Type 0} (n i : ℕ) (x y : A) → slice_get (replicate n x) i ≡ Some y → y ≡ x
same_replicated zero i x y at = absurd cc
same_replicated (suc n) zero x y at = cc
same_replicated (suc n) (suc i) x y at = same_replicated n i x y at

pub covered_full : (c : Concerned) (full : IndexSet) → ((i : ℕ) → i < 256 → bit_of full.words i ≡ 1)
    → length c.paths.items ≡ 256 → c.paths.items ≡ replicate 256 full → ((i : ℕ) → i < 256 → bit_of c.time.words i ≡ 1)
    → (es : Entries) → AreCovered c es
covered_full c full all many each time es = record {
  many = many;
  paths = λ hash set there i s at outside.
      let same = same_replicated 256 hash full set (rw each at there) in
      absurd (omega (arith, outside.bit, rw (← same) at (all i outside.within)));
  time = λ before i s at outside. absurd (omega (arith, outside.bit, time i outside.within));
}

-- ---- a connection after a message

-- Of a list in which one element is written.
set_cases : {A : Type 0} (xs : List A) (k h : ℕ) (v w : A) → slice_get (slice_set xs k v) h ≡ Some w
    → ((h ≡ k) × (w ≡ v)) ⊎ ((h ≢ k) × (slice_get xs h ≡ Some w))
set_cases [] k h v w at = absurd cc
set_cases (x ∷ xs) zero zero v w at = inl (refl, cc)
set_cases (x ∷ xs) zero (suc h) v w at = inr ((λ same. absurd cc), at)
set_cases (x ∷ xs) (suc k) zero v w at = inr ((λ same. absurd cc), at)
set_cases (x ∷ xs) (suc k) (suc h) v w at = elim (set_cases xs k h v w at) [
  | inl own ↦ inl (ap suc own.0, own.1)
  | inr other ↦ inr ((λ same. other.0 (omega arith)), other.1)
]

pub covered_taken : (c : Concerned) (at : ℕ) (es : Entries) (s t : SessionValue) → slice_get (values_of es) at ≡ Some s
    → AddsLast s t → AreCovered c es → AreCoveredBut at c (set_value_at es at t)
covered_taken c at es s t there adds old = record {
  many = old.many;
  paths =
      λ hash set is i u here outside last. elim (written_cases es at t i u here) [
        | inl own ↦
            rw own.1 (adds hash (old.paths hash set is at s there (rw own.0 at outside)) (rw own.1 at (last own.0)))
        | inr other ↦ old.paths hash set is i u other outside
      ];
  time =
      λ before i u here outside apart. elim (written_cases es at t i u here) [
        | inl own ↦ absurd (apart own.0)
        | inr other ↦ old.time before i u other outside
      ];
}

written_add : (at : ℕ) (es : Entries) (s t : SessionValue) → slice_get (values_of es) at ≡ Some s → AddsNone s t
    → AddNone es (set_value_at es at t)
written_add at es s t there adds i u here = elim (written_cases es at t i u here) [
  | inl own ↦ (s, rw own.0 there, rw own.1 adds)
  | inr other ↦ (u, other, same_adds u u.frame)
]

pub covered_kept : (c : Concerned) (at : ℕ) (es : Entries) (s t : SessionValue) → slice_get (values_of es) at ≡ Some s
    → AddsNone s t → AreCovered c es → AreCovered c (set_value_at es at t)
covered_kept c at es s t there adds = covered_still c es _ (written_add at es s t there adds)

-- A set to which an index was added.
pub outside_inserted : (before after : List ℕ) (at : ℕ) → (at < 256 → bit_of after at ≡ 1)
    → ((i : ℕ) → i ≢ at → bit_of after i ≡ bit_of before i) → (i : ℕ) → IsOutside after i
    → (i ≢ at) × IsOutside before i
outside_inserted before after at set others i outside =
    let apart : i ≢ at = λ same. let own = rw same at outside in absurd (omega (arith, own.bit, set own.within)) in
    (apart, record { within = outside.within; bit = sym (others i apart) ∙ outside.bit })

-- A set has all connections that it had before. It also has the one at an index if the path of its last observer
-- has this hash.
pub record IsNoted (c : Concerned) (at : ℕ) (v : SessionValue) (hash : ℕ) (set : IndexSet) : Type 0 where
  pub before : IndexSet
  pub there : slice_get c.paths.items hash ≡ Some before
  pub kept : (i : ℕ) → IsOutside set.words i → IsOutside before.words i
  pub own : IsOutside set.words at → last_hash v.observers ≢ Some hash

pub noted : (c d : Concerned) (at : ℕ) (v : SessionValue) → length d.paths.items ≡ 256
    → ((i : ℕ) → IsOutside d.time.words i → (i ≢ at) × IsOutside c.time.words i)
    → ((hash : ℕ) (set : IndexSet) → slice_get d.paths.items hash ≡ Some set → IsNoted c at v hash set) → (es : Entries)
    → slice_get (values_of es) at ≡ Some v → AreCoveredBut at c es → AreCovered d es
noted c d at v many time paths es there old = record {
  many = many;
  paths = λ hash set is i u here outside.
      let note = paths hash set is in
      old.paths hash note.before note.there i u here (note.kept i outside)
      (λ same. rw (same_value es i at u v here there same) (note.own (rw same at outside)));
  time = λ before i u here outside. let set = time i outside in old.time before i u here set.1 set.0;
}

-- The connection has an observer, which is the last one of a path with this hash.
pub noted_one : (c : Concerned) (at : ℕ) (v : SessionValue) (hash : ℕ) (before after : IndexSet)
    → slice_get c.paths.items hash ≡ Some before → last_hash v.observers ≡ Some hash
    → ((i : ℕ) → IsOutside after.words i → (i ≢ at) × IsOutside before.words i)
    → (h : ℕ) (set : IndexSet) → slice_get (slice_set c.paths.items hash after) h ≡ Some set → IsNoted c at v h set
noted_one c at v hash before after there last outside h set is = elim (set_cases _ hash h after set is) [
  | inl own ↦ record {
    before = before;
    there = rw own.0 there;
    kept = λ i out. (outside i (rw own.1 at out)).1;
    own = λ out. absurd ((outside at (rw own.1 at out)).0 refl);
  }
  | inr other ↦ record {
    before = set;
    there = other.1;
    kept = λ i out. out;
    own = λ out same. other.0 (cc);
  }
]

-- The connection has no observer.
pub noted_none : (c : Concerned) (at : ℕ) (v : SessionValue) → last_hash v.observers ≡ None → (h : ℕ) (set : IndexSet)
    → slice_get c.paths.items h ≡ Some set → IsNoted c at v h set
noted_none c at v last h set is = record { before = set; there = is; kept = λ i out. out; own = λ out same. absurd cc }

-- A connection without a pending entry does not settle.
pub nothing_pending : (shared : ServerState) (es : Entries) (i : ℕ) (s : SessionValue)
    → slice_get (values_of es) i ≡ Some s → length s.link.pending ≤ 0 → changed_at i (settled_pending shared) es ≡ es
nothing_pending shared es i s at none =
    let same : settled_pending shared s ≡ s = grind (arith, none) in
    sym (written_at_index (settled_pending shared) es i s at) ∙ written_back es i s _ at same

-- The connection has no observer and no pending entry.
pub quiet_covered : (c : Concerned) (at : ℕ) (v : SessionValue) → length v.link.pending + length v.observers ≤ 0
    → (es : Entries) → slice_get (values_of es) at ≡ Some v → AreCoveredBut at c es → AreCovered c es
quiet_covered c at v none es there old = record {
  many = old.many;
  paths =
      λ hash set is i u here outside. elim (cases_eq i at) [
        | inl same ↦ rw (same_value es i at u v here there same) (quiet (cause.Path hash))
        | inr apart ↦ old.paths hash set is i u here outside (λ same. absurd (apart same))
      ];
  time =
      λ before i u here outside. elim (cases_eq i at) [
        | inl same ↦ rw (same_value es i at u v here there same) (quiet (cause.Moment before))
        | inr apart ↦ old.time before i u here outside apart
      ];
}
  where
    empty : {A : Type 0} (xs : List A) → length xs ≤ 0 → xs ≡ []
    empty [] few = refl
    empty (x ∷ xs) few = absurd (omega arith)

    quiet : (why : Cause) → may_concern why v ≡ false
    quiet (cause.Path hash) = rw (empty v.observers (omega arith))
    quiet (cause.Moment before) = rw (empty v.observers (omega arith), empty v.link.pending (omega arith))

-- ---- one set is replaced

pub covered_time : (c d : Concerned) (es : Entries) → d.paths.items ≡ c.paths.items
    → ((before : ℕ) → Covers (cause.Moment before) d.time.words es) → AreCovered c es → AreCovered d es
covered_time c d es same time old =
    record { many = rw same old.many; paths = λ hash set there. old.paths hash set (rw same at there); time = time }

pub covered_path : (c d : Concerned) (hash : ℕ) (set : IndexSet) (es : Entries) → d.time ≡ c.time
    → d.paths.items ≡ slice_set c.paths.items hash set → length d.paths.items ≡ 256
    → Covers (cause.Path hash) set.words es → AreCovered c es → AreCovered d es
covered_path c d hash set es time paths many own old = record {
  many = many;
  paths = λ h x there. elim (set_cases _ hash h set x (rw paths at there)) [
    | inl is ↦ rw (is.0, is.1) own
    | inr other ↦ old.paths h x other.1
  ];
  time = λ before. rw time (old.time before);
}

-- ---- the search for the next connection that a change may affect

-- No connection between two indices belongs to the set.
pub gap_untouched : (why : Cause) (now from a b : ℕ) (words : List ℕ) (es : MarkedEntries)
    → Covers why words (unmarked es) → ((i : ℕ) → a ≤ i → i < b → IsOutside words i) → AreUntouched why now from a es
    → AreUntouched why now from b es
gap_untouched why now from a b words es covers gap before i t first last at = elim (cases_lt i a) [
  | inl lower ↦ before i t first lower at
  | inr after ↦ unconcerned why now t.session (covers i t.session (unmarked_at es i t at) (gap i after last))
]

-- A connection is removed from the set, if the change does not concern it.
pub covers_removed : (why : Cause) (before after : IndexSet) (at : ℕ) (es : Entries) (s : SessionValue) (keeps : Bool)
    → slice_get (values_of es) at ≡ Some s → keeps ≡ may_concern why s → (keeps ≡ true → after ≡ before)
    → ((i : ℕ) → i ≢ at → bit_of after.words i ≡ bit_of before.words i) → Covers why before.words es
    → Covers why after.words es
covers_removed why before after at es s true there is same others covers i u here outside =
    covers i u here (rw (same refl) at outside)
covers_removed why before after at es s false there is same others covers i u here outside = elim (cases_eq i at) [
  | inl own ↦ rw (same_value es i at u s here there own) (sym is)
  | inr apart ↦ covers i u here (record { within = outside.within; bit = sym (others i apart) ∙ outside.bit })
]

-- The next connection settles.
marked_add : (shared : ServerState) (at : ℕ) (es : MarkedEntries) (s t : MarkedSession)
    → slice_get (values_of es) at ≡ Some s → t.session ≡ session_settled shared s.session
    → AddNone (unmarked es) (unmarked (set_value_at es at t))
marked_add shared at es s t there is = rw (set_unmarked es at t t.session refl)
    (written_add at (unmarked es) s.session t.session (unmarked_at es at s there)
    (rw is (settled_adds shared s.session)))

pub covers_one_marked : (why : Cause) (words : List ℕ) (shared : ServerState) (at : ℕ) (es : MarkedEntries)
    (s t : MarkedSession) → slice_get (values_of es) at ≡ Some s → t.session ≡ session_settled shared s.session
    → Covers why words (unmarked es) → Covers why words (unmarked (set_value_at es at t))
covers_one_marked why words shared at es s t there is =
    covers_still why words _ _ (marked_add shared at es s t there is)

pub covered_one_marked : (c : Concerned) (shared : ServerState) (at : ℕ) (es : MarkedEntries) (s t : MarkedSession)
    → slice_get (values_of es) at ≡ Some s → t.session ≡ session_settled shared s.session → AreCovered c (unmarked es)
    → AreCovered c (unmarked (set_value_at es at t))
covered_one_marked c shared at es s t there is = covered_still c _ _ (marked_add shared at es s t there is)

-- ---- a call on one connection of a server, which settles then

-- The server after a call that changed one connection by `f`.
pub record IsCalled (s : Inside) (id i : ℕ) (f : SessionValue → SessionValue) (entries : Entries) : Type 0 where
  pub server : IsServer (record (server_value s) { sessions = entries })
  pub covered : AreCovered s.sets entries
  pub value : record (server_value s) { sessions = entries } ≡ server_settled (on_session id f (server_value s))
  pub lies : LiesAt id i entries

pub called : {s : Inside} {id i : ℕ} {entries : Entries} (f : SessionValue → SessionValue)
    → ((t : SessionValue) → AddsNone t (f t)) → IsMarkedServer s → LiesAt id i (unmarked s.sessions.entries)
    → entries ≡ changed_at i (settling s.shared f) (unmarked s.sessions.entries) → IsCalled s id i f entries
called {s = s} {i = i} f adds was lies is =
    let changed = is_changed f was.server lies is in
    record {
      server = changed.server;
      covered =
          covered_changed_by s.sets i _ _ _ (λ t. adds_settled s.shared t (f t) (adds t)) is
          was.covered;
      value = changed.value;
      lies = changed.lies;
    }

-- The same for a call that may fail and changes nothing then.
pub record IsCalledIfOk {T E : Type 0} (r : Result T E) (s : Inside) (v : ServerValue) (id : ℕ)
    (f : SessionValue → SessionValue) (entries : Entries) : Type 0 where
  pub server : IsServer (record (server_value s) { sessions = entries })
  pub covered : AreCovered s.sets entries
  pub value : OnOk r (record (server_value s) { sessions = entries } ≡ server_settled (on_session id f v))

pub called_if_ok : {T E : Type 0} {s : Inside} {v : ServerValue} {id i : ℕ} (r : Result T E) (entries : MarkedEntries)
    (f : SessionValue → SessionValue) → ((t : SessionValue) → AddsNone t (f t)) → server_value s ≡ v
    → IsMarkedServer s → LiesAt id i (unmarked s.sessions.entries)
    → OnOk r (unmarked entries ≡ changed_at i (settling s.shared f) (unmarked s.sessions.entries))
    → OnErr r (entries ≡ s.sessions.entries) → IsCalledIfOk r s v id f (unmarked entries)
called_if_ok (Ok x) entries f adds same was lies ok err =
    let is = called f adds was lies ok in
    record { server = is.server; covered = is.covered; value = rw (← same) is.value }
called_if_ok (Err e) entries f adds same was lies ok err =
    rw err (record { server = was.server; covered = was.covered; value = tt })

-- One iteration of a flush.
pub record IsTurned (s : Inside) (id i : ℕ) (entries : Entries) (wrote : List ℕ → Type 0) (waited : Bool) : Type 0 where
  pub server : IsServer (record (server_value s) { sessions = entries })
  pub covered : AreCovered s.sets entries
  pub value : IsFlushedOnce id (server_value s) (record (server_value s) { sessions = entries }) wrote waited
  pub lies : LiesAt id i entries

pub turned : {s : Inside} {id i : ℕ} {t : SessionValue} {entries : Entries} (wrote : List ℕ → Type 0) (waited : Bool)
    → IsMarkedServer s → LiesAt id i (unmarked s.sessions.entries)
    → slice_get (values_of (unmarked s.sessions.entries)) i ≡ Some t
    → IsFlushedAt i s.shared t (unmarked s.sessions.entries) entries wrote waited → IsTurned s id i entries wrote waited
turned {t = t} wrote true was lies here did =
    let count = length t.link.waiting in
    let is = called (λ u. session_written u count) (written_adds count) was lies did.0 in
    record {
      server = is.server;
      covered = is.covered;
      value = rw (lies.found ∙ here) (is.value, did.1);
      lies = is.lies;
    }
turned wrote false was lies here did = rw did.1 (record {
  server = was.server;
  covered = was.covered;
  value = rw (lies.found ∙ here) (did.0, refl, did.2);
  lies = lies;
})

-- The connections of a server that a change of a path or of the time does not affect stay settled.

-- ---- recomputed marks

pub all_but_changed : (shared : ServerState) (c : Change) (hash : ℕ) (es : MarkedEntries) → change_hash c ≡ Some hash
    → AreAllMarked shared es → AreMarkedBut (cause.Path hash) (shared_changed shared c) es
all_but_changed shared c hash es is =
    all_to (λ e. IsMarked shared e.1) (λ e. IsMarkedBut _ (shared_changed shared c) e.1)
    (λ e. but_changed shared c hash e.1 is) es

-- ---- the search for the next affected connection

pub none_passed : (why : Cause) (now from : ℕ) (es : MarkedEntries) → AreUntouched why now from from es
none_passed why now from es i s first last at = absurd (omega arith)

pub one_passed : (why : Cause) (now from n : ℕ) (es : MarkedEntries) (s : MarkedSession)
    → slice_get (values_of es) n ≡ Some s → IsUnaffected why now s.session × ConcernsNone why s.session.observers
    → AreUntouched why now from n es → AreUntouched why now from (n + 1) es
one_passed why now from n es s here calm before i t first last at = elim (cases_lt i n) [
  | inl less ↦ before i t first less at
  | inr more ↦ let same : i ≡ n = omega arith in let one : t ≡ s = cc in rw one calm
]

-- ---- all connections

pub untouched_by_change : (shared : ServerState) (c : Change) (hash : ℕ) (es : Entries) → change_hash c ≡ Some hash
    → AreSettled shared es → UnaffectedAreSettled (cause.Path hash) (shared_changed shared c) es
untouched_by_change shared c hash es is =
    all_to (λ e. IsSettled shared e.1)
    (λ e. IsUnaffected (cause.Path hash) shared.now e.1 → IsSettled (shared_changed shared c) e.1)
    (λ e settled others. settled_elsewhere shared c hash e.1 is others settled) es

-- The same after a `put` or a `remove`, and the marks that are still current.
pub calm_after : (shared after : ServerState) (c : Change) (hash : ℕ) (es : MarkedEntries)
    → after ≡ shared_changed shared c → change_hash c ≡ Some hash → AreSettled shared (unmarked es)
    → AreAllMarked shared es
    → UnaffectedAreSettled (cause.Path hash) after (unmarked es) × AreMarkedBut (cause.Path hash) after es
calm_after shared after c hash es is same settled marked =
    rw is (untouched_by_change shared c hash _ same settled, all_but_changed shared c hash es same marked)

-- The same after a change of the time.
pub calm_later : {s : Inside} {v : ServerValue} (before later : ℕ) → IsMarkedServer s → server_value s ≡ v
    → IsStore v.shared.store → before ≡ v.shared.now → s.shared.now ≤ later → later ≢ before → later < 2 ^ 64
    → UnaffectedAreSettled (cause.Moment before) (at_moment s.shared later) (unmarked s.sessions.entries)
    × AreMarkedBut (cause.Moment before) (at_moment s.shared later) s.sessions.entries
calm_later {s = s} before later was same store is after differs fits =
    let kept : IsStore s.shared.store = rw (← same) at store in
    let now : before ≡ s.shared.now = rw (is, ← same) in
    let more : s.shared.now < later = omega arith in
    let then : ServerState = at_moment s.shared later in (
      all_to (λ e. IsSettled s.shared e.1) (λ e. IsUnaffected (cause.Moment before) later e.1 → IsSettled then e.1)
          (λ e settled untouched. stays_settled s.shared later e.1 kept settled more fits
          (rw now at untouched)) (unmarked s.sessions.entries) was.server.settled,
      all_to (λ e. IsMarked s.shared e.1) (λ e. IsMarkedBut (cause.Moment before) then e.1)
          (λ e. but_later s.shared later before e.1 kept) s.sessions.entries was.marked,
    )

-- ---- the loop that settles

module _ (why : Cause) (shared : ServerState) where
  -- The connections before an index are settled, and their changed marks are current. The others are as before.
  abbrev pub AreUpTo : ℕ → MarkedEntries → MarkedEntries → Type 0
  AreUpTo zero es now = (now ≡ es) × AreMarkedBut why shared es
  AreUpTo (suc n) [] [] = Unit {0}
  AreUpTo (suc n) (e ∷ es) (f ∷ fs) =
      (unmarked_entry f ≡ settled_entry shared (unmarked_entry e)) × IsMarked shared f.1 × AreUpTo n es fs
  AreUpTo (suc n) es now = ⊥

  pub next_but : (n : ℕ) (es now : MarkedEntries) (s : MarkedSession)
      → AreUpTo n es now → slice_get (values_of now) n ≡ Some s
      → (slice_get (values_of es) n ≡ Some s) × IsMarkedBut why shared s
  next_but zero es now s up at =
      let here = rw up.0 at at in (here, one_of_all _ 0 es s up.1 here)
  next_but (suc n) [] [] s up at = absurd cc
  next_but (suc n) (e ∷ es) (f ∷ fs) s up at = next_but n es fs s up.2 at
  next_but (suc n) es now s up at = absurd up

  one_up : (n : ℕ) (es now : MarkedEntries) (s after : MarkedSession)
      → AreUpTo n es now → slice_get (values_of now) n ≡ Some s
      → after.session ≡ session_settled shared s.session → IsMarked shared after
      → AreUpTo (suc n) es (set_value_at now n after)
  one_up zero [] [] s after up at settles marked = tt
  one_up zero (e ∷ es) (f ∷ fs) s after up at settles marked =
      let heads : f ≡ e = cc in
      let own : f.1 ≡ s = cc in
      let tails : fs ≡ es = cc in
      (rw (settles, ← own, heads), marked, (tails, up.1.1))
  one_up zero es now s after up at settles marked = absurd cc
  one_up (suc n) [] [] s after up at settles marked = tt
  one_up (suc n) (e ∷ es) (f ∷ fs) s after up at settles marked =
      (up.0, up.1, one_up n es fs s after up.2 at settles marked)
  one_up (suc n) es now s after up at settles marked = absurd up

  -- One connection settles, and those before it are settled.
  pub one_more : (n : ℕ) (es now : MarkedEntries) (s after : MarkedSession)
      → AreUpTo n es now → slice_get (values_of now) n ≡ Some s
      → after.session ≡ session_settled shared s.session → IsMarked shared after
      → AreUpTo (n + 1) es (set_value_at now n after)
  one_more n es now s after up at settles marked =
      rw add-one (one_up n es now s after up at settles marked)

  -- All connections are settled.
  pub none_left : (n : ℕ) (es now : MarkedEntries) → length now ≤ n
      → AreUpTo n es now → (unmarked now ≡ map (settled_entry shared) (unmarked es)) × AreAllMarked shared now
  none_left zero es [] many up = rw (← up.0) (refl, tt)
  none_left zero es (f ∷ fs) many up = absurd (omega arith)
  none_left (suc n) [] [] many up = (refl, tt)
  none_left (suc n) (e ∷ es) (f ∷ fs) many up =
      let rest = none_left n es fs (omega arith) up.2 in (cc (up.0, rest.0), (up.1, rest.1))
  none_left (suc n) es now many up = absurd up

  -- The change does not affect the next connection.
  pass_one : (n : ℕ) (es now : MarkedEntries) (s : MarkedSession)
      → AreUpTo n es now → UnaffectedAreSettled why shared (unmarked es) → slice_get (values_of now) n ≡ Some s
      → IsUnaffected why shared.now s.session × ConcernsNone why s.session.observers → AreUpTo (n + 1) es now
  pass_one n es now s up untouched at calm =
      let next = next_but n es now s up at in
      let settled = one_of_all (λ u. IsUnaffected why _ u → IsSettled shared u) n (unmarked es) _
      untouched (unmarked_at es n s next.0) calm.0 in
      rw (written_back now n s s at refl) at (one_more n es now s s up at
      (sym (settled_stays shared s.session settled)) (marked_untouched why shared s calm.1 next.1))

  -- The change does not affect the next connections.
  pass_some : (k n : ℕ) (es now : MarkedEntries) → n + k ≤ length now
      → AreUpTo n es now → UnaffectedAreSettled why shared (unmarked es)
      → AreUntouched why shared.now n (n + k) now → AreUpTo (n + k) es now
  pass_some zero n es now within before untouched calm = rw add-zero before
  pass_some (suc k) n es now within before untouched calm =
      let up = pass_some k n es now (omega arith) before untouched
      (λ i s from to at. calm i s from (omega arith) at) in
      let there = there_at (values_of now) (n + k) (omega (arith, length-values_of now)) in
      let next : n + k + 1 ≡ n + suc k = omega arith in
      rw next at (pass_one (n + k) es now there.0 up untouched there.1
      (calm (n + k) there.0 (omega arith) (omega arith) there.1))

  pub passed : (n m : ℕ) (es now : MarkedEntries) → n ≤ m → m ≤ length now
      → AreUpTo n es now → UnaffectedAreSettled why shared (unmarked es) → AreUntouched why shared.now n m now
      → AreUpTo m es now
  passed n m es now from within before untouched calm =
      let to : n + (m - n) ≡ m = omega arith in
      rw to at (pass_some (m - n) n es now (omega arith) before untouched (rw to calm))

  -- A change that affects no connection.
  pub none_touched : (es : MarkedEntries)
      → UnaffectedAreSettled why shared (unmarked es)
      → AreMarkedBut why shared es → AreUntouched why shared.now 0 (length es) es
      → (unmarked es ≡ map (settled_entry shared) (unmarked es)) × AreAllMarked shared es
  none_touched es untouched marked calm =
      none_left _ es es (omega arith)
      (passed 0 (length es) es es (omega arith) (omega arith) (refl, marked) untouched calm)

-- ---- the connection that made the change

-- This connection settles first.
settled_first : (shared : ServerState) (i : ℕ) (es : Entries) (s : SessionValue) → slice_get (values_of es) i ≡ Some s
    → map (settled_entry shared) (changed_at i (λ _. session_settled shared s) es) ≡ map (settled_entry shared) es
unfolding changed_at
settled_first shared i [] s at = absurd cc
settled_first shared zero (e ∷ es) s at =
    cc (settled_stays shared _ (settled_is_settled shared s))
settled_first shared (suc i) (e ∷ es) s at = cc (settled_first shared i es s at)

module _ (shared : ServerState) (i hash : ℕ) (es : Entries) (s after : SessionValue)
    (at : slice_get (values_of es) i ≡ Some s) (settles : after ≡ session_settled shared s) where
  settled_at_index : set_value_at es i after ≡ changed_at i (λ _. session_settled shared s) es
  settled_at_index = rw settles (written_at_index (λ _. session_settled shared s) es i s at)

  pub others_untouched : AreOthersSettled (Some hash) i shared es
      → UnaffectedAreSettled (cause.Path hash) shared (set_value_at es i after)
  others_untouched others = rw settled_at_index (others (session_settled shared s) (settled_is_settled shared s))

  pub all_settle : map (settled_entry shared) (set_value_at es i after) ≡ map (settled_entry shared) es
  all_settle = rw settled_at_index (settled_first shared i es s at)

one_in_place : (P : ℕ × SessionValue → Type 0) (i : ℕ) (es : Entries) (s u : SessionValue) → AllByRecursion P es
    → ((n : ℕ) → P (n, s)) → AllByRecursion P (changed_at i (λ _. s) (set_value_at es i u))
unfolding changed_at
one_in_place P i [] s u all here = tt
one_in_place P zero (e ∷ es) s u all here = (here e.0, all.1)
one_in_place P (suc i) (e ∷ es) s u all here = (all.0, one_in_place P i es s u all.1 here)

-- The input of a connection made a change: the others are settled if the change does not affect them.
pub others_settled : (shared : ServerState) (c : Change) (i : ℕ) (es : Entries) (u : SessionValue) (found : Option ℕ)
    → found ≡ change_hash c → AreSettled shared es
    → AreOthersSettled found i (shared_changed shared c) (set_value_at es i u)
others_settled shared c i es u None is settled = tt
others_settled shared c i es u (Some hash) is settled = λ s here.
    one_in_place (λ e. IsUnaffected (cause.Path hash) shared.now e.1 → IsSettled (shared_changed shared c) e.1) i es s u
    (untouched_by_change shared c hash es (sym is) settled) (λ n _. here)

-- The changed marks of all connections after the input of one, which made a change or none.
pub marked_after_take : (shared : ServerState) (c : Change) (i : ℕ) (es : MarkedEntries) (s : MarkedSession)
    (found : Option ℕ) → found ≡ change_hash c → AreAllMarked shared es → IsMarked (shared_changed shared c) s
    → AreMarkedAfter found (shared_changed shared c) (set_value_at es i s)
marked_after_take shared Nothing i es s None is all one = all_written (IsMarked shared) es i s all one
marked_after_take shared (Put path format bytes) i es s None is all one = absurd cc
marked_after_take shared (Delete path) i es s None is all one = absurd cc
marked_after_take shared c i es s (Some hash) is all one =
    all_written (IsMarkedBut (cause.Path hash) (shared_changed shared c)) es i s
    (all_but_changed shared c hash es (sym is) all) (but_none (cause.Path hash) (shared_changed shared c) s one)
