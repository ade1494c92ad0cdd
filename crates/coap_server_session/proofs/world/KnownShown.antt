-- The mark in an observer's value decides whether the observer was sent the current state.
use Rattle.std.proofs.Common.{◌≡◌, ℕ, ◌≤◌, true, [], Option, Some, None, refl, sym, ap, ◌∙◌, arith, ◌==◌, not}
use Rattle.std.proofs.Common.{if◌then◌else◌}
use Rattle.coap_server_session.specs.Prelude.{decimal, digits_value, both_ways, Path, same_bytes, Representation}
use Rattle.coap_server_session.specs.Prelude.{StoreValue, found_in, kind_of_path, state_at, state_of, Time, Dynamic}
use Rattle.coap_server_session.specs.Prelude.{mark_of, mark_at, is_marked, is_stale, Observer, same_state, is_due}
use Rattle.coap_server_session.specs.Prelude.{mark_sent, observer_shown}
use Rattle.std.proofs.lemmas.Bool.{eqb-true, eq-eqb, ne_eqb, cond-false}
use Rattle.std.proofs.lemmas.Fmt.{decimal_is_IsNumeral}
use lib.Pointwise.{bytes_decides}
use Rattle.coap_path.specs.declared.resource_kind.ResourceKind.{ResourceKind}
use Rattle.coap_model.proofs.world.KnownLaws.{KnowsStored, IsKnownAt, IsKnown, IsVersioned, state_itself, state_is}
use Rattle.coap_model.proofs.world.KnownLaws.{IsWatchable, sent_known}

-- ---- the time

digits_back : (n : ℕ) → n ≤ 18446744073709551615 → digits_value 10 (decimal n) ≡ n
digits_back n small = (decimal_is_IsNumeral n (omega arith)).1

-- Two times are equal if and only if their decimal texts are.
moment_same : (reported now : ℕ) → reported ≤ 18446744073709551615 → now ≤ 18446744073709551615
    → same_bytes (decimal reported) (decimal now) ≡ (now == digits_value 10 (decimal reported))
moment_same reported now small_reported small_now =
    let bytes = bytes_decides (decimal reported) (decimal now) in
    both_ways (same_bytes (decimal reported) (decimal now)) (now == digits_value 10 (decimal reported))
    (λ e. eq-eqb now _ (sym (digits_back now small_now) ∙ ap (digits_value 10) (sym (bytes.0 e))))
    (λ e. bytes.1 (ap decimal (sym (eqb-true now _ e ∙ digits_back reported small_reported))))

-- ---- marks

-- The mark of a stored representation is its version.
version_marks : (n : ℕ) (r : Representation) → 1 ≤ r.version → (if r.version == 0 then n else r.version) ≡ r.version
version_marks n r some = cond-false (r.version == 0) n r.version (ne_eqb r.version 0 (λ none. omega arith))

-- For a stored path: two states are equal if and only if their marks are.
stored_same : (store : StoreValue) (now : ℕ) (o : Observer) (known : KnowsStored store o)
    (found : Option Representation) → IsVersioned store → found_in store.resources o.path ≡ found
    → same_state (Some known.state) found ≡ is_marked now (mark_sent (Some known.state)) found
stored_same store now o known None is at = refl
stored_same store now o known (Some r) is at =
    let t : Representation = known.state in
    rw (version_marks now r (is.numbered o.path r at), version_marks (digits_value 10 t.bytes) t known.numbered)
    (both_ways (same_state (Some t) (Some r)) (r.version == t.version)
    (λ e. (let one = state_is (Some t) (Some r) e in eq-eqb r.version t.version (cc)))
    (λ e. ap (λ q. same_state (Some t) (Some q)) (known.same r at (eqb-true r.version t.version e))
    ∙ state_itself (Some t)))

marked_at : (store : StoreValue) (now : ℕ) (o : Observer) (place : ResourceKind) → IsKnownAt place store o
    → now ≤ 18446744073709551615 → IsVersioned store → same_state o.reported (state_at store now (Some o.path) place)
    ≡ is_marked now (mark_sent o.reported) (state_at store now (Some o.path) place)
unfolding state_at
marked_at store now o Time known small is = rw known.was (moment_same known.moment now known.small small)
marked_at store now o Dynamic known small is =
    rw known.was (stored_same store now o known (found_in store.resources o.path) is refl)
marked_at store now o other known small is = absurd known

known_marked_now : (store : StoreValue) (now : ℕ) (o : Observer) → IsKnown store o → now ≤ 18446744073709551615
    → IsVersioned store
    → same_state o.reported (state_of store now o.path) ≡ is_marked now (mark_sent o.reported)
    (state_of store now o.path)
known_marked_now store now o known small is =
    rw known.key (marked_at store now o (kind_of_path o.path) known.state small is)

-- The mark decides whether the current state is the one sent last.
pub due_is_stale : (store : StoreValue) (now : ℕ) (o : Observer) → IsKnown store o → now ≤ 18446744073709551615
    → IsVersioned store → is_due store now o ≡ is_stale (record { store = store; now = now }) (observer_shown o)
unfolding is_due is_stale
due_is_stale store now o known small is = ap not (known_marked_now store now o known small is)

-- The mark of the current state in the model is that of the code.
pub mark_now : (store : StoreValue) (now : ℕ) (path : Path) → now ≤ 18446744073709551615 → IsVersioned store
    → IsWatchable store now path → mark_sent (state_of store now path) ≡ mark_of now (state_of store now path)
mark_now store now path small is can =
    let state : Option Representation = state_of store now path in
    let known : IsKnown store (record { token = []; path = path; reported = state }) =
    sent_known store now [] path small is can in
    let marked : is_marked now (mark_sent state) state ≡ true =
    sym (known_marked_now store now _ known small is) ∙ state_itself state in
    rw can.there
    (sym (eqb-true (mark_at now can.representation) (mark_sent (Some can.representation)) (rw can.there at marked)))
