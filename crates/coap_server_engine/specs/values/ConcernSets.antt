-- Defined by this project: the sets of the connections that a change may concern. They have each such connection, and
-- may have others.
use Rattle.std.specs.Prelude.{◌≡◌, ◌≢◌, ℕ, List, length, slice_get, Option, Some, IfSome, false}
use Rattle.std.specs.Map.{values_of}
use Rattle.coap_server_session.specs.declared.cause.Cause.{Cause}
use Rattle.coap_server_session.specs.declared.cause.Cause.TheVariants as cause
use Rattle.coap_server_session.specs.values.Sessions.{SessionValue}
use Rattle.coap_server_session.specs.values.Causes.{may_concern, last_hash}
use Rattle.coap_server_engine.specs.declared.index_set.IndexSet.{IndexSet}
use Rattle.coap_server_engine.specs.declared.server.concerned.Concerned.{Concerned}
use Rattle.coap_server_engine.specs.values.IndexSets.{IsOutside}

-- Holds if a change concerns no connection outside the set with these words.
abbrev pub Covers : Cause → List ℕ → List (ℕ × SessionValue) → Type 0
Covers why words sessions =
    (i : ℕ) (s : SessionValue) → slice_get (values_of sessions) i ≡ Some s → IsOutside words i
    → may_concern why s ≡ false

-- Holds if each set has all connections that the changes of its paths, or those of the time, may concern.
pub record AreCovered (c : Concerned) (sessions : List (ℕ × SessionValue)) : Type 0 where
  pub many : length c.paths.items ≡ 256
  pub paths : (hash : ℕ) (set : IndexSet) → slice_get c.paths.items hash ≡ Some set
      → Covers (cause.Path hash) set.words sessions
  pub time : (before : ℕ) → Covers (cause.Moment before) c.time.words sessions

-- The same, except for the connection at an index. The set of the time may lack it, and so may the set of its last
-- observer.
pub record AreCoveredBut (at : ℕ) (c : Concerned) (sessions : List (ℕ × SessionValue)) : Type 0 where
  pub many : length c.paths.items ≡ 256
  pub paths : (hash : ℕ) (set : IndexSet) → slice_get c.paths.items hash ≡ Some set → (i : ℕ) (s : SessionValue)
      → slice_get (values_of sessions) i ≡ Some s → IsOutside set.words i → (i ≡ at → last_hash s.observers ≢ Some hash)
      → may_concern (cause.Path hash) s ≡ false
  pub time : (before i : ℕ) (s : SessionValue) → slice_get (values_of sessions) i ≡ Some s → IsOutside c.time.words i
      → i ≢ at → may_concern (cause.Moment before) s ≡ false

-- Holds if each connection that a change of a path with this hash may concern was added to a set, if anything changed.
-- The set had the words `before`.
pub record AddsConcerned (found : Option ℕ) (before words : List ℕ) (sessions : List (ℕ × SessionValue)) : Type 0 where
  pub kept : (i : ℕ) → IsOutside words i → IsOutside before i
  pub covers : IfSome found (λ hash. Covers (cause.Path hash) words sessions)
