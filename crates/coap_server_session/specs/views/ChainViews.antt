-- The linked lists (chains) by which the code finds the observers that a change affects: the last one, and from each
-- the one before it.
use Rattle.std.specs.Prelude.{◌≡◌, ◌≤◌, ◌<◌, ◌==◌, ℕ, suc, Bool, true, false, not, List, Option, Some, None, slice_get}
use Rattle.std.specs.Prelude.{get_or}
use Rattle.coap_path.specs.Paths.{Path}
use Rattle.coap_path.specs.ResourceKinds.{kind_of_path, is_dynamic}
use Rattle.coap_server_session.specs.values.Causes.{path_hash}
use Rattle.coap_server_session.specs.declared.cause.Cause.{Cause}
use Rattle.coap_server_session.specs.declared.cause.Cause.TheVariants as cause
use Rattle.coap_server_session.specs.declared.observer.Observer.{Observer}
use Rattle.coap_server_session.specs.declared.chains.Chains.{Chains}

-- The part of an observer that the chains need: its path, and the indices of the observers before it in its chains.
pub record Linked : Type 0 where
  pub path : Path
  pub previous : Option ℕ
  pub previous_of_time : Option ℕ

abbrev pub linked : Observer → Linked
linked o = record { path = o.path; previous = o.previous; previous_of_time = o.previous_of_time }

-- `true` if a change affects the observers of a path.
abbrev pub concerns_path : Cause → Path → Bool
concerns_path (cause.Path hash) path = path_hash path == hash
concerns_path (cause.Moment before) path = not (is_dynamic (kind_of_path path))

-- The index of the last observer in the chain of a change.
abbrev pub last_in : Cause → Chains → Option ℕ
last_in (cause.Path hash) chains = get_or chains.hashed hash None
last_in (cause.Moment before) chains = chains.of_time

-- The index of the observer before `o` in the chain of a change.
abbrev pub previous_in : Cause → Linked → Option ℕ
previous_in (cause.Path hash) o = o.previous
previous_in (cause.Moment before) o = o.previous_of_time

-- The index after `k`, or 0 for `None`.
abbrev pub next_index : Option ℕ → ℕ
next_index None = 0
next_index (Some k) = suc k

-- Holds if `last` is the index of the last observer before the index `n` that a change affects, or `None` if there is
-- none.
pub record IsLastBefore (why : Cause) (n : ℕ) (os : List Linked) (last : Option ℕ) : Type 0 where
  pub within : next_index last ≤ n
  pub concerned : (k : ℕ) (o : Linked) → last ≡ Some k → slice_get os k ≡ Some o → concerns_path why o.path ≡ true
  pub others : (k : ℕ) (o : Linked) → next_index last ≤ k → k < n → slice_get os k ≡ Some o
      → concerns_path why o.path ≡ false

-- Holds if the observers before the index `n` are linked into chains, for each change.
pub record AreChainedTo (n : ℕ) (chains : Chains) (os : List Linked) : Type 0 where
  pub last : (why : Cause) → IsLastBefore why n os (last_in why chains)
  pub each : (why : Cause) (k : ℕ) (o : Linked) → k < n → slice_get os k ≡ Some o → concerns_path why o.path ≡ true
      → IsLastBefore why k os (previous_in why o)
