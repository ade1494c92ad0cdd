-- Defined by this project: the results of a call on a handle. `v` is the value of the handle before the call, `v'` the
-- value after it, and `r` the number that the call returns.
use Rattle.std.specs.Prelude.{◌≡◌, ℕ, Option, Some, None, ◌⊎◌}
use Rattle.coap_path.specs.Paths.{Path}

-- A call on a handle without an engine returns 1, and changes neither the handle nor its results (`same`). Otherwise
-- `call` states the engine after it and the number.
abbrev pub OnHandle : {V : Type 0} → Type 0 → (V → V → ℕ → Type 0) → Option V → Option V → ℕ → Type 0
OnHandle same call None v' r = (v' ≡ None) × ((r ≡ 1) × same)
OnHandle same call (Some v) None r = ⊥
OnHandle same call (Some v) (Some v') r = call v v' r

-- A call that fails with the number `refusal`, if there is one, and changes nothing. Otherwise it returns 0, and `done`
-- holds.
abbrev pub Answers : {V : Type 0} → Type 0 → Option ℕ → Type 0 → V → V → ℕ → Type 0
Answers same None done v v' r = (r ≡ 0) × done
Answers same (Some number) done v v' r = (r ≡ number) × ((v' ≡ v) × same)

-- A call as `Answers` states it, that can also fail with 2 because an allocation fails. It changes nothing then.
abbrev pub AnswersOrMemory : {V : Type 0} → Type 0 → Option ℕ → Type 0 → V → V → ℕ → Type 0
AnswersOrMemory same None done v v' r = ((r ≡ 0) × done) ⊎ ((r ≡ 2) × ((v' ≡ v) × same))
AnswersOrMemory same (Some number) done v v' r = (r ≡ number) × ((v' ≡ v) × same)

-- A call at the path that a text or a list of segments names. It fails with 4 if it names none.
abbrev pub AtPath : {V : Type 0} → Type 0 → Option Path → (Path → V → V → ℕ → Type 0) → V → V → ℕ → Type 0
AtPath same None call v v' r = (r ≡ 4) × ((v' ≡ v) × same)
AtPath same (Some path) call v v' r = call path v v' r
