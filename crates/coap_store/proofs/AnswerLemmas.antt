-- The answer to a request: the answer of the checks, with the effect on the observers.
use Rattle.std.proofs.Common.{◌≡◌, ℕ, true, false}
use Rattle.coap_store.specs.Prelude.{Message, StoreValue, path_of, target_of, Answer, answer_at, answer_of}
use Rattle.coap_store.specs.Prelude.{removes_watch, Drop}
use Rattle.coap_store.proofs.AnswerLaws.{taken_of, bare_of, short_of, plain_of}
use Rattle.coap_store.proofs.StoreLemmas.{stored_small}

-- The answer before Observe 1 is considered.
abbrev pub answer_before_watch : StoreValue → ℕ → Message → Answer
answer_before_watch s now m = answer_at s (target_of s now (path_of m)) m

pub answer_removes : (s : StoreValue) (now : ℕ) (m : Message) → removes_watch m ≡ true
    → record (answer_before_watch s now m) { watch = Drop } ≡ answer_of s now m
unfolding answer_of
answer_removes s now m removes = rw removes

pub answer_leaves : (s : StoreValue) (now : ℕ) (m : Message) → removes_watch m ≡ false
    → answer_before_watch s now m ≡ answer_of s now m
unfolding answer_of
answer_leaves s now m leaves = rw leaves

pub ruleset fill_plan_steps =
    (taken_of, bare_of, short_of, plain_of, stored_small, answer_removes, answer_leaves)
