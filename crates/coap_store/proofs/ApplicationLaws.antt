-- The requests that the application answers, and the answer to a request that is answered at once.
use Rattle.std.proofs.Common.{◌≡◌, ℕ, true, false, Option, Some, None, refl, arith}
use Rattle.coap_store.specs.Prelude.{Message, StoreValue, Answer, says, only, immediate_answer, prompt_answer}
use Rattle.coap_store.specs.Prelude.{application_deadline, passes_checks, ApplicationsValue, is_answered, is_dynamic}
use Rattle.coap_store.specs.Prelude.{kind_of_path, path_of}
use Rattle.coap_wire.specs.Codes as code

-- ---- the deadline

pub none_unchecked : (a : Option ApplicationsValue) (m : Message) → passes_checks m ≡ false
    → application_deadline a m ≡ None
unfolding application_deadline
none_unchecked None m off = refl
none_unchecked (Some a) m off = grind arith

pub none_elsewhere : (a : ApplicationsValue) (m : Message) → is_answered a.entries (path_of m) m.code ≡ false
    → application_deadline (Some a) m ≡ None
unfolding application_deadline
none_elsewhere a m off = rw off

pub deadline_of_entry : (a : ApplicationsValue) (m : Message) → is_answered a.entries (path_of m) m.code ≡ true
    → passes_checks m ≡ true → application_deadline (Some a) m ≡ Some a.deadline
unfolding application_deadline
deadline_of_entry a m on passes = rw (on, passes)

pub none_built_in : (a : Option ApplicationsValue) (m : Message) → is_dynamic (kind_of_path (path_of m)) ≡ false
    → application_deadline a m ≡ None
unfolding application_deadline is_answered
none_built_in None m off = refl
none_built_in (Some a) m off = rw off

-- ---- an answer at once

-- The cases: a request that the application answers, and another one.
pub prompt_cases : (s : StoreValue) (now : ℕ) (m : Message) (P : Answer → Type 0)
    → P (says (only code.service_unavailable)) → P (immediate_answer s now m) → P (prompt_answer s now m)
unfolding prompt_answer
prompt_cases s now m P handed prompt = grind arith

pub prompt_without : (s : StoreValue) (now : ℕ) (m : Message) → s.applications ≡ None
    → prompt_answer s now m ≡ immediate_answer s now m
unfolding prompt_answer application_deadline
prompt_without s now m none = rw none refl

pub prompt_handed : (s : StoreValue) (now : ℕ) (m : Message) (deadline : ℕ)
    → application_deadline s.applications m ≡ Some deadline
    → prompt_answer s now m ≡ says (only code.service_unavailable)
unfolding prompt_answer
prompt_handed s now m deadline is = rw is refl
