-- Each answer to a request has the code of a response: class 2, 4 or 5.
use Rattle.std.proofs.Common.{◌≡◌, ℕ, Bool, true, ◌||◌, ◌==◌, refl, arith}
use Rattle.coap_model.specs.Prelude.{Message, class_of, bare_code, StoreValue, RequestTarget, target_of, path_of}
use Rattle.coap_model.specs.Prelude.{get_answer, store_answer, method_answer, resource_answer, answer_at, answer_of}
use Rattle.coap_model.specs.Prelude.{immediate_answer, prompt_answer}
use Rattle.coap_store.specs.Answer.{Answer}
use Rattle.coap_store.proofs.ApplicationLaws.{prompt_cases}

abbrev pub coded : ℕ → Bool
coded c = class_of c == 2 || (class_of c == 4 || class_of c == 5)

abbrev IsCoded : Answer → Type 0
IsCoded a = coded a.response.code ≡ true

method_coded : (s : StoreValue) (t : RequestTarget) (m : Message) → IsCoded (method_answer s t m)
unfolding method_answer get_answer store_answer
method_coded s t m = grind arith

resource_coded : (s : StoreValue) (t : RequestTarget) (m : Message) → IsCoded (resource_answer s t m)
unfolding resource_answer
resource_coded s t m = grind (arith, method_coded s t m)

answer_coded : (s : StoreValue) (t : RequestTarget) (m : Message) → IsCoded (answer_at s t m)
unfolding answer_at
answer_coded s t m = grind (arith, resource_coded s t m)

immediate_coded : (store : StoreValue) (now : ℕ) (m : Message) → IsCoded (immediate_answer store now m)
unfolding immediate_answer answer_of
immediate_coded store now m = grind (arith, answer_coded store (target_of store now (path_of m)) m)

pub prompt_coded : (store : StoreValue) (now : ℕ) (m : Message) → IsCoded (prompt_answer store now m)
prompt_coded store now m = prompt_cases store now m IsCoded refl (immediate_coded store now m)

pub bare_coded : (c : ℕ) → coded c ≡ true → coded (bare_code c) ≡ true
bare_coded c is = grind arith
