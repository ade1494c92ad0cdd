-- Lemmas on the position of the valve: after one more exchange, after none, and after a response.
use Rattle.std.proofs.Common.{◌≡◌, ◌==◌, ◌∙◌, ℕ, List, [], ◌∷◌, Bool, true, false, nat_eq, sym, subst}
use Rattle.std.proofs.lemmas.Bool.{cond-true, cond-false}
use lib.Pointwise.{pointwise}
use Rattle.std.proofs.lemmas.List.{append-nil}
use Rattle.std.specs.Prelude.{codes}
use Rattle.coap_serve.specs.Codes.{changed}
use Rattle.coap_serve.specs.Prelude.{Exchange, Message, AnswersMore}
use Rattle.example_actuator.specs.Position.{IsPosition, IsNext, IsMovedOn, position_after}

pub moves_on : (p q : Bool) (e : Exchange) → IsNext p e q →
    AnswersMore (λ es. IsPosition es p) (λ es. IsPosition es q) (e ∷ [])
unfolding AnswersMore
moves_on p q e next = λ earlier h. IsMovedOn earlier p e q h next

pub stays : (p : Bool) → AnswersMore (λ es. IsPosition es p) (λ es. IsPosition es p) []
unfolding AnswersMore
stays p = λ earlier h. subst (λ (es : List Exchange). IsPosition es p) (sym (append-nil earlier)) h

pub is_set : (p q : Bool) (m : Message) (code : ℕ) → (code == changed) ≡ true →
    q ≡ pointwise nat_eq m.payload (codes "open") → q ≡ position_after p m code
is_set p q m code is set = set ∙ sym (cond-true (code == changed) (pointwise nat_eq m.payload (codes "open")) p is)

pub is_kept : (p : Bool) (m : Message) (code : ℕ) → (code == changed) ≡ false → p ≡ position_after p m code
is_kept p m code is = sym (cond-false (code == changed) (pointwise nat_eq m.payload (codes "open")) p is)
