use Rattle.std.proofs.Common.{◌==◌, ◌∙◌, ℕ, List, nat_eq, refl, sym, ap, inl, inr}
use lib.Pointwise.{pointwise}
use Rattle.coap_serve.specs.Codes.{changed}
use Rattle.example_actuator.proofs.PositionLemmas.{moves_on, is_set, is_kept}
use Rattle.example_actuator.proofs.valve.ValveApplication.request.Goals as goal

pub returns-in_default-clause-follows : goal.returns-in_default-clause-follows
returns-in_default-clause-follows c = moves_on _ _ _ (inl (c.requires.empty, refl))

pub returns-then-not-write-clause-follows : goal.returns-then-not-write-clause-follows
returns-then-not-write-clause-follows c = moves_on _ _ _ (inl (c.write.ensures.empty c.if-not-write.true, refl))

pub returns-then-eq-clause-follows : goal.returns-then-eq-clause-follows
returns-then-eq-clause-follows c =
    let coded = ap (λ (n : ℕ). n == changed) c.in-Ok.ensures.code ∙ (sym c.eq.ensures ∙ c.if-eq.true) in
    let payload = ap (λ (xs : List ℕ). pointwise nat_eq xs c.as_slice.result.now) c.payload.ensures in
    let text = c.eq-self.ensures ∙ payload ∙ ap (pointwise nat_eq c.args.request.now.payload) c.as_slice.ensures in
    moves_on _ _ _ (inr record {
      response = c.in-Ok.response;
      spelled = c.write.ensures.written c.if-not-write.false;
      matched = c.in-Ok.ensures.token ∙ c.token.ensures;
      position = is_set c.args.self.now.is_open c.eq-self.result c.args.request.now _ coded text;
    })

pub returns-else-eq-clause-follows : goal.returns-else-eq-clause-follows
returns-else-eq-clause-follows c =
    let coded = ap (λ (n : ℕ). n == changed) c.in-Ok.ensures.code ∙ (sym c.eq.ensures ∙ c.if-eq.false) in
    moves_on _ _ _ (inr record {
      response = c.in-Ok.response;
      spelled = c.write.ensures.written c.if-not-write.false;
      matched = c.in-Ok.ensures.token ∙ c.token.ensures;
      position = is_kept c.args.self.now.is_open c.args.request.now _ coded;
    })
