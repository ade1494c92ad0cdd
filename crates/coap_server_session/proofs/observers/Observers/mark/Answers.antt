use Rattle.std.proofs.Common.{◌≡◌, length, ap, sym, ◌∙◌, arith}
use Rattle.std.proofs.lemmas.List.{length-map}
use Rattle.coap_server_session.specs.Prelude.{observer_value}
use Rattle.coap_server_session.proofs.observers.Observers.mark.Goals as goal

pub invariant_of-self : goal.invariant_of-self
invariant_of-self c =
    let items = c.self.inside.entries.items in
    let after = c.mark_chain.new.observers.items in
    let e = c.mark_chain.ensures in
    let many : length after ≡ length items =
    sym (length-map after observer_value) ∙ ap length e.entries ∙ length-map items observer_value in
    record {
      few = omega (arith, many, c.self.invariant.few);
      reserved = omega (arith, e.capacity, c.self.invariant.reserved);
      least = c.self.invariant.least;
      tagged = e.tagged;
      chained = rw (many, e.linked) c.self.invariant.chained;
      flagged = e.flagged;
    }
