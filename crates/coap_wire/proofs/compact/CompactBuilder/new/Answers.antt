use Rattle.std.proofs.Common.{rules, refl}
use Rattle.coap_wire.proofs.CompactLemmas.{nothing_encoded, nothing_read}
use Rattle.coap_wire.proofs.compact.CompactBuilder.new.Goals as goal

pub invariant_of-result : goal.invariant_of-result
invariant_of-result g c = record {
  options = rw c.new.ensures nothing_encoded;
  token = search rules;
  payload = search rules;
  few = c.requires;
}

pub returns : goal.returns
returns g c = rw (c.new.ensures, nothing_read, c.copy.ensures.token) refl
