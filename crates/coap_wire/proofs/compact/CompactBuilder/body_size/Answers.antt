use Rattle.std.proofs.Common.{◌≤◌, length, arith, subst, ap}
use Rattle.coap_wire.specs.Prelude.{Message, HasSpelling, body_spelling, compact_message, greatest_length}
use Rattle.coap_wire.proofs.BuiltLemmas.{length-body}
use Rattle.coap_wire.proofs.compact.CompactBuilder.body_size.Goals as goal

pub returns-clause-spelled : goal.returns-clause-spelled
returns-clause-spelled g c =
    let inv = c.self.invariant in
    let m : Message = compact_message c.self.inside in
    let body : length (body_spelling m) ≤ greatest_length =
    omega (
      arith,
      length-body m,
      c.len-options.ensures.value,
      c.len-options.ensures.fits,
      ap length inv.options.encoded,
      c.marker_size.ensures.size,
      c.marker_size.ensures.bound,
      inv.payload,
      inv.few,
    ) in
    subst HasSpelling c.self.view_is
    (record { token = inv.token; ordered = inv.options.ordered; each = inv.options.each; body = body })
