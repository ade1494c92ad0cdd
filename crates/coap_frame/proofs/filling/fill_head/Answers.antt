use Rattle.std.proofs.Common.{rules, ◌≡◌, arith, sym, ◌∙◌, refl}
use Rattle.coap_wire.specs.declared.layout.Outline.TheVariants.{Unknown}
use Rattle.coap_wire.proofs.StreamSteps.{unknown_small}
use Rattle.coap_frame.proofs.filling.fill_head.Goals as goal

pub push_reserved-requires : goal.push_reserved-requires
push_reserved-requires c =
    let unknown : c.loop-known.known ≡ Unknown = search rules in
    let few = unknown_small c.loop-known.buffer.items (sym c.loop-known.invariant.taken.size_is ∙ rw unknown refl) in
    omega (arith, few, c.loop-known.invariant.room, c.loop-known.buffer.ok)
