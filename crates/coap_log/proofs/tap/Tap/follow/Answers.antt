use Rattle.std.proofs.Common.{List, ℕ, ap, ◌∙◌, ◌++◌, arith, sym}
use Rattle.coap_wire.specs.Reading.{declared_of}
use Rattle.coap_log.specs.Taps.{TapValue}
use Rattle.coap_log.proofs.TapLemmas.{unknown_few}
use Rattle.coap_log.proofs.tap.Tap.follow.Goals as goal

pub append-requires : goal.append-requires
append-requires c =
    let inside = c.self.inside in
    let unknown = ap (λ (l : List ℕ). declared_of (l ++ c.args.piece.now)) (sym c.deref.ensures.value)
    ∙ sym c.declared_after.ensures ∙ c.in-Unknown.is in
    let few = unknown_few inside.room inside.passed inside.kept.items c.args.piece.now c.self.invariant.0.room
    c.self.invariant.0.kept unknown in
    omega (arith, few, ap (λ (v : TapValue). v.passed) c.self.view_is)
