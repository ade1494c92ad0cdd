use Rattle.std.proofs.Common.{◌≡◌, ◌-◌, length, ap, arith}
use Rattle.std.proofs.lemmas.List.{length-take}
use Rattle.coap_frame.specs.Prelude.{FramerValue}
use Rattle.coap_frame.proofs.FramingLemmas.{back_piece, frame_is_small}
use Rattle.coap_frame.proofs.framer.Framer.unread.Goals as goal

pub append-requires : goal.append-requires
append-requires c =
    let piece = c.args.piece.now in
    let back =
    back_piece c.args.self.now piece c.requires (omega (arith, c.spent-spent.ensures, c.if-spent-gt0.false)) in
    let small = frame_is_small c.args.self.now.max piece back.whole in
    let same : c.self.inside.max ≡ c.args.self.now.max = ap (λ (v : FramerValue). v.max) c.self.view_is in
    omega (
      arith,
      small.1,
      same,
      c.self.invariant.1,
      c.clear.ensures.capacity,
      c.clear.ensures.len,
      length-take (length piece - 1) piece,
    )
