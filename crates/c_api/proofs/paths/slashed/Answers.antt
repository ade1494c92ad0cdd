use Rattle.std.proofs.Common.{length, arith, refl, ap, ◌∙◌}
use Rattle.coap_path.specs.Paths.{written_length}
use Rattle.coap_path.proofs.PathLemmas.{path_fits}
use Rattle.c_api.proofs.paths.slashed.Goals as goal

pub loop-segment-init : goal.loop-segment-init
loop-segment-init c =
    let same = c.into_iter-segment-iterator.ensures.into_iter_gives ∙ c.segments-segment-items.ensures.value in
    record {
      goes = tt;
      ends = tt;
      left = rw (same, c.new-text.ensures) refl;
      room = omega (
        arith,
        ap written_length same,
        ap length c.new-text.ensures,
        path_fits c.args.path.now c.segments-segment-items.ensures.path,
      );
    }
