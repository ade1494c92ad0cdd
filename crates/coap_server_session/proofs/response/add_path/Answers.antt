use Rattle.std.proofs.Common.{refl, ap, arith}
use Rattle.coap_server_session.specs.Prelude.{path_size, written_length}
use Rattle.coap_path.proofs.PathLemmas.{path_fits}
use Rattle.coap_server_session.proofs.response.add_path.Goals as goal

pub loop-segment-init : goal.loop-segment-init
loop-segment-init g c =
    let same = c.into_iter-segment-iterator.ensures.into_iter_gives in
    record {
      goes = tt;
      ends = tt;
      added = rw same refl;
      order = c.requires.order;
      few = omega (arith, ap path_size same);
      short = omega (arith, path_fits c.args.path c.requires.path, ap written_length same);
    }
