use Rattle.std.proofs.Common.{◌<◌, refl, arith, length}
use Rattle.std.proofs.lemmas.Option.{slice_get_read}
use Rattle.coap_server_engine.proofs.server.concerned.Concerned.of_path.Goals as goal

pub returns : goal.returns
returns c =
    let sets = c.args.self.now.paths.items in
    let within : c.from.result < length sets = omega (arith, c.requires, c.from.ensures) in
    rw c.from.ensures at (slice_get_read sets _ _ _ refl within c.index.ensures)
