-- Examples of the definitions.
use Rattle.std.proofs.Common.{◌≡◌, refl}
use Rattle.coap_io.specs.Prelude.{READ_SIZE}

-- Code and definitions have the same maximum of one read.
read_size : READ_SIZE ≡ 16384
read_size = refl
