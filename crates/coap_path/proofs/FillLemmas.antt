-- The segments of a path, written one after the other.
use Rattle.std.proofs.Common.{◌≡◌, ◌&&◌, ◌==◌, [], ◌∷◌, length, refl, arith}
use Rattle.std.proofs.lemmas.Bool.Decides.{nat_tests}
use Rattle.coap_path.specs.Prelude.{is_one_empty, Path, written}
use Rattle.std.proofs.Common.{append_assoc}
use Rattle.std.proofs.lemmas.Grind.{common_steps}
use Rattle.coap_path.proofs.PathLemmas.{length_written}

-- The only path with one segment and one byte is the single empty segment.
pub one_empty : (p : Path) → is_one_empty p ≡ (length p == 1 && length (written p) == 1)
unfolding written
one_empty [] = refl
one_empty ([] ∷ []) = refl
one_empty ((b ∷ bs) ∷ []) = grind (arith, nat_tests)
one_empty (s ∷ t ∷ ts) = grind (arith, nat_tests)

pub ruleset write_path_steps = (length_written, one_empty, append_assoc, nat_tests, common_steps)
