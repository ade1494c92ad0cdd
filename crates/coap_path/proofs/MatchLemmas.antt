-- The state after all segments of a path gives the kind of resource that the path names.
use Rattle.std.proofs.Common.{◌≡◌, ℕ, true, false, List, [], ◌∷◌, refl, arith}
use Rattle.coap_path.specs.Prelude.{codes, Path, same_bytes, kind_of_path, match_along}
use Rattle.coap_path.specs.Prelude.{place_at, Elsewhere}
use lib.Pointwise.{bytes_decides}
use Rattle.coap_path.specs.declared.path_match.PathMatch.TheVariants.{Root}

-- No path that continues from this state is that of a built-in resource.
elsewhere_stays : (path : Path) → match_along Elsewhere path ≡ Elsewhere
elsewhere_stays [] = refl
elsewhere_stays (s ∷ ss) = elsewhere_stays ss

-- Tests of one segment for two different texts are not both true.
apart : (s a b : List ℕ) → same_bytes a b ≡ false → same_bytes s a ≡ true → same_bytes s b ≡ false
apart s a b other is = rw ((bytes_decides s a).0 is) other

pub place_by_match : (path : Path) → place_at (match_along Root path) ≡ kind_of_path path
unfolding kind_of_path
place_by_match [] = refl
place_by_match (s ∷ []) = grind arith
place_by_match (s ∷ t ∷ []) =
    let time = apart s (codes "time") (codes ".well-known") refl in
    let async = apart s (codes "async") (codes ".well-known") refl in
    grind arith
place_by_match (s ∷ t ∷ u ∷ ss) = grind (arith, elsewhere_stays)
