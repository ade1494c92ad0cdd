-- Defined by this project: the segments of a path (RFC 7252 section 5.10.1), matched one after the other.
use Rattle.std.specs.Prelude.{ℕ, List, [], ◌∷◌, codes, if◌then◌else◌}
use Rattle.coap_path.specs.Paths.{Path, same_bytes}
use Rattle.coap_path.specs.declared.resource_kind.ResourceKind.{ResourceKind}
use Rattle.coap_path.specs.declared.resource_kind.ResourceKind.TheVariants as place
use Rattle.coap_path.specs.declared.path_match.PathMatch.{PathMatch}
use Rattle.coap_path.specs.declared.path_match.PathMatch.TheVariants.{Root, Time, Async, WellKnown, Listing, Elsewhere}

-- The state after a first segment.
abbrev pub first_match : List ℕ → PathMatch
first_match segment =
    if same_bytes segment (codes "time") then Time
    else (if same_bytes segment (codes "async") then Async
    else (if same_bytes segment (codes ".well-known") then WellKnown
    else Elsewhere))

-- The state after another segment.
abbrev pub match_with : PathMatch → List ℕ → PathMatch
match_with Root segment = first_match segment
match_with WellKnown segment = if same_bytes segment (codes "core") then Listing else Elsewhere
match_with Time segment = Elsewhere
match_with Async segment = Elsewhere
match_with Listing segment = Elsewhere
match_with Elsewhere segment = Elsewhere

-- The state after these segments, one after the other.
abbrev pub match_along : PathMatch → Path → PathMatch
match_along matched [] = matched
match_along matched (s ∷ ss) = match_along (match_with matched s) ss

-- The kind of resource at a path with this state.
abbrev pub place_at : PathMatch → ResourceKind
place_at Root = place.Root
place_at Time = place.Time
place_at Async = place.Async
place_at WellKnown = place.Dynamic
place_at Listing = place.Listing
place_at Elsewhere = place.Dynamic
