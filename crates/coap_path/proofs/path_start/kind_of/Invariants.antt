use Rattle.std.proofs.Common.{◌≡◌, drop}
use Rattle.coap_path.specs.Prelude.{segment_list, match_along}
use Rattle.coap_path.specs.declared.path_match.PathMatch.TheVariants.{Root}
use Rattle.coap_path.proofs.path_start.kind_of.Given as goal

-- The remaining segments lead from the state to that of the path.
abbrev pub invariant-loop-segment : goal.invariant-loop-segment
invariant-loop-segment l =
    match_along l.state (segment_list (drop l.segment-index l.path)) ≡ match_along Root (segment_list l.path)
