-- Statements of monitors on calls, one after another.
use Rattle.std.proofs.Common.{List, [], ◌++◌, append_assoc}
use Rattle.std.proofs.lemmas.List.{append-nil}
use Rattle.coap_server_engine.specs.Prelude.{AcceptedCall, Following, FollowsMore}

pub followed_none : (a : Following) → FollowsMore a a []
unfolding FollowsMore
followed_none a start calls so_far = rw append-nil so_far

pub followed_then : (a b c : Following) (xs ys : List AcceptedCall) → FollowsMore a b xs → FollowsMore b c ys
    → FollowsMore a c (xs ++ ys)
unfolding FollowsMore
followed_then a b c xs ys p q start calls so_far =
    rw (← append_assoc calls xs ys) (q start (calls ++ xs) (p start calls so_far))
