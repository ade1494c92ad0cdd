use Rattle.coap_wire.proofs.StreamSteps.{split_same_to, split_alike}
use Rattle.coap_wire.proofs.laws.sizes_matter_where_they_are_in_force.Goals as goal

pub returns-clause-later : goal.returns-clause-later
returns-clause-later c = split_same_to

pub returns-clause-before : goal.returns-clause-before
returns-clause-before c = λ F G kept more unfinished larger same. split_alike F G kept more
    (record { unfinished = unfinished; larger = larger; same = same })
