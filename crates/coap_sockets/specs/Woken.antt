-- Defined by this project: the places that a listener names as woken.
use Rattle.std.specs.Prelude.{ℕ, List, Option, Some, None, nat_le, length, take, if◌then◌else◌}
use Rattle.coap_sockets.specs.declared.woken.Woken.{Woken}

-- The places, if all are recorded.
abbrev pub named : Woken → Option (List ℕ)
named woken =
    if nat_le woken.count (length woken.places.items) then Some (take woken.count woken.places.items) else None
