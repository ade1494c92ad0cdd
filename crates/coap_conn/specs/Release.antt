-- Defined by this project: the errors of `Link::release`.
use Rattle.std.specs.Prelude.{Option, Some, None, nat_lt, if◌then◌else◌}
use Rattle.coap_conn.specs.declared.phase.SendFault.{SendFault}
use Rattle.coap_conn.specs.declared.phase.SendFault.TheVariants.{NotOpen, NoRoom, PeerTooSmall}
use Rattle.coap_conn.specs.Phases.{is_open}
use Rattle.coap_conn.specs.LinkValue.{LinkValue, free_in, limit_in}

-- The error if the queue has no room for the 2 bytes of a Release, or the peer accepts no message of 2 bytes.
abbrev pub room_refusal : LinkValue → Option SendFault
room_refusal v =
    if nat_lt (free_in v) 2 then Some NoRoom else (if nat_lt (limit_in v) 2 then Some PeerTooSmall else None)

-- The error of `Link::release`, if it fails.
abbrev pub release_refusal : LinkValue → Option SendFault
release_refusal v = if is_open v.phase then room_refusal v else Some NotOpen
