-- Defined by this project: the numbers of system calls of a listener that failed.
use Rattle.std.specs.Prelude.{ℕ, ◌+◌, ◌-◌, ◌^◌, ◌==◌, ◌||◌, min, ℤ, pos, negsuc, Bool, false, Option, if◌then◌else◌}
use Rattle.std.specs.declared.io.ErrorKind.{ErrorKind}
use Rattle.std.specs.declared.io.ErrorKind.TheVariants as kind
use Rattle.coap_sockets.specs.IoResults.{number_of}
use Rattle.coap_sockets.specs.declared.troubles.DoorTroubles.{DoorTroubles}

abbrev pub none : DoorTroubles
none = record { full = 0; other = 0; waits = 0 }

-- One more, up to the maximum of a number with 64 bits.
abbrev pub one_more : ℕ → ℕ
one_more count = min (count + 1) (2 ^ 64 - 1)

abbrev pub after_other : DoorTroubles → DoorTroubles
after_other d = record d { other = one_more d.other }

abbrev pub after_wait : DoorTroubles → DoorTroubles
after_wait d = record d { waits = one_more d.waits }

-- The numbers of errors of Linux for a lack of memory (12, 105) or descriptors (23, 24).
abbrev pub lacks_resources : ℤ → Bool
lacks_resources (pos number) = (number == 12) || (number == 23) || (number == 24) || (number == 105)
lacks_resources (negsuc number) = false

-- The numbers after an accept that failed with an error of this number.
abbrev pub after_failure : DoorTroubles → ℤ → DoorTroubles
after_failure d number = if lacks_resources number then record d { full = one_more d.full } else after_other d

-- The numbers after an accept with an error. An accept that found no client, or that a signal interrupted, has not
-- failed.
unfoldable pub after_accept : DoorTroubles → ErrorKind → Option ℤ → DoorTroubles
after_accept d kind.WouldBlock number = d
after_accept d kind.Interrupted number = d
after_accept d _ number = after_failure d (number_of number)
