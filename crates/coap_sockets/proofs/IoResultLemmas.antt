-- The results for each kind of error, and that a call transfers at most as many bytes as its buffer has.
use Rattle.std.proofs.Common.{◌≡◌, ◌≢◌, ℕ, ℤ, zero, suc, false, List, length, refl, arith}
use Rattle.std.specs.Prelude.{Option, Result, Ok, Err}
use Rattle.std.specs.Io.{ReadsAtMost, WritesAtMost}
use Rattle.std.specs.declared.io.Error.{Error}
use Rattle.std.specs.declared.io.ErrorKind.{ErrorKind}
use Rattle.std.specs.declared.io.ErrorKind.TheVariants.{WouldBlock, Interrupted, ConnectionAborted}
use Rattle.std.specs.declared.io.ErrorKind.TheVariants as kind
use Rattle.std.specs.IoError.{error_kind}
use Rattle.coap_io.specs.declared.wire.Got.TheVariants.{Failed}
use Rattle.coap_io.specs.streams.Wires.{IsWithin}
use Rattle.coap_sockets.specs.declared.io_results.ConnectError.TheVariants.{System}
use Rattle.coap_sockets.specs.declared.io_results.ListenError.TheVariants as listening
use Rattle.coap_sockets.specs.declared.io_results.AcceptError.TheVariants.{Full}
use Rattle.coap_sockets.specs.declared.troubles.DoorTroubles.{DoorTroubles}
use Rattle.coap_sockets.specs.Troubles.{after_accept, after_failure}
use Rattle.coap_sockets.specs.IoResults.{is_would_block, fault_got, accept_fault, connect_error_of, read_got, write_got}
use Rattle.coap_sockets.specs.IoResults.{listen_error_of, number_of}

pub another_is_no_would_block : (k : ErrorKind) → k ≢ WouldBlock → false ≡ is_would_block k
unfolding is_would_block
another_is_no_would_block WouldBlock not = absurd (not refl)
another_is_no_would_block _ not = refl

pub another_is_a_failure : (k : ErrorKind) → k ≢ WouldBlock → k ≢ Interrupted → Failed ≡ fault_got k
unfolding fault_got
another_is_a_failure WouldBlock not_1 not_2 = absurd (not_1 refl)
another_is_a_failure Interrupted not_1 not_2 = absurd (not_2 refl)
another_is_a_failure _ not_1 not_2 = refl

pub another_is_full : (k : ErrorKind) → k ≢ WouldBlock → k ≢ Interrupted → k ≢ ConnectionAborted → Full ≡ accept_fault k
unfolding accept_fault
another_is_full WouldBlock not_1 not_2 not_3 = absurd (not_1 refl)
another_is_full Interrupted not_1 not_2 not_3 = absurd (not_2 refl)
another_is_full ConnectionAborted not_1 not_2 not_3 = absurd (not_3 refl)
another_is_full _ not_1 not_2 not_3 = refl

pub another_is_of_the_system : (k : ErrorKind)
    → k ≢ kind.ConnectionRefused → k ≢ kind.HostUnreachable → k ≢ kind.NetworkUnreachable
    → k ≢ kind.NetworkDown → k ≢ kind.AddrNotAvailable → k ≢ kind.TimedOut → System ≡ connect_error_of k
unfolding connect_error_of
another_is_of_the_system kind.ConnectionRefused not_1 not_2 not_3 not_4 not_5 not_6 = absurd (not_1 refl)
another_is_of_the_system kind.HostUnreachable not_1 not_2 not_3 not_4 not_5 not_6 = absurd (not_2 refl)
another_is_of_the_system kind.NetworkUnreachable not_1 not_2 not_3 not_4 not_5 not_6 = absurd (not_3 refl)
another_is_of_the_system kind.NetworkDown not_1 not_2 not_3 not_4 not_5 not_6 = absurd (not_4 refl)
another_is_of_the_system kind.AddrNotAvailable not_1 not_2 not_3 not_4 not_5 not_6 = absurd (not_5 refl)
another_is_of_the_system kind.TimedOut not_1 not_2 not_3 not_4 not_5 not_6 = absurd (not_6 refl)
another_is_of_the_system _ not_1 not_2 not_3 not_4 not_5 not_6 = refl

pub another_is_another_listen_error : (k : ErrorKind) (number : Option ℤ)
    → k ≢ kind.AddrInUse → k ≢ kind.PermissionDenied → k ≢ kind.AddrNotAvailable
    → listening.System (number_of number) ≡ listen_error_of k number
unfolding listen_error_of
another_is_another_listen_error kind.AddrInUse number not_1 not_2 not_3 = absurd (not_1 refl)
another_is_another_listen_error kind.PermissionDenied number not_1 not_2 not_3 = absurd (not_2 refl)
another_is_another_listen_error kind.AddrNotAvailable number not_1 not_2 not_3 = absurd (not_3 refl)
another_is_another_listen_error _ number not_1 not_2 not_3 = refl

pub another_has_failed : (d : DoorTroubles) (k : ErrorKind) (number : Option ℤ)
    → k ≢ WouldBlock → k ≢ Interrupted → after_failure d (number_of number) ≡ after_accept d k number
unfolding after_accept
another_has_failed d WouldBlock number not_1 not_2 = absurd (not_1 refl)
another_has_failed d Interrupted number not_1 not_2 = absurd (not_2 refl)
another_has_failed d _ number not_1 not_2 = refl

fault_is_within : (room : ℕ) (k : ErrorKind) → IsWithin room (fault_got k)
unfolding fault_got
fault_is_within room WouldBlock = tt
fault_is_within room Interrupted = tt
fault_is_within room _ = tt

pub read_is_within : (buffer : List ℕ) (answer : Result ℕ Error) → ReadsAtMost answer buffer
    → IsWithin (length buffer) (read_got answer)
read_is_within buffer (Ok zero) most = tt
read_is_within buffer (Ok (suc n)) most = (omega arith, most.0)
read_is_within buffer (Err e) most = fault_is_within (length buffer) (error_kind e)

pub write_is_within : (bytes : List ℕ) (answer : Result ℕ Error) → WritesAtMost answer bytes
    → IsWithin (length bytes) (write_got answer)
write_is_within bytes (Ok zero) most = tt
write_is_within bytes (Ok (suc n)) most = (omega arith, most)
write_is_within bytes (Err e) most = fault_is_within (length bytes) (error_kind e)
