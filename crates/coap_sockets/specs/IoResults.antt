-- Defined by this project: the meaning of the results of calls on a socket that does not block.
use Rattle.std.specs.Prelude.{ℕ, zero, suc, ℤ, pos, Bool, true, false, Option, Some, None, Result, Ok, Err}
use Rattle.std.specs.IoError.{error_kind}
use Rattle.std.specs.declared.io.Error.{Error}
use Rattle.std.specs.declared.io.ErrorKind.{ErrorKind}
use Rattle.std.specs.declared.io.ErrorKind.TheVariants.{WouldBlock, Interrupted, ConnectionAborted}
use Rattle.std.specs.declared.io.ErrorKind.TheVariants as kind
use Rattle.coap_io.specs.declared.wire.Got.{Got}
use Rattle.coap_io.specs.declared.wire.Got.TheVariants.{Bytes, Later, End, Failed}
use Rattle.coap_sockets.specs.declared.io_results.AcceptError.{AcceptError}
use Rattle.coap_sockets.specs.declared.io_results.AcceptError.TheVariants.{NoneThere, Once, Full}
use Rattle.coap_sockets.specs.declared.io_results.ConnectError.{ConnectError}
use Rattle.coap_sockets.specs.declared.io_results.ConnectError.TheVariants as hindrance
use Rattle.coap_sockets.specs.declared.io_results.ListenError.{ListenError}
use Rattle.coap_sockets.specs.declared.io_results.ListenError.TheVariants as listening

-- The socket has no input or no room.
unfoldable pub is_would_block : ErrorKind → Bool
is_would_block WouldBlock = true
is_would_block _ = false

-- The result for a call that ended with an error. If the socket was not ready, or a signal interrupted the call, a
-- later call may succeed. Every other error is a failure.
unfoldable pub fault_got : ErrorKind → Got
fault_got WouldBlock = Later
fault_got Interrupted = Later
fault_got _ = Failed

-- The result of a read. A read of no byte has found the end of input.
abbrev pub read_got : Result ℕ Error → Got
read_got (Ok zero) = End
read_got (Ok (suc n)) = Bytes (suc n)
read_got (Err e) = fault_got (error_kind e)

-- The result of a write. A write of no byte has failed.
abbrev pub write_got : Result ℕ Error → Got
write_got (Ok zero) = Failed
write_got (Ok (suc n)) = Bytes (suc n)
write_got (Err e) = fault_got (error_kind e)

-- The reason for which an accept gave no connection. `NoneThere`: none is pending. `Once`: a connection failed or the
-- call was interrupted, and another may be pending. `Full`: the system lacks resources, or has another error that may
-- pass with time.
unfoldable pub accept_fault : ErrorKind → AcceptError
accept_fault WouldBlock = NoneThere
accept_fault Interrupted = Once
accept_fault ConnectionAborted = Once
accept_fault _ = Full

-- The cause of a failed attempt to connect, by the error of a call or of the socket.
unfoldable pub connect_error_of : ErrorKind → ConnectError
connect_error_of kind.ConnectionRefused = hindrance.Refused
connect_error_of kind.HostUnreachable = hindrance.Unreachable
connect_error_of kind.NetworkUnreachable = hindrance.Unreachable
connect_error_of kind.NetworkDown = hindrance.Unreachable
connect_error_of kind.AddrNotAvailable = hindrance.Unreachable
connect_error_of kind.TimedOut = hindrance.TimedOut
connect_error_of _ = hindrance.System

-- The number of an error of the system, or 0 for any other error.
abbrev pub number_of : Option ℤ → ℤ
number_of (Some number) = number
number_of None = pos 0

-- The cause of a failed attempt to listen, by the kind and the number of the error of a call.
unfoldable pub listen_error_of : ErrorKind → Option ℤ → ListenError
listen_error_of kind.AddrInUse number = listening.InUse
listen_error_of kind.PermissionDenied number = listening.Denied
listen_error_of kind.AddrNotAvailable number = listening.NotAvailable
listen_error_of _ number = listening.System (number_of number)
