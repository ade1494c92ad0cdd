-- Defined by this project: the numbers of the errors of a listener.
use Rattle.std.specs.Prelude.{ℕ}
use Rattle.coap_sockets.specs.declared.door.ListenFault.{ListenFault}
use Rattle.coap_sockets.specs.declared.door.ListenFault.TheVariants as fault

abbrev pub listen_fault_number : ListenFault → ℕ
listen_fault_number (fault.Socket cause) = 1
listen_fault_number fault.Memory = 2
