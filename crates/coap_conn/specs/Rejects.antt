-- Defined by this project: kinds of malformed input, and the reasons for which a connection stops on them.
use Rattle.coap_wire.specs.Stream.{StreamFault, OfFrame}
use Rattle.coap_wire.specs.Stream as stream
use Rattle.coap_wire.specs.declared.fault.FrameFault.{FrameFault}
use Rattle.coap_wire.specs.declared.fault.FrameFault.TheVariants as frame
use Rattle.coap_conn.specs.declared.reason.Reason.{Reason}
use Rattle.coap_conn.specs.declared.reason.Reason.TheVariants.{Format, TooLarge, TokenLength}
use Rattle.coap_conn.specs.declared.phase.Reject.{Reject}
use Rattle.coap_conn.specs.declared.phase.Reject.TheVariants as reject

-- The kind of malformed input, for an error in the first bytes of a frame.
abbrev pub reject_of_frame : FrameFault → Reject
reject_of_frame frame.TokenLength = reject.TokenLength
reject_of_frame frame.TooLarge = reject.TooLarge

-- The kind of malformed input, for the error at which a stream ends.
abbrev pub reject_of : StreamFault → Reject
reject_of (OfFrame fault) = reject_of_frame fault
reject_of stream.Format = reject.Format

-- The reason for which a connection stops on malformed input.
abbrev pub reject_reason : Reject → Reason
reject_reason reject.Format = Format
reject_reason reject.TooLarge = TooLarge
reject_reason reject.TokenLength = TokenLength
