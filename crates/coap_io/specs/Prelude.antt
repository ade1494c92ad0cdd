-- Re-exports the names that the contracts and proofs of this crate use. Declares nothing.

-- ---- std
pub use Rattle.std.specs.Io.KnownBytes.{Consumes, IsAtEnd}
pub use Rattle.std.specs.List.{concat}
-- ---- coap_io
pub use Rattle.coap_io.specs.streams.Device.{DeviceTrace, HasGiven, pieces_read, AddsBytes, is_failed_write, WritesPart}
pub use Rattle.coap_io.specs.streams.Device.{EndsAt, FoundEnd}
pub use Rattle.coap_io.specs.streams.DeviceTraces.{AddsCalls, Closed, DoorCall, Requested, Waited}
pub use Rattle.coap_io.specs.streams.Wires.{IsWithin, bytes_passed, count_passed, MatchesTrace, wait_at_most}
pub use Rattle.coap_io.specs.declared.read_buffer.TheConstants.{READ_SIZE}
-- ---- coap_io, declared
pub use Rattle.coap_io.specs.declared.wire.Got.{Got}
