-- Defined by this project: the readiness of a socket, as far as it is known without a system call.
use Rattle.std.specs.Prelude.{◌≡◌, ℕ, ◌==◌, nat_lt, Bool, true, false, not, ◌||◌, ◌&&◌, List, length, Option, Result}
use Rattle.std.specs.Prelude.{Ok, Err}
use Rattle.std.specs.Io.{ReadsAtMost, WritesAtMost}
use Rattle.std.specs.Io.KnownBytes.{ReadConsumes, WriteAppends}
use Rattle.std.specs.IoError.{error_kind}
use Rattle.std.specs.declared.io.Error.{Error}
use Rattle.mio.specs.declared.event.event.Event.{Event}
use Rattle.mio.specs.Event.{is_readable, is_writable, is_error, is_read_closed, is_write_closed, is_priority}
use Rattle.coap_io.specs.declared.wire.Got.{Got}
use Rattle.coap_io.specs.declared.wire.Got.TheVariants.{Bytes, Later, End, Failed}
use Rattle.coap_sockets.specs.IoResults.{is_would_block, read_got, write_got}
use Rattle.coap_sockets.specs.declared.readiness.Readiness.{Readiness}

-- The readiness of a new socket: a read and a write must be tried.
abbrev pub unknown : Readiness
unknown = record { readable = true; writable = true; stops_short = false; yields = false; has_yielded = false }

-- The readiness after an event. The next read or write finds an error, or that the peer has closed. A read stops short
-- of these and of urgent data: it returns the bytes before and leaves those after. If a wait reports many sockets with
-- input, those after the first few are all read before any of them is written. No socket is deferred twice between two
-- writes.
abbrev pub after_event : Readiness → Event → (after_many : Bool) → Readiness
after_event r e after_many =
    let failed = is_error e || is_read_closed e in
    record {
      readable = r.readable || is_readable e || failed;
      writable = r.writable || is_writable e || is_write_closed e || is_error e;
      stops_short = r.stops_short || failed || is_priority e;
      yields = after_many && is_readable e && not r.has_yielded;
      has_yielded = r.has_yielded;
    }

-- `true` if another read is tried before the system reports the socket again, after a read into a buffer of `room`
-- bytes. There is no other read if the system had no input. There is none if it gave fewer bytes than `room`, because
-- it reports input that comes later. But if reads stop short, something that was already reported may follow those
-- bytes. A read of no byte has found the end, which another read finds again. After any other error a read is tried
-- again.
abbrev pub stays_readable : (stops_short : Bool) (room : ℕ) → Result ℕ Error → Bool
stays_readable stops_short room (Ok count) = (count == 0) || not (nat_lt count room) || stops_short
stays_readable stops_short room (Err e) = not (is_would_block (error_kind e))

abbrev pub after_read : Readiness → ℕ → Result ℕ Error → Readiness
after_read r room answer = record r { readable = stays_readable r.stops_short room answer }

-- `true` if another write may be accepted after a write of `offered` bytes. There is no other write if the system had
-- no room or accepted fewer bytes.
abbrev pub stays_writable : ℕ → Result ℕ Error → Bool
stays_writable offered (Ok count) = (count == 0) || not (nat_lt count offered)
stays_writable offered (Err e) = not (is_would_block (error_kind e))

abbrev pub after_write : Readiness → ℕ → Result ℕ Error → Readiness
after_write r offered answer =
    record r { writable = stays_writable offered answer; yields = false; has_yielded = false }

-- The readiness after a write was deferred.
abbrev pub deferred : Readiness → Readiness
deferred r = record r { yields = false; has_yielded = true }

-- Holds if a call acted as one read of a stream, into a buffer that has these bytes afterwards. One answer of the read
-- decides the number of bytes that the buffer begins with and the stream lost, the readiness, and the result. `left`
-- and `still_left` are the bytes left in the stream before and after the call, if it records them.
pub data ActsAsOneRead (left still_left : Option (List ℕ)) (buffer : List ℕ) (before after : Readiness) (result : Got)
    : Type 0 where
  Answered : (answer : Result ℕ Error) → ReadsAtMost answer buffer → ReadConsumes left still_left answer buffer
      → after ≡ after_read before (length buffer) answer → result ≡ read_got answer
      → ActsAsOneRead left still_left buffer before after result

-- Holds if a call acted as one write of these bytes to a stream. One answer of the write decides the number of bytes
-- that the stream accepted, which are the first ones, the readiness, and the result. `held` and `now_held` are the
-- bytes in the stream before and after the call, if it records them.
pub data ActsAsOneWrite (held now_held : Option (List ℕ)) (bytes : List ℕ) (before after : Readiness) (result : Got)
    : Type 0 where
  Answered : (answer : Result ℕ Error) → WritesAtMost answer bytes → WriteAppends held now_held answer bytes
      → after ≡ after_write before (length bytes) answer → result ≡ write_got answer
      → ActsAsOneWrite held now_held bytes before after result

-- A write of `offered` bytes with this result left some for lack of room.
abbrev pub is_blocked_by : ℕ → Got → Bool
is_blocked_by offered (Bytes n) = nat_lt n offered
is_blocked_by offered Later = true
is_blocked_by offered End = false
is_blocked_by offered Failed = false

-- The write found no room.
abbrev pub is_later : Got → Bool
is_later (Bytes n) = false
is_later Later = true
is_later End = false
is_later Failed = false
