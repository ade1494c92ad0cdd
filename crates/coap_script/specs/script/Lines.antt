-- Defined by this project: the lines that report the results of events. Each ends with a newline, and numbers are
-- decimal.
use Rattle.std.specs.Prelude.{ℕ, List, [], ◌∷◌, ◌++◌, Option, Some, None, codes, decimal}
use Rattle.hex.specs.Hex.{encode_lower}
use Rattle.coap_conn.specs.Reasons.{reason_number}
use Rattle.coap_conn.specs.declared.phase.Phase.{Phase}
use Rattle.coap_conn.specs.declared.phase.Phase.TheVariants.{Waiting, Open, Releasing, Stopped}

-- A connection was opened.
abbrev pub open_line : ℕ → List ℕ
open_line id = codes "open " ++ decimal id ++ codes "\n"

-- This number of bytes was accepted on a connection. If the connection stopped, the number of the reason follows.
abbrev pub in_line : ℕ → ℕ → Option ℕ → List ℕ
in_line id taken None = codes "in " ++ decimal id ++ codes " " ++ decimal taken ++ codes "\n"
in_line id taken (Some stop) =
    codes "in " ++ decimal id ++ codes " " ++ decimal taken ++ codes " stop " ++ decimal stop ++ codes "\n"

-- Bytes in lower-case hexadecimal; a hyphen for no bytes.
abbrev pub bytes_text : List ℕ → List ℕ
bytes_text [] = codes "-"
bytes_text (byte ∷ bytes) = encode_lower (byte ∷ bytes)

-- These bytes were written to a connection.
abbrev pub out_line : ℕ → List ℕ → List ℕ
out_line id bytes = codes "out " ++ decimal id ++ codes " " ++ bytes_text bytes ++ codes "\n"

-- The application was handed this request, which arrived on a connection. These are its encoded bytes.
abbrev pub request_line : ℕ → List ℕ → List ℕ
request_line id bytes = codes "request " ++ decimal id ++ codes " " ++ bytes_text bytes ++ codes "\n"

-- The time is now this number of seconds.
abbrev pub tick_line : ℕ → List ℕ
tick_line moment = codes "tick " ++ decimal moment ++ codes "\n"

-- A representation was stored with this version.
abbrev pub put_line : ℕ → List ℕ
put_line version = codes "put " ++ decimal version ++ codes "\n"

-- A resource was removed. Its path is repeated as it is in the script.
abbrev pub remove_line : List ℕ → List ℕ
remove_line text = codes "remove " ++ text ++ codes "\n"

-- A word and a connection, for `end`, `release` and `drop`.
abbrev pub word_line : List ℕ → ℕ → List ℕ
word_line word id = word ++ codes " " ++ decimal id ++ codes "\n"

-- The phase of a connection, with the number of the reason if it is releasing or stopped.
abbrev pub phase_text : Phase → List ℕ
phase_text Waiting = codes "waiting"
phase_text Open = codes "open"
phase_text (Releasing reason) = codes "releasing " ++ decimal (reason_number reason)
phase_text (Stopped reason) = codes "stopped " ++ decimal (reason_number reason)

-- The status of a connection: its phase, the bytes kept of an unfinished message, the bytes queued for writing, the
-- pending entries, and the observers.
abbrev pub status_line : ℕ → Phase → ℕ → ℕ → ℕ → ℕ → List ℕ
status_line id phase kept waiting pending observers =
    codes "status " ++ decimal id ++ codes " " ++ phase_text phase ++ codes " kept " ++ decimal kept
    ++ codes " waiting " ++ decimal waiting
    ++ codes " pending " ++ decimal pending ++ codes " observers " ++ decimal observers ++ codes "\n"

-- An event failed, with the number of the error, and with the connection if the event names one.
abbrev pub fault_line : List ℕ → Option ℕ → ℕ → List ℕ
fault_line word None number = word ++ codes " fault " ++ decimal number ++ codes "\n"
fault_line word (Some id) number = word ++ codes " " ++ decimal id ++ codes " fault " ++ decimal number ++ codes "\n"
