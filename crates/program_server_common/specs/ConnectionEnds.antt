-- Defined by this project: the reason for the end of a connection in the log of a server, in words.
use Rattle.std.specs.Prelude.{ℕ, Bool, ◌==◌, List, Option, Some, None, codes, if◌then◌else◌}
use Rattle.coap_conn.specs.declared.reason.Reason.{Reason}
use Rattle.program_server_common.specs.Reasons.{reason_text}

-- The reason, by that of the protocol if there is one. A connection without it has failed, or was silent and could not
-- be released: it has sent no message, or another cause.
abbrev pub end_text : Option Reason → (has_failed : Bool) → (messages : ℕ) → List ℕ
end_text (Some reason) has_failed messages = reason_text reason
end_text None has_failed messages =
    if has_failed then codes "failed connection"
    else (if messages == 0 then codes "no CSM in time" else codes "silent connection that could not be released")
