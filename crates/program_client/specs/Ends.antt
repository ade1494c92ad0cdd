-- Defined by this project: the end of a run in the log of a client.
use Rattle.std.specs.Prelude.{ℕ, Bool, true, false, nat_le, List, Option, Some, None, Result, Ok, Err, codes}
use Rattle.std.specs.Prelude.{if◌then◌else◌}
use Rattle.coap_conn.specs.declared.phase.RequestFault.{RequestFault}
use Rattle.coap_conn.specs.declared.phase.RequestFault.TheVariants.{NotOpen, TooMany, TooBig, NoRoom, TokensSpent}
use Rattle.coap_conn.specs.declared.phase.RequestFault.TheVariants.{NoSuchToken}
use Rattle.coap_conn.specs.declared.reason.Reason.{Reason}
use Rattle.coap_conn.specs.declared.reason.Reason.TheVariants as reason
use Rattle.coap_client_engine.specs.CauseTexts.{cause_text}
use Rattle.coap_client_engine.specs.declared.run_end.Cause.{Cause}
use Rattle.coap_client_engine.specs.declared.run_end.Cause.TheVariants.{BadOption, Request, Cancellation, Stopped}
use Rattle.coap_client_engine.specs.declared.run_end.Cause.TheVariants.{TimedOut}
use Rattle.coap_client_engine.specs.declared.run_end.RunEnd.{RunEnd}
use Rattle.coap_client_engine.specs.declared.run.state.ClientFault.{ClientFault}
use Rattle.coap_client_engine.specs.declared.run.state.ClientFault.TheVariants.{Output, Memory}

-- The reason for the end of a run with this status, by its cause. A run without a cause ended with the last response,
-- or it had all its iterations.
abbrev pub end_text : ℕ → Option Cause → List ℕ
end_text status None = if nat_le status 2 then codes "last response" else codes "too many turns"
end_text status (Some cause) = cause_text cause

-- The reason for the end of a run, in words.
abbrev pub reason_text : Result RunEnd ClientFault → List ℕ
reason_text (Ok end) = end_text end.status end.cause
reason_text (Err Output) = codes "cannot write"
reason_text (Err Memory) = codes "no memory"

-- ---- warnings

-- True for an error of a message that exceeds a limit.
abbrev pub is_limit_fault : RequestFault → Bool
is_limit_fault NotOpen = false
is_limit_fault TooMany = true
is_limit_fault TooBig = true
is_limit_fault NoRoom = true
is_limit_fault TokensSpent = true
is_limit_fault NoSuchToken = false

-- True for a stop because of a message that exceeds a limit.
abbrev pub is_limit_stop : Reason → Bool
is_limit_stop reason.Format = false
is_limit_stop reason.TooLarge = true
is_limit_stop reason.TokenLength = false
is_limit_stop reason.ReservedCode = false
is_limit_stop reason.CsmExpected = false
is_limit_stop (reason.BadCsm number) = false
is_limit_stop reason.BadSignalOption = false
is_limit_stop reason.PeerAbort = false
is_limit_stop reason.PeerRelease = false
is_limit_stop reason.PeerTooSmall = true
is_limit_stop reason.Ended = false
is_limit_stop reason.Cut = false
is_limit_stop reason.ReleasedHere = false

-- True for a cause that is a limit.
abbrev pub is_limit : Option Cause → Bool
is_limit None = false
is_limit (Some (BadOption number)) = false
is_limit (Some (Request refusal)) = is_limit_fault refusal.fault
is_limit (Some (Cancellation refusal)) = is_limit_fault refusal.fault
is_limit (Some (Stopped why)) = is_limit_stop why
is_limit (Some (TimedOut awaited seconds)) = false

-- True if the end of a run is a warning: a limit has refused a message, or a system call or an allocation has failed.
abbrev pub is_warning : Result RunEnd ClientFault → Bool
is_warning (Ok end) = is_limit end.cause
is_warning (Err fault) = true
