-- Defined by this project: the reasons for which a connection stopped, in words.
use Rattle.std.specs.Prelude.{ℕ, List, codes}
use Rattle.coap_conn.specs.declared.reason.Reason.{Reason}
use Rattle.coap_conn.specs.declared.reason.Reason.TheVariants as reason

-- The text of a reason for which a connection stopped.
abbrev pub reason_text : Reason → List ℕ
reason_text reason.Format = codes "malformed message"
reason_text reason.TooLarge = codes "message above the maximum size"
reason_text reason.TokenLength = codes "token of more than 64 bytes"
reason_text reason.ReservedCode = codes "message with a reserved code"
reason_text reason.CsmExpected = codes "first message is no CSM"
reason_text (reason.BadCsm number) = codes "CSM with an option that is not supported"
reason_text reason.BadSignalOption = codes "signaling message with an option that is not supported"
reason_text reason.PeerAbort = codes "Abort by the peer"
reason_text reason.PeerRelease = codes "Release by the peer"
reason_text reason.PeerTooSmall = codes "response above the maximum size of the peer"
reason_text reason.Ended = codes "end of input"
reason_text reason.Cut = codes "end of input within a message"
reason_text reason.ReleasedHere = codes "Release by the server"
