-- Defined by this project: the words for the cause of the end of a run.
use Rattle.std.specs.Prelude.{ℕ, Bool, ◌==◌, ◌||◌, nat_lt, List, [], ◌++◌, Option, Some, None, codes, decimal}
use Rattle.std.specs.Prelude.{if◌then◌else◌}
use Rattle.coap_wire.specs.declared.sizes.TheConstants.{LARGEST_SENT_MESSAGE}
use Rattle.coap_print.specs.Names.{option_name}
use Rattle.coap_conn.specs.declared.phase.RequestFault.{RequestFault}
use Rattle.coap_conn.specs.declared.phase.RequestFault.TheVariants.{NotOpen, TooMany, TooBig, NoRoom, TokensSpent}
use Rattle.coap_conn.specs.declared.phase.RequestFault.TheVariants.{NoSuchToken}
use Rattle.coap_conn.specs.declared.reason.Reason.{Reason}
use Rattle.coap_conn.specs.declared.reason.Reason.TheVariants as reason
use Rattle.coap_client_engine.specs.declared.run_end.Cause.{Cause}
use Rattle.coap_client_engine.specs.declared.run_end.Cause.TheVariants.{BadOption, Request, Cancellation, Stopped}
use Rattle.coap_client_engine.specs.declared.run_end.Cause.TheVariants.{TimedOut}
use Rattle.coap_client_engine.specs.declared.run_end.Refusal.{Refusal}
use Rattle.coap_client_engine.specs.declared.run_end.Awaited.{Awaited}
use Rattle.coap_client_engine.specs.declared.run_end.Awaited.TheVariants.{Csm, Response, LastResponse}

-- ---- options

-- True for the options of block-wise transfer: Q-Block1, Block2, Block1 and Q-Block2 (RFC 7959, RFC 9177).
abbrev pub is_block_option : ℕ → Bool
is_block_option number = number == 19 || number == 23 || number == 27 || number == 31

-- The words for what a response does with a critical option.
abbrev pub fault_of_option : ℕ → List ℕ
fault_of_option number =
    if is_block_option number then codes "uses block-wise transfer" else codes "has a critical option"

-- A comma and the name of an option, or nothing if it has no name.
abbrev pub name_text : Option (List ℕ) → List ℕ
name_text None = []
name_text (Some name) = codes ", " ++ name

-- A response with a critical option that is not recognised.
abbrev pub option_text : ℕ → List ℕ
option_text number =
    codes "the response " ++ fault_of_option number ++ codes " (option " ++ decimal number
    ++ name_text (option_name number) ++ codes "), which is not supported"

-- ---- messages that cannot be sent

-- The words for an error.
abbrev pub fault_words : RequestFault → List ℕ
fault_words NotOpen = codes "the connection is not open"
fault_words TooMany = codes "too many requests are outstanding"
fault_words TooBig = codes "the message is too large"
fault_words NoRoom = codes "the queue has no room"
fault_words TokensSpent = codes "all tokens have been used"
fault_words NoSuchToken = codes "there is no such observation"

-- The limit that a message exceeds: that of the peer, or that of the client if it is not larger.
abbrev pub limit_text : ℕ → List ℕ
limit_text peer_max =
    if nat_lt peer_max LARGEST_SENT_MESSAGE then codes " bytes; the peer accepts " ++ decimal peer_max
    else codes " bytes; the client sends at most " ++ decimal LARGEST_SENT_MESSAGE

-- The size of a message that is too large, and the limit. A message without a size has a part that is too long.
abbrev pub size_text : Option ℕ → ℕ → List ℕ
size_text None peer_max = codes " has an option of more than 1034 bytes or a payload of more than 1048576 bytes"
size_text (Some size) peer_max = codes " has " ++ decimal size ++ limit_text peer_max

-- The words that follow the name of a message that cannot be sent.
abbrev pub fault_text : RequestFault → Option ℕ → ℕ → List ℕ
fault_text NotOpen size peer_max = codes " cannot be sent: " ++ fault_words NotOpen
fault_text TooMany size peer_max = codes " cannot be sent: " ++ fault_words TooMany
fault_text TooBig size peer_max = size_text size peer_max
fault_text NoRoom size peer_max = codes " cannot be sent: " ++ fault_words NoRoom
fault_text TokensSpent size peer_max = codes " cannot be sent: " ++ fault_words TokensSpent
fault_text NoSuchToken size peer_max = codes " cannot be sent: " ++ fault_words NoSuchToken

abbrev pub refusal_text : Refusal → List ℕ
refusal_text refusal = fault_text refusal.fault refusal.size refusal.peer_max

-- ---- stops

-- The words for a reason.
abbrev pub stop_words : Reason → List ℕ
stop_words reason.Format = codes "the server sent a malformed message"
stop_words reason.TooLarge = codes "the server sent a message of more than 65536 bytes"
stop_words reason.TokenLength = codes "the server sent a token of more than 64 bytes"
stop_words reason.ReservedCode = codes "the server sent a code of a reserved class"
stop_words reason.CsmExpected = codes "the first message of the server is not a CSM"
stop_words (reason.BadCsm number) = codes "the CSM of the server has a bad option"
stop_words reason.BadSignalOption = codes "the server sent a signal with an unknown critical option"
stop_words reason.PeerAbort = codes "the server sent Abort"
stop_words reason.PeerRelease = codes "the server sent Release"
stop_words reason.PeerTooSmall = codes "a message exceeds the Max-Message-Size of the server"
stop_words reason.Ended = codes "the connection ended before the last response"
stop_words reason.Cut = codes "the connection ended within a message"
stop_words reason.ReleasedHere = codes "the client sent Release"

-- The option of a reason that has one.
abbrev pub stop_option : Reason → List ℕ
stop_option reason.Format = []
stop_option reason.TooLarge = []
stop_option reason.TokenLength = []
stop_option reason.ReservedCode = []
stop_option reason.CsmExpected = []
stop_option (reason.BadCsm number) = codes " (option " ++ decimal number ++ codes ")"
stop_option reason.BadSignalOption = []
stop_option reason.PeerAbort = []
stop_option reason.PeerRelease = []
stop_option reason.PeerTooSmall = []
stop_option reason.Ended = []
stop_option reason.Cut = []
stop_option reason.ReleasedHere = []

-- A stop of the connection.
abbrev pub stop_text : Reason → List ℕ
stop_text why = stop_words why ++ stop_option why

-- ---- waits

-- The words for what did not arrive.
abbrev pub awaited_words : Awaited → List ℕ
awaited_words Csm = codes "the server sent no CSM within "
awaited_words Response = codes "no response arrived within "
awaited_words LastResponse = codes "no response to the cancellation arrived within "

-- A wait of this number of seconds.
abbrev pub wait_text : Awaited → ℕ → List ℕ
wait_text awaited seconds =
    awaited_words awaited ++ decimal seconds ++ (if seconds == 1 then codes " second" else codes " seconds")

-- ---- the words for a cause

abbrev pub cause_text : Cause → List ℕ
cause_text (BadOption number) = option_text number
cause_text (Request refusal) = codes "the request" ++ refusal_text refusal
cause_text (Cancellation refusal) = codes "the message that cancels the observation" ++ refusal_text refusal
cause_text (Stopped why) = stop_text why
cause_text (TimedOut awaited seconds) = wait_text awaited seconds
