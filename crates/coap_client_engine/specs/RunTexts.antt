-- Defined by this project: the texts that a run of the client writes. Lines end with a newline, and numbers are
-- decimal.
use Rattle.std.specs.Prelude.{ℕ, ◌+◌, ◌/◌, ◌%◌, List, [], ◌∷◌, ◌++◌, codes, decimal, if◌then◌else◌}
use Rattle.coap_wire.specs.Codes.{class_of, detail_of}
use Rattle.coap_conn.specs.Reasons.{reason_number}
use Rattle.coap_conn.specs.declared.reason.Reason.{Reason}
use Rattle.coap_conn.specs.declared.phase.RequestFault.{RequestFault}
use Rattle.coap_conn.specs.declared.phase.RequestFault.TheVariants.{NotOpen, TooMany, TooBig, NoRoom, TokensSpent}
use Rattle.coap_conn.specs.declared.phase.RequestFault.TheVariants.{NoSuchToken}
use Rattle.coap_client_request.specs.declared.plan.ClientPlan.{ClientPlan}

-- A text, followed by a number and a newline.
abbrev pub number_line : List ℕ → ℕ → List ℕ
number_line words number = words ++ decimal number ++ codes "\n"

-- The line for a stopped connection.
abbrev pub stop_line : Reason → List ℕ
stop_line reason = number_line (codes "stopped ") (reason_number reason)

-- The number of the error of a request.
abbrev pub request_fault_number : RequestFault → ℕ
request_fault_number NotOpen = 1
request_fault_number TooMany = 2
request_fault_number TooBig = 3
request_fault_number NoRoom = 4
request_fault_number TokensSpent = 5
request_fault_number NoSuchToken = 6

-- The line for a failed request or a failed cancellation.
abbrev pub fault_line : RequestFault → List ℕ
fault_line fault = number_line (codes "request fault ") (request_fault_number fault)

-- The line for a response with a critical option that is not recognised (RFC 7252 section 5.4.1).
abbrev pub option_line : ℕ → List ℕ
option_line number = number_line (codes "bad option ") number

-- The character of a digit.
abbrev pub digit : ℕ → ℕ
digit n = 48 + n

-- The text of a code: its class, a dot, and its detail in two digits (RFC 7252 section 3).
abbrev pub code_text : ℕ → List ℕ
code_text code = digit (class_of code) ∷ 46 ∷ digit (detail_of code / 10) ∷ digit (detail_of code % 10) ∷ []

-- A space followed by the payload, or nothing if the payload is empty.
abbrev pub spaced_payload : List ℕ → List ℕ
spaced_payload [] = []
spaced_payload (byte ∷ bytes) = codes " " ++ byte ∷ bytes

-- The line for a response: its code, and its payload if it has one.
abbrev pub response_line : ℕ → List ℕ → List ℕ
response_line code payload = code_text code ++ spaced_payload payload ++ codes "\n"

-- The payload as it is, followed by a newline if the plan has one. An empty payload gives no text.
abbrev pub payload_text : List ℕ → ClientPlan → List ℕ
payload_text [] plan = []
payload_text (byte ∷ bytes) plan = (byte ∷ bytes) ++ (if plan.newline then codes "\n" else [])
