-- RFC 8323 section 5.6: the Abort that a connection sends when it stops. Defined by this project: the numbers of the
-- reasons.
use Rattle.std.specs.Prelude.{ℕ, List, [], ◌∷◌, Option, Some, None, codes, option_map, unwrap_or}
use Rattle.coap_wire.specs.Message.{CoapOption, Message}
use Rattle.coap_wire.specs.Uint.{bytes_of_uint}
use Rattle.coap_wire.specs.Codes as code
use Rattle.coap_conn.specs.SignalOptions as option
use Rattle.coap_conn.specs.declared.reason.Reason.{Reason}
use Rattle.coap_conn.specs.declared.reason.Reason.TheVariants.{Format, TooLarge, TokenLength, ReservedCode, CsmExpected}
use Rattle.coap_conn.specs.declared.reason.Reason.TheVariants.{BadCsm, BadSignalOption, PeerAbort, PeerRelease}
use Rattle.coap_conn.specs.declared.reason.Reason.TheVariants.{PeerTooSmall, Ended, Cut, ReleasedHere}

-- The number of a reason.
abbrev pub reason_number : Reason → ℕ
reason_number Format = 1
reason_number TooLarge = 2
reason_number TokenLength = 3
reason_number ReservedCode = 4
reason_number CsmExpected = 5
reason_number (BadCsm number) = 6
reason_number BadSignalOption = 7
reason_number PeerAbort = 8
reason_number PeerRelease = 9
reason_number PeerTooSmall = 10
reason_number Ended = 11
reason_number Cut = 12
reason_number ReleasedHere = 13

-- The text of the Abort for a reason, if one is sent.
abbrev pub abort_text : Reason → Option (List ℕ)
abort_text Format = Some (codes "bad message")
abort_text TooLarge = Some (codes "message too large")
abort_text TokenLength = Some (codes "bad token length")
abort_text ReservedCode = Some (codes "reserved code")
abort_text CsmExpected = Some (codes "CSM expected")
abort_text (BadCsm number) = Some (codes "bad CSM option")
abort_text BadSignalOption = Some (codes "bad signal option")
abort_text PeerAbort = None
abort_text PeerRelease = None
abort_text PeerTooSmall = None
abort_text Ended = None
abort_text Cut = None
abort_text ReleasedHere = None

-- The option number that the Abort for a reason reports.
abbrev pub abort_number : Reason → Option ℕ
abort_number Format = None
abort_number TooLarge = None
abort_number TokenLength = None
abort_number ReservedCode = None
abort_number CsmExpected = None
abort_number (BadCsm number) = Some number
abort_number BadSignalOption = None
abort_number PeerAbort = None
abort_number PeerRelease = None
abort_number PeerTooSmall = None
abort_number Ended = None
abort_number Cut = None
abort_number ReleasedHere = None

-- The option Bad-CSM-Option with this value, if there is a number (RFC 8323 section 5.6).
abbrev pub abort_option : Option ℕ → List ℕ → List CoapOption
abort_option None value = []
abort_option (Some number) value = record { number = option.bad_csm_option; value = value } ∷ []

-- The options of an Abort that reports this number, if there is one.
abbrev pub abort_options : Option ℕ → List CoapOption
abort_options number = abort_option number (bytes_of_uint (unwrap_or number 0))

-- The Abort with these options and this text.
abbrev pub abort_with : List CoapOption → List ℕ → Message
abort_with options text = record { code = code.abort; token = []; options = options; payload = text }

-- The Abort for a reason, if one is sent.
abbrev pub abort_of : Reason → Option Message
abort_of why = option_map (abort_with (abort_options (abort_number why))) (abort_text why)

-- The number of messages that a stop for a reason handles: 0 if the bytes are malformed, otherwise 1.
abbrev pub message_reason : Reason → ℕ
message_reason Format = 0
message_reason TooLarge = 0
message_reason TokenLength = 0
message_reason ReservedCode = 1
message_reason CsmExpected = 1
message_reason (BadCsm number) = 1
message_reason BadSignalOption = 1
message_reason PeerAbort = 1
message_reason PeerRelease = 1
message_reason PeerTooSmall = 1
message_reason Ended = 1
message_reason Cut = 1
message_reason ReleasedHere = 1
