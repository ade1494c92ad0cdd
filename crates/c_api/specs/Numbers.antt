-- Defined by this project: the numbers that calls from C return, and the numbers in their results. A number has one
-- meaning in all calls.
-- - 0: success. 1: the handle has no engine. 2: an allocation failed.
-- - 3: `new` on a handle that has an engine. 4: the text is not a path. 5: a value that is one of a few is none of
--   them.
-- - 6: no connection has the id, or no resource the path. 7: the buffer of the program is too small. 8: more bytes were
--   written than are queued. 9: the time is before that of the server. 10: there is no further item. 11: the output
--   queue has no room. 12: the connection is not open. 13: the message exceeds the size that the peer accepts.
-- - The other numbers are in blocks, each of one kind of call. 32: a value of a configuration. 48: `open`. 64: the
--   store. 80: the entries of an application. 96: responses. 112: frames. 128: options and the writing of messages.
--   144: URIs. 160: requests. 176: announcements.
use Rattle.std.specs.Prelude.{ℕ}
use Rattle.coap_client_engine.specs.declared.client.signals.ClientAnnounceFault.{ClientAnnounceFault}
use Rattle.coap_client_engine.specs.declared.client.signals.ClientAnnounceFault.TheVariants as client_announcing
use Rattle.coap_conn.specs.Reasons.{reason_number}
use Rattle.coap_conn.specs.declared.phase.Phase.{Phase}
use Rattle.coap_conn.specs.declared.phase.Phase.TheVariants as phase
use Rattle.coap_conn.specs.declared.limits.LimitFault.{LimitFault}
use Rattle.coap_conn.specs.declared.limits.LimitFault.TheVariants as limit
use Rattle.coap_model.specs.declared.answers.AnnounceFault.{AnnounceFault}
use Rattle.coap_model.specs.declared.answers.AnnounceFault.TheVariants as announcing
use Rattle.coap_model.specs.declared.answers.Handled.{Handled}
use Rattle.coap_model.specs.declared.answers.Handled.TheVariants as handled
use Rattle.coap_model.specs.declared.answers.OpenFault.{OpenFault}
use Rattle.coap_model.specs.declared.answers.OpenFault.TheVariants as opening
use Rattle.coap_model.specs.declared.answers.ReleaseFault.{ReleaseFault}
use Rattle.coap_model.specs.declared.answers.ReleaseFault.TheVariants as releasing
use Rattle.coap_model.specs.declared.answers.WrittenFault.{WrittenFault}
use Rattle.coap_model.specs.declared.answers.WrittenFault.TheVariants as writing
use Rattle.coap_model.specs.declared.config.ConfigFault.{ConfigFault}
use Rattle.coap_model.specs.declared.config.ConfigFault.TheVariants as config
use Rattle.coap_wire.specs.declared.fault.FormatFault.{FormatFault}
use Rattle.coap_wire.specs.declared.fault.FormatFault.TheVariants as format
use Rattle.coap_path.specs.declared.fault.ApplicationFault.{ApplicationFault}
use Rattle.coap_path.specs.declared.fault.ApplicationFault.TheVariants as application
use Rattle.coap_conn.specs.declared.phase.Reply.{Reply}
use Rattle.coap_conn.specs.declared.phase.Reply.TheVariants as reply
use Rattle.coap_model.specs.declared.answers.ResponseFault.{ResponseFault}
use Rattle.coap_model.specs.declared.answers.ResponseFault.TheVariants as responding
use Rattle.coap_conn.specs.declared.phase.RequestFault.{RequestFault}
use Rattle.coap_conn.specs.declared.phase.RequestFault.TheVariants as requesting
use Rattle.coap_conn.specs.declared.phase.SendFault.{SendFault}
use Rattle.coap_conn.specs.declared.phase.SendFault.TheVariants as sending
use Rattle.coap_client_request.specs.declared.target.TargetFault.{TargetFault}
use Rattle.coap_client_request.specs.declared.target.TargetFault.TheVariants as naming
use Rattle.coap_store.specs.declared.fault.StoreFault.{StoreFault}
use Rattle.coap_store.specs.declared.fault.StoreFault.TheVariants as storing

abbrev pub limit_code : LimitFault → ℕ
limit_code limit.MaxMessage = 32
limit_code limit.MaxSent = 33
limit_code limit.Queue = 34
limit_code limit.Pending = 35
limit_code limit.Observers = 36
limit_code limit.Outstanding = 37

-- `Turns` does not occur, because C names no turns.
abbrev pub config_code : ConfigFault → ℕ
config_code config.Connections = 38
config_code config.Dynamic = 39
config_code config.Representation = 40
config_code config.Turns = 5

abbrev pub open_code : OpenFault → ℕ
open_code opening.Full = 48
open_code opening.IdsSpent = 49
open_code opening.Memory = 2

abbrev pub written_code : WrittenFault → ℕ
written_code writing.NoSuch = 6
written_code writing.TooMany = 8

abbrev pub store_code : StoreFault → ℕ
store_code storing.NoSuch = 6
store_code storing.TooLarge = 64
store_code storing.Limit = 65
store_code storing.BadPath = 66
store_code storing.VersionsSpent = 67
store_code storing.Memory = 2

abbrev pub release_code : ReleaseFault → ℕ
release_code releasing.NoSuch = 6
release_code releasing.NotOpen = 12
release_code releasing.NoRoom = 11
release_code releasing.PeerTooSmall = 13

abbrev pub announce_code : AnnounceFault → ℕ
announce_code announcing.NoSuch = 6
announce_code announcing.NotOpen = 12
announce_code announcing.Lower = 176
announce_code announcing.TooLarge = 177
announce_code announcing.NoRoom = 11
announce_code announcing.Memory = 2
announce_code announcing.PeerTooSmall = 13

abbrev pub client_announce_code : ClientAnnounceFault → ℕ
client_announce_code client_announcing.NotOpen = 12
client_announce_code client_announcing.Lower = 176
client_announce_code client_announcing.TooLarge = 177
client_announce_code client_announcing.NoRoom = 11
client_announce_code client_announcing.PeerTooSmall = 13
client_announce_code client_announcing.Memory = 2

-- The number of the effect of a `take`: 0 for nothing, 1 for a message, 2 for a stop.
abbrev pub handled_code : Handled → ℕ
handled_code handled.Nothing = 0
handled_code handled.Message = 1
handled_code (handled.Stopped why) = 2

-- The number of the reason of a stop, or 0 if there is none.
abbrev pub handled_reason : Handled → ℕ
handled_reason handled.Nothing = 0
handled_reason handled.Message = 0
handled_reason (handled.Stopped why) = reason_number why

-- The number of a phase.
abbrev pub phase_code : Phase → ℕ
phase_code phase.Waiting = 0
phase_code phase.Open = 1
phase_code (phase.Releasing why) = 2
phase_code (phase.Stopped why) = 3

-- The number of the reason of a phase, or 0 if there is none.
abbrev pub phase_reason : Phase → ℕ
phase_reason phase.Waiting = 0
phase_reason phase.Open = 0
phase_reason (phase.Releasing why) = reason_number why
phase_reason (phase.Stopped why) = reason_number why

abbrev pub request_code : RequestFault → ℕ
request_code requesting.NotOpen = 12
request_code requesting.TooMany = 160
request_code requesting.TooBig = 161
request_code requesting.NoRoom = 11
request_code requesting.TokensSpent = 162
request_code requesting.NoSuchToken = 163

abbrev pub send_code : SendFault → ℕ
send_code sending.NotOpen = 12
send_code sending.NoRoom = 11
send_code sending.PeerTooSmall = 13

-- The number of an error of a frame.
abbrev pub format_code : FormatFault → ℕ
format_code format.TokenLength = 112
format_code format.OptionDelta = 113
format_code format.OptionLength = 114
format_code format.OptionCut = 115
format_code format.OptionNumber = 116
format_code format.EmptyPayload = 117
format_code format.NotOneFrame = 118

abbrev pub target_code : TargetFault → ℕ
target_code naming.Url = 144
target_code naming.Scheme = 145
target_code naming.NoHost = 146
target_code naming.UserInfo = 147
target_code naming.Fragment = 148
target_code naming.PartTooLong = 149
target_code naming.TooManyParts = 150
target_code naming.Memory = 2

abbrev pub response_code : ResponseFault → ℕ
response_code responding.NoSuch = 6
response_code responding.NoSuchRequest = 96
response_code responding.NotAResponse = 97
response_code responding.NoRoom = 11

-- The number of what was queued for a response: 0 for all of it, 1 for its code and token, 2 for a stop.
abbrev pub reply_code : Reply → ℕ
reply_code reply.Whole = 0
reply_code reply.Bare = 1
reply_code reply.Stopped = 2

abbrev pub entry_code : ApplicationFault → ℕ
entry_code application.Full = 80
entry_code application.Root = 81
entry_code application.Twice = 82
entry_code application.Method = 83
entry_code application.Attributes = 84
entry_code application.Memory = 2
entry_code application.BuiltIn = 86
