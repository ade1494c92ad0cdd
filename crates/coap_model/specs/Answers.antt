-- Defined by this project: numbers of `TakeFault`, and the `ReleaseFault` and `ResponseFault` that each error of a link
-- becomes.
use Rattle.std.specs.Prelude.{ℕ}
use Rattle.coap_conn.specs.declared.phase.SendFault.{SendFault}
use Rattle.coap_conn.specs.declared.phase.SendFault.TheVariants as send
use Rattle.coap_conn.specs.declared.phase.RespondFault.{RespondFault}
use Rattle.coap_conn.specs.declared.phase.RespondFault.TheVariants as respond
use Rattle.coap_model.specs.declared.answers.ResponseFault.{ResponseFault}
use Rattle.coap_model.specs.declared.answers.ResponseFault.TheVariants as responding
use Rattle.coap_model.specs.declared.answers.TakeFault.{TakeFault}
use Rattle.coap_model.specs.declared.answers.TakeFault.TheVariants as taken
use Rattle.coap_model.specs.declared.answers.ReleaseFault.{ReleaseFault}
use Rattle.coap_model.specs.declared.answers.ReleaseFault.TheVariants as releasing

-- The error of `release` for an error of the link.
abbrev pub release_fault : SendFault → ReleaseFault
release_fault send.NotOpen = releasing.NotOpen
release_fault send.NoRoom = releasing.NoRoom
release_fault send.PeerTooSmall = releasing.PeerTooSmall

-- The number of an error of `take`.
abbrev pub take_number : TakeFault → ℕ
take_number taken.NoSuch = 1
take_number (taken.Memory bytes) = 2

-- The error of `respond` for an error of the link.
abbrev pub response_fault : RespondFault → ResponseFault
response_fault respond.NoSuchRequest = responding.NoSuchRequest
response_fault respond.NotAResponse = responding.NotAResponse
response_fault respond.NoRoom = responding.NoRoom
