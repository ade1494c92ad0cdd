-- Defined by this project: the reasons for which a connection does not announce a new Max-Message-Size (RFC 8323
-- section 5.3.1).
use Rattle.std.specs.Prelude.{◌≡◌, ◌<◌, ℕ, Option, Some, None, Result, Ok, Err, nat_lt, if◌then◌else◌}
use Rattle.coap_conn.specs.Phases.{is_open}
use Rattle.coap_conn.specs.Fit.{fits}
use Rattle.coap_conn.specs.LinkValue.{limit_in, own_csm}
use Rattle.coap_server_session.specs.values.Sessions.{SessionValue, session_ready}
use Rattle.coap_model.specs.declared.answers.AnnounceFault.{AnnounceFault}
use Rattle.coap_model.specs.declared.answers.AnnounceFault.TheVariants as announcing
use Rattle.coap_wire.specs.declared.sizes.TheConstants.{LARGEST_MESSAGE}

-- The refusal if the CSM with this size exceeds the largest message that may be sent.
abbrev pub unfit_refusal : SessionValue → ℕ → Option AnnounceFault
unfit_refusal s size = if fits (limit_in s.link) (own_csm size) then None else Some announcing.PeerTooSmall

-- The refusal if the queue has no room for a message of `max_sent` bytes, or a later one.
abbrev pub roomless_refusal : SessionValue → ℕ → Option AnnounceFault
roomless_refusal s size = if session_ready s then unfit_refusal s size else Some announcing.NoRoom

-- The refusal if the size is below the current one or above the maximum, or a later one.
abbrev pub size_refusal : SessionValue → ℕ → Option AnnounceFault
size_refusal s size =
    if nat_lt size s.link.own_max then Some announcing.Lower
    else (if nat_lt LARGEST_MESSAGE size then Some announcing.TooLarge else roomless_refusal s size)

-- The first refusal of a size on a connection, apart from memory. The checks are, in this order: phase, lower bound,
-- upper bound, room in the queue, fit of the CSM.
abbrev pub session_refusal : SessionValue → ℕ → Option AnnounceFault
session_refusal s size = if is_open s.link.phase then size_refusal s size else Some announcing.NotOpen

-- The refusal of a size on a connection, or `NoSuch` if there is no connection.
abbrev pub announced_refusal_on : ℕ → Option SessionValue → Option AnnounceFault
announced_refusal_on size None = Some announcing.NoSuch
announced_refusal_on size (Some s) = session_refusal s size

-- Holds if an announcement of this size needs more memory.
abbrev pub WantsRoom : ℕ → Option SessionValue → Type 0
WantsRoom size None = ⊥
WantsRoom size (Some s) = s.link.own_max < size

-- States the results that an announcement may have: success if there is no refusal, otherwise the refusal. `Memory` is
-- possible if there is no refusal and the size is larger than the current one.
abbrev pub IsAnnounced : {T : Type 0} → ℕ → Option SessionValue → Result T AnnounceFault → Type 0
IsAnnounced size there (Ok done) = announced_refusal_on size there ≡ None
IsAnnounced size there (Err announcing.Memory) = (announced_refusal_on size there ≡ None) × WantsRoom size there
IsAnnounced size there (Err fault) = announced_refusal_on size there ≡ Some fault
