-- RFC 7641 section 4.2: the notification of an observer.
use Rattle.std.specs.Prelude.{ℕ, Option, Some, None, nat_eq, if◌then◌else◌}
use Rattle.std.specs.Option.{option_eq}
use Rattle.coap_wire.specs.Codes as code
use Rattle.coap_path.specs.Paths.{Path}
use Rattle.coap_store.specs.Store.{Representation, StoreValue}
use Rattle.coap_path.specs.ResourceKinds.{kind_of_path}
use Rattle.coap_store.specs.State.{state_of}
use Rattle.coap_store.specs.Answer.{Response, only, content}
use Rattle.coap_path.specs.declared.resource_kind.ResourceKind.{ResourceKind}

-- The notification: 4.04 if the path is absent, 4.06 if the representation has another Content-Format, otherwise 2.05.
-- No Content-Format differs from Content-Format 0.
unfoldable pub notification_at : ResourceKind → Option Representation → Option ℕ → Response
notification_at place None format = only code.not_found
notification_at place (Some r) format =
    if option_eq nat_eq r.format format then content place r else only code.not_acceptable

-- The notification of an observer of a path at the time `now`. Earlier notifications had this Content-Format, or none.
abbrev pub notification_of : StoreValue → ℕ → Path → Option ℕ → Response
notification_of s now path format = notification_at (kind_of_path path) (state_of s now path) format
