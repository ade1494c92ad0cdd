-- RFC 7252 sections 5.8 and 5.9.1: the relation of requests and responses to the state of a path.
use Rattle.std.specs.Prelude.{◌≡◌, ◌≢◌, ◌⊎◌, ℕ, List, [], Option, Some}
use Rattle.coap_wire.specs.Message.{Message}
use Rattle.coap_wire.specs.Codes as code
use Rattle.coap_wire.specs.OptionNumbers as numbers
use Rattle.coap_path.specs.Paths.{Path}
use Rattle.coap_store.specs.Store.{Representation}
use Rattle.coap_store.specs.Requests.{etag_of, number_of}
use Rattle.coap_store.specs.Answer.{Response, only, Change, Nothing, Put, Delete, etag_at}
use Rattle.coap_store.specs.Messages.{each_at}
use Rattle.coap_path.specs.declared.resource_kind.ResourceKind.{ResourceKind}

-- The GET with no option but Uri-Path.
abbrev pub plain_get : List ℕ → Path → Message
plain_get token path = record { code = code.get; token = token; options = each_at numbers.uri_path path; payload = [] }

-- The code is 2.01 or 2.04.
abbrev pub IsStoredCode : ℕ → Type 0
IsStoredCode c = (c ≡ code.created) ⊎ (c ≡ code.changed)

-- The response has the bytes and the Content-Format of the state, and the ETag of a created resource.
pub record ReportsState (place : ResourceKind) (state : Option Representation) (r : Response) : Type 0 where
  pub representation : Representation
  pub there : state ≡ Some representation
  pub bytes : r.payload ≡ representation.bytes
  pub format : r.format ≡ representation.format
  pub etag : r.etag ≡ etag_at place representation

-- The response has the ETag of the state.
pub record ReportsEtag (state : Option Representation) (r : Response) : Type 0 where
  pub representation : Representation
  pub there : state ≡ Some representation
  pub etag : r.etag ≡ Some (etag_of representation)

-- The change is not at this path.
abbrev pub IsElsewhere : Path → Change → Type 0
IsElsewhere other Nothing = Unit {0}
IsElsewhere other (Put path format bytes) = other ≢ path
IsElsewhere other (Delete path) = other ≢ path

-- The 2.05 response with the ETag, the Content-Format and the bytes of a stored representation.
abbrev pub content_of : Representation → Response
content_of r = record (only code.content) { etag = Some (etag_of r); format = r.format; payload = r.bytes }

-- The representation that a PUT or POST stores.
abbrev pub put_by : Message → ℕ → Representation
put_by m version = record { version = version; format = number_of numbers.content_format m; bytes = m.payload }
