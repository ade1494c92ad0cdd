-- Defined by this project: the state of a path at a certain time, for built-in and created resources.
use Rattle.std.specs.Prelude.{ℕ, List, Option, Some, None, codes, if◌then◌else◌}
use Rattle.std.specs.Fmt.{decimal}
use Rattle.coap_path.specs.Paths.{Path, is_path}
use Rattle.coap_path.specs.ResourceKinds.{kind_of_path}
use Rattle.coap_path.specs.declared.resource_kind.ResourceKind.{ResourceKind}
use Rattle.coap_path.specs.declared.resource_kind.ResourceKind.TheVariants.{Root, Time, Async, Listing, Dynamic}
use Rattle.coap_store.specs.Store.{Representation, StoreValue, found_in}
use Rattle.coap_store.specs.Listing.{listing}

-- The path, if a resource can have it.
unfoldable pub key_for : Path → Option Path
key_for path = if is_path path then Some path else None

-- The representation that is stored at a path, if any.
abbrev pub stored_at : StoreValue → Option Path → Option Representation
stored_at s None = None
stored_at s (Some path) = found_in s.resources path

-- The Content-Formats text/plain and application/link-format (RFC 7252 section 12.3).
abbrev pub text_plain : ℕ
text_plain = 0

abbrev pub link_format : ℕ
link_format = 40

-- The representation of a built-in resource. Its version is 0, which no stored representation has.
abbrev pub built : ℕ → List ℕ → Option Representation
built format bytes = Some (record { version = 0; format = Some format; bytes = bytes })

-- The representation of a resource at a time: a greeting, the time in seconds, the text `done`, the listing, or the
-- stored representation, if any.
unfoldable pub state_at : StoreValue → ℕ → Option Path → ResourceKind → Option Representation
state_at s now key Root = built text_plain (codes "coap+tcp")
state_at s now key Time = built text_plain (decimal now)
state_at s now key Async = built text_plain (codes "done")
state_at s now key Listing = built link_format (listing s.applications s.resources)
state_at s now key Dynamic = stored_at s key

-- The representation of a path at the time `now` in seconds, or `None` if the path is absent.
abbrev pub state_of : StoreValue → ℕ → Path → Option Representation
state_of s now path = state_at s now (key_for path) (kind_of_path path)

-- The target of a request: its path, if a resource can have it, the kind of resource, and the representation, if any.
pub record RequestTarget : Type 0 where
  pub key : Option Path
  pub place : ResourceKind
  pub state : Option Representation

-- The target of a request for a path at the time `now`.
abbrev pub target_of : StoreValue → ℕ → Path → RequestTarget
target_of s now path = record { key = key_for path; place = kind_of_path path; state = state_of s now path }
