-- RFC 6690: the bytes of `/.well-known/core`. `Links.antt` defines its links, which are re-exported.
use Rattle.std.specs.Prelude.{ℕ, List, ◌++◌, Option}
use Rattle.std.specs.List.{flat_map}
use Rattle.coap_path.specs.Applications.{ApplicationsValue}
use Rattle.coap_store.specs.Store.{Resource}
pub use Rattle.coap_store.specs.Links.{application_bytes, attribute_bytes, built_in_bytes, end_bytes, format_bytes}
pub use Rattle.coap_store.specs.Links.{hex_digit, is_unreserved, slash}
unfoldable pub use Rattle.coap_store.specs.Links.{encoded_byte, entry_bytes, first_bytes, link_bytes, path_bytes}

-- The listing: the built-in resources, followed by the entries of the application, followed by the created resources in
-- order of creation.
unfoldable pub listing : Option ApplicationsValue → List Resource → List ℕ
listing applications rs =
    built_in_bytes ++ (application_bytes applications ++ flat_map (λ r. entry_bytes r.path r.now.format) rs)
