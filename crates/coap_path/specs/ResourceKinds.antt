-- Defined by this project: the kind of resource that a path names.
use Rattle.std.specs.Prelude.{Bool, true, false, [], ◌∷◌, codes, if◌then◌else◌}
use Rattle.coap_path.specs.Paths.{Path, same_path}
use Rattle.coap_path.specs.declared.resource_kind.ResourceKind.{ResourceKind}
use Rattle.coap_path.specs.declared.resource_kind.ResourceKind.TheVariants.{Root, Time, Async, Listing, Dynamic}

-- The paths of the built-in resources.
abbrev pub root_path : Path
root_path = []

abbrev pub time_path : Path
time_path = codes "time" ∷ []

abbrev pub async_path : Path
async_path = codes "async" ∷ []

abbrev pub listing_path : Path
listing_path = codes ".well-known" ∷ codes "core" ∷ []

-- The kind of resource that a path names.
unfoldable pub kind_of_path : Path → ResourceKind
kind_of_path path =
    if same_path path root_path then Root
    else (if same_path path time_path then Time
    else (if same_path path async_path then Async
    else (if same_path path listing_path then Listing
    else Dynamic)))

-- The resource is not built in.
abbrev pub is_dynamic : ResourceKind → Bool
is_dynamic Root = false
is_dynamic Time = false
is_dynamic Async = false
is_dynamic Listing = false
is_dynamic Dynamic = true

-- The resource is `/time`.
abbrev pub is_time : ResourceKind → Bool
is_time Root = false
is_time Time = true
is_time Async = false
is_time Listing = false
is_time Dynamic = false

-- The resource is `/async`.
abbrev pub is_async : ResourceKind → Bool
is_async Root = false
is_async Time = false
is_async Async = true
is_async Listing = false
is_async Dynamic = false

-- The resource can be observed: it is `/time` or a created resource.
abbrev pub is_observable : ResourceKind → Bool
is_observable Root = false
is_observable Time = true
is_observable Async = false
is_observable Listing = false
is_observable Dynamic = true
