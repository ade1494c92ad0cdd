-- The reply to a request, and the directory after it.
use Rattle.std.specs.Prelude.{◌≡◌, ℕ, Bool, true, false, [], Some, Result, Ok, Err, ◌==◌, ◌&&◌, if◌then◌else◌}
use Rattle.coap_wire.specs.Message.{Message}
use Rattle.coap_wire.specs.Codes.{get, post, delete}
use Rattle.directory_registry.specs.Registrations.{RegistryValue, expired, removed, has_location}
use Rattle.directory_registry.specs.Lookups.{ListingValue}
use Rattle.directory_core.specs.Requests.{segments, route_of}
use Rattle.directory_core.specs.Conditions.{conditions_hold}
use Rattle.directory_core.specs.Changes.{registering, updating, looking_up}
use Rattle.directory_core.specs.declared.refusal.Refusal.{Refusal}
use Rattle.directory_core.specs.declared.refusal.Refusal.TheVariants as refusal
use Rattle.directory_core.specs.declared.reply.Reply.{Reply}
use Rattle.directory_core.specs.declared.reply.Reply.TheVariants.{Created, Changed, Deleted, Content, Refused}
use Rattle.directory_core.specs.declared.reply.Reply.TheVariants.{OutOfMemory}
use Rattle.directory_core.specs.declared.route.Route.{Route}
use Rattle.directory_core.specs.declared.route.Route.TheVariants as route

-- A directory: its registrations, and the text of the last lookup.
pub record DirectoryValue : Type 0 where
  pub registry : RegistryValue
  pub listing : ListingValue

-- A new directory.
abbrev pub new_directory : ℕ → ℕ → DirectoryValue
new_directory limit capacity = record {
  registry = record { entries = []; next = 1; limit = limit };
  listing = record { skip = 0; left = 0; capacity = capacity; limit = capacity; text = Some [] };
}

-- The directory without the registrations that have ended at this time.
abbrev pub at_time : DirectoryValue → ℕ → DirectoryValue
at_time d now = record { registry = expired d.registry now; listing = d.listing }

-- The reply, or the refusal.
abbrev pub done : Reply → Result (Unit {0}) Refusal → Reply
done reply (Ok u) = reply
done reply (Err e) = Refused e

-- The reply to a registration with this result.
abbrev pub created : DirectoryValue → Result (ℕ × RegistryValue) Refusal → Reply × DirectoryValue
created d (Ok x) = (Created x.0, record { registry = x.1; listing = d.listing })
created d (Err e) = (Refused e, d)

-- The reply and the directory after it, if the conditions of the request hold for a resource that exists or not.
abbrev pub if_holds : Bool → DirectoryValue → Message → Reply × DirectoryValue → Reply × DirectoryValue
if_holds exists d m replied = if conditions_hold exists m.options then replied else (Refused refusal.Condition, d)

-- The reply at `/rd`, which always exists.
unfoldable pub registration_reply : DirectoryValue → ℕ → Message → Reply × DirectoryValue
registration_reply d now m =
    if m.code == post then if_holds true d m (created d (registering d.registry now m)) else (Refused refusal.Method, d)

-- The reply to an update.
abbrev pub update_reply : DirectoryValue → ℕ → ℕ → Message → Reply × DirectoryValue
update_reply d now number m = (
  done Changed (updating d.registry now number m).0,
  record
      { registry = (updating d.registry now number m).1; listing = d.listing },
)

-- The reply to a removal.
abbrev pub removal_reply : DirectoryValue → ℕ → Reply × DirectoryValue
removal_reply d number = (
  (if has_location d.registry number then Deleted else Refused refusal.Path),
  record
      { registry = removed d.registry number; listing = d.listing },
)

-- The reply at a location.
unfoldable pub location_reply : DirectoryValue → ℕ → ℕ → Message → Reply × DirectoryValue
location_reply d now number m =
    if m.code == post then if_holds (has_location d.registry number) d m (update_reply d now number m)
    else (if m.code == delete then if_holds (has_location d.registry number) d m (removal_reply d number)
    else (Refused refusal.Method, d))

-- The reply to a lookup.
abbrev pub found_reply : DirectoryValue → Bool → ℕ → Message → Reply × DirectoryValue
found_reply d endpoints limit m = (
  done Content (looking_up d.registry d.listing endpoints limit m.options).0,
  record
      { registry = d.registry; listing = (looking_up d.registry d.listing endpoints limit m.options).1 },
)

-- The reply at a lookup, which always exists.
unfoldable pub lookup_reply : DirectoryValue → Bool → ℕ → Message → Reply × DirectoryValue
lookup_reply d endpoints limit m =
    if m.code == get then if_holds true d m (found_reply d endpoints limit m) else (Refused refusal.Method, d)

-- The reply at a resource.
abbrev pub reply_at : DirectoryValue → ℕ → ℕ → Message → Route → Reply × DirectoryValue
reply_at d now limit m route.Registrations = registration_reply d now m
reply_at d now limit m (route.Location number) = location_reply d now number m
reply_at d now limit m route.Endpoints = lookup_reply d true limit m
reply_at d now limit m route.Resources = lookup_reply d false limit m
reply_at d now limit m route.Elsewhere = (Refused refusal.Path, d)

-- The reply to a request at this time, and the directory after it.
unfoldable pub replying : DirectoryValue → ℕ → ℕ → Message → Reply × DirectoryValue
replying d now limit m = reply_at (at_time d now) now limit m (route_of (segments m.options))

-- A request allocates memory at this resource: a POST at `/rd` or at a location, whose conditions hold.
abbrev pub allocates_at : DirectoryValue → Message → Route → Bool
allocates_at d m route.Registrations = m.code == post && conditions_hold true m.options
allocates_at d m (route.Location number) = m.code == post && conditions_hold (has_location d.registry number) m.options
allocates_at d m route.Endpoints = false
allocates_at d m route.Resources = false
allocates_at d m route.Elsewhere = false

-- A request allocates memory at this time.
abbrev pub allocates : DirectoryValue → ℕ → Message → Bool
allocates d now m = allocates_at (at_time d now) m (route_of (segments m.options))

-- A call returns the reply `expected.0` and leaves the directory `expected.1`. Allocation fails only if `allocates`.
-- The directory is then `before`.
abbrev pub Replies : (allocates : Bool) → DirectoryValue → Reply → DirectoryValue → Reply × DirectoryValue → Type 0
Replies allocates before (Created n) after expected = (expected.0 ≡ Created n) × (expected.1 ≡ after)
Replies allocates before Changed after expected = (expected.0 ≡ Changed) × (expected.1 ≡ after)
Replies allocates before Deleted after expected = (expected.0 ≡ Deleted) × (expected.1 ≡ after)
Replies allocates before Content after expected = (expected.0 ≡ Content) × (expected.1 ≡ after)
Replies allocates before (Refused e) after expected = (expected.0 ≡ Refused e) × (expected.1 ≡ after)
Replies allocates before OutOfMemory after expected = (allocates ≡ true) × (after ≡ before)
