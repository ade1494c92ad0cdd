-- Defined by this project: the model value and the invariant of the type `Listing`.
use Rattle.std.specs.Prelude.{◌≤◌, length, vec_capacity, Some, None, if◌then◌else◌}
use Rattle.directory_registry.specs.Lookups.{ListingValue}
use Rattle.directory_registry.specs.declared.listing.Listing.TheInside.{Inside}

abbrev pub listing_of : Inside → ListingValue
listing_of l = record {
  skip = l.skip;
  left = l.left;
  capacity = vec_capacity l.bytes;
  limit = l.limit;
  text = if l.overflows then None else Some l.bytes.items;
}

-- The invariant of a listing: the bytes are within the limit, and the limit within the capacity.
pub record IsListing (l : Inside) : Type 0 where
  pub within : length l.bytes.items ≤ l.limit
  pub room : l.limit ≤ vec_capacity l.bytes
