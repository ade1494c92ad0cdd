-- Defined by this project: the model value and the invariant of the type `Listing`.
use Rattle.std.specs.Prelude.{◌≡◌, ℕ, ◌^◌, ◌<◌, List, length}
use Rattle.std.specs.List.{sum}
use Rattle.coap_store.specs.Texts.{split_by}
use Rattle.coap_store.specs.declared.listing.Listing.TheInside.{Inside}

-- The entries: the bytes, divided by the lengths.
abbrev pub entries_of : Inside → List (List ℕ)
entries_of l = split_by l.lengths.items l.text

-- The invariant of a listing: the lengths are those of all bytes, whose number has 32 bits.
pub record IsListing (l : Inside) : Type 0 where
  pub whole : sum l.lengths.items ≡ length l.text
  pub short : length l.text < 2 ^ 32
