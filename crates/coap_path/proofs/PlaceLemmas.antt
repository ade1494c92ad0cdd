-- The kind of resource that a path names, by the bytes of its key.
use Rattle.std.proofs.Common.{rules, ◌≡◌, ℕ, nat_eq, Bool, false, List, [], ◌∷◌, length, sym, ◌∙◌}
use Rattle.coap_path.specs.Prelude.{if◌then◌else◌, Path, same_path, written, kind_of_path, root_path, time_path}
use Rattle.coap_path.specs.Prelude.{async_path}
use Rattle.coap_path.specs.Prelude.{listing_path, Root, Time, Async, Listing, Dynamic}
use Rattle.coap_path.proofs.PathLemmas.{key_equality}
use lib.Pointwise.{pointwise}

-- The bytes of two keys are equal if and only if the paths are.
written_equality : (p q : Path) → pointwise nat_eq (written p) (written q) ≡ same_path p q
written_equality p q = key_equality p q

root_test : (p : Path) → nat_eq (length (written p)) 0 ≡ same_path p root_path
unfolding written
root_test [] = search rules
root_test (s ∷ ss) = search rules

pub kind_by_bytes : (p : Path) → kind_of_path p
    ≡ (if nat_eq (length (written p)) 0 then Root
    else (if pointwise nat_eq (written p) (written time_path) then Time
    else (if pointwise nat_eq (written p) (written async_path) then Async
    else (if pointwise nat_eq (written p) (written listing_path) then Listing
    else Dynamic))))
unfolding kind_of_path
kind_by_bytes p =
    rw (root_test p, written_equality p time_path, written_equality p async_path, written_equality p listing_path)

pub last_kind : (p : Path) (w : List ℕ) (listing : Bool) → w ≡ written p → nat_eq (length w) 0 ≡ false
    → pointwise nat_eq w (written time_path) ≡ false → pointwise nat_eq w (written async_path) ≡ false
    → pointwise nat_eq w (written listing_path) ≡ listing → (if listing then Listing else Dynamic) ≡ kind_of_path p
last_kind p w listing same a b c d = sym (kind_by_bytes p ∙ rw (← same, a, b, c, d))
