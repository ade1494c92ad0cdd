-- The entry with the longest prefix.
use Rattle.std.proofs.Common.{◌≡◌, ℕ, ◌<◌, ◌+◌, Option, Some, None, List, length, drop, get_or, refl}
use Rattle.std.proofs.Common.{arith}
use Rattle.std.proofs.lemmas.Bool.Decides.{nat_tests}
use Rattle.std.proofs.lemmas.List.{drop_more}
use Rattle.coap_path.specs.Prelude.{if◌then◌else◌, Path, ApplicationEntryValue, begins_with, longer_entry}
use Rattle.coap_path.specs.Prelude.{entry_for}

pub longer_none : (o : Option ApplicationEntryValue) → longer_entry o None ≡ o
longer_none None = refl
longer_none (Some e) = refl

pub longer_assoc : (a b c : Option ApplicationEntryValue)
    → longer_entry (longer_entry a b) c ≡ longer_entry a (longer_entry b c)
longer_assoc None b c = refl
longer_assoc (Some e) None c = refl
longer_assoc (Some e) (Some f) None = longer_none (longer_entry (Some e) (Some f))
longer_assoc (Some e) (Some f) (Some g) = grind (arith, nat_tests)

-- The best entry after another one.
pub longest_goes_on : (es : List ApplicationEntryValue) (i : ℕ) (e : ApplicationEntryValue) (path : Path)
    (best : Option ApplicationEntryValue) → i < length es → e ≡ get_or es i e
    → longer_entry (longer_entry best (if begins_with e.prefix path then Some e else None))
    (entry_for (drop (i + 1) es) path) ≡ longer_entry best (entry_for (drop i es) path)
longest_goes_on es i e path best within is = rw (drop_more es i e within, ← is) (longer_assoc best _ _)
