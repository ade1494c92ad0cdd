-- The invariant after another entry.
use Rattle.std.proofs.Common.{◌≡◌, ◌<◌, false, List, [], ◌∷◌, ◌++◌, length, refl, ◌∙◌, arith}
use Rattle.std.proofs.Common.{length-append}
use Rattle.std.proofs.lemmas.Bool.{both_ways, false_from_ne_true, or_parts, or_from}
use Rattle.std.proofs.lemmas.List.Folds.{list_any-append}
use Rattle.coap_path.proofs.PathLemmas.{same_path_sound}
use Rattle.coap_path.specs.Prelude.{Path, AllByRecursion, same_path}
use Rattle.coap_path.specs.Prelude.{ApplicationEntryValue, IsEntry, AreEntries, HaveOwnPrefixes, has_prefix}

all_push : (es : List ApplicationEntryValue) (e : ApplicationEntryValue) → AllByRecursion IsEntry es → IsEntry e
    → AllByRecursion IsEntry (es ++ e ∷ [])
all_push [] e all is = (is, tt)
all_push (f ∷ es) e all is = (all.0, all_push es e all.1 is)

-- The test of equal paths is symmetric.
other_way : (p q : Path) → same_path p q ≡ false → same_path q p ≡ false
other_way p q other =
    false_from_ne_true _ (λ is. let same = same_path_sound q p is in both_ways _ (rw same at other) (rw same at is))

own_push : (es : List ApplicationEntryValue) (e : ApplicationEntryValue) → HaveOwnPrefixes es
    → has_prefix es e.prefix ≡ false → HaveOwnPrefixes (es ++ e ∷ [])
own_push [] e own new = (refl, tt)
own_push (f ∷ es) e own new =
    let parts = or_parts (same_path f.prefix e.prefix) (has_prefix es e.prefix) new in (
      list_any-append _ es (e ∷ []) ∙ or_from _ _ own.0 (or_from _ _ (other_way f.prefix e.prefix parts.0) refl),
      own_push es e own.1 parts.1,
    )

pub entries_added : (es : List ApplicationEntryValue) (e : ApplicationEntryValue) → AreEntries es → IsEntry e
    → length es < 16 → has_prefix es e.prefix ≡ false → AreEntries (es ++ e ∷ [])
entries_added es e are is room own = record {
  few = omega (arith, length-append es (e ∷ []));
  each = all_push es e are.each is;
  own = own_push es e are.own own;
}
