-- The proofs of the theorems.
use Rattle.std.proofs.Common.{◌≡◌, ℕ, suc, ◌≤◌, Bool, true, false, Option, Some, None, List, [], ◌∷◌}
use Rattle.std.proofs.Common.{◌++◌, length, take, refl, sym, ◌∙◌, arith, ⊎_elim}
use Rattle.std.proofs.Math.Seq.{take-append_seam}
use Rattle.std.proofs.lemmas.Bool.{and_parts, ltb-true, ltb-false, cond_both, cases_lt}
use lib.Pointwise.{bytes_decides}
use Rattle.std.specs.List.{Contains}
use Rattle.coap_path.specs.Prelude.{if◌then◌else◌, nat_lt, Path, AllByRecursion, same_bytes}
use Rattle.coap_path.specs.Prelude.{is_answered}
use Rattle.coap_path.specs.Prelude.{ApplicationEntryValue, ApplicationsValue, IsLongest, begins_with, longer_entry}
use Rattle.coap_path.specs.Prelude.{entry_for, with_entry}
use Rattle.coap_path.proofs.LongestLemmas.{longer_none, longer_assoc}

-- ---- the start of a path

pub start_of : (prefix path : Path) → begins_with prefix path ≡ true → (rest : Path) × (path ≡ prefix ++ rest)
start_of [] path is = (path, refl)
start_of (s ∷ prefix) [] is = absurd cc
start_of (s ∷ prefix) (t ∷ path) is =
    let parts = and_parts (same_bytes s t) (begins_with prefix path) is in
    let rest = start_of prefix path parts.1 in
    (rest.0, λ i. sym ((bytes_decides s t).0 parts.0) i ∷ rest.1 i)

pub begins_itself : (prefix rest : Path) → begins_with prefix (prefix ++ rest) ≡ true
begins_itself [] rest = refl
begins_itself (s ∷ prefix) rest = rw ((bytes_decides s s).1 refl) (begins_itself prefix rest)

prefix_is_taken : (p path : Path) → begins_with p path ≡ true → take (length p) path ≡ p
prefix_is_taken p path is = rw (start_of p path is).1 (take-append_seam p _)

-- Prefixes of one path with the same number of segments are equal.
one_prefix : (p q path : Path) → begins_with p path ≡ true → begins_with q path ≡ true → length p ≡ length q → p ≡ q
one_prefix p q path p_begins q_begins same =
    sym (prefix_is_taken p path p_begins) ∙ rw same (prefix_is_taken q path q_begins)

-- ---- the longest prefix

each_weaker : (P Q : ApplicationEntryValue → Type 0) → ((e : ApplicationEntryValue) → P e → Q e)
    → (es : List ApplicationEntryValue) → AllByRecursion P es → AllByRecursion Q es
each_weaker P Q h [] all = tt
each_weaker P Q h (e ∷ es) all = (h e all.0, each_weaker P Q h es all.1)

-- The prefixes that the path begins with have at most `n` segments.
abbrev AreUpTo : Path → ℕ → List ApplicationEntryValue → Type 0
AreUpTo path n es = AllByRecursion (λ f. begins_with f.prefix path ≡ true → length f.prefix ≤ n) es

-- No prefix that the path begins with is longer.
record IsBest (es : List ApplicationEntryValue) (path : Path) (e : ApplicationEntryValue) : Type 0 where
  among : Contains es e
  begins : begins_with e.prefix path ≡ true
  others : AreUpTo path (length e.prefix) es

abbrev IsOutcome : List ApplicationEntryValue → Path → Option ApplicationEntryValue → Type 0
IsOutcome es path None = AllByRecursion (λ f. begins_with f.prefix path ≡ false) es
IsOutcome es path (Some e) = IsBest es path e

-- An entry before others that begins the path and is at least as long as those of them that do.
first_best : (e : ApplicationEntryValue) (es : List ApplicationEntryValue) (path : Path)
    → begins_with e.prefix path ≡ true → AreUpTo path (length e.prefix) es → IsBest (e ∷ es) path e
first_best e es path is others =
    record { among = (0, omega arith, refl); begins = is; others = ((λ _. omega arith), others) }

-- The best entry of others after one that is not longer if it begins the path.
later_best : (e f : ApplicationEntryValue) (es : List ApplicationEntryValue) (path : Path)
    → (begins_with e.prefix path ≡ true → length e.prefix ≤ length f.prefix) → IsBest es path f
    → IsBest (e ∷ es) path f
later_best e f es path le best = record {
  among = (suc best.among.0, omega (arith, best.among.1), best.among.2);
  begins = best.begins;
  others = (le, best.others);
}

one_more : (e : ApplicationEntryValue) (es : List ApplicationEntryValue) (path : Path) (b : Bool)
    → begins_with e.prefix path ≡ b → (o : Option ApplicationEntryValue) → IsOutcome es path o
    → IsOutcome (e ∷ es) path (longer_entry (if b then Some e else None) o)
one_more e es path false is None best = (is, best)
one_more e es path false is (Some f) best = later_best e f es path (λ begins. absurd cc) best
one_more e es path true is None best =
    first_best e es path is
    (each_weaker (λ f. begins_with f.prefix path ≡ false) _ (λ f none begins. absurd cc) es best)
one_more e es path true is (Some f) best =
    cond_both (nat_lt (length e.prefix) (length f.prefix)) (Some f) (Some e) (IsOutcome (e ∷ es) path)
    (λ lt. let less = ltb-true (length e.prefix) (length f.prefix) lt in
    later_best e f es path (λ _. omega arith) best)
    (λ ge. let at_most = ltb-false (length e.prefix) (length f.prefix) ge in
    first_best e es path is (each_weaker (λ g. begins_with g.prefix path ≡ true → length g.prefix ≤ length f.prefix) _
    (λ g le begins. omega (arith, le begins)) es best.others))

outcome : (es : List ApplicationEntryValue) (path : Path) → IsOutcome es path (entry_for es path)
outcome [] path = tt
outcome (e ∷ es) path = one_more e es path _ refl (entry_for es path) (outcome es path)

pub longest : (es : List ApplicationEntryValue) (path : Path) (e : ApplicationEntryValue)
    → entry_for es path ≡ Some e → IsLongest es path e
longest es path e is =
    let best : IsBest es path e = rw is at (outcome es path) in
    record {
      among = best.among;
      begins = best.begins;
      others = each_weaker (λ f. begins_with f.prefix path ≡ true → length f.prefix ≤ length e.prefix) _
          (λ f le begins other. ⊎_elim (λ lt. lt)
          (λ ge. absurd (other (one_prefix f.prefix e.prefix path begins best.begins (omega (arith, le begins)))))
          (cases_lt (length f.prefix) (length e.prefix))) es best.others;
    }

pub nowhere : (es : List ApplicationEntryValue) (path : Path) → entry_for es path ≡ None
    → AllByRecursion (λ e. begins_with e.prefix path ≡ false) es
nowhere es path is = rw is at (outcome es path)

-- ---- another entry

entry_pushed : (es : List ApplicationEntryValue) (e : ApplicationEntryValue) (path : Path)
    → entry_for (es ++ e ∷ []) path
    ≡ longer_entry (entry_for es path) (if begins_with e.prefix path then Some e else None)
entry_pushed [] e path = longer_none (if begins_with e.prefix path then Some e else None)
entry_pushed (f ∷ es) e path = rw (entry_pushed es e path) (sym (longer_assoc _ (entry_for es path) _))

pub others_stay : (v : ApplicationsValue) (prefix path : Path) (methods attributes : List ℕ) (code : ℕ)
    → begins_with prefix path ≡ false
    → is_answered (with_entry v prefix methods attributes).entries path code ≡ is_answered v.entries path code
unfolding is_answered
others_stay v prefix path methods attributes code outside =
    rw (
      entry_pushed v.entries (record { prefix = prefix; methods = methods; attributes = attributes }) path,
      outside,
      longer_none,
    )
