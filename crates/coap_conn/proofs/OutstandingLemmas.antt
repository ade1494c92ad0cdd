-- The outstanding entries of the code, as values: matches, removal and cancellation.
use Rattle.std.proofs.Common.{◌≡◌, ℕ, ◌+◌, ◌<◌, ◌≤◌, Bool, not, List, [], ◌∷◌, ◌++◌, length, map, filter, set, take}
use Rattle.std.proofs.Common.{drop, get_or, refl, sym, ap, ◌∙◌, arith}
use Rattle.coap_conn.specs.Prelude.{find, option_map, list_any, Outstanding, OutstandingValue, cancelled_by}
use Rattle.coap_conn.specs.Prelude.{with_cancelled, outstanding_value}
use Rattle.std.proofs.lemmas.List.{map-set, get_or-map}
use Rattle.std.proofs.lemmas.List.Edits.{map_over_more}
use Rattle.std.proofs.lemmas.List.Filters.{length-filter_both}

-- ---- tests of the code agree with those of values

pub any_of : (test : OutstandingValue → Bool) (entries : List Outstanding)
    → list_any (λ e. test (outstanding_value e)) entries ≡ list_any test (map outstanding_value entries)
any_of test [] = refl
any_of test (e ∷ entries) = rw (any_of test entries) refl

pub found_of : (test : OutstandingValue → Bool) (entries : List Outstanding)
    → option_map outstanding_value (find (λ e. test (outstanding_value e)) entries)
    ≡ find test (map outstanding_value entries)
found_of test [] = refl
found_of test (e ∷ entries) = grind (arith, found_of test entries)

pub values_filtered : (test : OutstandingValue → Bool) (entries : List Outstanding)
    → map outstanding_value (filter (λ e. test (outstanding_value e)) entries)
    ≡ filter test (map outstanding_value entries)
values_filtered test [] = refl
values_filtered test (e ∷ entries) = grind (arith, values_filtered test entries)

-- ---- cancellation, one entry after another

pub cancelled_more : (token : List ℕ) (old : List OutstandingValue) (entries : List Outstanding)
    (i : ℕ) (e new : Outstanding)
    → i < length entries → length entries ≡ length old
    → map outstanding_value entries ≡ with_cancelled token (take i old) ++ drop i old → e ≡ get_or entries i e
    → outstanding_value new ≡ cancelled_by token (outstanding_value e)
    → map outstanding_value (set entries i new) ≡ with_cancelled token (take (i + 1) old) ++ drop (i + 1) old
cancelled_more token old entries i e new within long so_far read cancelled =
    map-set outstanding_value entries i new ∙ ap (set (map outstanding_value entries) i) cancelled
    ∙ map_over_more (cancelled_by token) old (map outstanding_value entries) i (outstanding_value e)
    (omega (arith, within, long)) so_far
    (ap outstanding_value read ∙ sym (get_or-map outstanding_value entries i e (outstanding_value e) within))

pub count_left : (test : OutstandingValue → Bool) (entries : List OutstandingValue)
    → length (filter test entries) ≤ length entries
count_left test entries = omega (arith, length-filter_both test (λ e. not (test e)) (λ e. refl) entries)
