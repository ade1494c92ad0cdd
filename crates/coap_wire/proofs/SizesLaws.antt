-- A stream that continues with another maximum size.
use Rattle.std.proofs.Common.{◌≡◌, ℕ, ◌+◌, ◌-◌, ◌<◌, ◌≤◌, List, ◌++◌, length, Option, Some, None, refl, sym, ap, ◌∙◌}
use Rattle.std.proofs.Common.{arith}
use Rattle.std.proofs.lemmas.Bool.Decides.{nat_tests}
use Rattle.std.proofs.lemmas.Bool.{le-ltb}
use mathlib.Core.Path.{fun_ext}
use Rattle.coap_wire.specs.Prelude.{Unfinished, prefix_kind, Sizes, constant_size, sizes_first, sizes_after}
use Rattle.coap_wire.specs.Prelude.{sizes_of_rest, StreamFault, sized_split, split, continued, split_on}
use Rattle.coap_wire.proofs.StreamSteps.{split_alike, split_is, sized_goes_on, sized_rest}
use Rattle.coap_wire.proofs.StreamSteps.{unfinished_larger}

-- ---- one maximum for the first n bytes

module _ (n M : ℕ) (S : Sizes) where
  pub first_in : (at : ℕ) → at < n → sizes_first n M S at ≡ M
  first_in at h = grind (arith, nat_tests)

  pub first_past : (at : ℕ) → n ≤ at → sizes_first n M S at ≡ S (at - n)
  first_past at h = rw (le-ltb at n h) refl

  pub rest_first : sizes_after n (sizes_first n M S) ≡ S
  rest_first = fun_ext (λ at. first_past (n + at) (omega arith) ∙ ap S (omega arith))

pub first_none : (M : ℕ) (S : Sizes) → sizes_first 0 M S ≡ S
first_none M S = fun_ext (λ at. first_past 0 M S at (omega arith) ∙ ap S (omega arith))

-- If the maximum after them is the same, it never changes.
pub first_always : (n M : ℕ) → sizes_first n M (constant_size M) ≡ constant_size M
first_always n M = fun_ext (λ at. grind (arith, nat_tests))

-- ---- more bytes of a stream

-- The rest gives the same result with the present maximum as with the sizes of its bytes.
went_by : (F : Sizes) (N : ℕ) (s more : List ℕ) (fault : Option StreamFault) → ((at : ℕ) → F at ≤ N)
    → ((at : ℕ) → length s ≤ at → F at ≡ N) → (sized_split F s).fault ≡ fault
    → continued (sized_split F s) fault
    (sized_split (sizes_of_rest F s (sized_split F s).rest) ((sized_split F s).rest ++ more))
    ≡ continued (sized_split F s) fault (split N ((sized_split F s).rest ++ more))
went_by F N s more (Some fault) most now is = refl
went_by F N s more None most now none =
    let left = (sized_split F s).rest in
    let k = sized_rest F s none in
    ap (continued (sized_split F s) None) (split_alike (sizes_of_rest F s left) (constant_size N) left more (record {
      unfinished = k.0;
      larger = most _;
      same = λ at h. now _ (omega (arith, h, k.1));
    }) ∙ sym (split_is N (left ++ more)))

-- The rest continues with more bytes as if the present maximum were in effect from its start, if none before was
-- larger.
pub went_on : (F : Sizes) (N : ℕ) (s more : List ℕ) → ((at : ℕ) → F at ≤ N) → ((at : ℕ) → length s ≤ at → F at ≡ N)
    → sized_split F (s ++ more) ≡ split_on N (sized_split F s) more
went_on F N s more most now = sized_goes_on F s more ∙ went_by F N s more (sized_split F s).fault most now refl

-- The rest is unfinished with the present maximum.
pub left_unfinished : (F : Sizes) (N : ℕ) (s : List ℕ) → ((at : ℕ) → F at ≤ N) → (sized_split F s).fault ≡ None
    → prefix_kind N (sized_split F s).rest ≡ Unfinished
left_unfinished F N s most none = unfinished_larger _ N (sized_split F s).rest (most _) (sized_rest F s none).0
