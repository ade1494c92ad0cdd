-- The formats and paths that words of a script's lines name.
use Rattle.std.proofs.Common.{◌≡◌, ℕ, ◌<◌, false, cond, List, ◌∷◌, length, map, Option, Some, None, Result, arith}
use Rattle.std.proofs.Common.{OkIff, option_map}
use Rattle.coap_script.specs.Prelude.{result_ok, parts, decimal_value, format_value}
use Rattle.coap_script.specs.Prelude.{is_hyphen, slash, segments_of, path_value, percent_decode, Path, is_path}
use Rattle.coap_script.specs.Prelude.{key_for}
use Rattle.std.proofs.lemmas.Bool.Decides.{nat_tests}

-- ---- formats

pub format_read : {E : Type 0} (word : List ℕ) (n : ℕ) (r : Result ℕ E) → is_hyphen word ≡ false
    → decimal_value word ≡ Some n → OkIff r (n < 65536) n
    → option_map (λ m. Some m) (result_ok r) ≡ format_value word
unfolding format_value
format_read word n r other is read = grind (arith, nat_tests)

-- ---- paths

pub segments_of_some : (text : List ℕ) → (length text ≡ 0 → ⊥)
    → segments_of text ≡ map percent_decode (parts slash text)
unfolding segments_of
segments_of_some text some = grind arith

pub path_read : (word rest : List ℕ) (first : ℕ) (segments : Path) (r : Option Path) → word ≡ first ∷ rest
    → first ≡ slash → segments ≡ segments_of rest → r ≡ cond (is_path segments) (Some segments) None
    → r ≡ path_value word
unfolding path_value key_for
path_read word rest first segments r same is are key = rw (same, is, ← are) key
