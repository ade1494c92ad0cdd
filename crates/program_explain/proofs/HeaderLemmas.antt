-- The words of a header's options.
use Rattle.std.proofs.Common.{◌≡◌, ℕ, List, [], ◌∷◌, ◌++◌}
use Rattle.std.specs.Str.{IsUtf8}
use Rattle.program_explain.specs.Header.{AreUtf8}

-- A word after others is one of them.
word_after : (before after : List (List ℕ)) (word : List ℕ) → AreUtf8 (before ++ word ∷ after) → IsUtf8 word
word_after [] after word all = all.0
word_after (first ∷ before) after word all = word_after before after word all.1

-- A word that is not UTF-8 comes next.
pub not_utf8 : (words before parts rest : List (List ℕ)) (word : List ℕ) → words ≡ before ++ parts → parts ≡ word ∷ rest
    → (IsUtf8 word → ⊥) → AreUtf8 words → ⊥
not_utf8 words before parts rest word is next not all = not (word_after before rest word (rw (is, next) at all))
