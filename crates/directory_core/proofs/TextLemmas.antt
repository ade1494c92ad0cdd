-- UTF-8, by std's relation and by its test.
use Rattle.std.proofs.Common.{◌≡◌, ℕ, List, true, false, inl, inr, sym}
use Rattle.std.specs.Prelude.{IsUtf8}
use Rattle.std.specs.Str.{is_utf8}
use Rattle.std.proofs.lemmas.Bool.{cases_Bool}
use Rattle.std.proofs.lemmas.Str.{IsUtf8-from_is_utf8, is_utf8-from_IsUtf8}

pub is_text : (bytes : List ℕ) → IsUtf8 bytes → is_utf8 bytes ≡ true
is_text bytes is = is_utf8-from_IsUtf8 bytes is

pub is_no_text : (bytes : List ℕ) → (IsUtf8 bytes → ⊥) → is_utf8 bytes ≡ false
is_no_text bytes not =
    elim (cases_Bool (is_utf8 bytes)) [ inl t ↦ absurd (not (IsUtf8-from_is_utf8 bytes t)) | inr f ↦ f ]

pub ruleset utf8 = (is_text, is_no_text)
