-- All bytes that a printer writes are printable ASCII or newlines.
use Rattle.std.proofs.Common.{◌≡◌, ℕ, true, List, [], ◌∷◌, Option, Some, None, Result, Ok, Err, refl}
use Rattle.std.specs.List.{list_all}
use Rattle.std.proofs.lemmas.Bool.{and_parts}
use Rattle.std.proofs.lemmas.List.Folds.{list_all-append}
use Rattle.coap_print.specs.Texts.{is_printable, is_text}
use Rattle.coap_record.specs.Prelude.{AddsBytes, WritesText}
use Rattle.coap_record.proofs.WordLaws.{all_pass, both_words}
use Rattle.program_explain.specs.Shown.{is_shown, IsShown, ended}

added_shown : (x y : Option (List ℕ)) (text : List ℕ) → list_all is_shown text ≡ true
    → AddsBytes x y text → IsShown x → IsShown y
added_shown None y text p adds is = absurd is
added_shown (Some before) y text p adds is = rw adds (both_words is_shown before text is p)

text_shown : {T E : Type 0} (x y : Option (List ℕ)) (text : List ℕ) (r : Result T E) → list_all is_shown text ≡ true
    → WritesText x y text r → IsShown x → IsShown y
text_shown x y text (Ok v) p wrote is = added_shown x y text p wrote is
text_shown x y text (Err e) p wrote is =
    let both = rw (wrote.3, list_all-append is_shown wrote.0 wrote.1) at p in
    added_shown x y wrote.0 (and_parts (list_all is_shown wrote.0) (list_all is_shown wrote.1) both).0 wrote.4 is

-- A line with its newline.
pub line_shown : {T E : Type 0} (x y : Option (List ℕ)) (line : List ℕ) (r : Result T E) → is_text line ≡ true
    → WritesText x y (ended line) r → IsShown x → IsShown y
line_shown x y line r p wrote is =
    let line_is = all_pass is_printable is_shown (λ b printable. rw printable) line p in
    text_shown x y (ended line) r (both_words is_shown line (10 ∷ []) line_is refl) wrote is
