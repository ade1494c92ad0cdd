-- The header of a record is printable, and the script reader reads no event from it.
use Rattle.std.proofs.Common.{◌≡◌, ℕ, ◌<◌, ◌^◌, Bool, true, false, not, ◌==◌, List, [], ◌∷◌, ◌++◌, Result, Ok, Err}
use Rattle.std.proofs.Common.{OnOk, refl, ap, ◌∙◌, arith, codes, decimal, if◌then◌else◌, append_assoc, append-nil, sym}
use Rattle.std.specs.List.{flat_map, list_all}
use Rattle.std.proofs.lemmas.List.Folds.{list_all-append}
use Rattle.std.proofs.lemmas.Bool.{and_parts}
use Rattle.std.proofs.lemmas.Bool.Decides.{nat_tests}
use Rattle.coap_print.specs.Texts.{is_text}
use Rattle.coap_print.specs.Texts as print
use Rattle.coap_print.proofs.TextLaws.{decimal_is_text, text_of_both}
use Rattle.coap_record.specs.Prelude.{ScriptEventValue, SaysNoEvent, is_printable, newline, script_of}
use Rattle.coap_record.proofs.WordLaws.{all_pass}
use Rattle.coap_record.proofs.LineLaws.{comment_read_back}
use Rattle.coap_model.specs.Configs.{ConfigValues}
use Rattle.program_server_common.specs.RecordHeaders.{entries_text, entry_text, header_text, is_plain, is_word}
use Rattle.program_server_common.specs.RecordHeaders.{options_line, options_text, shown_name}

-- Words and a number after printable text.
pub number_is_text : {T E : Type 0} (r : Result T E) (old new words digits : List ℕ) (n : ℕ)
    → n < 2 ^ 64 → digits ≡ decimal n
    → OnOk r (new ≡ old ++ (words ++ (digits ++ []))) → is_text words ≡ true → is_text old ≡ true
    → OnOk r (is_text new ≡ true)
number_is_text (Ok x) old new words digits n small is wrote words_are old_is =
    let digits_are : is_text digits ≡ true = rw is (decimal_is_text n small) in
    rw wrote (text_of_both old (words ++ (digits ++ [])) old_is
    (text_of_both words (digits ++ []) words_are (text_of_both digits [] digits_are refl)))
number_is_text (Err e) old new words digits n small is wrote words_are old_is = tt

plain_is_printable : (b : ℕ) → is_plain b ≡ true → print.is_printable b ≡ true
plain_is_printable b plain = grind (arith, nat_tests)

name_is_text : (name : List ℕ) → is_text (shown_name name) ≡ true
name_is_text [] = refl
name_is_text (first ∷ rest) = by_case (is_word (first ∷ rest)) refl
  where
    by_case : (b : Bool) → is_word (first ∷ rest) ≡ b → is_text (if b then first ∷ rest else codes "FILE") ≡ true
    by_case true is =
        all_pass is_plain print.is_printable plain_is_printable (first ∷ rest)
        (and_parts (not (first == 45)) (list_all is_plain (first ∷ rest)) is).1
    by_case false is = refl

-- A comment of four texts says no event.
comment : (a b c d more : List ℕ) (events : List ScriptEventValue) → is_text a ≡ true → is_text b ≡ true
    → is_text c ≡ true → is_text d ≡ true
    → script_of more ≡ Ok events → script_of (35 ∷ (a ++ (b ++ (c ++ (d ++ newline ∷ more))))) ≡ Ok events
comment a b c d more events a_is b_is c_is d_is read =
    let are = text_of_both (a ++ b ++ c) d (text_of_both (a ++ b) c (text_of_both a b a_is b_is) c_is) d_is in
    let text : a ++ (b ++ (c ++ (d ++ newline ∷ more))) ≡ (a ++ b ++ c ++ d) ++ newline ∷ more = simp append_assoc in
    ap (λ t. script_of (35 ∷ t)) text
    ∙ comment_read_back (a ++ b ++ c ++ d) more events
    (all_pass print.is_printable is_printable alike (a ++ b ++ c ++ d) are) read
  where
    alike : (b : ℕ) → print.is_printable b ≡ true → is_printable b ≡ true
    alike b passes = grind (arith, nat_tests)

-- The options of printable entries are printable.
pub entries_are_text : (quote : List ℕ) (entries : List (List ℕ)) → is_text quote ≡ true
    → is_text (flat_map (λ e. e) entries) ≡ true
    → is_text (entries_text quote entries) ≡ true
entries_are_text quote [] quote_is are = refl
entries_are_text quote (e ∷ es) quote_is are =
    let both = and_parts (is_text e) (is_text (flat_map (λ x. x) es))
    (sym (list_all-append print.is_printable e (flat_map (λ x. x) es)) ∙ are) in
    let front = codes " --application " in
    text_of_both (entry_text quote e) (entries_text quote es)
    (text_of_both (front ++ quote ++ e) quote
    (text_of_both (front ++ quote) e (text_of_both front quote refl quote_is) both.0) quote_is)
    (entries_are_text quote es quote_is both.1)

-- Texts in a row, from the left and from the right.
regrouped : (a program space version b c options entries d e name quoted more : List ℕ)
    → (a ++ program ++ space ++ version ++ b ++ (c ++ options) ++ entries ++ d ++ e ++ name ++ space
    ++ options ++ quoted ++ d) ++ more
    ≡ a ++ (program ++ ((space ++ version)
    ++ (b ++ (c ++ (options ++ (entries ++ (d ++ (e ++ ((name ++ space) ++ (options ++ (quoted ++ (d ++ more))))))))))))
regrouped a program space version b c options entries d e name quoted more = simp append_assoc

-- The texts of the header, as six calls append them.
pub laid_out : (old a program space version b c options entries n d name quoted : List ℕ)
    → (((((old ++ (a ++ (program ++ (space ++ (version ++ (b ++ [])))))) ++ (c ++ (options ++ []))) ++ entries)
    ++ ((n ++ d) ++ (name ++ (space ++ (options ++ []))))) ++ quoted) ++ (n ++ [])
    ≡ old ++ (a ++ program ++ space ++ version ++ b ++ (c ++ options) ++ entries ++ n ++ d ++ name
    ++ space ++ options ++ quoted ++ n)
laid_out old a program space version b c options entries n d name quoted = simp (append_assoc, append-nil)

-- Ten words and numbers, as rows and as a text.
pub rows_joined : (a b c d e f g h i j k l m n o p q r s t : List ℕ)
    → (a ++ b) ++ ((c ++ d) ++ ((e ++ f) ++ ((g ++ h) ++ ((i ++ j) ++ ((k ++ l) ++ ((m ++ n) ++ ((o ++ p)
    ++ ((q ++ r) ++ ((s ++ t) ++ [])))))))))
    ≡ a ++ b ++ c ++ d ++ e ++ f ++ g ++ h ++ i ++ j ++ k ++ l ++ m ++ n ++ o ++ (p ++ q ++ r ++ s ++ t)
rows_joined a b c d e f g h i j k l m n o p q r s t = simp (append_assoc, append-nil)

pub header_says_nothing : (program version name : List ℕ) (c : ConfigValues) (entries : List (List ℕ))
    → is_text program ≡ true → is_text version ≡ true
    → is_text (options_text c) ≡ true → is_text (flat_map (λ e. e) entries) ≡ true
    → SaysNoEvent (header_text program version name c entries)
unfolding header_text
header_says_nothing program version name c entries program_is version_is options_are entries_are more events read =
    let bare = entries_text [] entries in
    let quoted = entries_text (codes "'") entries in
    let replay = codes "# replay: coap-server --script "
    ++ ((shown_name name ++ codes " ") ++ (options_text c ++ (quoted ++ newline ∷ more))) in
    ap script_of (regrouped (codes "# Record of ") program (codes " ") version (codes ", format 1\n")
    (codes "# options: ") (options_text c) bare (codes "\n")
    (codes "# replay: coap-server --script ") (shown_name name) quoted more)
    ∙ comment (codes " Record of ") program (codes " " ++ version) (codes ", format 1")
    (options_line c ++ (bare ++ newline ∷ replay)) events refl program_is
    (text_of_both (codes " ") version refl version_is) refl
    (comment (codes " options: ") (options_text c) bare [] replay events refl options_are
    (entries_are_text [] entries refl entries_are) refl
    (comment (codes " replay: coap-server --script ") (shown_name name ++ codes " ")
    (options_text c) quoted more events refl
    (text_of_both (shown_name name) (codes " ") (name_is_text name) refl) options_are
    (entries_are_text (codes "'") entries refl entries_are) read))
