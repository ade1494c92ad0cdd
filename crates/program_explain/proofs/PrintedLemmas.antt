-- A printer prints lines, then others.
use Rattle.std.proofs.Common.{◌≡◌, ℕ, true, false, List, [], ◌∷◌, ◌++◌, Option, Some, None, is_some, nat_eq, Result, Ok}
use Rattle.std.proofs.Common.{Err, OnOk, refl, ◌∙◌, append_assoc, append-nil, arith}
use Rattle.std.specs.Option.{option_eq}
use Rattle.coap_io.proofs.streams.DeviceLemmas.{bytes_none, bytes_then}
use Rattle.coap_io.specs.Prelude.{AddsBytes}
use Rattle.coap_record.specs.Prelude.{WritesText}
use Rattle.program_explain.specs.Shown.{ended}
use Rattle.program_explain.specs.Printed.{OutputLine, Text, Time, lines_then, time_lines, of_connection}
use Rattle.program_explain.specs.Printed.{filtered, IsLineText, AreLineTexts, PrintsTo, Prints}
use Rattle.program_explain.specs.declared.printer.Printer.{Printer}

-- The texts of lines and of others.
pub texts_then : (ls ms : List OutputLine) (xs ys : List ℕ) → AreLineTexts ls xs → AreLineTexts ms ys
    → AreLineTexts (ls ++ ms) (xs ++ ys)
unfolding AreLineTexts
texts_then [] ms xs ys p q = rw p q
texts_then (l ∷ ls) ms xs ys p q = (p.0, p.1 ++ ys, p.2, texts_then ls ms p.1 ys p.3 q, rw (p.4, append_assoc))

one_text : (l : OutputLine) (text : List ℕ) → IsLineText l text → AreLineTexts (l ∷ []) (ended text)
unfolding AreLineTexts
one_text l text is = (text, [], is, refl, rw append-nil)

-- The lines about a connection among lines and others.
of_both : (id : ℕ) (time : Option ℕ) (ls ms : List OutputLine)
    → of_connection id time (ls ++ ms)
    ≡ lines_then (of_connection id time ls).lines (of_connection id (of_connection id time ls).time ms)
unfolding of_connection
of_both id time [] ms = refl
of_both id time (Time s ∷ ls) ms = of_both id (Some s) ls ms
of_both id time (Text who line ∷ ls) ms = grind (arith, append_assoc, of_both id None ls ms, of_both id time ls ms)

filtered_both : (only time : Option ℕ) (ls ms : List OutputLine)
    → filtered only time (ls ++ ms)
    ≡ lines_then (filtered only time ls).lines (filtered only (filtered only time ls).time ms)
filtered_both None time ls ms = refl
filtered_both (Some id) time ls ms = of_both id time ls ms

-- A printer has printed lines, then others.
pub prints_then : (only : Option ℕ) {time later last : Option ℕ} {x y z : Option (List ℕ)} {ls ms : List OutputLine}
    → PrintsTo only time ls x y later → PrintsTo only later ms y z last → PrintsTo only time (ls ++ ms) x z last
prints_then only {time = time} {x = x} {y = y} {z = z} {ls = ls} {ms = ms} p q =
    let second = rw p.time at q in
    record {
      text = p.text ++ second.text;
      texts = rw (filtered_both only time ls ms) (texts_then _ _ p.text second.text p.texts second.texts);
      adds = bytes_then x y z p.text second.text p.adds second.adds;
      time = rw (filtered_both only time ls ms) second.time;
    }

-- A printer that has printed nothing.
pub prints_nothing : (only time : Option ℕ) (x : Option (List ℕ)) → PrintsTo only time [] x x time
unfolding AreLineTexts of_connection
prints_nothing None time x = record { text = []; texts = refl; adds = bytes_none x; time = refl }
prints_nothing (Some id) time x = record { text = []; texts = refl; adds = bytes_none x; time = refl }

-- A printer of one connection leaves a line out that is not about it.
pub prints_no_other : (only pending id : Option ℕ) (line : List ℕ) (x : Option (List ℕ)) → is_some only ≡ true
    → option_eq nat_eq id only ≡ false
    → PrintsTo only pending (Text id line ∷ []) x x pending
unfolding AreLineTexts of_connection
prints_no_other None pending id line x some not = absurd cc
prints_no_other (Some n) pending id line x some not =
    record { text = []; texts = rw not refl; adds = bytes_none x; time = rw not refl }

-- It keeps a time.
pub keeps_time : (only pending : Option ℕ) (seconds : ℕ) (x : Option (List ℕ)) → is_some only ≡ true
    → PrintsTo only pending (Time seconds ∷ []) x x (Some seconds)
unfolding AreLineTexts of_connection
keeps_time None pending seconds x some = absurd cc
keeps_time (Some n) pending seconds x some = record { text = []; texts = refl; adds = bytes_none x; time = refl }

-- A printer of all lines has printed one.
pub one_printed : (only pending later : Option ℕ) (l : OutputLine) (text : List ℕ) (x y : Option (List ℕ))
    → is_some only ≡ false → later ≡ pending
    → IsLineText l text → AddsBytes x y (ended text) → PrintsTo only pending (l ∷ []) x y later
one_printed None pending later l text x y all same is adds =
    record { text = ended text; texts = one_text l text is; adds = adds; time = same }
one_printed (Some n) pending later l text x y all same is adds = absurd cc

-- A printer of one connection has printed a line about it after the time.
pub prints_after : (only pending id later : Option ℕ) (line : List ℕ) (x y z : Option (List ℕ)) → is_some only ≡ true
    → option_eq nat_eq id only ≡ true → later ≡ None
    → PrintsTo None None (time_lines pending) x y None → AddsBytes y z (ended line)
    → PrintsTo only pending (Text id line ∷ []) x z later
unfolding of_connection
prints_after None pending id later line x y z some is none time adds = absurd cc
prints_after (Some n) pending id later line x y z some is none time adds =
    let p = prints_then None time (one_printed None None None (Text id line) line y z refl refl refl adds) in
    record { text = p.text; texts = rw (is, append-nil) p.texts; adds = p.adds; time = rw is none }

-- A fact that follows, if a call has written its text.
pub if_written : {T E B : Type 0} (x y : Option (List ℕ)) (text : List ℕ) (r : Result T E) → WritesText x y text r
    → (AddsBytes x y text → B) → OnOk r B
if_written x y text (Ok v) wrote f = f wrote
if_written x y text (Err e) wrote f = tt

-- A fact that follows, if a call has not failed.
pub so_on : {T E A B : Type 0} (r : Result T E) → (A → B) → OnOk r A → OnOk r B
so_on (Ok v) f a = f a
so_on (Err e) f a = tt

module _ {O : Type 0} (written : O → Option (List ℕ)) where
  -- A printer that has printed nothing.
  pub printed_nothing : (a : Printer O) → Prints written a a []
  printed_nothing a = (prints_nothing a.only a.time (written a.out), refl)

  -- A printer has printed lines, then others.
  pub printed_then : {a b c : Printer O} {ls ms : List OutputLine} → Prints written a b ls → Prints written b c ms
      → Prints written a c (ls ++ ms)
  printed_then {a = a} p q = (prints_then a.only p.0 (rw p.1 at q.0), q.1 ∙ p.1)
