-- Bytes are passed to a tap, call by call, and the lines of whole messages are printed.
use Rattle.std.proofs.Common.{◌≡◌, ℕ, zero, suc, ◌-◌, ◌≤◌, ◌<◌, List, [], ◌∷◌, ◌++◌, length, take, drop, Option, sym}
use Rattle.std.proofs.Common.{◌∙◌, arith, refl, length-drop, append_assoc, append-nil}
use Rattle.std.proofs.lemmas.Bool.{eq-eqb, ne_eqb}
use Rattle.coap_io.proofs.streams.WriteLemmas.{rest_of}
use Rattle.coap_log.specs.Taps.{TapValue, taken, tap_after}
use Rattle.program_explain.specs.Messages.{passed, lines_before, whole_line}
use Rattle.program_explain.specs.Printed.{OutputLine, PrintsTo, listed}
use Rattle.program_explain.specs.declared.layout.Way.{Way}
use Rattle.program_explain.proofs.PrintedLemmas.{prints_nothing, prints_then}

module _ (id : ℕ) (way : Way) (only pending : Option ℕ) where
  -- The calls so far are the first ones of those for all bytes: their lines are printed, and the others follow.
  pub record Passes (all : List ℕ) (first : TapValue) (x y : Option (List ℕ)) (later : Option ℕ) (left : List ℕ)
      (tap : TapValue) : Type 0 where
    pub calls : ℕ
    pub enough : length left ≤ calls
    pub lines : List OutputLine
    pub prints : PrintsTo only pending lines x y later
    pub same : passed (length all) id way first all ≡ lines_before lines (passed calls id way tap left)

  -- The tap after all bytes, and all lines.
  abbrev pub IsPassed : List ℕ → TapValue → Option (List ℕ) → Option (List ℕ) → Option ℕ → TapValue → Type 0
  IsPassed all first x y later tap =
      (tap ≡ (passed (length all) id way first all).tap)
      × PrintsTo only pending (passed (length all) id way first all).lines x y later

  -- Before the first call.
  pub begins : (all : List ℕ) (first : TapValue) (x : Option (List ℕ)) → Passes all first x x pending all first
  begins all first x =
      record {
        calls = length all;
        enough = omega arith;
        lines = [];
        prints = prints_nothing only pending x;
        same = refl;
      }

  nothing : (calls : ℕ) (tap : TapValue) → passed calls id way tap [] ≡ record { tap = tap; lines = [] }
  unfolding passed
  nothing zero tap = refl
  nothing (suc calls) tap = refl

  stuck : (calls : ℕ) (left : List ℕ) (tap : TapValue) → length left ≤ calls → 0 < length left → taken tap left ≡ 0
      → passed calls id way tap left ≡ record { tap = tap_after tap left; lines = [] }
  unfolding passed
  stuck calls [] tap fits some none = absurd (omega arith)
  stuck zero (b ∷ left) tap fits some none = absurd (omega arith)
  stuck (suc calls) (b ∷ left) tap fits some none = rw (eq-eqb (taken tap (b ∷ left)) 0 none)

  one : (calls : ℕ) (left : List ℕ) (tap : TapValue) → 0 < length left → (taken tap left ≡ 0 → ⊥)
      → passed (suc calls) id way tap left
      ≡ lines_before (listed (whole_line id way (tap_after tap left)))
      (passed calls id way (tap_after tap left) (drop (taken tap left) left))
  unfolding passed
  one calls [] tap some more = absurd (omega arith)
  one calls (b ∷ left) tap some more = rw (ne_eqb (taken tap (b ∷ left)) 0 more)

  module _ (all : List ℕ) (first : TapValue) (x : Option (List ℕ)) where
    ends_so : (y : Option (List ℕ)) (later : Option ℕ) (left : List ℕ) (tap now : TapValue)
        (so : Passes all first x y later left tap)
        → passed so.calls id way tap left ≡ record { tap = now; lines = [] } → IsPassed all first x y later now
    ends_so y later left tap now so is = rw (so.same, is, append-nil) (refl, so.prints)

    pub ends : (y : Option (List ℕ)) (later : Option ℕ) (left : List ℕ) (tap : TapValue)
        → Passes all first x y later left tap → left ≡ [] → IsPassed all first x y later tap
    ends y later left tap so none = ends_so y later left tap tap so (rw none (nothing so.calls tap))

    pub ends_stuck : (y : Option (List ℕ)) (later : Option ℕ) (left : List ℕ) (tap now : TapValue) (count : ℕ)
        → Passes all first x y later left tap → 0 < length left
        → now ≡ tap_after tap left → count ≡ taken tap left → count ≡ 0 → IsPassed all first x y later now
    ends_stuck y later left tap now count so some is counts none =
        rw is
        (ends_so y later left tap (tap_after tap left) so (stuck so.calls left tap so.enough some (sym counts ∙ none)))

    goes_at : (y z : Option (List ℕ)) (later last : Option ℕ) (left : List ℕ) (tap : TapValue)
        (so : Passes all first x y later left tap) (calls : ℕ) → so.calls ≡ calls
        → 0 < length left → (taken tap left ≡ 0 → ⊥) → taken tap left ≤ length left
        → PrintsTo only later (listed (whole_line id way (tap_after tap left))) y z last
        → Passes all first x z last (drop (taken tap left) left) (tap_after tap left)
    goes_at y z later last left tap so zero is some more within wrote = absurd (omega (arith, so.enough, is))
    goes_at y z later last left tap so (suc calls) is some more within wrote = record {
      calls = calls;
      enough = omega (arith, so.enough, is, within, more, length-drop (taken tap left) left);
      lines = so.lines ++ listed (whole_line id way (tap_after tap left));
      prints = prints_then only so.prints wrote;
      same = rw (so.same, is, one calls left tap some more, append_assoc so.lines);
    }

    pub goes : (y z : Option (List ℕ)) (later last : Option ℕ) (left : List ℕ) (tap now : TapValue) (count : ℕ)
        → Passes all first x y later left tap → 0 < length left
        → now ≡ tap_after tap left → count ≡ taken tap left → (count ≡ 0 → ⊥) → count ≤ length left
        → PrintsTo only later (listed (whole_line id way now)) y z last
        → Passes all first x z last (take (length left - count) (drop count left)) now
    goes y z later last left tap now count so some is counts more within wrote =
        rw (is, rest_of, counts)
        (goes_at y z later last left tap so so.calls refl some (λ none. more (counts ∙ none)) (omega arith)
        (rw is at wrote))
