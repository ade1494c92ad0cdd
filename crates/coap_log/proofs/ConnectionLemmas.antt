-- Bytes are passed to a tap, call by call.
use Rattle.std.proofs.Common.{◌≡◌, ℕ, zero, suc, ◌-◌, ◌≤◌, ◌<◌, ◌==◌, Bool, true, false, List, [], ◌∷◌, length, take}
use Rattle.std.proofs.Common.{drop, sym, ◌∙◌, arith, refl, length-drop}
use Rattle.std.proofs.lemmas.Bool.{eq-eqb, ne_eqb}
use Rattle.coap_io.proofs.streams.WriteLemmas.{rest_of}
use Rattle.coap_print.specs.declared.level.LogLevel.{LogLevel}
use Rattle.coap_log.specs.Taps.{TapValue, taken, tap_after}
use Rattle.coap_log.specs.Logs.{LogTrace}
use Rattle.coap_log.specs.Connections.{LogsWhole, LogsBytes}

-- The calls so far are the first ones of those for all bytes: what the others do, all of them do.
abbrev pub Continues : (levels : List ℕ → LogLevel) (nanos : ℕ) (front all : List ℕ) (first : TapValue)
    (before : LogTrace) (left : List ℕ) (tap : TapValue) (log : LogTrace) → Type 0
Continues levels nanos front all first before left tap log =
    (turns : ℕ) × (length left ≤ turns)
    × ((end : TapValue) (after : LogTrace) → LogsBytes turns levels nanos front left tap end log after
    → LogsBytes (length all) levels nanos front all first end before after)

module _ (levels : List ℕ → LogLevel) (nanos : ℕ) (front : List ℕ) where
  nothing : (turns : ℕ) (left : List ℕ) (tap : TapValue) (log : LogTrace) → left ≡ []
      → LogsBytes turns levels nanos front left tap tap log log
  unfolding LogsBytes
  nothing zero left tap log none = (refl, refl)
  nothing (suc turns) [] tap log none = (refl, refl)
  nothing (suc turns) (b ∷ left) tap log none = absurd cc

  stuck : (turns : ℕ) (left : List ℕ) (tap : TapValue) (log : LogTrace) → length left ≤ turns → 0 < length left
      → taken tap left ≡ 0 → LogsBytes turns levels nanos front left tap (tap_after tap left) log log
  unfolding LogsBytes
  stuck zero left tap log fits some none = absurd (omega arith)
  stuck (suc turns) [] tap log fits some none = absurd (omega arith)
  stuck (suc turns) (b ∷ left) tap log fits some none =
      rw (eq-eqb (taken tap (b ∷ left)) 0 none) (refl, refl)

  one : (turns : ℕ) (left : List ℕ) (tap end : TapValue) (log middle after : LogTrace) → 0 < length left
      → (taken tap left ≡ 0 → ⊥)
      → LogsWhole levels nanos front (tap_after tap left) log middle (tap_after tap left).is_whole
      → LogsBytes turns levels nanos front (drop (taken tap left) left) (tap_after tap left) end middle after
      → LogsBytes (suc turns) levels nanos front left tap end log after
  unfolding LogsBytes
  one turns [] tap end log middle after some more whole others = absurd (omega arith)
  one turns (b ∷ left) tap end log middle after some more whole others =
      rw (ne_eqb (taken tap (b ∷ left)) 0 more) (middle, whole, others)

  module _ (all : List ℕ) (first : TapValue) (before : LogTrace) where
    pub starts : Continues levels nanos front all first before all first before
    starts = (length all, omega arith, λ end after rest. rest)

    pub ends : (left : List ℕ) (tap : TapValue) (log : LogTrace)
        → Continues levels nanos front all first before left tap log → left ≡ []
        → LogsBytes (length all) levels nanos front all first tap before log
    ends left tap log so none = so.2 tap log (nothing so.0 left tap log none)

    pub ends_stuck : (left : List ℕ) (tap now : TapValue) (log : LogTrace) (count : ℕ)
        → Continues levels nanos front all first before left tap log → 0 < length left
        → now ≡ tap_after tap left → count ≡ taken tap left → count ≡ 0
        → LogsBytes (length all) levels nanos front all first now before log
    ends_stuck left tap now log count so some is counts none =
        rw is
        (so.2 (tap_after tap left) log (stuck so.0 left tap log so.1 some (sym counts ∙ none)))

    goes_at : (turns : ℕ) (left : List ℕ) (tap : TapValue) (log middle : LogTrace) → length left ≤ turns
        → ((end : TapValue) (after : LogTrace) → LogsBytes turns levels nanos front left tap end log after
        → LogsBytes (length all) levels nanos front all first end before after)
        → 0 < length left → (taken tap left ≡ 0 → ⊥) → taken tap left ≤ length left
        → LogsWhole levels nanos front (tap_after tap left) log middle (tap_after tap left).is_whole
        → Continues levels nanos front all first before (drop (taken tap left) left) (tap_after tap left) middle
    goes_at zero left tap log middle fits so some more within whole = absurd (omega arith)
    goes_at (suc turns) left tap log middle fits so some more within whole = (
      turns,
      omega (arith, fits, within, more, length-drop (taken tap left) left),
      λ end after rest. so end after (one turns left tap end log middle after some more whole rest),
    )

    pub goes : (left : List ℕ) (tap now : TapValue) (log middle : LogTrace) (count : ℕ)
        → Continues levels nanos front all first before left tap log → 0 < length left
        → now ≡ tap_after tap left → count ≡ taken tap left → (count ≡ 0 → ⊥) → count ≤ length left
        → LogsWhole levels nanos front now log middle now.is_whole
        → Continues levels nanos front all first before (take (length left - count) (drop count left)) now middle
    goes left tap now log middle count so some is counts more within whole =
        rw (is, rest_of, counts)
        (goes_at so.0 left tap log middle so.1 so.2 some (λ none. more (counts ∙ none)) (omega arith) (rw is at whole))

-- The test for bytes that are left.
pub some_left : (left : List ℕ) (empty : Bool) → empty ≡ (length left == 0) → empty ≡ false → 0 < length left
some_left [] empty is other = absurd cc
some_left (b ∷ left) empty is other = omega arith

pub none_left : (left : List ℕ) (empty : Bool) → empty ≡ (length left == 0) → empty ≡ true → left ≡ []
none_left [] empty is same = refl
none_left (b ∷ left) empty is same =
    absurd (cc (ne_eqb (length (b ∷ left)) 0 (λ none. absurd (omega arith))))
