-- The encoded options of a `CompactBuilder`.
use Rattle.std.proofs.Common.{◌≡◌, ℕ, ◌≤◌, ◌+◌, List, [], ◌∷◌, ◌++◌, length, refl, ap, arith}
use Rattle.std.proofs.lemmas.List.{append-nil}
use Rattle.coap_wire.specs.Prelude.{AllByRecursion, CoapOption, AreOrdered, HasOptionForm, option_spelling}
use Rattle.coap_wire.specs.Prelude.{options_spelling, options_read, options_in, IsEncoding, Message, last_number}
use Rattle.coap_wire.specs.Prelude.{compact_message, encoded_size}
use Rattle.coap_wire.specs.CompactViews.{IsCompact}
use Rattle.coap_wire.specs.declared.compact.CompactBuilder.TheInside.{Inside}
use Rattle.coap_wire.proofs.OptionLists.{spelling-push, last_number-push, ordered-push, forms-push}
use Rattle.coap_wire.proofs.SpellingLaws.{options_are_spelled}
use Rattle.coap_wire.proofs.BodySteps.{body_end}
use Rattle.coap_wire.proofs.BodyLaws.{body_again}

-- Decoding the encoding of options returns the options.
read_again : (os : List CoapOption) → AreOrdered 0 os → AllByRecursion HasOptionForm os
    → options_in 0 (options_spelling 0 os) ≡ os
read_again os ordered each =
    ap options_read (body_again 0 os (options_spelling 0 os) []
    (rw append-nil at (options_are_spelled 0 os [] ordered each)))

pub nothing_read : options_in 0 [] ≡ []
nothing_read = ap options_read (body_end 0)

-- The empty list is the encoding of no option.
pub nothing_encoded : IsEncoding [] 0
nothing_encoded =
    record {
      encoded = rw nothing_read refl;
      ordered = rw nothing_read tt;
      each = rw nothing_read tt;
      last_is = rw nothing_read refl;
    }

-- The encoding of an option is appended to that of others: decoding returns one more option.
pub encoded_push : (bytes new : List ℕ) (last : ℕ) (o : CoapOption) → IsEncoding bytes last → last ≤ o.number
    → HasOptionForm o → new ≡ bytes ++ option_spelling last o
    → (options_in 0 new ≡ options_in 0 bytes ++ o ∷ []) × IsEncoding new o.number
encoded_push bytes new last o is order form new_is =
    let os = options_in 0 bytes in
    let more = os ++ o ∷ [] in
    let ordered = ordered-push 0 os o is.ordered (omega (arith, is.last_is)) in
    let each = forms-push os o is.each form in
    let spelled : new ≡ options_spelling 0 more = cc (new_is, is.encoded, is.last_is, spelling-push 0 os o) in
    let same : options_in 0 new ≡ more = rw spelled (read_again more ordered each) in (
      same,
      record {
        encoded = rw same spelled;
        ordered = rw same ordered;
        each = rw same each;
        last_is = rw (same, last_number-push 0 os o) refl;
      },
    )

-- A builder accepts one more option.
pub option_pushed : {N : ℕ} (b : Inside N) (m : Message) (new : List ℕ) (o : CoapOption) → IsCompact b
    → compact_message b ≡ m → last_number 0 m.options ≤ o.number → o.number ≤ 65535
    → encoded_size m + 5 + length o.value ≤ N → new ≡ b.options.items ++ option_spelling b.last o
    → (options_in 0 new ≡ options_in 0 b.options.items ++ o ∷ []) × IsEncoding new o.number
option_pushed b m new o is view order fits room new_is =
    encoded_push b.options.items new b.last o is.options
    (omega (arith, is.options.last_is, ap (λ k. last_number 0 k.options) view))
    (fits, omega (arith, is.few)) new_is
