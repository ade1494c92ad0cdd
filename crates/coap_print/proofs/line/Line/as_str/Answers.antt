use Rattle.std.proofs.Common.{sym, subst, List, ℕ}
use Rattle.std.specs.Str.{IsAscii}
use Rattle.std.proofs.lemmas.Str.{IsUtf8-from_ascii}
use Rattle.coap_print.proofs.TextLaws.{text_is_ascii}
use Rattle.coap_print.proofs.line.Line.as_str.Goals as goal

pub unreachable-requires : goal.unreachable-requires
unreachable-requires c =
    c.in_default.ensures.cases.0
    (IsUtf8-from_ascii c.as_slice.result.now (subst (λ (bs : List ℕ). IsAscii bs) (sym c.as_slice.ensures.value)
    (text_is_ascii c.self.inside.bytes.items c.self.invariant.printable)))
