use Rattle.std.proofs.Common.{◌≡◌, ◌-◌, length, drop, Ok, Some, arith, sym, refl, ◌∙◌}
use Rattle.coap_wire.specs.Prelude.{coap_option}
use Rattle.c_api.specs.Messages.{first_option}
use Rattle.c_api.proofs.MessageLemmas.{part_at, option_value, first_some}
use Rattle.c_api.proofs.messages.dachreup_raw_option_next.Goals as goal

pub overflow_sub-end : goal.overflow_sub-end
overflow_sub-end c =
    let v = option_value c.args.options.now _ _ _ _ _ _ (λ i. omega (arith, c.type_inv.options i))
    (sym c.bytes_from.ensures ∙ c.in-Some.ensures.cases.0) c.in-Ok-read_option.ensures in
    omega arith

pub overflow_sub-end-2 : goal.overflow_sub-end-2
overflow_sub-end-2 c =
    let v = option_value c.args.options.now _ _ _ _ _ _ (λ i. omega (arith, c.type_inv.options i))
    (sym c.bytes_from.ensures ∙ c.in-Some.ensures.cases.0) c.in-Ok-read_option.ensures in
    omega arith

pub span_within-requires : goal.span_within-requires
span_within-requires c =
    let v = option_value c.args.options.now _ _ _ _ _ _ (λ i. omega (arith, c.type_inv.options i))
    (sym c.bytes_from.ensures ∙ c.in-Some.ensures.cases.0) c.in-Ok-read_option.ensures in
    omega arith

pub returns : goal.returns
returns c =
    let xs = c.args.options.now in
    let here = sym c.bytes_from.ensures ∙ c.in-Some.ensures.cases.0 in
    let o = coap_option c.in-Ok-read_option.option in
    let rest = c.in-Ok-read_option.rest.now in
    let v = option_value xs _ _ _ _ _ _ (λ i. omega (arith, c.type_inv.options i)) here c.in-Ok-read_option.ensures in
    let at = length xs - length rest - length o.value in
    let found : first_option c.args.number.now (drop c.args.at.now xs) ≡ Some (Ok (o, rest)) =
    rw (here, ← c.in-Ok-read_option.ensures, c.in-Ok.ensures.1)
    (first_some _ _ c.in-Some.after.now c.if-first.false (omega (arith, c.in-Ok.ensures.0))) in
    rw found (
      refl,
      record {
        at_is = omega arith;
        number_is = c.from.ensures;
        value_is = (at, (omega arith, (c.span_within.ensures, part_at xs v.front o.value rest at v.is (omega arith))));
      },
    )
