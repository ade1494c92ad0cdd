use Rattle.std.proofs.Common.{sym, ap, ◌∙◌, List}
use Rattle.std.specs.List.{flat_map}
use Rattle.coap_wire.specs.Message.{CoapOption}
use Rattle.coap_wire.specs.Views.{coap_option}
use Rattle.coap_print.specs.Descriptions.{option_text}
use Rattle.coap_print.specs.Lines.{appended}
use Rattle.coap_print.specs.declared.line.TheConstants.{LINE_LENGTH}
use Rattle.coap_print.proofs.LineLaws.{appended_then, appended_nothing}
use Rattle.coap_print.proofs.description.append_options.Goals as goal

pub loop-option-preserved : goal.loop-option-preserved
loop-option-preserved c =
    let f = option_text c.args.code in
    let line = c.loop-option.line in
    record {
      goes = tt;
      ends = tt;
      all = ap (λ l. appended LINE_LENGTH l (flat_map f c.next.new.self)) c.append_option.ensures
          ∙ appended_then LINE_LENGTH line (f (coap_option c.in-Some.option)) (flat_map f c.next.new.self)
          ∙ ap (λ (os : List CoapOption). appended LINE_LENGTH line (flat_map f os)) (sym c.in-Some.ensures.steps)
          ∙ c.loop-option.invariant.all;
    }

pub returns : goal.returns
returns c =
    let f = option_text c.args.code in
    let line = c.loop-option.line in
    sym (appended_nothing LINE_LENGTH line)
    ∙ ap (λ (os : List CoapOption). appended LINE_LENGTH line (flat_map f os)) (sym c.in-None.ensures.steps.0)
    ∙ c.loop-option.invariant.all
