use Rattle.std.proofs.Common.{◌∙◌, ap, sym, Some, option_map}
use Rattle.coap_command_line.specs.Reasons.{line_of, target_reason}
use Rattle.coap_command_line.proofs.arguments.reasons.targets.target_line.Goals as goal

pub returns-in-NoHost : goal.returns-in-NoHost
unfolding target_reason
returns-in-NoHost c =
    ap Some c.with_given.ensures ∙ ap (λ f. option_map line_of (target_reason f c.args.uri.now)) (sym c.in-NoHost.is)

pub returns-in-UserInfo : goal.returns-in-UserInfo
unfolding target_reason
returns-in-UserInfo c =
    ap Some c.line_of.ensures ∙ ap (λ f. option_map line_of (target_reason f c.args.uri.now)) (sym c.in-UserInfo.is)

pub returns-in-PartTooLong : goal.returns-in-PartTooLong
unfolding target_reason
returns-in-PartTooLong c =
    ap Some c.line_of-in-PartTooLong.ensures
    ∙ ap (λ f. option_map line_of (target_reason f c.args.uri.now)) (sym c.in-PartTooLong.is)

pub returns-in-TooManyParts : goal.returns-in-TooManyParts
unfolding target_reason
returns-in-TooManyParts c =
    ap Some c.line_of-in-TooManyParts.ensures
    ∙ ap (λ f. option_map line_of (target_reason f c.args.uri.now)) (sym c.in-TooManyParts.is)
