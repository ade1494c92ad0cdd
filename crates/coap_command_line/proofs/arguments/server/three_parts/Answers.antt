use Rattle.std.proofs.Common.{sym}
use Rattle.coap_command_line.proofs.WordLemmas.{three_commas}
use Rattle.coap_command_line.proofs.arguments.server.three_parts.Goals as goal

pub returns-in-Some : goal.returns-in-Some
returns-in-Some c =
    sym (three_commas c.args.text.now _ c.in_ok-first.rest.now _ c.in_ok-second.third.now _ c.in-Some.field-0.1.now
    c.in_ok-first.ensures.parts c.in_ok-second.ensures.parts c.in-Some.ensures.parts)
