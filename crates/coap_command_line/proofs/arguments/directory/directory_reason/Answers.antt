use Rattle.std.proofs.Common.{◌∙◌}
use Rattle.coap_command_line.specs.DirectoryWords.{directory_reason, directory_reason_in}
use Rattle.coap_command_line.proofs.ReasonLemmas.{reason_read, rejected}
use Rattle.coap_command_line.proofs.arguments.directory.directory_reason.Goals as goal

pub returns-in-Ok : goal.returns-in-Ok
unfolding directory_reason
returns-in-Ok g c =
    c.directory_line.ensures
    ∙ reason_read _ _ _ (λ rows. directory_reason_in rows c.args.fault.now) c.in-Ok.ensures.kinds c.in-Ok.ensures.rows

pub returns-in-Err-Usage : goal.returns-in-Err-Usage
unfolding directory_reason
returns-in-Err-Usage g c = rejected _ _ _ _ c.in-Err-Usage.field-0-is c.in-Err-Usage.ensures.refusal
