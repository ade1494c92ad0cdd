use Rattle.std.proofs.Common.{ap, ◌∙◌}
use Rattle.coap_print.specs.Names.{code_name, code_names, name_in}
use Rattle.coap_print.proofs.names.code_name.Goals as goal

pub returns-clause-name : goal.returns-clause-name
unfolding code_name
returns-clause-name c = c.find_name.ensures.name ∙ ap (name_in code_names) (c.from.ensures ∙ c.byte.ensures)
