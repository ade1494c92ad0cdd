use Rattle.std.proofs.Common.{ap}
use Rattle.std.specs.Prelude.{option_map}
use Rattle.coap_print.specs.Names.{OptionRow, option_name}
use Rattle.coap_print.proofs.names.option_name.Goals as goal

pub returns-in-Some-clause-name : goal.returns-in-Some-clause-name
unfolding option_name
returns-in-Some-clause-name c = ap (option_map (λ (row : OptionRow). row.name)) c.in-Some.ensures.row

pub returns-in-None-clause-name : goal.returns-in-None-clause-name
unfolding option_name
returns-in-None-clause-name c = ap (option_map (λ (row : OptionRow). row.name)) c.in-None.ensures.row
