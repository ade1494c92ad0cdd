use Rattle.coap_script.proofs.scripting.ScriptLemmas.{script_goes_on}
use Rattle.coap_script.proofs.scripts.laws.scripts_continue_after_whole_lines.Goals as goal

pub returns : goal.returns
returns c = script_goes_on
