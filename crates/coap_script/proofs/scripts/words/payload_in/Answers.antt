use Rattle.std.proofs.Common.{rules}
use Rattle.coap_script.specs.Prelude.{payload_value}
use Rattle.coap_script.proofs.scripts.words.payload_in.Goals as goal

pub returns-then-is_hyphen : goal.returns-then-is_hyphen
unfolding payload_value
returns-then-is_hyphen c = search rules

pub returns : goal.returns
unfolding payload_value
returns c = search rules
