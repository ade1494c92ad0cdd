use Rattle.coap_server_engine.proofs.scripting.CutScripts.{fed_in_parts, text_of_lines, cuts_alike_servers, same_lines}
use Rattle.coap_server_engine.proofs.laws.script_segmentation_is_irrelevant.Goals as goal

pub returns : goal.returns
returns c = record {
  taken = λ v before id xs ys shows. (fed_in_parts v before id xs ys shows).count;
  after = λ v before id xs ys shows. (fed_in_parts v before id xs ys shows).server;
  servers = cuts_alike_servers;
  text = text_of_lines;
  lines = same_lines;
}
