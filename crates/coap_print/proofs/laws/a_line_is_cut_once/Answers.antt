use Rattle.coap_print.proofs.LineLaws.{line_of_pieces}
use Rattle.coap_print.proofs.laws.a_line_is_cut_once.Goals as goal

pub returns : goal.returns
returns c = line_of_pieces
