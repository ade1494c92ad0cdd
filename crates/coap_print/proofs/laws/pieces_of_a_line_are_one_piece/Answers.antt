use Rattle.coap_print.proofs.LineLaws.{appended_then, appended_keeps}
use Rattle.coap_print.proofs.laws.pieces_of_a_line_are_one_piece.Goals as goal

pub returns-clause-joined : goal.returns-clause-joined
returns-clause-joined c = appended_then

pub returns-clause-kept : goal.returns-clause-kept
returns-clause-kept c = appended_keeps
