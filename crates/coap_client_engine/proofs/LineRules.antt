-- Pieces of text appended to a line of `coap_print`, one after the other, are one piece.
use Rattle.coap_print.proofs.LineLaws.{appended_then, appended_nothing}

pub ruleset pieces = (appended_then, appended_nothing)
