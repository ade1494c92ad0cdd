use Rattle.std.proofs.Common.{sym, ◌∙◌, arith}
use Rattle.std.proofs.lemmas.List.{length-take-le}
use Rattle.std.proofs.lemmas.Result.{err_from_is_err_and}
use Rattle.coap_serve.proofs.streams.RunLemmas.{has_read, turn_fault, turn_piece, not_unread}
use Rattle.coap_serve.proofs.serve_streams.take_turn.Goals as goal

pub returns-in_err-messages-clause-turn : goal.returns-in_err-messages-clause-turn
returns-in_err-messages-clause-turn g c = λ first k bytes goes.
    let p = err_from_is_err_and c.from_residual.result c.from_residual.ensures.1 in
    let has = has_read _ _ c.read.new.buffer c.in-Some.count (omega (arith, c.read.auto.buffer, c.requires.room))
    c.in-Some.ensures.within c.if-count-eq0.false c.in-Some.ensures.given in
    rw (p.1, p.2) (turn_fault k bytes c.serve_piece.new.server _ _ c.in_err-messages.field-0.0 has
    (c.in_err-messages.ensures.served first k bytes goes))

pub returns-clause-turn : goal.returns-clause-turn
returns-clause-turn g c = λ first k bytes goes.
    let has = has_read _ _ _ _ (omega (arith, c.read.auto.buffer, c.requires.room)) c.in-Some.ensures.within
    c.if-count-eq0.false c.in-Some.ensures.given in
    turn_piece _ goes.number has (c.in_ok-messages.ensures.served first k bytes goes)
    (sym (length-take-le _ _ c.in-Some.ensures.within)) c.stop_in.ensures

pub returns-in_err-messages-clause-read : goal.returns-in_err-messages-clause-read
returns-in_err-messages-clause-read g c =
    let p = err_from_is_err_and c.from_residual.result c.from_residual.ensures.1 in
    let is_at = c.requires.is_at in
    rw (p.1, p.2) (c.in-Some.ensures.failure
    ∙ rw c.requires.reader_works (sym (not_unread is_at.1 is_at.2 _ c.serve_piece.new.server _ _
    c.in_err-messages.field-0.0 (c.in_err-messages.ensures.served is_at.0 is_at.1 is_at.2 is_at.3))))
