use Rattle.std.proofs.Common.{◌≡◌, ℕ, ◌-◌, List, ◌++◌, take, sym, ap, ◌∙◌, arith}
use Rattle.coap_print.specs.Lines.{ellipsis, room}
use Rattle.coap_print.specs.declared.line.TheConstants.{LINE_LENGTH}
use Rattle.coap_print.proofs.LineLaws.{closed, whole, part}
use Rattle.coap_print.proofs.line.append_piece.Goals as goal

pub returns-then-used-gt-TEXT_LENGTH : goal.returns-then-used-gt-TEXT_LENGTH
returns-then-used-gt-TEXT_LENGTH c = sym (closed LINE_LENGTH c.args.buffer.now.items c.args.piece.now (omega arith))

pub returns-then-piece-room : goal.returns-then-piece-room
returns-then-piece-room c =
    c.append_all.ensures ∙ sym (whole LINE_LENGTH c.args.buffer.now.items c.args.piece.now (omega arith))

pub returns-else-piece-room : goal.returns-else-piece-room
returns-else-piece-room c =
    let line = c.args.buffer.now.items in
    let piece = c.args.piece.now in
    let same : 1021 - c.len-used.result ≡ room LINE_LENGTH line = omega arith in
    c.append_all-else-piece-room-2.ensures
    ∙ ap (λ (l : List ℕ). l ++ ellipsis)
    (c.append_all-else-piece-room.ensures ∙ ap (λ (n : ℕ). line ++ take n piece) same)
    ∙ sym (part LINE_LENGTH line piece (omega arith) (omega arith))
