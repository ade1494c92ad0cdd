use Rattle.std.proofs.Common.{◌∙◌, refl, arith}
use Rattle.coap_server_polled.proofs.ReportLemmas.{quiet_keeps, take_keeps}
use Rattle.c_api.proofs.QuietLemmas.{taken_nothing, taken_quiet, taken_whole}
use Rattle.c_api.proofs.server.take_at.Goals as goal

pub wake_at-requires : goal.wake_at-requires
wake_at-requires c =
    let e = c.connection_count.ensures in
    omega (arith, c.requires.lies.within, e.count, e.few)

pub returns-then-took-eq0-clause-output : goal.returns-then-took-eq0-clause-output
returns-then-took-eq0-clause-output c =
    let quiet =
    taken_quiet _ _ _ _ _ _ c.requires.settled c.requires.lies c.take_into.ensures.taken c.if-took-eq0.true in
    quiet_keeps c.args.server.now _ quiet.keys quiet.same refl

pub returns-clause-quiet : goal.returns-clause-quiet
returns-clause-quiet c = record {
  same = λ none. absurd (c.if-took-eq0.false none);
  nothing = taken_nothing _ _ _ _ _ c.take_into.ensures.taken;
}

pub returns-clause-output : goal.returns-clause-output
returns-clause-output c =
    take_keeps c.args.server.now _ c.args.index.id c.args.index.at c.args.piece.now c.take_into.new.affected.words
    c.requires.lies (c.wake_at.ensures.engine ∙ taken_whole _ _ _ _ _ c.take_into.ensures.taken c.if-took-eq0.false)
    (c.take_into.ensures.affected c.if-took-eq0.false) c.wake_at.ensures.set c.wake_at.ensures.others
