use Rattle.std.proofs.Common.{refl, arith}
use Rattle.std.proofs.lemmas.Result.{err_from_is_err_and}
use Rattle.coap_serve.proofs.streams.RunLemmas.{run_begins, next_turn, run_ends_at_turn, faulted, out_of_turns}
use Rattle.coap_serve.proofs.streams.RunLemmas.{followed_stays}
use Rattle.coap_serve.proofs.serve_streams.run.Goals as goal

pub loop-init : goal.loop-init
loop-init g c = record {
  runs = λ first goes. run_begins goes;
  reader_works = c.requires.reader_works;
  writer_works = c.requires.writer_works;
  read = omega arith;
  messages = omega arith;
  room = refl;
}

pub take_turn-requires-clause-is_at : goal.take_turn-requires-clause-is_at
take_turn-requires-clause-is_at g c =
    let is_at = c.requires.is_at in
    (is_at.0, _, _, (c.loop.invariant.runs is_at.0 is_at.1).goes)

pub returns-in_err-turn-clause-run : goal.returns-in_err-turn-clause-run
returns-in_err-turn-clause-run g c = λ first goes.
    let p = err_from_is_err_and c.from_residual.result c.from_residual.ensures.1 in
    let so_far = c.loop.invariant.runs first goes in
    rw (p.1, p.2) (faulted so_far c.take_turn.new.server _ _ _ c.in_err-turn.field-0.0
    (omega (arith, c.loop-test.true, c.turns-end.ensures.value)) (c.in_err-turn.ensures.turn first _ _ so_far.goes))

pub returns-in-Some-clause-run : goal.returns-in-Some-clause-run
returns-in-Some-clause-run g c = λ first goes.
    let so_far = c.loop.invariant.runs first goes in
    run_ends_at_turn so_far _ _ _ _ _ (followed_stays _ _ _ c.turn_ended.ensures.follows)
    _ _ (omega (arith, c.loop-test.true, c.turns-end.ensures.value))
    (c.in_ok-turn.ensures.turn first _ _ so_far.goes) c.in-Some.is

pub loop-preserved : goal.loop-preserved
loop-preserved g c = record {
  runs = λ first goes.
      let so_far = c.loop.invariant.runs first goes in
      next_turn so_far _ _ _ _ _ (followed_stays _ _ _ c.turn_ended.ensures.follows)
      _ (c.in_ok-turn.ensures.turn first _ _ so_far.goes) c.in_default.is;
  reader_works = c.in_ok-turn.ensures.read;
  writer_works = c.in_ok-turn.ensures.write;
  read = omega (arith, c.in_ok-turn.ensures.few, c.loop.invariant.read);
  messages = omega (arith, c.in_ok-turn.ensures.few_messages, c.loop.invariant.messages);
  room = omega (arith, c.take_turn.auto.buffer, c.loop.invariant.room);
}

pub returns-clause-run : goal.returns-clause-run
returns-clause-run g c = λ first goes.
    out_of_turns (c.loop.invariant.runs first goes) (omega (arith, c.loop-test.false, c.turns-end.ensures.value))
