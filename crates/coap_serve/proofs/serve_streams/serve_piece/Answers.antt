use Rattle.std.proofs.Common.{◌≤◌, take, ap, refl, sym, ◌∙◌, arith}
use Rattle.std.proofs.lemmas.List.{length-drop}
use Rattle.coap_io.proofs.streams.WriteLemmas.{rest_of}
use Rattle.coap_server_engine.proofs.scripting.ReplayLemmas.{not_taken_within}
use Rattle.coap_serve.proofs.streams.TakeLemmas.{front_served, front_cut, front_some, session_going, handled_few}
use Rattle.coap_serve.proofs.streams.TakeLemmas.{serves_none, served_all, serves_more, serves_last, cut_off}
use Rattle.coap_serve.proofs.streams.TakeLemmas.{piece_refused, is_filled, is_used_up}
use Rattle.coap_serve.proofs.streams.RunLemmas.{not_there}
use Rattle.coap_serve.proofs.serve_streams.serve_piece.Given.{Over}
use Rattle.coap_serve.proofs.serve_streams.serve_piece.Goals as goal
use Rattle.coap_model.proofs.OptionLemmas.{there_is, there_is_none}
use Rattle.coap_serve.specs.Prelude.{WasRefused, WasTaken}

pub loop-rest-init : goal.loop-rest-init
loop-rest-init g c = record {
  serves = λ first k bytes goes. serves_none goes;
  lies = c.in-Some.ensures.at;
  works = c.requires.works;
  few = omega arith;
}

-- The connection exists.
pub unreachable-requires : goal.unreachable-requires
unreachable-requires g c = not_there _ _ c.requires.is_at.3 c.in_default.ensures.there

pub unreachable-requires-in-Err-NoSuch : goal.unreachable-requires-in-Err-NoSuch
unreachable-requires-in-Err-NoSuch g c =
    let goes = c.requires.is_at in
    let so_far = c.loop-rest.invariant.serves goes.0 goes.1 goes.2 goes.3 in
    let e = rw c.in-Err-NoSuch.field-0-is at c.in-Err-NoSuch.ensures in
    cc ((session_going _ _ so_far.goes).1, e.refused.0)

-- Fewer bytes than those of the slice were accepted.
pub slice_bounds-took-end : goal.slice_bounds-took-end
slice_bounds-took-end g c =
    let e = rw c.in-Err-Memory.field-0-is at c.in-Err-Memory.ensures in
    let within = not_taken_within _ _ _ _ _ e.refused in
    omega (arith, within.0, within.1)

-- The monitor receives what the take returned.
pub accepted-requires : goal.accepted-requires
accepted-requires g c =
    let e = rw (c.in-Err-Memory.field-0-is) at c.in-Err-Memory.ensures in
    WasRefused _ _ _ e.refused refl refl

pub accepted-requires-in-loop-rest : goal.accepted-requires-in-loop-rest
accepted-requires-in-loop-rest g c =
    let t = c.in-Ok.ensures in
    WasTaken _ _ t.ok (ap (λ n. take n c.loop-rest.rest.now) t.count) t.handled

pub returns-in-Err-Memory-clause-served : goal.returns-in-Err-Memory-clause-served
returns-in-Err-Memory-clause-served g c = λ first k bytes goes.
    let e = rw c.in-Err-Memory.field-0-is at c.in-Err-Memory.ensures in
    piece_refused _ _ (c.loop-rest.invariant.serves first k bytes goes) _ _ e.refused e.shows_refused c.accepted.ensures

pub returns-in_default-flush_at-clause-served : goal.returns-in_default-flush_at-clause-served
returns-in_default-flush_at-clause-served g c = λ first k bytes goes.
    let so_far = c.loop-rest.invariant.serves first k bytes goes in
    cut_off _ _ so_far _ _ (front_cut _ _ so_far.goes {t = c.in-Ok.taken} (assumption c.in-Ok.ensures) _
    c.accepted-in-loop-rest.ensures _ _ _ c.in_default-flush_at.ensures.part)

pub returns-then-is_some-clause-served : goal.returns-then-is_some-clause-served
returns-then-is_some-clause-served g c = λ first k bytes goes.
    let so_far = c.loop-rest.invariant.serves first k bytes goes in
    let stopped = there_is _ (sym c.if-is_some.ensures) in
    serves_last _ _ so_far _ _ (front_served _ _ so_far.goes (assumption c.in-Ok.ensures) _
    c.accepted-in-loop-rest.ensures _ c.handled-messages.ensures c.in-Ok-flush_at.ensures.ok)
    (sym c.in-Ok-flush_at.ensures.stop ∙ stopped.1)

-- A call of `take` accepts at least one byte.
some : (g : Over) (c : goal.After-rest-1 g) → 1 ≤ c.in-Ok.taken.bytes
some g c =
    let goes = c.requires.is_at in
    let so_far = c.loop-rest.invariant.serves goes.0 goes.1 goes.2 goes.3 in
    front_some _ _ so_far.goes {v1 = c.take_at.new.self} {t = c.in-Ok.taken} (assumption c.in-Ok.ensures) (is_filled _
    c.loop-rest-test.ensures)

pub loop-rest-smaller : goal.loop-rest-smaller
loop-rest-smaller g c = rw (rest_of _ _) (omega (
  arith,
  some g c,
  c.in-Ok.ensures.within,
  length-drop c.in-Ok.taken.bytes c.loop-rest.rest.now,
  is_filled _ c.loop-rest-test.ensures,
))

pub loop-rest-preserved : goal.loop-rest-preserved
loop-rest-preserved g c = record {
  serves = λ first k bytes goes.
      let so_far = c.loop-rest.invariant.serves first k bytes goes in
      rw (rest_of _ _) (serves_more _ _ so_far _ (front_served _ _ so_far.goes (assumption c.in-Ok.ensures) _
      c.accepted-in-loop-rest.ensures _ c.handled-messages.ensures c.in-Ok-flush_at.ensures.ok)
      (sym c.in-Ok-flush_at.ensures.stop ∙ there_is_none _ (sym c.if-is_some.ensures)));
  lies = c.in-Ok-flush_at.ensures.lies;
  works = c.in-Ok-flush_at.ensures.failure;
  few = rw (rest_of _ _) (omega (
    arith,
    some g c,
    c.in-Ok.ensures.within,
    length-drop c.in-Ok.taken.bytes c.loop-rest.rest.now,
    c.handled-messages.ensures,
    handled_few c.in-Ok.taken.handled,
    c.loop-rest.invariant.few,
  ));
}

pub returns-clause-served : goal.returns-clause-served
returns-clause-served g c = λ first k bytes goes.
    served_all _ _ (c.loop-rest.invariant.serves first k bytes goes) (is_used_up c.loop-rest-test.ensures)
