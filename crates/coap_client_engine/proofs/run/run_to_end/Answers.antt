use Rattle.std.proofs.Common.{None, refl, inl, inr, ◌∙◌, arith}
use Rattle.std.proofs.lemmas.Bool.{or_parts}
use Rattle.std.proofs.lemmas.List.{append-nil}
use Rattle.coap_client_engine.specs.Prelude.{Begins, Turns, records}
use Rattle.coap_client_engine.proofs.RunLemmas.{on, leads, turned, explained}
use Rattle.coap_client_engine.proofs.run.run_to_end.Goals as goal

pub loop-init : goal.loop-init
loop-init g c = record {
  out = c.requires.out_works;
  err = c.requires.err_works;
  runs = on (Begins c.now.result) (grind (arith, append-nil));
}

pub loop-preserved : goal.loop-preserved
loop-preserved g c =
    let led = c.loop.invariant.runs in
    let turn = turned led.is_at c.now-in-loop.result c.max.result (g.C.Clock.moments c.now-in-loop.new.self) led.ends
    (led.holds.between led.ends) c.max.ensures c.now-in-loop.ensures in
    let went = c.in_ok-status.ensures.runs _
    (records None None None (g.C.Clock.moments c.now-in-loop.new.self) None None)
    (Turns led.trace c.now-in-loop.result) turn led.ends tt in
    let works = or_parts _ _ c.in_ok-status.ensures.output in
    record {
      out = works.0;
      err = works.1;
      runs = leads _ went c.in_default-2.is (λ d at ends is. grind arith);
    }

pub returns-in-Some-clause-run : goal.returns-in-Some-clause-run
returns-in-Some-clause-run g c =
    let led = c.loop.invariant.runs in
    let turn = turned led.is_at c.now-in-loop.result c.max.result (g.C.Clock.moments c.now-in-loop.new.self) led.ends
    (led.holds.between led.ends) c.max.ensures c.now-in-loop.ensures in
    let went = c.in_ok-status.ensures.runs _
    (records None None None (g.C.Clock.moments c.now-in-loop.new.self) None None)
    (Turns led.trace c.now-in-loop.result) turn led.ends tt in
    explained went.is_at (omega (arith, went.holds.turns, led.holds.turns)) _
    (inl (went.ends ∙ c.in-Some.is, went.holds.written)) refl

pub returns-clause-run : goal.returns-clause-run
returns-clause-run g c =
    let led = c.loop.invariant.runs in
    explained led.is_at (omega (arith, led.holds.turns)) _
    (inr (led.ends, led.holds.between led.ends, omega (arith, led.holds.turns), refl)) refl
