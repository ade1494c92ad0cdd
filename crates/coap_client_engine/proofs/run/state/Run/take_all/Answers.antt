use Rattle.std.proofs.Common.{sym, ap, ◌∙◌, length, ℕ, arith, refl}
use Rattle.std.proofs.lemmas.Bool.{or_parts}
use Rattle.std.proofs.lemmas.List.{length-drop, nil_from_length}
use Rattle.coap_client_engine.proofs.RunLemmas.{on, leads, taken_up, took, takes_one, asked}
use Rattle.coap_client_engine.proofs.run.state.Run.take_all.Goals as goal

pub loop-init : goal.loop-init
loop-init g c = record {
  out = c.requires.out_works;
  err = c.requires.err_works;
  runs = λ start now trace is_at goes ready. (on trace (grind arith), omega arith);
}

pub returns-then-not-may_take-clause-runs : goal.returns-then-not-may_take-clause-runs
returns-then-not-may_take-clause-runs g c = λ start now trace is_at goes ready.
    leads _ (c.loop.invariant.runs start now trace is_at goes ready).0 refl
    (λ d at ends is. let up = taken_up at (grind arith) in grind arith)

pub returns-clause-runs : goal.returns-clause-runs
returns-clause-runs g c = λ start now trace is_at goes ready.
    let so_far = c.loop.invariant.runs start now trace is_at goes ready in
    let none = nil_from_length c.loop.self.rest (omega (arith, so_far.1, ap length c.bytes-end.ensures)) in
    leads _ so_far.0 refl (λ d at ends is. grind arith)

pub returns-in-Some-clause-runs : goal.returns-in-Some-clause-runs
returns-in-Some-clause-runs g c = λ start now trace is_at goes ready.
    let take = c.in_ok-status.ensures in
    let led = (c.loop.invariant.runs start now trace is_at goes ready).0 in
    leads _ (took led.is_at led.ends (sym c.may_take.ensures ∙ c.if-not-may_take.false) (assumption))
    (sym take.next ∙ c.in-Some.is) (λ d at ends is. grind arith)

pub returns-in-Some-2-clause-runs : goal.returns-in-Some-2-clause-runs
returns-in-Some-2-clause-runs g c = λ start now trace is_at goes ready.
    let take = c.in_ok-status.ensures in
    let ask = c.in_ok-status-2.ensures in
    let led = (c.loop.invariant.runs start now trace is_at goes ready).0 in
    let on = leads _ (took led.is_at {r' = c.take.new.self} {o = g.O.Outlet.written c.take.new.out}
    {e = g.E.Outlet.written c.take.new.err} led.ends (sym c.may_take.ensures ∙ c.if-not-may_take.false) (assumption))
    (sym take.next ∙ c.in_default.is) (λ d at ends is. is) in
    leads _ (asked on.is_at on.ends (on.holds.1 ∙ led.holds.looked) (assumption)) (sym ask.next ∙ c.in-Some-2.is)
    (λ d at ends is. grind arith)

pub loop-preserved : goal.loop-preserved
loop-preserved g c = record {
  out = (or_parts _ _ c.in_ok-status.ensures.output).0;
  err = c.in_ok-status-2.ensures.output;
  runs = λ start now trace is_at goes ready.
      let take = c.in_ok-status.ensures in
      let ask = c.in_ok-status-2.ensures in
      let so_far = c.loop.invariant.runs start now trace is_at goes ready in
      let may = sym c.may_take.ensures ∙ c.if-not-may_take.false in
      let some = takes_one so_far.0.is_at may in
      let on = leads _ (took so_far.0.is_at {r' = c.take.new.self} {o = g.O.Outlet.written c.take.new.out}
      {e = g.E.Outlet.written c.take.new.err} so_far.0.ends may (assumption)) (sym take.next ∙ c.in_default.is)
      (λ d at ends is. is) in (
        leads _ (asked on.is_at on.ends (on.holds.1 ∙ so_far.0.holds.looked) (assumption))
            (sym ask.next ∙ c.in_default-2.is) (λ d at ends is. grind arith),
        omega (arith, so_far.1, length-drop {A = ℕ}, ap length take.rest, ap length ask.kept.0),
      );
}
