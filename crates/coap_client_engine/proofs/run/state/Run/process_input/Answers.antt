use Rattle.std.proofs.Common.{sym, ◌∙◌, refl, arith}
use Rattle.coap_client_engine.proofs.RunLemmas.{answers_on, asked, leads, watched_on}
use Rattle.coap_client_engine.proofs.run.state.Run.process_input.Goals as goal

pub returns-in-Some-clause-runs : goal.returns-in-Some-clause-runs
returns-in-Some-clause-runs g c = λ start now trace is_at goes looked.
    let ask = c.in_ok-status.ensures in
    leads _ (asked is_at goes looked (assumption)) (sym ask.next ∙ c.in-Some.is) (λ c at ends is. grind arith)

pub returns-in-Some-2-clause-runs : goal.returns-in-Some-2-clause-runs
returns-in-Some-2-clause-runs g c = λ start now trace is_at goes looked.
    let ask = c.in_ok-status.ensures in
    let led = leads _ (asked is_at {r' = c.send_request.new.self} {e = g.E.Outlet.written c.send_request.new.err} goes
    looked (assumption)) (sym ask.next ∙ c.in_default.is) (λ c at ends is. is) in
    let took = c.in_ok-status-2.ensures.runs start now led.trace led.is_at led.ends
    (record { looked = led.holds.looked; requested = led.holds.requested led.ends }) in
    leads _ took c.in-Some-2.is (λ c at ends is. grind arith)

pub returns-clause-runs : goal.returns-clause-runs
returns-clause-runs g c = λ start now trace is_at goes looked.
    let ask = c.in_ok-status.ensures in
    let led = leads _ (asked is_at {r' = c.send_request.new.self} {e = g.E.Outlet.written c.send_request.new.err} goes
    looked (assumption)) (sym ask.next ∙ c.in_default.is) (λ c at ends is. is) in
    let took = c.in_ok-status-2.ensures.runs start now led.trace led.is_at led.ends
    (record { looked = led.holds.looked; requested = led.holds.requested led.ends }) in
    let on = took.ends ∙ c.in_default-2.is in
    let watch = c.check_deadlines.ensures in
    answers_on _ c.check_deadlines.result watch.next watch.reported
    (λ reported. leads _ (watched_on took.is_at on took.holds.looked (took.holds.taken on) (took.holds.requested on)
    (assumption)) refl (λ c at ends is. grind arith))
