use Rattle.std.proofs.Common.{take, ap, arith, refl, sym}
use Rattle.coap_server_engine.specs.Prelude.{WasRefused, WasTaken}
use Rattle.coap_server_engine.proofs.values.ResponseLemmas.{token_made}
use Rattle.coap_server_engine.proofs.values.ServingLemmas.{taken_stays, taken_requested, taken_silent}
use Rattle.coap_server_engine.proofs.scripting.ReplayLemmas.{not_taken_within}
use Rattle.coap_server_engine.proofs.values.WorkLemmas.{adds_offered}
use Rattle.coap_server_engine.proofs.server.Server.take_for.Goals as goal

-- Fewer bytes than those of the slice were accepted.
pub slice_bounds-took-end-in-Err-Memory : goal.slice_bounds-took-end-in-Err-Memory
slice_bounds-took-end-in-Err-Memory g c =
    let e = rw (c.in-Err-Memory.field-0-is) at c.in-Err-Memory.ensures in
    let within = not_taken_within _ _ _ _ _ e.refused in
    omega (arith, within.0, within.1)

-- The monitor receives what the take returned.
pub accepted-requires : goal.accepted-requires
accepted-requires g c =
    let t = c.in-Ok.ensures in
    WasTaken _ c.args.received.bytes.now t.ok
    (ap (λ n. take n c.args.received.bytes.now) t.count) t.handled

pub accepted-requires-in-Err-Memory : goal.accepted-requires-in-Err-Memory
accepted-requires-in-Err-Memory g c =
    let e = rw (c.in-Err-Memory.field-0-is) at c.in-Err-Memory.ensures in
    WasRefused _ c.args.received.bytes.now _ e.refused refl refl

-- The application was asked.
pub returns-in-Some-clause-ok : goal.returns-in-Some-clause-ok
returns-in-Some-clause-ok g c =
    let e = c.in-Ok.ensures in
    let made = token_made _ _ (sym (rw c.in-Some.is at e.token)) in
    let given = rw c.deref.ensures.value at c.give_at_once.ensures in
    taken_requested _ (g.M.Monitor.follows c.accepted.new.self)
    _ (g.A.Application.follows c.args.application.now)
    _ e.ok e.shows c.accepted.ensures e.requested made.0
    c.in-Some.token.items made.1 made.2 given.after given.shows given.reported

-- The application was not asked, or there is no request.
pub returns-in_default-clause-ok : goal.returns-in_default-clause-ok
returns-in_default-clause-ok g c =
    let e = c.in-Ok.ensures in
    taken_silent (g.M.Monitor.follows c.args.monitor.now) (g.M.Monitor.follows c.accepted.new.self)
    (g.M.Monitor.follows c.accepted.new.self) (g.A.Application.follows c.args.application.now)
    (g.A.Application.follows c.take_and_ask.new.application) e.ok e.shows c.accepted.ensures e.requested
    (rw c.in_default.is at e.unrequested)

pub give_at_once-requires : goal.give_at_once-requires
give_at_once-requires g c = rw c.in-Ok.ensures.ok (taken_stays _ _ _ _ c.requires.lies)

pub returns-in_default-clause-lies : goal.returns-in_default-clause-lies
returns-in_default-clause-lies g c = rw c.in-Ok.ensures.ok (taken_stays _ _ _ _ c.requires.lies)

pub returns-in-Some-clause-affected : goal.returns-in-Some-clause-affected
returns-in-Some-clause-affected g c =
    rw (c.give_at_once.ensures.after, c.in-Ok.ensures.ok)
    (adds_offered _ _ _ _ _ _ _ c.requires.lies c.in-Ok.ensures.affected)

pub returns-in_default-clause-affected : goal.returns-in_default-clause-affected
returns-in_default-clause-affected g c = rw c.in-Ok.ensures.ok c.in-Ok.ensures.affected
