use Rattle.std.proofs.Common.{◌≡◌, ◌≤◌, ◌-◌, length}
use Rattle.coap_server_engine.specs.Prelude.{Covers, unmarked, earliest_deadline}
use Rattle.coap_server_session.specs.Prelude.{sooner}
use Rattle.coap_server_session.specs.declared.cause.Cause.TheVariants as cause
use Rattle.coap_server_engine.proofs.values.WorkLemmas.{earliest_from}
use Rattle.coap_server_engine.proofs.server.sessions.earliest_deadline.Given as goal

-- The earliest of the deadlines so far, and of those from the index on, is that of all.
abbrev pub invariant-loop-at : goal.invariant-loop-at
invariant-loop-at l =
    let es = unmarked l.sessions.entries in
    (l.at ≤ length l.sessions.entries) × (Covers (cause.Moment l.now) l.set.words es)
    × (sooner l.due (earliest_from l.now es l.at) ≡ earliest_deadline l.now es)

abbrev pub decreases-loop-at : goal.decreases-loop-at
decreases-loop-at l = length l.sessions.entries - l.at
