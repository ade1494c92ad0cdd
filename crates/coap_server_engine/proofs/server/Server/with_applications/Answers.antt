use Rattle.std.proofs.Common.{◌≤◌, Ok, Some, arith, rules}
use Rattle.coap_server_engine.specs.Prelude.{config_with}
use Rattle.coap_server_engine.proofs.world.ShowLaws.{new_shows}
use Rattle.coap_server_engine.proofs.server.Server.with_applications.Goals as goal

pub returns-clause-shows : goal.returns-clause-shows
returns-clause-shows c =
    let small = (rw c.in_ok-alloc.ensures.value at c.in_ok-alloc.ensures.shows).moment in
    let least : 1 ≤ c.args.applications.deadline =
    omega (arith, c.deadline.ensures.value, c.deadline.ensures.positive) in
    new_shows {F = Unit {0}} (Ok _) (config_with c.args.config (Some c.args.applications))
    (omega arith) least (search rules)
