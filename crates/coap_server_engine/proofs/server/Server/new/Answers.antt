use Rattle.std.proofs.Common.{Ok, [], arith, rules}
use Rattle.coap_server_engine.proofs.world.ShowLaws.{new_shows}
use Rattle.coap_server_engine.proofs.server.Server.new.Goals as goal

pub invariant_of-result : goal.invariant_of-result
invariant_of-result c =
    rw c.in_ok-sessions.ensures.empty (record {
      server = record { settled = tt; numbered = tt; few = omega arith };
      marked = tt;
      covered = c.in_ok-sets.ensures [];
    })

pub returns-clause-shows : goal.returns-clause-shows
returns-clause-shows c =
    new_shows {F = Unit {0}} (Ok _) c.args.config (omega (arith, c.open.ensures.moment))
    (rw c.starts-starts.ensures.alone tt) (search rules)
