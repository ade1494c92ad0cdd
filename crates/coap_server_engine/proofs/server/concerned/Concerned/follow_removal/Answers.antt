use Rattle.std.proofs.Common.{arith}
use Rattle.coap_server_engine.proofs.values.ConcernedLemmas.{covered_without_last}
use Rattle.coap_server_engine.proofs.server.concerned.Concerned.follow_removal.Goals as goal

pub fill-requires : goal.fill-requires
fill-requires c = c.requires.many

pub returns-then-at-count : goal.returns-then-at-count
returns-then-at-count c sessions many covered = c.fill.ensures _

pub returns-else-at-count : goal.returns-else-at-count
returns-else-at-count c sessions many = covered_without_last _ sessions _ _ (omega arith) many
