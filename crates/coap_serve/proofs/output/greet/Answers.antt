use Rattle.std.proofs.Common.{[]}
use Rattle.std.proofs.lemmas.List.{append-nil}
use Rattle.coap_server_engine.proofs.scripting.FollowLemmas.{followed_then}
use Rattle.coap_serve.proofs.output.greet.Goals as goal

-- The end of a turn adds no call.
pub returns-clause-ok : goal.returns-clause-ok
returns-clause-ok g c = record {
  flushed = c.in-Ok.ensures.ok.flushed;
  reports = rw append-nil at (followed_then _ _ _ _ [] c.in-Ok.ensures.ok.reports c.turn_ended.ensures.follows);
}
