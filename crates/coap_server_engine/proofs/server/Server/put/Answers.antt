use Rattle.std.proofs.Common.{rules, Some, ap, refl, sym}
use Rattle.coap_server_engine.proofs.values.ServerLemmas.{settled_server}
use Rattle.coap_server_engine.proofs.world.ShowLaws.{put_shows}
use Rattle.coap_store.specs.Answer as store_change
use Rattle.coap_server_engine.proofs.server.Server.put.Goals as goal
use Rattle.coap_server_engine.proofs.values.ConcernedLemmas.{calm_after}

pub settle_observers-requires : goal.settle_observers-requires
settle_observers-requires c =
    let calm = calm_after _ _ (store_change.Put c.args.path.now c.args.format c.args.bytes.now)
    _ c.self.inside.sessions.entries (rw c.in_ok-version.ensures.ok refl)
    (ap Some (sym c.hash_of-hash.ensures)) c.self.invariant.server.settled c.self.invariant.marked in
    record { covered = c.self.invariant.covered; settled = calm.0; marked = calm.1 }

pub invariant_of-self-2 : goal.invariant_of-self-2
invariant_of-self-2 c =
    let was = c.self.invariant.server in
    record {
      server = settled_server _ _ c.settle_observers.ensures.after was.numbered was.few;
      marked = c.settle_observers.ensures.marked;
      covered = c.settle_observers.ensures.covered;
    }

pub returns-clause-shows : goal.returns-clause-shows
returns-clause-shows c =
    put_shows _ _ c.args.path.now _ c.args.bytes.now (search rules) (search rules)
