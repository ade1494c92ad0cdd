use Rattle.coap_server_engine.specs.Prelude.{server_value}
use Rattle.coap_server_engine.proofs.values.WorkLemmas.{put_keeps, removed_keeps}
use Rattle.coap_server_engine.proofs.server.Server.concerned_by.Goals as goal

pub of_path-requires : goal.of_path-requires
of_path-requires c = c.self.invariant.covered.many

pub returns : goal.returns
returns c =
    let set = c.of_path.result.now in
    let covers = c.self.invariant.covered.paths _ set c.of_path.ensures in
    let v = server_value c.self.inside in
    rw (← c.self.view_is) (record {
      put =
          put_keeps v set.words _ c.hash_of.result c.hash_of.ensures
          c.self.invariant.server.settled covers;
      removed =
          removed_keeps v set.words _ c.hash_of.result c.hash_of.ensures
          c.self.invariant.server.settled covers;
    })
