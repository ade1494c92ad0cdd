use Rattle.std.proofs.Common.{refl}
use Rattle.coap_server_engine.proofs.values.ServerLemmas.{written_back, unmarked_at}
use Rattle.coap_server_engine.proofs.server.Server.front.Goals as goal

pub invariant_of-self-2 : goal.invariant_of-self-2
invariant_of-self-2 c =
    rw (written_back _ _ _ _ c.index_mut.ensures.value c.front.follows.holds-at-none)
    (record { server = c.self.invariant.server; marked = c.self.invariant.marked; covered = c.self.invariant.covered })

pub returns : goal.returns
returns c = (
  (refl, (λ _. tt), rw (written_back _ _ _ _ c.index_mut.ensures.value c.front.follows.holds-at-none) c.self.view_is),
  record {
    unchanged = tt;
    front = rw (
      ← c.self.view_is,
      c.front.ensures.front,
      c.in_ok-at.ensures.some.found,
      unmarked_at _ _ _ c.index_mut.ensures.value,
    );
  },
)
