use Rattle.std.proofs.Common.{◌+◌, arith}
use Rattle.coap_store.specs.Prelude.{IsStore, store_value, body_path}
use Rattle.coap_store.proofs.CatalogueLemmas.{put_by_index}
use Rattle.coap_store.proofs.StoreLemmas.{store_put}
use Rattle.coap_store.proofs.store.Store.replace.Goals as goal

-- The resources with the representation at the index are those with it at the path.
after : (c : goal.After-self-1) → IsStore (record (store_value c.self.inside) {
  resources = c.replace.new.self.resources;
  applications = c.replace.new.self.applications;
  versions = c.self.inside.versions + 1;
})
after c =
    let s = store_value c.self.inside in
    let path = body_path c.args._body.now in
    let at = rw (← c.self.view_is) at c.requires.index in
    rw (c.in_ok-replace.ensures.ok, put_by_index s.resources path c.args.index _ at)
    (grind (arith, store_put, c.in_range.result, c.self.invariant))

pub invariant_of-self-2 : goal.invariant_of-self-2
invariant_of-self-2 c = after c

pub returns-clause-store : goal.returns-clause-store
returns-clause-store c = after c
