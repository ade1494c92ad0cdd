use Rattle.std.proofs.Common.{◌≡◌, arith}
use Rattle.coap_store.specs.Prelude.{answer_of}
use Rattle.coap_store.proofs.AnswerLaws.{placed_of}
use Rattle.coap_store.proofs.AnswerLemmas.{answer_removes, answer_leaves}
use Rattle.coap_store.proofs.store.Store.fill_plan.Goals as goal

pub returns-then-removes_watch-clause-index : goal.returns-then-removes_watch-clause-index
returns-then-removes_watch-clause-index c =
    let is : c.set_watch.new.self ≡ answer_of c.args.self.now c.args.now c.args.request.now =
    grind (arith, answer_removes) in
    rw is (placed_of _ _ _ c.check-index.result (rw c.by-parsed.ensures at c.check-index.ensures.index))

pub returns-else-removes_watch-clause-index : goal.returns-else-removes_watch-clause-index
returns-else-removes_watch-clause-index c =
    let is : c.check-index.new.plan ≡ answer_of c.args.self.now c.args.now c.args.request.now =
    grind (arith, answer_leaves) in
    rw is (placed_of _ _ _ c.check-index.result (rw c.by-parsed.ensures at c.check-index.ensures.index))
