use Rattle.std.proofs.Common.{ap, ◌∙◌}
use Rattle.coap_store.specs.Prelude.{not}
use Rattle.coap_store.proofs.RefusalLemmas.{remove_absent, remove_present}
use Rattle.coap_store.proofs.store.Store.remove.Goals as goal

pub returns-then-is_none-clause-answer : goal.returns-then-is_none-clause-answer
returns-then-is_none-clause-answer c =
    remove_absent c.args.self.now c.args.path.now c.find.result c.find.ensures.value
    (ap not (c.is_none.ensures ∙ ap not c.if-is_none.true))

pub returns-clause-answer : goal.returns-clause-answer
returns-clause-answer c =
    remove_present c.args.self.now c.args.path.now c.find.result c.is_kept.ensures.store c.find.ensures.value
    (ap not (c.is_none.ensures ∙ ap not c.if-is_none.false))
