use Rattle.std.proofs.Common.{rules}
use Rattle.coap_server_engine.proofs.world.RefusedLaws.{refused_for}
use Rattle.coap_model.specs.declared.answers.TakeFault.TheVariants as taking
use Rattle.coap_server_engine.proofs.server.Server.take.Goals as goal

pub returns-in_default-clause-refused_for : goal.returns-in_default-clause-refused_for
returns-in_default-clause-refused_for c =
    refused_for taking.NoSuch _ c.args.self.now _ c.args.piece.now (search rules)
