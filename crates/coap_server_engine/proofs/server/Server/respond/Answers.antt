use Rattle.coap_server_engine.proofs.world.ShowLaws.{respond_shows}
use Rattle.coap_server_engine.proofs.server.Server.respond.Goals as goal

pub returns-clause-shows : goal.returns-clause-shows
returns-clause-shows c =
    let e = c.offer.ensures in
    respond_shows c.args.self.now _ _ _ c.args.response.now e.answer e.ok
