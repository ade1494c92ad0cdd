use Rattle.std.proofs.Common.{arith, refl}
use Rattle.coap_server_polled.proofs.ReportLemmas.{drop_keeps, keeps_same}
use Rattle.coap_server_polled.proofs.polled_server.PolledServer.drop_conn.Goals as goal

pub returns-in_default-clause-output : goal.returns-in_default-clause-output
returns-in_default-clause-output c = keeps_same c.args.self.now _ refl

pub follow_removal-requires : goal.follow_removal-requires
follow_removal-requires c =
    let e = c.connection_count-count.ensures in
    record { within = omega (arith, c.in-Some.ensures.at.within, e.count); few = e.few }

pub returns-clause-output : goal.returns-clause-output
returns-clause-output c =
    let e = c.connection_count-count.ensures in
    drop_keeps c.args.self.now _ c.args.id c.in-Some.at c.connection_count-count.result e.settled c.in-Some.ensures.at
    e.count e.few c.in-Ok.ensures.ok c.follow_removal.ensures.before c.follow_removal.ensures.later
