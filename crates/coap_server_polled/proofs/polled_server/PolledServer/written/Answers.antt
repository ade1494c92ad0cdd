use Rattle.std.proofs.Common.{◌∙◌, refl, arith}
use Rattle.coap_server_engine.specs.Prelude.{session_written}
use Rattle.coap_server_polled.proofs.ReportLemmas.{keeps_engine, keeps_same, none_written, one_inserted}
use Rattle.coap_server_polled.proofs.polled_server.PolledServer.written.Goals as goal

pub returns-in_err-written-clause-output : goal.returns-in_err-written-clause-output
returns-in_err-written-clause-output c = keeps_engine c.args.self.now c.written.new.self c.in_err-written.ensures.err

pub returns-in_default-clause-output : goal.returns-in_default-clause-output
returns-in_default-clause-output c = keeps_same c.args.self.now _ refl

pub returns-then-count-eq0-clause-none : goal.returns-then-count-eq0-clause-none
returns-then-count-eq0-clause-none c none =
    none_written c.args.self.now _ c.args.id c.args.count none c.written.ensures.settled c.in_ok-written.ensures.ok refl

pub returns-then-count-eq0-clause-output : goal.returns-then-count-eq0-clause-output
returns-then-count-eq0-clause-output c =
    keeps_same c.args.self.now _ (none_written c.args.self.now _ c.args.id c.args.count c.if-count-eq0.true
    c.written.ensures.settled c.in_ok-written.ensures.ok refl)

pub returns-clause-output : goal.returns-clause-output
returns-clause-output c =
    one_inserted c.args.self.now _ c.args.id c.in-Some.at (λ s. session_written s c.args.count)
    c.written.ensures.settled c.in-Some.ensures.at (c.wake_at.ensures.engine ∙ c.in_ok-written.ensures.ok)
    c.wake_at.ensures.set c.wake_at.ensures.others

pub wake_at-requires : goal.wake_at-requires
wake_at-requires c =
    let e = c.connection_count.ensures in
    omega (arith, c.in-Some.ensures.at.within, e.count, e.few)
