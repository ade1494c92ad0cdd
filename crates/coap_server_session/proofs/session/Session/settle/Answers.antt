use Rattle.std.proofs.Common.{◌≡◌, ◌+◌, length, arith}
use Rattle.coap_server_session.specs.Prelude.{session_settled, session_settled_within}
use Rattle.coap_server_session.proofs.values.SettleLemmas.{settled_is_settled}
use Rattle.coap_server_session.proofs.session.Session.settle.Goals as goal

-- No entry is pending, and there is no observer.
pub returns-else-settle_bound-gt0-clause-settled : goal.returns-else-settle_bound-gt0-clause-settled
unfolding session_settled session_settled_within
returns-else-settle_bound-gt0-clause-settled c =
    let v = c.args.self.now.session in
    let none : length v.link.pending + length v.observers ≡ 0 =
    omega (arith, c.settle_bound.ensures, c.if-settle_bound-gt0.false) in
    rw none at (settled_is_settled c.args.shared.now v)
