use Rattle.std.proofs.Common.{◌≡◌, ◌-◌}
use Rattle.coap_server_session.specs.Prelude.{session_settled, session_settled_within, IsMarked}
use Rattle.coap_server_session.proofs.session.Session.settle_each.Given as goal

-- The remaining iterations lead to the same value as all iterations from the start.
abbrev pub invariant-loop : goal.invariant-loop
invariant-loop l =
    (session_settled_within (l.end - l.counter) l.shared l.self.session ≡ session_settled l.shared l.fn.self.session)
    × (IsMarked l.shared l.self × (l.self.split ≡ l.fn.self.split))
