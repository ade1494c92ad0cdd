use Rattle.std.proofs.Common.{◌≡◌, sym}
use Rattle.std.proofs.lemmas.Bool.{eqb-true}
use Rattle.coap_server_engine.proofs.values.ServerLemmas.{lies_at_key}
use Rattle.coap_server_engine.proofs.server.sessions.is_at.Goals as goal

pub returns-in-Some : goal.returns-in-Some
returns-in-Some c same =
    let key = eqb-true _ _ same in
    let there = rw (c.as_slice.ensures.entries, key) at (sym c.in-Some.ensures.entry) in
    lies_at_key c.args.id _ c.in-Some.field-0-1.now _ c.as_slice.ensures.unique there
