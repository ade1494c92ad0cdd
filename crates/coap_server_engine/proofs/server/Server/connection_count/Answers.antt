use Rattle.std.proofs.Common.{◌∙◌, sym, arith}
use Rattle.std.proofs.lemmas.List.{length-map}
use Rattle.coap_server_engine.specs.Prelude.{unmarked_entry}
use Rattle.coap_server_engine.proofs.server.Server.connection_count.Goals as goal

pub returns : goal.returns
returns c =
    let es = c.self.inside.sessions.entries in
    let server = c.self.invariant.server in
    rw (← c.self.view_is) (record {
      count = c.len.ensures.len ∙ sym (length-map es unmarked_entry);
      few = omega (
        arith,
        server.few,
        c.connections.ensures.value,
        c.connections.ensures.high,
        c.len.ensures.len,
        length-map es unmarked_entry,
      );
      settled = server.settled;
    })
