use Rattle.std.proofs.Common.{drop, ap, ◌∙◌}
use Rattle.coap_io.proofs.streams.ReadBufferLemmas.{rest_advanced}
use Rattle.coap_io.proofs.read_buffer.ReadBuffer.advance.Goals as goal

pub returns : goal.returns
returns c =
    let rest = c.self.inside in
    rest_advanced rest.buffer.items rest.from rest.to c.args.count (rw c.self.view_is c.requires)
    ∙ ap (drop c.args.count) c.self.view_is
