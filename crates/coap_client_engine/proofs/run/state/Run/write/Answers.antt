use Rattle.coap_conn.proofs.NextPartLemmas.{few_written}
use Rattle.coap_io.proofs.streams.DeviceLemmas.{part_written}
use Rattle.coap_client_engine.specs.Prelude.{Bytes}
use Rattle.coap_client_engine.proofs.run.state.Run.write.Goals as goal

pub written-requires : goal.written-requires
written-requires g c =
    few_written c.args.self.now.client.link.waiting c.first_part-part.result.now c.in-Bytes.count
    (rw c.parts.ensures at c.first_part-part.ensures) c.in-Bytes.ensures.within.1

pub returns-in-Bytes-clause-wrote : goal.returns-in-Bytes-clause-wrote
returns-in-Bytes-clause-wrote g c =
    part_written c.args.self.now.client.link.waiting c.first_part-part.result.now (Bytes c.in-Bytes.count)
    (g.W.Wire.written c.args.wire.now) (g.W.Wire.written c.write.new.self)
    (rw c.parts.ensures at c.first_part-part.ensures).front c.in-Bytes.ensures.within c.in-Bytes.ensures.wrote
