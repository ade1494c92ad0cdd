use Rattle.std.proofs.Common.{arith}
use Rattle.coap_client_engine.proofs.TakeLemmas.{frame_is_back}
use Rattle.coap_client_engine.proofs.client.take_in.Goals as goal
use Rattle.coap_client_engine.proofs.client.take_in.Goals.{in-Ok-None, in-Err, in-Ok-Some+in-Err-parse}
use Rattle.coap_client_engine.proofs.client.take_in.Goals.{in-Ok-Some+in-Ok}

pub returns-clause-reported : goal.returns-clause-reported
returns-clause-reported c =
    let framed = c.next_frame-framed.ensures.framed in
    elim c.match-laid_out.branch [
      | in-Ok-None w ↦ grind arith
      | in-Err w ↦ grind arith
      | in-Ok-Some+in-Err-parse w ↦ grind arith
      | in-Ok-Some+in-Ok w ↦
          let back = frame_is_back c.args.framer.now c.args.piece.now w.in-Ok-Some.frame.bytes.now c.requires.framer in
          grind arith
    ]
