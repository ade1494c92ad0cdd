use Rattle.std.proofs.Common.{◌∙◌, sym}
use Rattle.std.proofs.lemmas.Bool.{or_left, or_right}
use Rattle.coap_serve.specs.Prelude.{status_with}
use Rattle.coap_serve.proofs.listener.SleepLemmas.{an_answer, can_go_on_so}
use Rattle.coap_serve.proofs.door.peer.Peer.is_ready.Goals as goal
use Rattle.coap_serve.proofs.door.peer.Peer.is_ready.Goals.{then-interest, else-interest}

pub returns-then-can_read : goal.returns-then-can_read
returns-then-can_read g c =
    let far = status_with g.W.Ready.readable g.W.Ready.writable c.args.self.now.wire _ in
    let requested = an_answer far.interest.read far.readable in
    elim c.if-interest.branch [
      | then-interest w ↦ can_go_on_so far requested.0 requested.1 (or_left _ _ w.if-interest.true) c.if-can_read.true
      | else-interest w ↦
          can_go_on_so far w.can_read.result w.can_read.ensures
          (or_right _ _ (sym w.value-is ∙ c.if-can_read.true)) c.if-can_read.true
    ]
