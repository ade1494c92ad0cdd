use Rattle.std.proofs.Common.{None, take, refl, sym, ap, ◌∙◌, arith}
use Rattle.coap_client_engine.specs.Prelude.{message_of, frame_back, ClientTakeOutcome, client_takes, received_event}
use Rattle.coap_client_engine.proofs.ClientShown.{took_takes, took_reported, took_shown}
use Rattle.coap_client_engine.proofs.TakingLemmas.{framed_count, completes_none, takes_none, takes_framed, took_is}
use Rattle.coap_client_engine.proofs.TakingLemmas.{took_client, took_frame}
use Rattle.coap_client_engine.proofs.client.Client.take.Goals as goal

pub returns-then-not-takes : goal.returns-then-not-takes
returns-then-not-takes c =
    let v = c.args.self.now in
    let p = c.args.piece.now in
    let none = takes_none c.self.inside v p c.self.invariant c.self.view_is (grind arith) in
    let count = ap (λ (t : ClientTakeOutcome). t.count) (sym none) in
    let event = ap (λ (t : ClientTakeOutcome). t.event) (sym none) in (
      (refl, (λ _. tt), c.self.view_is ∙ ap (λ (t : ClientTakeOutcome). t.client) (sym none)),
      record {
        writes_back = tt;
        count = count;
        within = omega arith;
        event = event;
        frame = rw (completes_none c.self.inside v p c.self.invariant c.self.view_is (grind arith)) tt;
        takes = took_takes v p 0 count;
        reported = λ tokens calls shows. took_reported v p 0 count tokens calls shows None event;
        shows = took_shown v p 0 count;
      },
    )

pub invariant_of-self-2 : goal.invariant_of-self-2
invariant_of-self-2 c =
    took_is c.self.inside c.args.self.now c.args.piece.now c.self.invariant c.self.view_is c.take_in-bytes.new.framer
    c.take_in-bytes.new.link c.take_in-bytes.ensures.framer c.take_in-bytes.ensures.link

pub returns : goal.returns
returns c =
    let v = c.args.self.now in
    let p = c.args.piece.now in
    let takes = ap client_takes (sym c.self.view_is) ∙ sym c.takes.ensures ∙ c.if-not-takes.false in
    let all = takes_framed c.self.inside v p c.self.invariant c.self.view_is takes in
    let taken = c.take_in-bytes.ensures in
    let count = taken.count ∙ framed_count c.self.inside.framer c.self.inside.link p
    ∙ ap (λ (t : ClientTakeOutcome). t.count) (sym all) in
    let event = ap (λ frame. received_event c.take_in-bytes.result.1 (message_of frame))
    (c.frame_of.ensures ∙ ap (λ spent. frame_back spent (take c.take_in-bytes.result.0 p)) c.split_frame.ensures)
    ∙ taken.reported ∙ ap (λ (t : ClientTakeOutcome). t.event) (sym all) in (
      (
        refl,
        (λ _. tt),
        took_client c.self.inside v p c.self.invariant c.self.view_is c.take_in-bytes.new.framer
            c.take_in-bytes.new.link taken.framer taken.link takes,
      ),
      record {
        writes_back = tt;
        count = count;
        within = taken.within;
        event = event;
        frame =
            took_frame c.self.inside v p c.self.invariant c.self.view_is c.take_in-bytes.new.framer
            c.take_in-bytes.new.link taken.framer taken.link _ c.take_in-bytes.result.0 takes taken.count
            (c.frame_of.ensures ∙ ap (λ spent. frame_back spent (take c.take_in-bytes.result.0 p))
            c.split_frame.ensures);
        takes = took_takes v p c.take_in-bytes.result.0 count;
        reported = λ tokens calls shows. took_reported v p c.take_in-bytes.result.0 count tokens calls shows _ event;
        shows = took_shown v p c.take_in-bytes.result.0 count;
      },
    )
