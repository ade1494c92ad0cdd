use Rattle.std.proofs.Common.{◌≡◌, ◌∙◌, ap, refl, subst}
use Rattle.coap_io.proofs.streams.DeviceLemmas.{no_calls}
use Rattle.coap_serve.specs.Prelude.{MaySleep, peer_status, set_value_at}
use Rattle.coap_serve.proofs.listener.EntryLemmas.{set_there}
use Rattle.coap_serve.proofs.listener.RoundLemmas.{one_open, one_over}
use Rattle.coap_serve.proofs.listener.ServingLemmas.{both_made, dropped_served, made_called, swept_called}
use Rattle.coap_serve.proofs.listener.SleepLemmas.{asleep_beside, lies_there, looked_at, looked_sleeps, paired_written}
use Rattle.coap_serve.proofs.listener.ConfigLemmas.{keeps_room, served_same}
use Rattle.coap_serve.proofs.door.service.Service.serve_next.Goals as goal

pub serve_peer-requires : goal.serve_peer-requires
serve_peer-requires g c = record {
  lies = lies_there c.args.self.now.paired _ c.pair_mut-peer.ensures.value;
  room = c.args.self.now.room;
}

pub drop_at-wire-requires-clause-reason : goal.drop_at-wire-requires-clause-reason
drop_at-wire-requires-clause-reason g c =
    rw (set_there _ _ c.serve_peer.new.peer _ _ c.pair_mut-peer.ensures.value)
    (rw c.in-Over.is at c.in_ok-served.ensures.reason)

pub returns-in-Over-clause-part : goal.returns-in-Over-clause-part
returns-in-Over-clause-part g c =
    one_over _ c.pair_mut-peer.ensures.value c.requires.ready (made_called (no_calls _) c.in_ok-served.ensures.part)
    c.in-Over.is
    c.drop_at-wire.ensures.peers (swept_called c.closed.ensures
    (rw (set_there _ _ c.serve_peer.new.peer _ _ c.pair_mut-peer.ensures.value) at c.drop_at-wire.ensures.dropped))

pub returns-in-Over-clause-shows : goal.returns-in-Over-clause-shows
returns-in-Over-clause-shows g c =
    both_made (made_called (no_calls _) c.serve_peer.ensures.shows) (dropped_served (_, c.serve_peer.new.peer)
    (swept_called c.closed.ensures
    (rw (set_there _ _ c.serve_peer.new.peer _ _ c.pair_mut-peer.ensures.value) at c.drop_at-wire.ensures.dropped)))

pub returns-in-Open-clause-shows : goal.returns-in-Open-clause-shows
returns-in-Open-clause-shows g c = made_called (no_calls _) c.serve_peer.ensures.shows

pub returns-in-Open-clause-part : goal.returns-in-Open-clause-part
returns-in-Open-clause-part g c =
    one_open _ c.pair_mut-peer.ensures.value c.requires.ready (made_called (no_calls _) c.in_ok-served.ensures.part)
    c.in-Open.is

pub returns-in-Open-clause-asleep : goal.returns-in-Open-clause-asleep
returns-in-Open-clause-asleep g c =
    let es = c.args.self.now.peers.entries in
    let p = c.serve_peer.new.peer in
    let readable = g.W.Ready.readable in
    let writable = g.W.Ready.writable in
    let there = c.pair_mut-peer.ensures.value in
    let now = set_there es c.args.at p _ _ there in
    let looked = looked_at readable writable c.serve_peer.new.server (set_value_at es c.args.at p) c.args.at
    (rw now c.in_ok-served.ensures.interest) c.index-peer.ensures c.is_ready-is_ready.ensures in
    let entry : looked.0 ≡ (_, p) = cc (looked.1, now) in
    asleep_beside c.in_ok-served.served.affected.words c.args.at _ _ p c.in_ok-served.ensures.kept
    c.args.self.now.paired there refl
    (λ i apart outside. c.join.ensures i (c.record_look.ensures.asleep i apart outside))
    (λ outside. subst (λ e. MaySleep (peer_status readable writable c.serve_peer.new.server e)) entry
    (looked_sleeps c.record_look.new.self c.args.at (peer_status readable writable c.serve_peer.new.server looked.0) _
    looked.3 (rw looked.2 at c.record_look.ensures.awake) outside)) c.requires.asleep

-- Allocation failed.
pub returns-in_err-served-clause-shows : goal.returns-in_err-served-clause-shows
returns-in_err-served-clause-shows g c = made_called (no_calls _) c.serve_peer.ensures.shows

pub invariant_of-self : goal.invariant_of-self
invariant_of-self g c = record {
  paired = paired_written c.args.self.now.paired _ _ c.serve_peer.ensures.keys refl;
  room = keeps_room (served_same c.serve_peer.ensures.shows) c.serve_peer.ensures.capacity c.args.self.now.room;
  asleep = λ ready. absurd (cc (ready, c.requires.spent));
}

pub invariant_of-self-in-Over-clause-room : goal.invariant_of-self-in-Over-clause-room
invariant_of-self-in-Over-clause-room g c =
    let dropped = rw (set_there _ _ c.serve_peer.new.peer _ _ c.pair_mut-peer.ensures.value) at
    c.drop_at-wire.ensures.dropped in
    keeps_room (ap (λ v. v.config) dropped.server ∙ served_same c.serve_peer.ensures.shows)
    c.serve_peer.ensures.capacity c.args.self.now.room

pub invariant_of-self-in-Open-clause-room : goal.invariant_of-self-in-Open-clause-room
invariant_of-self-in-Open-clause-room g c =
    keeps_room (served_same c.serve_peer.ensures.shows) c.serve_peer.ensures.capacity c.args.self.now.room
