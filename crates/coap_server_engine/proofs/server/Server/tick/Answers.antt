use Rattle.std.proofs.Common.{◌≡◌, refl, sym, ◌∙◌, arith, rules, map, ap}
use Rattle.coap_server_engine.specs.Prelude.{server_ticked, server_value, settled_entry, unmarked, AreAllMarked}
use Rattle.coap_server_engine.specs.Prelude.{ServerValue}
use Rattle.coap_model.proofs.OptionLemmas.{there_is_none}
use Rattle.coap_server_session.proofs.values.DueLemmas.{at_moment}
use Rattle.coap_server_engine.proofs.values.ServerLemmas.{settled_server, same_moment, Entries}
use Rattle.coap_server_engine.proofs.values.ConcernedLemmas.{calm_later, none_touched, covered_settled, covered_time}
use Rattle.coap_server_engine.proofs.world.ShowLaws.{tick_shows}
use Rattle.coap_server_engine.proofs.server.Server.tick.Goals.{Else-is_some}
use Rattle.coap_server_engine.proofs.server.Server.tick.Goals as goal

pub next_touched-requires : goal.next_touched-requires
next_touched-requires c = record { from = omega arith; covered = c.self.invariant.covered.time c.moment-before.result }

pub settle_touched-requires : goal.settle_touched-requires
settle_touched-requires c =
    let calm = calm_later _ _ c.self.invariant c.self.view_is c.moment-before.ensures.store
    c.moment-before.ensures.moment (omega arith) (omega arith) c.ranges.now.fits in
    rw (c.keep_moment.ensures, c.move_to.ensures)
    (record { covered = c.next_touched.ensures.covered; settled = calm.0; marked = calm.1 })

pub invariant_of-self : goal.invariant_of-self
invariant_of-self c =
    let was = c.self.invariant.server in
    record {
      server = settled_server _ _ c.settle_touched.ensures.after was.numbered was.few;
      marked = c.settle_touched.ensures.marked;
      covered =
          covered_time _ _ _ refl (λ _. c.settle_touched.ensures.covered)
          (covered_settled _ _ _ _ c.settle_touched.ensures.after c.self.invariant.covered);
    }

pub returns-then-is_some-clause-shows : goal.returns-then-is_some-clause-shows
returns-then-is_some-clause-shows c =
    tick_shows _ _ c.args.now c.ranges.now.fits (search rules) (search rules)

-- The change affects no connection, so all are settled as they are.
all_stay : (c : Else-is_some) → let es = c.self.inside.sessions.entries in
    (unmarked es ≡ map (settled_entry c.move_to.new.self) (unmarked es)) × AreAllMarked c.move_to.new.self es
all_stay c =
    let none = there_is_none _ (sym c.is_some.ensures ∙ c.if-is_some.false) in
    let calm = calm_later _ c.args.now c.self.invariant c.self.view_is c.moment-before.ensures.store
    c.moment-before.ensures.moment (omega arith) (omega arith) c.ranges.now.fits in
    rw c.move_to.ensures (none_touched _ (at_moment c.self.inside.shared c.args.now)
    _ calm.0 calm.1 (rw none at c.next_touched.ensures.none))

pub invariant_of-self-else-is_some : goal.invariant_of-self-else-is_some
invariant_of-self-else-is_some c =
    let was = c.self.invariant.server in
    let all = all_stay c in
    record {
      server = settled_server _ _ all.0 was.numbered was.few;
      marked = all.1;
      covered = covered_time _ _ _ refl (λ _. c.next_touched.ensures.covered) c.self.invariant.covered;
    }

pub returns-else-is_some : goal.returns-else-is_some
returns-else-is_some c =
    let moved : Entries → ServerValue =
    λ es. record (server_value c.self.inside) { shared = c.move_to.new.self; sessions = es } in
    let ok : moved (unmarked c.self.inside.sessions.entries) ≡ server_ticked c.args.self.now c.args.now =
    rw (← c.self.view_is) (ap moved (all_stay c).0 ∙ rw c.move_to.ensures) in
    search (rules, ok, tick_shows c.args.self.now _ c.args.now c.ranges.now.fits (search rules) ok)

pub returns-then-now-before : goal.returns-then-now-before
returns-then-now-before c =
    let before : c.moment-before.result ≡ c.self.inside.shared.now =
    rw (c.moment-before.ensures.moment, ← c.self.view_is) in
    let ok : c.args.self.now ≡ server_ticked c.args.self.now c.args.now =
    rw (← c.self.view_is) (same_moment _ c.args.now c.self.invariant.server (omega arith)) in
    search (rules, ok, tick_shows c.args.self.now _ c.args.now c.ranges.now.fits (search rules) ok)
