use Rattle.std.proofs.Common.{◌≡◌, ◌≤◌, Some, length, sym, ap, ◌∙◌, arith}
use Rattle.std.proofs.lemmas.List.{length-map}
use Rattle.coap_server_session.specs.Prelude.{IsTagged, next_index, observer_value}
use Rattle.coap_server_session.proofs.values.ChainLemmas.{IsMarkedFrom, mark_first, mark_next, all_marked, same_path}
use Rattle.coap_server_session.proofs.values.MarkLemmas.{unsent_is_changed}
use Rattle.coap_server_session.proofs.values.TagLemmas.{all_at}
use Rattle.coap_server_session.proofs.observers.mark_chain.Goals.{After-set_mark, After-index}
use Rattle.coap_server_session.proofs.observers.mark_chain.Goals.{After-set_mark-in-Some-at}
use Rattle.coap_server_session.proofs.observers.mark_chain.Goals as goal

pub returns-in_default-clause-marks : goal.returns-in_default-clause-marks
returns-in_default-clause-marks c =
    all_marked (mark_first (sym c.in_default.is ∙ c.last.ensures) c.requires.chained c.requires.tagged
    c.requires.flagged)

-- The loop begins with the last observer of the chain, and no mark is recomputed yet.
from_last : (c : After-set_mark) → IsMarkedFrom (Some c.in-Some.last) c.args.cause c.args.shared.now
    c.args.observers.now.items c.args.observers.now.items c.args.marked.now
from_last c = mark_first (sym c.in-Some.is ∙ c.last.ensures) c.requires.chained c.requires.tagged c.requires.flagged

pub loop-at-init : goal.loop-at-init
loop-at-init c =
    let e = c.set_mark.ensures in
    let x = c.index-known.result.now in
    let mark_is = rw c.present-present.ensures at c.unsent_by-changed.ensures in
    let next = mark_next x c.requires.chained (from_last (goal.at.loop-at-init c).After-set_mark) c.from-last.ensures
    c.index-known.ensures (mark_is ∙ sym (unsent_is_changed c.args.shared.now (observer_value x))) c.previous-at.ensures
    e.entries e.linked e.tagged c.from-last.ensures e.marks e.flagged in
    (next.1, e.capacity)

-- The marks of the observers after this one are recomputed.
so_far : (c : After-index) → IsMarkedFrom (Some c.in-Some-at.index) c.args.cause c.args.shared.now
    c.args.observers.now.items c.loop-at.observers.items c.loop-at.marked
so_far c = rw c.in-Some-at.is at c.loop-at.invariant.0

as_many : (c : After-index) → length c.loop-at.observers.items ≡ length c.args.observers.now.items
as_many c =
    omega (
      arith,
      length-map c.loop-at.observers.items observer_value,
      ap length (so_far c).entries,
      length-map c.args.observers.now.items observer_value,
    )

pub changed_by-changed-requires-clause-tagged : goal.changed_by-changed-requires-clause-tagged
changed_by-changed-requires-clause-tagged c =
    let at = (goal.at.changed_by-changed-requires-clause-tagged c).After-index in
    let all = so_far at in
    all_at IsTagged c.loop-at.observers.items c.from.result c.index-observer.result.now all.tagged
    (omega (arith, all.within, c.from.ensures, as_many at)) c.index-observer.ensures

pub changed_by-changed-requires-clause-present : goal.changed_by-changed-requires-clause-present
changed_by-changed-requires-clause-present c =
    let at = goal.at.changed_by-changed-requires-clause-present c in
    let here = (from_last at.After-set_mark).within in
    let same = same_path _ _ (sym (so_far at.After-index).entries) (omega (arith, here, c.from-last.ensures))
    (omega (arith, here, c.from-last.ensures, as_many at.After-index)) c.index-known.ensures c.index.ensures in
    rw (← same) c.present-present.ensures

-- One iteration recomputes one more mark.
one_more : (c : After-set_mark-in-Some-at) → (next_index c.previous-at-in-Some-at.result ≤ c.in-Some-at.index)
    × IsMarkedFrom c.previous-at-in-Some-at.result c.args.cause c.args.shared.now c.args.observers.now.items
    c.set_mark-in-Some-at.new.observers.items c.set_mark-in-Some-at.new.marked
one_more c =
    let e = c.set_mark-in-Some-at.ensures in
    mark_next c.index-observer.result.now c.requires.chained (rw c.in-Some-at.is at c.loop-at.invariant.0)
    c.from.ensures c.index-observer.ensures c.changed_by-changed.ensures c.previous-at-in-Some-at.ensures e.entries
    e.linked e.tagged c.from-in-Some-at.ensures e.marks e.flagged

pub loop-at-preserved : goal.loop-at-preserved
loop-at-preserved c = (
  (one_more (goal.at.loop-at-preserved c).After-set_mark-in-Some-at).1,
  c.set_mark-in-Some-at.ensures.capacity ∙ c.loop-at.invariant.1,
)

pub loop-at-smaller : goal.loop-at-smaller
loop-at-smaller c =
    rw c.in-Some-at.is (omega (arith, (one_more (goal.at.loop-at-smaller c).After-set_mark-in-Some-at).0))

pub returns-clause-marks : goal.returns-clause-marks
returns-clause-marks c = all_marked (rw c.in_default-at.is at c.loop-at.invariant.0)
