use Rattle.std.proofs.Common.{refl, sym, arith, ◌∙◌}
use Rattle.std.proofs.lemmas.Bool.{ltb-false}
use Rattle.coap_server_engine.specs.Prelude.{IsMarked, IsMarkedBut, settled_pending, unmarked}
use Rattle.coap_server_session.specs.declared.cause.Cause.TheVariants as cause
use Rattle.coap_server_engine.proofs.values.ServerLemmas.{splits_written, written_unmarked, set_unmarked, unmarked_at}
use Rattle.coap_server_engine.proofs.values.ServerLemmas.{all_written}
use Rattle.coap_server_session.proofs.values.CauseLemmas.{but_none}
use Rattle.coap_server_engine.proofs.values.ConcernedLemmas.{others_untouched, all_settle, covered_changed_by}
use Rattle.coap_server_engine.proofs.values.ConcernedLemmas.{covered_one_marked, nothing_pending}
use Rattle.coap_server_session.proofs.values.ConcernLemmas.{pending_adds}
use Rattle.coap_server_engine.proofs.server.sessions.settle_after.Goals as goal

pub note-is_busy-requires : goal.note-is_busy-requires
note-is_busy-requires c = c.requires.covered.many

pub settle_if_pending-requires : goal.settle_if_pending-requires
settle_if_pending-requires c = rw c.index_mut.ensures.value at c.requires.own

pub returns-then-is_busy : goal.returns-then-is_busy
returns-then-is_busy c =
    let shared = c.args.shared.now in
    let es = c.args.sessions.now.entries in
    let e = c.settle_if_pending.ensures in
    let after = written_unmarked (settled_pending shared) es c.args.at _ _ c.index_mut.ensures.value e.after in
    rw c.in-None.is (record {
      splits = splits_written es c.args.at c.index_mut.result.now _ c.index_mut.ensures.value e.split;
      after = after;
      marked = all_written (IsMarked shared) es c.args.at _ (rw c.in-None.is at c.requires.marked) e.marked;
      affected = record { kept = λ i outside. outside; covers = tt };
      covered =
          covered_changed_by _ c.args.at (settled_pending shared) _ _ (pending_adds shared) after
          (c.note-is_busy.ensures.covered _ (unmarked_at es c.args.at _ c.index.ensures) c.requires.covered);
    })

pub returns-else-is_busy : goal.returns-else-is_busy
returns-else-is_busy c =
    let shared = c.args.shared.now in
    let es = c.args.sessions.now.entries in
    let there = unmarked_at es c.args.at _ c.index.ensures in
    rw c.in-None.is (record {
      splits = refl;
      after = sym (nothing_pending shared (unmarked es) c.args.at _ there
          (omega (arith, ltb-false _ _ (sym c.note-is_busy.ensures.busy ∙ c.if-is_busy.false))));
      marked = rw c.in-None.is at c.requires.marked;
      affected = record { kept = λ i outside. outside; covers = tt };
      covered = c.note-is_busy.ensures.covered _ there c.requires.covered;
    })

pub settle-requires : goal.settle-requires
settle-requires c = rw c.index_mut-in-Some.ensures.value at c.requires.own

pub settle_observers-requires : goal.settle_observers-requires
settle_observers-requires c =
    let shared = c.args.shared.now in
    let es = c.args.sessions.now.entries in
    let why = cause.Path _ in
    let now = c.settle.new.self in
    let e = c.settle.ensures in
    let others = others_untouched shared c.args.at _ _ _ _
    (unmarked_at es c.args.at _ c.index_mut-in-Some.ensures.value) e.after (rw c.in-Some.is at c.requires.others) in
    record {
      covered =
          covered_one_marked _ shared _ es _ now c.index_mut-in-Some.ensures.value e.after
          (c.note-is_busy.ensures.covered _ (unmarked_at es c.args.at _ c.index.ensures) c.requires.covered);
      settled = rw (set_unmarked es _ now now.session refl) others;
      marked =
          all_written (IsMarkedBut why shared) es _ now (rw c.in-Some.is at c.requires.marked)
          (but_none why shared now e.marked);
    }

pub returns-in-Some : goal.returns-in-Some
returns-in-Some c =
    let es = c.args.sessions.now.entries in
    let now = c.settle.new.self in
    let e = c.settle_observers.ensures in
    let covered = c.note-is_busy.ensures.covered _ (unmarked_at es _ _ c.index.ensures) c.requires.covered in
    let all = all_settle c.args.shared.now _ c.in-Some.hash _ _ _
    (unmarked_at es _ _ c.index_mut-in-Some.ensures.value) c.settle.ensures.after in
    rw c.in-Some.is (record {
      affected = record {
        kept = λ i outside. (c.join.ensures.outside i outside).0;
        covers = λ i s at outside. covered.paths c.in-Some.hash _ c.of_path.ensures i s at
            (c.join.ensures.outside i outside).1;
      };
      splits =
          e.splits ∙ splits_written es c.args.at _ now c.index_mut-in-Some.ensures.value
          c.settle.ensures.split;
      after = rw (e.after, set_unmarked es c.args.at now now.session refl) all;
      marked = e.marked;
      covered = e.covered;
    })

pub of_path-requires : goal.of_path-requires
of_path-requires c =
    (c.note-is_busy.ensures.covered _ (unmarked_at _ c.args.at _ c.index.ensures) c.requires.covered).many
