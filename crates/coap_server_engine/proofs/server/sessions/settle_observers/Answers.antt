use Rattle.std.proofs.Common.{◌<◌, refl, ◌∙◌, arith, length}
use Rattle.std.proofs.lemmas.List.{length-set}
use Rattle.std.proofs.lemmas.Option.{slice_get_read}
use Rattle.std.specs.Vec.{with_item}
use Rattle.coap_server_engine.specs.Prelude.{Concerned, unmarked}
use Rattle.coap_server_engine.proofs.values.ConcernedLemmas.{covered_settled, covered_path}
use Rattle.coap_server_engine.proofs.server.sessions.settle_observers.Goals as goal

pub settle_touched-requires : goal.settle_touched-requires
settle_touched-requires c =
    let sets = c.args.sets.now in
    let set = c.index_mut.result.now in
    let within : c.from.result < length sets.paths.items = omega (arith, c.requires.covered.many, c.from.ensures) in
    record {
      covered =
          c.requires.covered.paths _ set (rw c.from.ensures at
          (slice_get_read sets.paths.items _ c.from.result set refl within c.index_mut.ensures.value));
      settled = c.requires.settled;
      marked = c.requires.marked;
    }

pub returns : goal.returns
returns c =
    let e = c.settle_touched.ensures in
    let sets = c.args.sets.now in
    let set = c.settle_touched.new.set in
    let es = unmarked _ in
    let now : Concerned = record { paths = with_item sets.paths c.from.result set; time = sets.time } in
    record {
      covered =
          covered_path sets now _ set es refl refl
          (length-set sets.paths.items c.from.result set ∙ c.requires.covered.many) (rw c.from.ensures e.covered)
          (covered_settled sets _ _ es e.after c.requires.covered);
      after = e.after;
      marked = e.marked;
      splits = e.splits;
    }
