use Rattle.std.proofs.Common.{◌<◌, Some, arith, refl, sym, ap, ◌∙◌, length}
use Rattle.std.proofs.lemmas.List.{length-set}
use Rattle.std.proofs.lemmas.Option.{slice_get_read}
use Rattle.std.specs.Vec.{with_item}
use Rattle.coap_server_engine.specs.Prelude.{Concerned}
use Rattle.coap_server_engine.proofs.values.ConcernedLemmas.{noted, noted_one, noted_none, outside_inserted}
use Rattle.coap_server_engine.proofs.server.concerned.Concerned.note_busy.Goals as goal

pub returns-in-Some : goal.returns-in-Some
returns-in-Some c =
    let old = c.args.self.now in
    let v = c.args.session.now.session in
    let at = c.args.at in
    let before = c.index_mut.result.now in
    let after = c.insert-in-Some.new.self in
    let now : Concerned = record { paths = with_item old.paths _ after; time = c.insert.new.self } in
    let within : c.from.result < length old.paths.items = omega (arith, c.requires, c.from.ensures) in
    noted old now at v (length-set old.paths.items _ after ∙ c.requires)
    (outside_inserted old.time.words _ at c.insert.ensures.set c.insert.ensures.others)
    (noted_one old at v _ before after (slice_get_read old.paths.items _ _ before refl within c.index_mut.ensures.value)
    (sym c.in-Some.ensures ∙ ap Some (sym c.from.ensures))
    (outside_inserted before.words after.words at c.insert-in-Some.ensures.set c.insert-in-Some.ensures.others))

pub returns-in_default : goal.returns-in_default
returns-in_default c =
    let old = c.args.self.now in
    let v = c.args.session.now.session in
    let at = c.args.at in
    let now : Concerned = record { paths = old.paths; time = c.insert.new.self } in
    noted old now at v c.requires (outside_inserted old.time.words _ at c.insert.ensures.set c.insert.ensures.others)
    (noted_none old at v (sym c.in_default.ensures))
