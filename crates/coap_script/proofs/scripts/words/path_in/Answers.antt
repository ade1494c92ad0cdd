use Rattle.std.proofs.Common.{◌∙◌, ap, rules}
use Rattle.coap_script.specs.Prelude.{cow_slice_items, segment_list, path_value, slash}
use Rattle.std.proofs.lemmas.Iterator.{YieldsList-from_slice, YieldsList-from_map_by}
use Rattle.std.proofs.lemmas.Iterator.Consumers.{map_from_collect}
use Rattle.std.proofs.lemmas.Result.{IfOk-at_ok}
use Rattle.coap_script.proofs.scripting.WordLemmas.{path_read}
use Rattle.coap_script.proofs.scripts.words.path_in.Goals as goal
use Rattle.std.proofs.lemmas.List.{nil_from_length}
use Rattle.std.proofs.lemmas.Bool.{ne_eqb}

pub returns-in_default : goal.returns-in_default
unfolding path_value
returns-in_default c = rw (nil_from_length c.args.word.now c.in_default.ensures.cases)

pub returns-then-first-ne47 : goal.returns-then-first-ne47
unfolding path_value
returns-then-first-ne47 c = rw (c.in-Some.ensures.cases.0, ne_eqb c.in-Some.first.now slash c.if-first-ne47.true)

pub returns : goal.returns
returns c =
    let collected =
    IfOk-at_ok _ c.in_ok-segments.was
    (map_from_collect c.collect.result c.collect.ensures.ran (YieldsList-from_map_by _ (λ r. r.now) cow_slice_items
    (YieldsList-from_slice c.in_ok-decoded.decoded.items cc) c.map.ensures.closure (λ x r q k. search rules))) in
    path_read c.args.word.now c.in-Some.text.now c.in-Some.first.now (segment_list c.deref-2.result.now)
    c.from_segments.result c.in-Some.ensures.cases.0 c.if-first-ne47.false
    (ap segment_list c.deref-2.ensures.value ∙ collected ∙ c.in_ok-decoded.ensures) c.from_segments.ensures
