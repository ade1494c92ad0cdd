use Rattle.std.proofs.Common.{sym}
use Rattle.std.proofs.lemmas.Bool.{eqb-true, eqb-false}
use Rattle.coap_script.proofs.scripting.WordLemmas.{segments_of_some}
use Rattle.coap_script.proofs.scripts.words.segments_in.Goals as goal
use Rattle.std.proofs.lemmas.List.{nil_from_length}
use Rattle.coap_script.specs.Prelude.{segments_of}

pub returns-then-is_empty : goal.returns-then-is_empty
unfolding segments_of
returns-then-is_empty c =
    rw (c.new-segments.ensures.items, nil_from_length c.args.text.now (eqb-true _ 0 (sym c.if-is_empty.ensures)))

pub loop-segment-init : goal.loop-segment-init
loop-segment-init c =
    rw c.new-segments.ensures.items (sym (segments_of_some c.args.text.now (eqb-false _ 0 (sym c.if-is_empty.ensures))))
