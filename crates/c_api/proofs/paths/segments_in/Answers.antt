use Rattle.std.proofs.Common.{sym}
use Rattle.std.proofs.lemmas.Bool.{eqb-true, eqb-false}
use Rattle.std.proofs.lemmas.List.{nil_from_length}
use Rattle.c_api.specs.PathTexts.{text_segments}
use Rattle.c_api.proofs.PathLemmas.{segments_some}
use Rattle.c_api.proofs.paths.segments_in.Goals as goal

pub returns-then-is_empty-clause-few : goal.returns-then-is_empty-clause-few
unfolding text_segments
returns-then-is_empty-clause-few c =
    rw (c.new-segments.ensures, nil_from_length c.args.text.now (eqb-true _ 0 (sym c.if-is_empty.ensures)))

pub loop-segment-init : goal.loop-segment-init
loop-segment-init c =
    rw c.new-segments.ensures (sym (segments_some c.args.text.now (eqb-false _ 0 (sym c.if-is_empty.ensures))))
