use Rattle.std.proofs.Common.{◌++◌, ap, ◌∙◌, codes, decimal, string_bytes}
use Rattle.coap_script.specs.Prelude.{phase_text}
use Rattle.coap_script.proofs.scripting.LineLemmas.{four_counts}
use Rattle.coap_script.proofs.scripts.lines.status_line.Goals as goal

pub returns : goal.returns
returns c =
    let all =
    four_counts (codes "status " ++ decimal c.args.id ++ codes " " ++ phase_text c.args.phase)
    (string_bytes c.in_ok-line.line) (string_bytes c.append.new.line) (string_bytes c.append-2.new.line)
    (string_bytes c.append-3.new.line) (string_bytes c.append-4.new.line) (string_bytes c.push_str.new.self)
    (codes " kept ") (decimal c.args.counts.kept) (codes " waiting ") (decimal c.args.counts.waiting)
    (codes " pending ") (decimal c.args.counts.pending) (codes " observers ") (decimal c.args.counts.observers)
    (codes "\n")
    c.in_ok-line.ensures c.in_ok-append.ensures c.in_ok-append-2.ensures c.in_ok-append-3.ensures
    c.in_ok-append-4.ensures c.in_ok-push_str.ensures.bytes in
    ap (λ v. v.items) c.into_bytes.ensures.value ∙ all
