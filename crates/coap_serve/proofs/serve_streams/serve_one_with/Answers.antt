use Rattle.coap_serve.proofs.streams.RunLemmas.{goes_at_first, cut_at_first, greeted, not_begun}
use Rattle.coap_serve.proofs.serve_streams.serve_one_with.Goals as goal

pub returns-in_default-clause-reported : goal.returns-in_default-clause-reported
returns-in_default-clause-reported g c = not_begun _ _ _ _

pub returns-in_default-clause-run : goal.returns-in_default-clause-run
returns-in_default-clause-run g c = search (returns-in_default-clause-reported g c)

pub returns-in_default-open-clause-reported : goal.returns-in_default-open-clause-reported
returns-in_default-open-clause-reported g c = not_begun _ _ _ _

pub returns-in_default-open-clause-run : goal.returns-in_default-open-clause-run
returns-in_default-open-clause-run g c = search (returns-in_default-open-clause-reported g c)

pub returns-in_default-greet-clause-reported : goal.returns-in_default-greet-clause-reported
returns-in_default-greet-clause-reported g c =
    cut_at_first {new = c.in-Ok.server} (assumption (c.in-Ok.ensures, c.in-Ok-open.ensures)) _ _ c.opened.ensures _ _
    _ _ c.in_default-greet.ensures.part

pub returns-in_default-greet-clause-run : goal.returns-in_default-greet-clause-run
returns-in_default-greet-clause-run g c = search (returns-in_default-greet-clause-reported g c)

pub run-requires-clause-is_at : goal.run-requires-clause-is_at
run-requires-clause-is_at g c = (
  _,
  (goes_at_first {new = c.in-Ok.server} (assumption (c.in-Ok.ensures, c.in-Ok-open.ensures)) _ _ c.opened.ensures _ _
      c.in-Ok-greet.ensures.ok).0,
)

pub returns-clause-reported : goal.returns-clause-reported
returns-clause-reported g c =
    let first = goes_at_first {c = c.args.config.now} {new = c.in-Ok.server} (assumption (
      c.in-Ok.ensures,
      c.in-Ok-open.ensures,
    )) _ _ c.opened.ensures _ _ c.in-Ok-greet.ensures.ok in
    greeted _ _ _ _ _ _ _ _ first.1 (c.run.ensures.run _ first.0)

pub returns-clause-run : goal.returns-clause-run
returns-clause-run g c = search (returns-clause-reported g c)
