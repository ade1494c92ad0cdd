use Rattle.std.proofs.Common.{Some, sym, ap, ◌∙◌}
use Rattle.coap_serve.specs.Prelude.{interest_in}
use Rattle.coap_serve.proofs.listener.SleepLemmas.{lies_there}
use Rattle.coap_serve.proofs.door.next_ready.interest_at.Goals as goal

pub work_at-requires : goal.work_at-requires
work_at-requires g c = lies_there c.requires.paired _ (sym c.in-Some.ensures.entry)

pub returns : goal.returns
returns g c = rw (
  ← c.in-Some.ensures.entry,
  c.work_at.ensures,
) (c.interest_by.ensures ∙ ap (interest_in (Some _)) c.is_empty.ensures)
