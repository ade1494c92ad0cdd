use Rattle.std.proofs.Common.{append_assoc}
use Rattle.coap_print.proofs.LineLaws.{appended_then}
use Rattle.coap_client_engine.proofs.cause_line.append_option.Goals as goal

pub returns : goal.returns
returns c =
    rw (
      c.text-4.ensures,
      c.append_name.ensures,
      c.option_name.ensures.name,
      c.number.ensures,
      c.from.ensures,
      c.text-3.ensures,
      c.text-2.ensures,
      c.fault_of_option.ensures.words,
      c.text.ensures,
    )
    (simp (appended_then, append_assoc))
