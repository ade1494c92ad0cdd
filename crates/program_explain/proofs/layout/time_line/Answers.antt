use Rattle.std.proofs.Common.{append_assoc}
use Rattle.coap_print.proofs.LineLaws.{appended_then}
use Rattle.program_explain.proofs.layout.time_line.Goals as goal

pub returns-then-has_date : goal.returns-then-has_date
returns-then-has_date c =
    let date = c.append_time.ensures in
    rw (← c.has_date.ensures, c.if-has_date.true) (
      date.0,
      rw c.from_secs.ensures at date.1,
      rw (
        c.text-then-has_date-2.ensures,
        date.2,
        c.text-then-has_date.ensures,
        c.number.ensures,
        c.text.ensures,
        c.new-line.ensures,
      ) (simp (appended_then, append_assoc)),
    )

pub returns-else-has_date : goal.returns-else-has_date
returns-else-has_date c =
    rw (← c.has_date.ensures, c.if-has_date.false, c.number.ensures, c.text.ensures, c.new-line.ensures)
    (simp appended_then)
