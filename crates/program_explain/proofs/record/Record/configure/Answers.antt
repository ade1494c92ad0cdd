use Rattle.std.proofs.Common.{sym}
use Rattle.program_explain.specs.Header.{values_of}
use Rattle.program_explain.proofs.StatedLemmas.{has_options, is_stated, never_refused}
use Rattle.program_explain.proofs.record.Record.configure.Goals as goal

pub returns-in-Err-Refused-clause-err : goal.returns-in-Err-Refused-clause-err
returns-in-Err-Refused-clause-err g c = (
  c.in-Some.options.now,
  sym (rw c.deref.ensures.value at c.in-Some.ensures),
  rw c.in-Err-Refused.field-0-is at c.in-Err-Refused.ensures,
)

pub returns-in_default-clause-stated : goal.returns-in_default-clause-stated
returns-in_default-clause-stated g c =
    λ config is none states.
    absurd (has_options config is _ states (sym (rw c.deref.ensures.value at c.in_default.ensures)))

pub returns-in-Err-Refused-clause-stated : goal.returns-in-Err-Refused-clause-stated
returns-in-Err-Refused-clause-stated g c =
    λ config is none states.
    absurd (never_refused config is _ states c.in-Some.options.now
    (sym (rw c.deref.ensures.value at c.in-Some.ensures))
    (rw c.in-Err-Refused.field-0-is at c.in-Err-Refused.ensures))

pub returns-clause-stated : goal.returns-clause-stated
returns-clause-stated g c =
    λ config is none states.
    is_stated config is _ states c.in-Some.options.now (values_of c.in-Ok.config) _
    (sym (rw c.deref.ensures.value at c.in-Some.ensures)) c.in-Ok.ensures c.in_ok-configure.ensures.server
