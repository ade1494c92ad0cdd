use Rattle.std.proofs.Common.{◌∙◌}
use Rattle.program_server_common.proofs.HeaderLemmas.{number_is_text}
use Rattle.program_server_common.proofs.header.append_number.Goals as goal

pub returns-clause-printable : goal.returns-clause-printable
returns-clause-printable c =
    number_is_text c.append.result c.args.text.now.items c.append.new.text.items c.args.words.now
    c.as_slice.result.now c.args.number
    c.ranges.number.fits (c.as_slice.ensures.value ∙ c.decimal_digits-digits.ensures) c.append.ensures
