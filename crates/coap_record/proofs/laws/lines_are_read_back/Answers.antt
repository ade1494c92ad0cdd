use Rattle.coap_record.proofs.LineLaws.{line_read_back, calls_said, comment_read_back}
use Rattle.coap_record.proofs.laws.lines_are_read_back.Goals as goal

pub returns : goal.returns
returns c = record { one = line_read_back; all = calls_said; comment = comment_read_back }
