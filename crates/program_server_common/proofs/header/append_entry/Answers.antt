use Rattle.std.proofs.Common.{append_assoc, append-nil}
use Rattle.program_server_common.proofs.header.append_entry.Goals as goal

pub returns : goal.returns
returns c =
    rw (append_assoc c.args.quote.now c.args.entry.now c.args.quote.now)
    (rw (append-nil c.args.quote.now, c.as_bytes.ensures.value) at c.append.ensures)
