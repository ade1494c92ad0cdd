use Rattle.std.proofs.Common.{codes, decimal}
use Rattle.program_server_common.specs.RecordHeaders.{options_text}
use Rattle.program_server_common.proofs.HeaderLemmas.{rows_joined}
use Rattle.program_server_common.proofs.header.numbers.Goals as goal

pub returns-clause-text : goal.returns-clause-text
unfolding options_text
returns-clause-text c =
    let config = c.args.config.now in
    let starts = c.starts-starts.result in
    rw (
      c.dynamic_max.ensures.value,
      c.max_message.ensures.value,
      c.max_sent.ensures.value,
      c.queue.ensures.value,
      c.pending.ensures.value,
      c.observers.ensures.value,
      c.connections.ensures.value,
      c.limits-limits.ensures,
      ← c.starts-starts.ensures.value,
    )
    (rows_joined (codes "-d ") (decimal config.dynamic_max) (codes " --max-message ")
    (decimal config.limits.max_message) (codes " --max-sent ") (decimal config.limits.max_sent) (codes " --queue ")
    (decimal config.limits.queue) (codes " --pending ") (decimal config.limits.pending) (codes " --observers ")
    (decimal config.limits.observers) (codes " --connections ") (decimal config.connections) (codes " --starts ")
    (decimal starts.moment) (codes ",") (decimal starts.versions) (codes ",")
    (decimal starts.ids))
