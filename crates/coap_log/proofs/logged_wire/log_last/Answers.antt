use Rattle.std.proofs.Common.{ap}
use Rattle.std.specs.Duration.{as_nanos}
use Rattle.coap_log.specs.Logs.{trace_of}
use Rattle.coap_log.proofs.logged_wire.log_last.Goals as goal

pub returns : goal.returns
returns g c = (
  as_nanos c.now-moment.result,
  trace_of g.L.LogWriter.offers g.L.LogWriter.accepted c.end.new.self,
  record { reported = c.end.ensures.reported; level = c.end.ensures.level; program = c.end.ensures.program },
  record {
    off = λ e. ap (trace_of g.L.LogWriter.offers g.L.LogWriter.accepted) (c.line.ensures.off e);
    on = c.line.ensures.on;
    level = c.line.ensures.level;
    program = c.line.ensures.program;
  },
)
