use Rattle.std.proofs.Common.{length}
use Rattle.std.specs.Duration.{as_nanos}
use Rattle.coap_log.specs.Logs.{trace_of}
use Rattle.coap_log.proofs.ConnectionLemmas.{Continues}
use Rattle.coap_log.proofs.connection.log_messages.Given as goal

abbrev pub invariant-loop-left : goal.invariant-loop-left
invariant-loop-left g l =
    record {
      continues : Continues (g.K.MessageLevels.level l.levels) (as_nanos l.fn.now) l.front l.fn.bytes l.fn.tap
          (trace_of g.W.LogWriter.offers g.W.LogWriter.accepted l.fn.log) l.left l.tap
          (trace_of g.W.LogWriter.offers g.W.LogWriter.accepted l.log);
    }

abbrev pub decreases-loop-left : goal.decreases-loop-left
decreases-loop-left g l = length l.left
