use Rattle.std.proofs.Common.{List, ℕ, length, subst}
use Rattle.std.specs.Duration.{as_nanos}
use Rattle.coap_print.specs.declared.level.LogLevel.TheVariants.{Messages}
use Rattle.coap_log.specs.Logs.{trace_of}
use Rattle.coap_log.specs.Connections.{LogsBytes}
use Rattle.coap_log.proofs.logged_wire.pass.Goals as goal

pub returns : goal.returns
returns g c =
    let before = trace_of g.L.LogWriter.offers g.L.LogWriter.accepted c.args.log.now in
    let after = trace_of g.L.LogWriter.offers g.L.LogWriter.accepted c.log_messages.new.log in
    let nanos = as_nanos c.now.result in (
      nanos,
      subst (λ (f : List ℕ). LogsBytes (length c.args.bytes.now) (λ head. Messages) nanos f c.args.bytes.now
          c.args.tap.now c.log_messages.new.tap before after) c.connection_line.ensures c.log_messages.ensures,
    )
