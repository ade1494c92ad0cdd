use Rattle.std.proofs.Common.{◌≡◌, ◌*◌, ◌≤◌, false, length, []}
use Rattle.coap_serve.specs.Prelude.{IsRunningAt, FollowsMore}
use Rattle.coap_serve.proofs.streams.RunLemmas.{RunsOn}
use Rattle.coap_serve.proofs.serve_streams.run.Given as goal

abbrev pub invariant-loop : goal.invariant-loop
invariant-loop g l =
    record {
      runs : (first : g.row.M.Denot) → IsRunningAt l.fn.config l.fn.server l.fn.id []
          (FollowsMore (g.M.Monitor.follows first) (g.M.Monitor.follows l.fn.monitor)) →
          RunsOn l.fn.config l.fn.id l.counter l.read l.messages l.server (g.R.Source.trace l.fn.reader)
          (g.R.Source.trace l.reader) (g.W.Outlet.written l.fn.writer) (g.W.Outlet.written l.writer)
          (FollowsMore (g.M.Monitor.follows first) (g.M.Monitor.follows l.monitor));
      reader_works : g.R.Source.is_failed l.reader ≡ false;
      writer_works : g.W.Outlet.is_failed l.writer ≡ false;
      read : l.read ≤ 4096 * l.counter;
      messages : l.messages ≤ l.read;
      room : length l.buffer ≡ 4096;
    }
