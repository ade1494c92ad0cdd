use Rattle.std.proofs.Common.{◌≡◌, ◌≤◌, ◌+◌, ℕ, List, false, length}
use Rattle.coap_serve.specs.Prelude.{ConfigValues, IsRunningAt, LiesAt, FollowsMore}
use Rattle.coap_serve.proofs.streams.TakeLemmas.{Serves}
use Rattle.coap_serve.proofs.serve_streams.serve_piece.Given as goal

abbrev pub invariant-loop-rest : goal.invariant-loop-rest
invariant-loop-rest g l =
    record {
      serves : (first : g.row.M.Denot) (c : ConfigValues) (bytes : List ℕ) → IsRunningAt c l.fn.server l.fn.id bytes
          (FollowsMore (g.M.Monitor.follows first) (g.M.Monitor.follows l.fn.monitor)) →
          Serves c l.fn.id bytes l.fn.piece l.server l.rest (g.W.Outlet.written l.fn.writer)
          (g.W.Outlet.written l.writer)
          (FollowsMore (g.M.Monitor.follows first) (g.M.Monitor.follows l.monitor)) l.messages;
      lies : LiesAt l.fn.id l.at l.server.sessions;
      works : g.W.Outlet.is_failed l.writer ≡ false;
      few : l.messages + length l.rest ≤ length l.fn.piece;
    }

abbrev pub decreases-loop-rest : goal.decreases-loop-rest
decreases-loop-rest g l = length l.rest
