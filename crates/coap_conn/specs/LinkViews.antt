-- Defined by this project: the values of `Link` and `Verdict` in contracts.
use Rattle.std.specs.Prelude.{◌≡◌, ◌≤◌, map}
use Rattle.std.specs.Vec.{vec_capacity}
use Rattle.coap_conn.specs.LinkValue.{LinkValue, IsLink}
use Rattle.coap_conn.specs.PendingEntryViews.{pending_value}
use Rattle.coap_conn.specs.OutstandingViews.{outstanding_value}
use Rattle.coap_conn.specs.Verdicts.{VerdictValue}
use Rattle.coap_conn.specs.Verdicts as value
use Rattle.coap_conn.specs.declared.phase.Verdict.{Verdict}
use Rattle.coap_conn.specs.declared.phase.Verdict.TheVariants.{Opened, Done, Request, Answer, Pong, Stranger, Stopped}
use Rattle.coap_conn.specs.declared.link.Link.TheInside.{Inside}

-- The value of a `Link`.
abbrev pub link_value : Inside → LinkValue
link_value l =
    record {
      role = l.role;
      limits = l.limits;
      waiting = l.queue.waiting;
      phase = l.phase;
      own_max = l.own_max;
      peer_max = l.peer_max;
      peer_token = l.peer_token;
      pending = map pending_value l.pending.items;
      outstanding = map outstanding_value l.outstanding.items;
      tokens = l.tokens;
    }

-- The invariant of the fields of a `Link`. Memory is reserved for the queue, the pending entries and the outstanding
-- entries, as the limits say.
abbrev pub is_link : Inside → Type 0
is_link l =
    IsLink (link_value l) × (l.queue.bytes ≡ l.limits.queue) × (l.limits.pending ≤ vec_capacity l.pending)
    × (l.limits.outstanding ≤ vec_capacity l.outstanding)

-- The value of a `Verdict`, with the token as a list of bytes.
abbrev pub verdict_value : Verdict → VerdictValue
verdict_value Opened = value.Opened
verdict_value Done = value.Done
verdict_value Request = value.Request
verdict_value (Answer token last) = value.Answer token last
verdict_value (Pong token custody) = value.Pong token custody
verdict_value Stranger = value.Stranger
verdict_value (Stopped why) = value.Stopped why
