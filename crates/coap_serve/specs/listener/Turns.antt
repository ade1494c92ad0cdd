-- Defined by this project: how a turn of the event loop serves one connection, and the work that remains afterwards.
use Rattle.std.specs.Prelude.{ℕ, ◌≡◌, ◌≢◌, fold, Bool, true, false, not, List, [], ◌∷◌, ◌++◌, length, drop, Option}
use Rattle.std.specs.Prelude.{Some, None, IfSome, nat_lt, ◌==◌, ◌&&◌, ◌||◌, if◌then◌else◌}
use Rattle.coap_server_engine.specs.Prelude.{Reason, can_take_on, stop_on, AcceptedCall, Took, Wrote, Ended, in_result}
use Rattle.coap_server_engine.specs.Prelude.{took, IsReasonFor, waiting_at}
use Rattle.coap_server_engine.specs.values.Servers.{ServerValue, session_of, server_ended, server_written}
use Rattle.coap_server_session.specs.values.Deadlines.{sooner}
use Rattle.coap_server_engine.specs.values.Exchanges.{Answering, AnswersMore}
use Rattle.coap_server_engine.specs.values.ApplicationCalls.{IsServed as IsServedWith}
use Rattle.coap_server_engine.specs.values.ServerDeadlines.{work_of}
use Rattle.coap_serve.specs.listener.Histories.{History, calls_only, no_history}
use Rattle.coap_io.specs.streams.Wires.{MatchesTrace, WireTrace, IsReadOnce, IsWrittenOnce}
use Rattle.coap_server_engine.specs.declared.monitor.DropReason.TheVariants as drop
use Rattle.coap_serve.specs.declared.door.peer.PeerOutcome.{PeerOutcome}
use Rattle.coap_serve.specs.declared.door.peer.PeerOutcome.TheVariants.{Open, Over}
use Rattle.coap_serve.specs.declared.door.peer_interest.PeerInterest.{PeerInterest}
use Rattle.coap_serve.specs.declared.door.peer.Peer.{Peer}
use Rattle.coap_serve.specs.declared.door.silence.Activity.{Activity}
use Rattle.coap_io.specs.declared.wire.Wait.{Wait}
use Rattle.coap_io.specs.declared.wire.Wait.TheVariants.{No, Until, Forever}
use Rattle.coap_server_engine.specs.declared.server.ConnectionWork.{ConnectionWork}
use Rattle.coap_io.specs.declared.wire.Got.{Got}
use Rattle.coap_io.specs.declared.wire.Got.TheVariants.{Bytes, Later, End, Failed}
use Rattle.coap_io.specs.declared.read_buffer.TheConstants.{READ_SIZE}

-- A read is due: the wire may be read, no bytes are left from earlier reads, and the connection accepts bytes.
abbrev pub is_read_due : (may_read : Bool) → ServerValue → ℕ → List ℕ → Bool
is_read_due may_read v id rest = may_read && (length rest == 0) && can_take_on (session_of id v.sessions)

-- The bytes of which a write is offered some: all queued bytes if the wire may be written, otherwise none.
abbrev pub waiting_once : (may_write : Bool) → ℕ → ServerValue → List ℕ
waiting_once may_write id v = if may_write then waiting_at id v else []

-- The server after a read with this result. If the read found the end, the input of the connection has ended.
abbrev pub server_read : ServerValue → ℕ → Got → ServerValue
server_read v id End = server_ended v id
server_read v id received = v

-- The server after a write with this result. The bytes that were written are removed from the queue.
abbrev pub server_wrote : ServerValue → ℕ → Got → ServerValue
server_wrote v id (Bytes n) = server_written v id n
server_wrote v id wrote = v

-- The event of a read with this result: if the read found the end, the input has ended.
abbrev pub read_events : ℕ → Got → List AcceptedCall
read_events id End = Ended id ∷ []
read_events id received = []

-- The event of a write with this result, if it accepted bytes.
abbrev pub wrote_events : ℕ → Got → List AcceptedCall
wrote_events id (Bytes n) = Wrote id n ∷ []
wrote_events id wrote = []

-- The event of a take of bytes of which the connection accepts none. Without bytes, there is no take.
abbrev pub refused_events : ℕ → List ℕ → List AcceptedCall
refused_events id [] = []
refused_events id (b ∷ bytes) = Took id [] ∷ []

-- The bytes that are kept of those left: none if the connection processes no further message, otherwise all.
abbrev pub kept_unless : Option Reason → List ℕ → List ℕ
kept_unless None rest = rest
kept_unless (Some why) rest = []

-- The bytes that are kept after the connection accepted the first `count` of these, and the server is `taken`.
abbrev pub kept_rest : (taken : ServerValue) → ℕ → (count : ℕ) → List ℕ → List ℕ
kept_rest taken id count rest = kept_unless (stop_on (session_of id taken.sessions)) (drop count rest)

-- Nothing more will be written on a connection with this work left, or there is no connection.
abbrev pub is_over_in : Option ConnectionWork → Bool
is_over_in None = true
is_over_in (Some o) = o.finished

-- ---- the times of a connection

-- A call that transfers bytes on a connection.
abbrev pub moves : AcceptedCall → Bool
moves (Took id bytes) = nat_lt 0 (length bytes)
moves (Wrote id n) = nat_lt 0 n
moves call = false

-- `true` if one of these calls transferred bytes.
abbrev pub have_moved : List AcceptedCall → Bool
have_moved [] = false
have_moved (e ∷ es) = moves e || have_moved es

-- `true` if a write with this result accepted bytes.
abbrev pub has_written : Got → Bool
has_written (Bytes n) = nat_lt 0 n
has_written wrote = false

-- The times of a connection that is opened.
abbrev pub new_activity : (second : ℕ) → Activity
new_activity second = record { opened = second; moved = second; released = None }

-- The times of a connection after bytes were transferred at the time `second`, if they were.
abbrev pub activity_after : (second : ℕ) → (moved : Bool) → Activity → Activity
activity_after second moved a = if moved then record a { moved = second } else a

-- ---- serving one connection

-- The result of passing received bytes to a connection: the server, the number of bytes that it accepted, and the
-- history.
pub record TakeResult (W : Type 0) : Type 0 where
  pub server : ServerValue
  pub count : ℕ
  pub history : History W

-- The effect of received bytes on a connection: the server before, the number of the connection, the bytes, and the
-- result.
abbrev pub Taking : Type 0 → Type 1
Taking W = ServerValue → ℕ → List ℕ → TakeResult W → Type 0

-- The connection accepts all that it accepts of the bytes, and no application responds.
abbrev pub IsTakenAlone : {W : Type 0} → Taking W
IsTakenAlone v id bytes r =
    (r.server ≡ (in_result v id bytes).server) × (r.count ≡ (in_result v id bytes).count)
    × (r.history ≡ calls_only (took v id bytes))

-- The connection accepts all that it accepts of the bytes. An application with these statements is shown the requests
-- that it answers, and responds to some of them at once.
abbrev pub IsTakenWith : {A W : Type 0} → (follows : A → Answering) → Taking W
IsTakenWith {A} follows v id bytes r =
    (r.history.calls ≡ [])
    × IsServedWith v id bytes r.count r.server (λ all. r.history.events ≡ all)
    (λ all. (r.history.exchanges ≡ all) × (one other : A) × AnswersMore (follows one) (follows other) all)

abbrev pub has_failed : Got → Bool
has_failed Failed = true
has_failed got = false

-- The outcome for a connection, by the result of its write and by whether nothing more will be written.
abbrev pub peer_outcome : (wrote : Got) (is_over : Bool) → PeerOutcome
peer_outcome wrote is_over = if has_failed wrote then Over drop.Failed else
    (if is_over then Over drop.Finished else Open)

-- The outcome is right for a connection with this work left. If the connection is dropped, it may be for this reason.
abbrev pub IsOutcomeFor : PeerOutcome → Option ConnectionWork → Type 0
IsOutcomeFor Open work = Unit {0}
IsOutcomeFor (Over why) work = IfSome work (IsReasonFor why)

-- The bytes to be processed, and the trace of the wire. If a read is due, the wire was read once and gave these bytes.
-- Otherwise they are left from earlier reads, and the wire was not touched.
abbrev pub IsLaidOut : (is_due : Bool) → List ℕ → WireTrace → Got → List ℕ → WireTrace → Type 0
IsLaidOut true rest wire received bytes after = IsReadOnce READ_SIZE wire after received bytes
IsLaidOut false rest wire received bytes after = (received ≡ Later) × (bytes ≡ rest) × (after ≡ wire)

-- The connection did with these bytes what `Takes` states, with this result, and these bytes are kept.
pub record IsTakenInPart {W : Type 0} (Takes : Taking W) (v : ServerValue) (id : ℕ) (bytes left : List ℕ)
    (r : TakeResult W) : Type 0 where
  pub took : Takes v id bytes r
  pub rest : left ≡ kept_rest r.server id r.count bytes
  pub moved : have_moved r.history.events ≡ nat_lt 0 r.count

-- If the bytes offered to a wire are not empty, the wire was written once. Otherwise it was not touched.
pub record IsOffered (bytes : List ℕ) (wire : WireTrace) (wrote : Got) (after : WireTrace) : Type 0 where
  pub idle : bytes ≡ [] → (wrote ≡ Later) × (after ≡ wire)
  pub busy : bytes ≢ [] → IsWrittenOnce bytes wire after wrote

-- The readiness of a wire: it may be read, and it may be written.
pub record Readiness : Type 0 where
  pub read : Bool
  pub write : Bool

abbrev pub readiness : (may_read may_write : Bool) → Readiness
readiness may_read may_write = record { read = may_read; write = may_write }

-- The state that a visit of a connection may change: the server, the bytes left from reads of the wire, and its trace.
pub record VisitState : Type 0 where
  pub server : ServerValue
  pub rest : List ℕ
  pub wire : WireTrace

abbrev pub visit_state : ServerValue → List ℕ → WireTrace → VisitState
visit_state v rest wire = record { server = v; rest = rest; wire = wire }

-- The result of a visit.
pub record VisitResult (W : Type 0) : Type 0 where
  pub outcome : PeerOutcome
  pub history : History W

-- The connection did with its bytes what `Takes` states. Then its queued bytes were offered to one write, if the wire
-- may be written. The event of the write follows those of the takes.
pub record IsTakenAndWritten {W : Type 0} (Takes : Taking W) (may_write : Bool) (id : ℕ) (before after : VisitState)
    (r : VisitResult W) : Type 0 where
  pub taken : TakeResult W
  pub took : Takes before.server id before.rest taken
  pub rest : after.rest ≡ kept_rest taken.server id taken.count before.rest
  pub wrote : Got
  pub offered : IsOffered (waiting_once may_write id taken.server) before.wire wrote after.wire
  pub server : after.server ≡ server_wrote taken.server id wrote
  pub outcome : r.outcome ≡ peer_outcome wrote (is_over_in (work_of after.server id))
  pub history : r.history ≡ record (taken.history) { events = taken.history.events ++ wrote_events id wrote }

-- The steps that follow a read. If the read failed, there is none, and the connection has failed.
abbrev pub IsCarriedOn : {W : Type 0} (failed : Bool) (Steps : VisitState → VisitState → VisitResult W → Type 0)
    → VisitState → VisitState → VisitResult W → Type 0
IsCarriedOn true Steps before after r =
    (after.server ≡ before.server) × (after.wire ≡ before.wire)
    × (r ≡ record { outcome = Over drop.Failed; history = no_history })
IsCarriedOn false Steps before after r = Steps before after r

-- One connection was served: a read if one is due, then processing, then a write if bytes are queued. A failed read
-- ends this. The wire was read and written at no other time. The events are those of the read, of the takes and of the
-- write, in this order.
pub record IsServedOnceBy {W : Type 0} (Takes : Taking W) (ready : Readiness) (id : ℕ) (before after : VisitState)
    (r : VisitResult W) : Type 0 where
  pub received : Got
  pub bytes : List ℕ
  pub between : WireTrace
  pub laid : IsLaidOut (is_read_due ready.read before.server id before.rest) before.rest before.wire received bytes
      between
  pub later : History W
  pub carried : IsCarriedOn (has_failed received) (IsTakenAndWritten Takes ready.write id)
      (visit_state (server_read before.server id received) bytes between) after (record r { history = later })
  pub history : r.history ≡ record later { events = read_events id received ++ later.events }

-- One connection was served, and no application responds. The type of the listener's wires does not matter.
abbrev pub IsServedOnce : (ready : Readiness) (id : ℕ) (before after : VisitState) (outcome : PeerOutcome)
    (events : List AcceptedCall) → Type 0
IsServedOnce ready id before after outcome events =
    IsServedOnceBy {W = Unit {0}} IsTakenAlone ready id before after
    (record { outcome = outcome; history = calls_only events })

-- To serve the connection has no effect, whatever its wire does: the wire is neither read nor written. There is an
-- outcome. Every outcome leaves the server, the bytes left from its reads and the trace of its wire unchanged, and the
-- connection open. The only event is a take that accepts none of the bytes left, if there are some.
pub record IsNoOp (ready : Readiness) (v : ServerValue) (id : ℕ) (rest : List ℕ) : Type 0 where
  pub unread : is_read_due ready.read v id rest ≡ false
  pub unwritten : waiting_once ready.write id v ≡ []
  pub there_is_one : (wire : WireTrace)
      → IsServedOnce ready id (visit_state v rest wire) (visit_state v rest wire) Open (refused_events id rest)
  pub always : (wire : WireTrace) (after : VisitState) (outcome : PeerOutcome) (events : List AcceptedCall)
      → IsServedOnce ready id (visit_state v rest wire) after outcome events
      → (after ≡ visit_state v rest wire) × (outcome ≡ Open) × (events ≡ refused_events id rest)

-- ---- remaining work

-- The I/O interest of a connection with this work left. It states if the connection must be visited whatever its wire
-- does, and if the wire must be read and written. The first holds if bytes read before can be accepted or must be
-- discarded, or nothing more will be written. Without a connection it is empty.
abbrev pub interest_in : Option ConnectionWork → (is_empty : Bool) → PeerInterest
interest_in None is_empty = record { visit = false; read = false; write = false; due = None }
interest_in (Some o) is_empty = record {
  visit = (not is_empty && (o.takes || o.stopped)) || o.finished;
  read = is_empty && o.takes;
  write = o.waits;
  due = o.due;
}

-- The I/O interest of the connection with this number, for these bytes left from its reads.
abbrev pub interest_of : ServerValue → ℕ → List ℕ → PeerInterest
interest_of v id rest = interest_in (work_of v id) (length rest == 0)

-- Something in this I/O interest can be done at once.
abbrev pub can_go_on : PeerInterest → Readiness → Bool
can_go_on w ready = w.visit || (w.read && ready.read) || (w.write && ready.write)

-- The state that decides whether a connection can be served: its I/O interest and, if its wire records them, the wire's
-- `may_read` and `may_write`.
pub record PeerStatus : Type 0 where
  pub readable : Option Bool
  pub writable : Option Bool
  pub interest : PeerInterest

abbrev pub status_with : {W : Type 0} (readable writable : W → Option Bool) → W → PeerInterest → PeerStatus
status_with readable writable wire interest = record {
  readable = readable wire;
  writable = writable wire;
  interest =
      interest;
}

-- The status of a connection, with its present interest.
abbrev pub peer_status : {W : Type 0} (readable writable : W → Option Bool) → ServerValue → ℕ × Peer W → PeerStatus
peer_status readable writable v e = status_with readable writable e.1.wire (interest_of v e.0 e.1.rest)

-- `answer` is the readiness of a wire if that is wanted, and otherwise `false`.
abbrev pub IsReadiness : (wanted : Bool) (recorded : Option Bool) (answer : Bool) → Type 0
IsReadiness true recorded answer = MatchesTrace recorded answer
IsReadiness false recorded answer = answer ≡ false

-- `result` is `true` if something can be done at once. The connection must be visited, its wire must be read and may
-- be, or it must be written and may be.
pub record CanGoOn (e : PeerStatus) (result : Bool) : Type 0 where
  pub reads : Bool
  pub writes : Bool
  pub read : IsReadiness e.interest.read e.readable reads
  pub write : IsReadiness e.interest.write e.writable writes
  pub is : result ≡ e.interest.visit || reads || writes

-- `result` is `true` if something can be done at once on any of these connections.
abbrev pub CanAnyGoOn : List PeerStatus → Bool → Type 0
CanAnyGoOn [] result = result ≡ false
CanAnyGoOn (e ∷ es) result =
    (first others : Bool) × CanGoOn e first × CanAnyGoOn es others × (result ≡ (first || others))

-- The earliest of this time and of all times at which time alone may queue something on one of these connections.
abbrev pub least_with : Option ℕ → List PeerStatus → Option ℕ
least_with due all = fold (λ due e. sooner due e.interest.due) due all

abbrev pub wait_until : Option ℕ → Wait
wait_until None = Forever
wait_until (Some moment) = Until moment

-- The wait is zero if something must be done at once. Otherwise it ends at the earliest time at which time alone may
-- queue something, or never if there is none.
abbrev pub wait_for : (at_once : Bool) → List PeerStatus → Wait
wait_for at_once all = if at_once then No else wait_until (least_with None all)

-- The wait after a turn is zero if and only if a connection was opened or one can be served at once.
pub record IsWaitAfter (opens : Bool) (all : List PeerStatus) (wait : Wait) : Type 0 where
  pub ready : Bool
  pub can : CanAnyGoOn all ready
  pub is : wait ≡ wait_for (opens || ready) all
