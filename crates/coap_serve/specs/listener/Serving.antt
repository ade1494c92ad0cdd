-- Defined by this project: one turn of the event loop, its history, and how each connection is served in it.
use Rattle.std.specs.Prelude.{ℕ, ◌≡◌, ◌⊎◌, ◌+◌, Bool, true, false, List, [], ◌∷◌, ◌++◌, map, take, drop, slice_get}
use Rattle.std.specs.Prelude.{Option, Some, None, is_none, is_some, nat_eq, if◌then◌else◌}
use Rattle.coap_server_engine.specs.Prelude.{insert_entry, AcceptedCall, Opened, Wrote, Ended, Answering}
use Rattle.coap_server_engine.specs.Prelude.{open_refusal}
use Rattle.coap_io.specs.streams.DeviceTraces.{Closed, DoorCall, Requested}
use Rattle.coap_io.specs.streams.Wires.{MatchesTrace, WireTrace, trace_by}
use Rattle.coap_io.specs.declared.wire.Got.{Got}
use Rattle.coap_io.specs.declared.wire.Wait.{Wait}
use Rattle.coap_server_engine.specs.values.ApplicationCalls.{IsPartlyServed, IsServed as IsServedWith}
use Rattle.coap_server_engine.specs.values.Servers.{ServerValue, server_opened, server_dropped, server_ended}
use Rattle.coap_server_engine.specs.values.Servers.{server_written}
use Rattle.coap_serve.specs.declared.door.peer.PeerOutcome.{PeerOutcome}
use Rattle.coap_serve.specs.declared.door.peer.PeerOutcome.TheVariants.{Open, Over}
use Rattle.coap_serve.specs.declared.door.peer.Peer.{Peer}
use Rattle.coap_serve.specs.listener.Histories.{AreSteps, HasAccepted, History, IsAccepted, door_only, history_then}
use Rattle.coap_serve.specs.listener.Histories.{no_history, one_call, one_drop}
use Rattle.coap_serve.specs.listener.Turns.{CanGoOn, IsServedOnceBy, IsTakenWith, IsWaitAfter, PeerStatus, Readiness}
use Rattle.coap_serve.specs.listener.Turns.{Taking, VisitResult, VisitState, activity_after, have_moved, new_activity}
use Rattle.coap_serve.specs.listener.Turns.{peer_status, visit_state}

-- ---- steps

-- Bytes were passed to a connection for an application, until none was left or accepted, or an allocation failed.
pub record AreTakenWith {W : Type 0} (v after : ServerValue) (h : History W) : Type 0 where
  pub id : ℕ
  pub bytes : List ℕ
  pub how : ((count : ℕ) × IsServedWith v id bytes count after (λ all. h.events ≡ all) (λ all. h.exchanges ≡ all))
      ⊎ IsPartlyServed v id bytes after (λ all. h.events ≡ all) (λ all. h.exchanges ≡ all)
  pub uncalled : h.calls ≡ []

-- A step of serving connections: a call that passes bytes, an end of input, a write, or the end of a connection.
pub data IsVisitStep {W : Type 0} (v : ServerValue) : ServerValue → History W → Type 0 where
  BytesTaken : (after : ServerValue) (h : History W) → AreTakenWith v after h → IsVisitStep v after h
  InputEnded : (id : ℕ) → IsVisitStep v (server_ended v id) (one_call (Ended id))
  BytesWritten : (id n : ℕ) → IsVisitStep v (server_written v id n) (one_call (Wrote id n))
  ConnectionDropped : (id : ℕ) (wire : W) → IsVisitStep v (server_dropped v id) (one_drop id wire)

-- Connections were served in these steps, and nothing else happened.
abbrev pub HasServed : {W : Type 0} (Known : History W → Type 0) (v after : ServerValue) → Type 0
HasServed Known v after = HasAccepted (AreSteps IsVisitStep v after) Known v after

-- The event that opens a connection with the next number for the wire that a listener returned, if it returned one.
abbrev pub opening_events : {W : Type 0} → ServerValue → (handed : Option W) → List AcceptedCall
opening_events v None = []
opening_events v (Some wire) = Opened (v.ids + 1) ∷ []

-- The server after that event.
abbrev pub opened_for : {W : Type 0} → ServerValue → (handed : Option W) → ServerValue
opened_for v None = v
opened_for v (Some wire) = server_opened v

-- The calls of a listener for an opening. If another connection may be opened, it is asked once for a wire and returns
-- one or none. Otherwise it is not called.
abbrev pub door_calls : {W : Type 0} → ServerValue → (handed : Option W) → List (DoorCall W)
door_calls v handed = if is_none (open_refusal v) then (Requested handed ∷ []) else []

-- The history of an opening.
abbrev pub opening : {W : Type 0} → ServerValue → (handed : Option W) → History W
opening v handed = record { events = opening_events v handed; exchanges = []; calls = door_calls v handed }

-- The steps of a turn that was made in full or in part. At most one connection was opened, and then connections were
-- served. Or an allocation failed for the wire that the listener returned, and the wire was given back.
pub data AreTurnSteps {W : Type 0} (v : ServerValue) : ServerValue → History W → Type 0 where
  VisitsMade : (handed : Option W) (after : ServerValue) (visits : History W)
      → AreSteps IsVisitStep (opened_for v handed) after visits
      → AreTurnSteps v after (history_then (opening v handed) visits)
  NotOpened : (wire : W) → is_none (open_refusal v) ≡ true
      → AreTurnSteps v v (door_only (Requested (Some wire) ∷ Closed wire ∷ []))

-- A turn was made in full or in part, and nothing else happened.
abbrev pub HasTurned : {W : Type 0} (Known : History W → Type 0) (v after : ServerValue) → Type 0
HasTurned Known v after = HasAccepted (AreTurnSteps v after) Known v after

-- ---- the event loop

-- A server with the transport sides of its connections.
pub record LoopState (W : Type 0) : Type 0 where
  pub server : ServerValue
  pub entries : List (ℕ × Peer W)

abbrev pub loop_state : {W : Type 0} → ServerValue → List (ℕ × Peer W) → LoopState W
loop_state server entries = record { server = server; entries = entries }

-- The records of the wires of a type: their readiness, and their traces.
pub record Views (W : Type 0) : Type 0 where
  pub readable : W → Option Bool
  pub writable : W → Option Bool
  pub trace : W → WireTrace

-- The same, by the ghost members of the type.
abbrev pub views_of : {W : Type 0} (readable writable : W → Option Bool) (given written : W → Option (List ℕ))
    (answers : W → Option (List Got)) (rooms : W → Option (List ℕ)) → Views W
views_of readable writable given written answers rooms = record {
  readable = readable;
  writable = writable;
  trace = trace_by given written answers rooms;
}

-- The way in which connections are served: the effect of received bytes, the time of the turn, and the records of the
-- wires.
pub record Way (W : Type 0) : Type 1 where
  pub takes : Taking W
  pub second : ℕ
  pub views : Views W

-- The same, for an application with these statements.
abbrev pub way : {A W : Type 0} (follows : A → Answering) (second : ℕ) (views : Views W) → Way W
way follows second views = record { takes = IsTakenWith follows; second = second; views = views }

-- The status of a connection, by the records of the wires.
abbrev pub status_of_peer : {W : Type 0} → Way W → ServerValue → ℕ × Peer W → PeerStatus
status_of_peer S v e = peer_status S.views.readable S.views.writable v e

-- ---- one connection

-- The server, the entry of a connection, and the history after those of serving it. If the outcome is `Over`, the
-- connection is dropped.
abbrev pub server_left : PeerOutcome → ServerValue → ℕ → ServerValue
server_left Open v id = v
server_left (Over reason) v id = server_dropped v id

abbrev pub end_left : {W : Type 0} → PeerOutcome → ℕ → Peer W → List (ℕ × Peer W)
end_left Open id p = (id, p) ∷ []
end_left (Over reason) id p = []

abbrev pub history_left : {W : Type 0} → PeerOutcome → ℕ → W → History W
history_left Open id wire = no_history
history_left (Over reason) id wire = one_drop id wire

-- A visit of a connection: the server and the transport side of the connection after it, and its result.
pub record Visit (W : Type 0) : Type 0 where
  pub server : ServerValue
  pub peer : Peer W
  pub result : VisitResult W

abbrev pub visit : {W : Type 0} → ServerValue → Peer W → PeerOutcome → History W → Visit W
visit server peer outcome h = record {
  server = server;
  peer = peer;
  result = record { outcome = outcome; history = h };
}

abbrev pub state_at : {W : Type 0} (trace : W → WireTrace) → ServerValue → Peer W → VisitState
state_at trace v p = visit_state v p.rest (trace p.wire)

-- A connection was served once, by `takes`: a read if one is due, then processing, then a write if bytes are queued.
abbrev pub IsServedBy : {W : Type 0} (takes : Taking W) (trace : W → WireTrace) (ready : Readiness) → ServerValue → ℕ
    × Peer W → Visit W → Type 0
IsServedBy takes trace ready v e x = IsServedOnceBy takes ready e.0 (state_at trace v e.1) (state_at trace x.server
    x.peer) x.result

-- The times of the connection follow from the calls of a visit.
abbrev pub AreTimesAfter : {W : Type 0} (second : ℕ) → Peer W → Visit W → Type 0
AreTimesAfter second p x = x.peer.activity ≡ activity_after second (have_moved x.result.history.events) p.activity

-- A connection was served once, with the results of `may_read` and `may_write` of its wire. They are those that the
-- wire records, if it does.
pub record IsVisited {W : Type 0} (S : Way W) (v : ServerValue) (e : ℕ × Peer W) (x : Visit W) : Type 0 where
  pub ready : Readiness
  pub read : MatchesTrace (S.views.readable e.1.wire) ready.read
  pub write : MatchesTrace (S.views.writable e.1.wire) ready.write
  pub part : IsServedBy S.takes S.views.trace ready v e x
  pub activity : AreTimesAfter S.second e.1 x

-- A connection was served in a turn, and was dropped if its outcome is `Over`. Its wire was read and written at no
-- other time. The history is that of the visit, followed by that of the drop, in which the wire that the visit left is
-- given back.
pub record IsServedInTurn {W : Type 0} (S : Way W) (v : ServerValue) (e : ℕ × Peer W) (after : LoopState W)
    (h : History W) : Type 0 where
  pub its : Visit W
  pub part : IsVisited S v e its
  pub server : after.server ≡ server_left its.result.outcome its.server e.0
  pub far_end : after.entries ≡ end_left its.result.outcome e.0 its.peer
  pub all : h ≡ history_then its.result.history (history_left its.result.outcome e.0 its.peer.wire)

-- The connection at an index was served, because something could be done on it, and the turn continues at the index
-- `at`. The connections before and after it are unchanged.
pub record HasGoneOn {W : Type 0} (S : Way W) (s : LoopState W) (i : ℕ) (after : LoopState W) (at : ℕ)
    (h : History W) : Type 0 where
  pub e : ℕ × Peer W
  pub its : List (ℕ × Peer W)
  pub there : slice_get s.entries i ≡ Some e
  pub can : CanGoOn (status_of_peer S s.server e) true
  pub part : IsServedInTurn S s.server e (loop_state after.server its) h
  pub front : take at after.entries ≡ take i s.entries ++ its
  pub back : drop at after.entries ≡ drop (i + 1) s.entries

-- ---- each connection in order

-- Each connection in order was served if something could be done on it by its present interest, and otherwise skipped.
-- The history is that of the served connections, in order. A connection that is skipped has none.
pub data AreServed {W : Type 0} (S : Way W) : LoopState W → LoopState W → History W → Type 0 where
  NoMore : (v : ServerValue) → AreServed S (loop_state v []) (loop_state v []) no_history
  Skipped : (v : ServerValue) (e : ℕ × Peer W) (es : List (ℕ × Peer W)) (after : LoopState W) (h : History W)
      → CanGoOn (status_of_peer S v e) false
      → AreServed S (loop_state v es) after h → AreServed S (loop_state v (e ∷ es)) (loop_state after.server
      (e ∷ after.entries)) h
  Visited : (v : ServerValue) (e : ℕ × Peer W) (es : List (ℕ × Peer W)) (between : LoopState W) (own : History W)
      (after : LoopState W) (h : History W) → CanGoOn (status_of_peer S v e) true
      → IsServedInTurn S v e between own → AreServed S (loop_state between.server es) after h
      → AreServed S (loop_state v (e ∷ es)) (loop_state after.server (between.entries ++ after.entries))
      (history_then own h)

-- ---- a turn

-- A connection was opened for a wire, and no limit was reached before. No bytes are left from its reads, and the wire
-- was not touched.
pub record HasOneMore {W : Type 0} (second : ℕ) (wire : W) (s after : LoopState W) : Type 0 where
  pub peer : Peer W
  pub may : open_refusal s.server ≡ None
  pub server : after.server ≡ server_opened s.server
  pub entries : after.entries ≡ insert_entry nat_eq s.entries (s.server.ids + 1) peer
  pub rest : peer.rest ≡ []
  pub handed : peer.wire ≡ wire
  pub activity : peer.activity ≡ new_activity second

-- A connection was opened for the wire that a listener returned. If it returned none, nothing changed.
abbrev pub AreOpened : {W : Type 0} → (second : ℕ) (handed : Option W) → (s after : LoopState W) → Type 0
AreOpened second (Some wire) s after = HasOneMore second wire s after
AreOpened second None s after = (after.server ≡ s.server) × (after.entries ≡ s.entries)

-- The listener was asked, and a connection was opened for the wire that it returned, or none was.
pub record IsOpening {W : Type 0} (second : ℕ) (Known : History W → Type 0) (s after : LoopState W)
    (opens : Bool) : Type 0 where
  pub handed : Option W
  pub opened : AreOpened second handed s after
  pub accepted : IsAccepted Known s.server after.server (opening s.server handed)
  pub is : opens ≡ is_some handed

-- One turn of a server with its connections. If another connection may be opened, the listener is asked once, and a
-- connection is opened for the wire that it returns. Then each connection is served or skipped. The wait is zero if and
-- only if a connection was opened or one is ready. The history of the turn is that of the opened connection and of the
-- served ones, in order.
pub record IsTurnBy {W : Type 0} (S : Way W) (s after : LoopState W) (wait : Wait) (h : History W) : Type 0 where
  pub handed : Option W
  pub between : LoopState W
  pub opened : AreOpened S.second handed s between
  pub visits : History W
  pub served : AreServed S between after visits
  pub waits : IsWaitAfter (is_some handed) (map (status_of_peer S after.server) after.entries) wait
  pub all : h ≡ history_then (opening s.server handed) visits
