-- The steps of serving a connection, and a value written at an index of a map whose keys are numbers.
use Rattle.std.proofs.Common.{ℕ, ◌≡◌, ◌≢◌, Bool, true, false, List, [], ◌∷◌, ◌++◌, length, Option, Some, None, IfSome}
use Rattle.std.proofs.Common.{is_some, is_none, option_map, refl, ap, ◌∙◌, ◌||◌, ◌&&◌, ◌==◌, if◌then◌else◌, nat_lt, ◌≤◌}
use Rattle.std.proofs.Common.{arith, take}
use Rattle.std.proofs.lemmas.Bool.{and_parts}
use Rattle.coap_serve.specs.declared.door.peer.PeerOutcome.TheVariants.{Open}
use Rattle.coap_server_session.specs.values.Sessions.{session_ready}
use Rattle.coap_serve.specs.Prelude.{ConnectionWork, IsOutcomeFor, IsReasonFor, SessionValue, session_of, session_work}
use Rattle.coap_serve.specs.Prelude.{waiting_at, waiting_in, AcceptedCall, ServerValue, WireTrace, Got, Failed, Later}
use Rattle.coap_serve.specs.Prelude.{PeerOutcome, is_read_due, server_read, server_wrote, has_failed, peer_outcome, Way}
use Rattle.coap_serve.specs.Prelude.{is_over_in, work_of, waiting_once, IsLaidOut, IsOffered, Readiness, Answering}
use Rattle.coap_serve.specs.Prelude.{AreCallsBetween, Continues, Following, HasAccepted, Over, calls_only, read_events}
use Rattle.coap_serve.specs.Prelude.{journal, no_history, wrote_events, IsVisited, Peer, visit, Reason, stop_of}
use Rattle.coap_serve.specs.Prelude.{DoorCall, takes_messages, can_take_on, IsTakenInPart, activity_after, have_moved}
use Rattle.coap_serve.specs.Prelude.{has_written, IsNextPart, written_refusal, is_there, WrittenFault}
use Rattle.coap_io.specs.streams.Wires.{MatchesTrace}
use Rattle.std.proofs.lemmas.List.{append-nil, length-take-le, take-take}
use Rattle.coap_serve.proofs.listener.ServingLemmas.{accepted_then, calls_accepted, moved_then}
use Rattle.coap_server_engine.specs.declared.monitor.DropReason.TheVariants as drop
use Rattle.coap_conn.proofs.NextPartLemmas.{few_written}

-- ---- transfers

no_read_moves : (id : ℕ) (received : Got) → have_moved (read_events id received) ≡ false
no_read_moves id received = grind arith

some_written : (id : ℕ) (wrote : Got) → have_moved (wrote_events id wrote) ≡ has_written wrote
some_written id wrote = grind arith

-- The calls of a read, of takes that accepted this number of bytes, and of a write.
all_moved : (id : ℕ) (received wrote : Got) (takes : List AcceptedCall) (n : ℕ) → have_moved takes ≡ nat_lt 0 n
    → have_moved (read_events id received ++ (takes ++ wrote_events id wrote)) ≡ (nat_lt 0 n || has_written wrote)
all_moved id received wrote takes n moved =
    rw (
      moved_then (read_events id received) (takes ++ wrote_events id wrote),
      no_read_moves id received,
      moved_then takes (wrote_events id wrote),
      moved,
      some_written id wrote,
    ) refl

-- ---- the steps of a visit

-- A read that did not fail, then the processing of its bytes, then a write. The wire was asked first if it may be read
-- and written.
pub steps_are_a_part : {W : Type 0} {S : Way W} (ready : Readiness) {v after : ServerValue} {e : ℕ × Peer W} {p : Peer
    W}
    {agrees_after taken : ServerValue} {bytes : List ℕ} {between : WireTrace} (received : Got) {wrote : Got}
    {outcome : PeerOutcome} {a b c d : Following} {x y : Answering} {n : ℕ} {z : Option (List (DoorCall W))}
    → MatchesTrace (S.views.readable e.1.wire) ready.read → MatchesTrace (S.views.writable e.1.wire) ready.write
    → agrees_after ≡ server_read v e.0 received
    → IsLaidOut (is_read_due ready.read v e.0 e.1.rest) e.1.rest (S.views.trace e.1.wire) received bytes between
    → has_failed received ≡ false → HasAccepted
    (λ h. IsTakenInPart S.takes agrees_after e.0 bytes p.rest (record { server = taken; count = n; history = h }))
    (Continues (journal b x z) (journal c y z)) agrees_after taken
    → IsOffered (waiting_once ready.write e.0 taken) between wrote (S.views.trace p.wire)
    → after ≡ server_wrote taken e.0 wrote → outcome ≡ peer_outcome wrote (is_over_in (work_of after e.0))
    → AreCallsBetween a b v agrees_after (read_events e.0 received)
    → AreCallsBetween c d taken after (wrote_events e.0 wrote)
    → p.activity ≡ activity_after S.second (nat_lt 0 n || has_written wrote) e.1.activity
    → HasAccepted (λ h. IsVisited S v e (visit after p outcome h)) (Continues (journal a x z) (journal d y z)) v after
steps_are_a_part ready {e = e} {taken = taken} {bytes = bytes} {between = between} received {wrote = wrote} {n = n}
    may_read may_write received_so laid works part offered wrote_so outcome_so read_made wrote_made times =
    let later = record (part.history) { events = part.history.events ++ wrote_events e.0 wrote } in
    record {
      history = record later { events = read_events e.0 received ++ later.events };
      made = record {
        ready = ready;
        read = may_read;
        write = may_write;
        part = record {
          received = received;
          bytes = bytes;
          between = between;
          laid = laid;
          later = later;
          carried = rw works (record {
            taken = record { server = taken; count = n; history = part.history };
            took = rw (← received_so) part.made.took;
            rest = part.made.rest;
            wrote = wrote;
            offered = offered;
            server = wrote_so;
            outcome = outcome_so;
            history = refl;
          });
          history = refl;
        };
        activity = rw (all_moved e.0 received wrote part.history.events n part.made.moved) times;
      };
      accepted =
          accepted_then (calls_accepted read_made)
          (rw (append-nil part.history.exchanges, append-nil part.history.calls) at
          (accepted_then part.accepted (calls_accepted wrote_made)));
    }

-- A read that failed.
pub failed_read_is_a_part : {W : Type 0} {S : Way W} (ready : Readiness) {v after : ServerValue} {e : ℕ × Peer W}
    {p : Peer W} (bytes : List ℕ) (received : Got) {a b : Following} {x : Answering} {z : Option (List (DoorCall W))}
    → MatchesTrace (S.views.readable e.1.wire) ready.read → MatchesTrace (S.views.writable e.1.wire) ready.write
    → after ≡ server_read v e.0 received → IsLaidOut (is_read_due ready.read v e.0 e.1.rest) e.1.rest
    (S.views.trace e.1.wire) received bytes (S.views.trace p.wire)
    → has_failed received ≡ true → AreCallsBetween a b v after (read_events e.0 received)
    → p.activity ≡ e.1.activity → HasAccepted (λ h. IsVisited S v e (visit after p (Over drop.Failed) h))
    (Continues (journal a x z) (journal b x z)) v after
failed_read_is_a_part ready {e = e} bytes got may_read may_write received_so laid fails made same = record {
  history = calls_only (read_events e.0 got ++ []);
  made = record {
    ready = ready;
    read = may_read;
    write = may_write;
    part = record {
      received = got;
      bytes = bytes;
      between = _;
      laid = laid;
      later = no_history;
      carried = rw fails (received_so, refl, refl);
      history = refl;
    };
    activity = rw (all_moved e.0 got Later [] 0 refl) same;
  };
  accepted = rw append-nil (calls_accepted made);
}

-- ---- the reason of a drop

last_true : (a b : Bool) {c : Bool} → (a && b && c) ≡ true → c ≡ true
last_true a b all = grind arith

not_over : (stop : Option Reason) (b : Bool) → is_none stop ≡ true → (is_some stop && b) ≡ false
not_over stop b live = grind arith

-- A connection that accepts bytes has not finished.
takes_on : (now : ℕ) (o : Option SessionValue) → can_take_on o ≡ true
    → IfSome (option_map (session_work now) o) (IsReasonFor drop.Failed)
takes_on now None takes = absurd cc
takes_on now (Some s) takes =
    not_over (stop_of s.link.phase) _ (and_parts (takes_messages s.link.phase) (session_ready s) takes).0

laid_failed : (is_due : Bool) (rest bytes : List ℕ) (wire between : WireTrace)
    → IsLaidOut is_due rest wire Failed bytes between → is_due ≡ true
laid_failed is_due rest bytes wire between laid = grind arith

-- A read that failed was due.
pub read_failed : (may_read : Bool) (v : ServerValue) {after : ServerValue} (id : ℕ) (rest bytes : List ℕ)
    (wire between : WireTrace) (received : Got) → after ≡ server_read v id received
    → IsLaidOut (is_read_due may_read v id rest) rest wire received bytes between → has_failed received ≡ true
    → IfSome (work_of after id) (IsReasonFor drop.Failed)
read_failed may_read v id rest bytes wire between Failed is laid fails =
    rw is (takes_on v.shared.now (session_of id v.sessions)
    (last_true may_read (length rest == 0) (laid_failed (is_read_due may_read v id rest) rest bytes wire between laid)))
read_failed may_read v id rest bytes wire between received is laid fails = absurd cc

some_queued : (over pending : Bool) (waiting : List ℕ) → waiting ≢ []
    → (over && (pending && (length waiting == 0))) ≡ false
some_queued over pending [] some = absurd (some refl)
some_queued over pending (b ∷ bs) some = grind arith

-- A connection with queued bytes has not finished.
queue_left : (now : ℕ) (o : Option SessionValue) → waiting_in o ≢ []
    → IfSome (option_map (session_work now) o) (IsReasonFor drop.Failed)
queue_left now None some = tt
queue_left now (Some s) some =
    some_queued (is_some (stop_of s.link.phase)) (length s.link.pending == 0) s.link.waiting some

over_reason : (o : Option ConnectionWork) → IsOutcomeFor (if is_over_in o then Over drop.Finished else Open) o
over_reason o = grind arith

none_offered : (may_write : Bool) (waiting : List ℕ) → waiting ≡ [] → (if may_write then waiting else []) ≡ []
none_offered may_write waiting none = grind arith

-- A write that failed leaves bytes queued. After another result, the connection may have finished.
pub write_reason : (may_write : Bool) (taken : ServerValue) {after : ServerValue} (id : ℕ) (wrote : Got)
    → after ≡ server_wrote taken id wrote → (waiting_once may_write id taken ≡ [] → wrote ≡ Later)
    → IsOutcomeFor (peer_outcome wrote (is_over_in (work_of after id))) (work_of after id)
write_reason may_write taken id Failed is idle =
    rw is (queue_left taken.shared.now (session_of id taken.sessions)
    (λ none. let never : Failed ≡ Later = idle (none_offered may_write (waiting_at id taken) none) in absurd cc))
write_reason may_write taken {after = after} id wrote is idle = over_reason (work_of after id)

-- ---- a write of a prefix of the queued bytes

-- A write of a prefix is not refused.
pub none_refused : (v : ServerValue) (id count : ℕ) (part : List ℕ) {fault : WrittenFault}
    → is_there (session_of id v.sessions) ≡ true → IsNextPart (waiting_at id v) part
    → count ≤ length part → written_refusal v id count ≡ Some fault → ⊥
none_refused v id count part there is few refused =
    let small : count ≤ length (waiting_at id v) = few_written (waiting_at id v) part count is few in
    grind arith

-- The first bytes of a prefix of the queued bytes are the first of these.
pub first_written : (waiting part : List ℕ) (count : ℕ) → IsNextPart waiting part → count ≤ length part
    → take count part ++ [] ≡ take (length (take count part ++ [])) waiting
first_written waiting part count is few =
    rw (append-nil (take count part), length-take-le count part few)
    (ap (take count) is.front ∙ take-take count (length part) waiting few)
