-- To serve a connection on which nothing can be done has no effect.
use Rattle.std.proofs.Common.{ℕ, ◌≡◌, not, zero, suc, Bool, true, false, ◌&&◌, List, [], ◌∷◌, ◌++◌, length, drop, Some}
use Rattle.std.proofs.Common.{None, refl, sym, ap, ◌∙◌, arith, ◌||◌, ◌==◌, nat_lt, if◌then◌else◌}
use Rattle.std.proofs.Math.Bool.{and-false}
use Rattle.std.proofs.Math.Dec.{eqb-suc-zero}
use Rattle.std.proofs.lemmas.Bool.{or_parts}
use Rattle.std.proofs.lemmas.Bool.Decides.{nat_tests}
use Rattle.std.proofs.lemmas.List.{append-nil, nil_from_length}
use Rattle.coap_serve.specs.Prelude.{values_of, stop_of, is_over, Later, SessionValue, session_takes, ServerValue}
use Rattle.coap_serve.specs.Prelude.{LiesAt, AreSettled, session_of, server_taken, count_taken, count_on, stop_on}
use Rattle.coap_serve.specs.Prelude.{InResult, fed_turns, in_result, fed_more, IsTakenAndWritten, IsTakenAlone, IsNoOp}
use Rattle.coap_serve.specs.Prelude.{Readiness, VisitState, is_read_due, visit_state, waiting_once, server_wrote}
use Rattle.coap_serve.specs.Prelude.{is_over_in, kept_unless, kept_rest, interest_of, can_go_on, work_of, WireTrace}
use Rattle.coap_serve.specs.Prelude.{PeerOutcome, calls_only, AcceptedCall, Took, read_events}
use Rattle.coap_serve.specs.Prelude.{refused_events, took, took_turns}
use Rattle.coap_server_engine.specs.values.InResults.{goes_on, unfed}
use Rattle.coap_serve.specs.declared.door.peer.PeerOutcome.TheVariants.{Open}
use Rattle.coap_server_engine.proofs.values.ServerLemmas.{changed_one, written_at_index, written_back, all_settled_stay}
use Rattle.coap_model.proofs.OptionLemmas.{there_at, there_is_none}
use Rattle.std.proofs.lemmas.Map.Entries.{length-values_of}
use Rattle.coap_server_engine.proofs.world.ShowLaws.{taking_stopped}

-- ---- accepting bytes

record IsUnaffected (v : ServerValue) (f : InResult) : Type 0 where
  server : f.server ≡ v
  count : f.count ≡ 0

-- The bytes left stay, and the only event is a take that accepts none of them.
record AreLeft (v : ServerValue) (id : ℕ) (rest : List ℕ) : Type 0 where
  fed : IsUnaffected v (in_result v id rest)
  refused : took v id rest ≡ refused_events id rest
  kept : kept_unless (stop_on (session_of id v.sessions)) rest ≡ rest

-- The first take accepts none of these bytes, and there is no other.
begins : (v : ServerValue) (b : ℕ) (bytes : List ℕ) → goes_on (b ∷ bytes) (unfed v) ≡ true
begins v b bytes = grind (arith, nat_tests)

module _ (v : ServerValue) {id i : ℕ} {s : SessionValue} (lies : LiesAt id i v.sessions)
    (here : session_of id v.sessions ≡ Some s) (settled : AreSettled v.shared v.sessions) where
  -- The connection accepts no bytes.
  module _ (closed : session_takes s ≡ false) where
    untouched : (piece : List ℕ) → server_taken v id piece ≡ v
    unfolding server_taken
    untouched piece =
        let at = sym lies.found ∙ here in
        let written = sym (written_at_index (λ _. s) v.sessions i s at) ∙ written_back v.sessions i s s at refl in
        let same = sym (changed_one id (λ _. s) v.sessions i lies.distinct lies.index lies.within) ∙ written in
        rw (here, taking_stopped v.shared s piece closed, same, all_settled_stay v.shared v.sessions settled) refl

    none_accepted : (piece : List ℕ) → count_taken v id piece ≡ 0
    unfolding count_taken
    none_accepted piece = ap (count_on v piece) here ∙ ap (λ t. t.count) (taking_stopped v.shared s piece closed)

    untouched_where_stopped : (bytes : List ℕ) (turns : ℕ) → IsUnaffected v (fed_turns turns v id bytes)
    unfolding fed_turns
    untouched_where_stopped bytes zero = record { server = refl; count = refl }
    untouched_where_stopped bytes (suc turns) =
        let f = fed_turns turns v id bytes in
        let so_far = untouched_where_stopped bytes turns in
        elim (goes_on bytes f) as (λ b. IsUnaffected v (if b then fed_more id (drop f.count bytes) f else f)) [
          | true ↦ record {
            server = rw so_far.server (untouched (drop f.count bytes));
            count = rw so_far.server (omega (arith, so_far.count, none_accepted (drop f.count bytes)));
          }
          | false ↦ so_far
        ]

    refused_once : (b : ℕ) (bytes : List ℕ) (turns : ℕ) → (took_turns (suc turns) v id (b ∷ bytes) ≡ Took id [] ∷ [])
        × ((fed_turns (suc turns) v id (b ∷ bytes)).done ≡ true)
    unfolding fed_turns took_turns
    refused_once b bytes zero =
        (rw (begins v b bytes, none_accepted, here) refl, rw (begins v b bytes, none_accepted) refl)
    refused_once b bytes (suc turns) =
        let so_far = refused_once b bytes turns in
        let over : goes_on (b ∷ bytes) (fed_turns (suc turns) v id (b ∷ bytes)) ≡ false =
        rw (so_far.1, and-false) refl in
        (rw (over, append-nil) so_far.0, rw over so_far.1)

  -- If bytes are left that the connection does not accept, it accepts none. Without such bytes, none are accepted.
  left_alone : (rest : List ℕ) → (interest_of v id rest).visit ≡ false → AreLeft v id rest
  unfolding fed_turns took_turns
  left_alone [] idle = record {
    fed = record { server = refl; count = refl };
    refused = refl;
    kept = elim (stop_on (session_of id v.sessions)) as (λ why. kept_unless why [] ≡ []) [
      | None ↦ refl
      | Some why ↦ refl
    ];
  }
  left_alone (b ∷ rest) idle =
      let shut = or_parts (session_takes s) (is_over s.link.phase)
      (or_parts (session_takes s || is_over s.link.phase) _ (rw eqb-suc-zero at (rw here at idle))).0 in
      record {
        fed = untouched_where_stopped shut.0 (b ∷ rest) (length (b ∷ rest));
        refused = (refused_once shut.0 b rest (length rest)).0;
        kept = rw (here, there_is_none (stop_of s.link.phase) shut.1) refl;
      }

-- ---- serving the connection

not_read : (may_read is_empty takes : Bool) → ((is_empty && takes) && may_read) ≡ false
    → ((may_read && is_empty) && takes) ≡ false
not_read may_read is_empty takes e = grind arith

not_written : (may_write : Bool) (waiting : List ℕ) → (nat_lt 0 (length waiting) && may_write) ≡ false
    → (if may_write then waiting else []) ≡ []
not_written may_write waiting e = grind (arith, nat_tests, nil_from_length)

same_state : (a b : VisitState) → a.server ≡ b.server → a.rest ≡ b.rest → a.wire ≡ b.wire → a ≡ b
same_state a b server rest wire =
    ap (λ x. visit_state x a.rest a.wire) server ∙ ap (λ x. visit_state b.server x a.wire) rest
    ∙ ap (λ x. visit_state b.server b.rest x) wire

module _ {v : ServerValue} {id : ℕ} {rest : List ℕ} (left : AreLeft v id rest) where
  kept_so : kept_rest (in_result v id rest).server id (in_result v id rest).count rest ≡ rest
  kept_so = rw (left.fed.server, left.fed.count) left.kept

  -- If nothing is accepted and nothing is queued, nothing changes.
  nothing_carried : (may_write : Bool) (wire : WireTrace) (after : VisitState) (outcome : PeerOutcome)
      (events : List AcceptedCall) → waiting_once may_write id v ≡ [] → is_over_in (work_of v id) ≡ false
      → IsTakenAndWritten {W = Unit {0}} IsTakenAlone may_write id (visit_state v rest wire) after
      (record { outcome = outcome; history = calls_only events })
      → (after ≡ visit_state v rest wire) × (outcome ≡ Open) × (events ≡ refused_events id rest)
  nothing_carried may_write wire after outcome events unwritten on carried =
      let taken_so : carried.taken.server ≡ v = carried.took.0 ∙ left.fed.server in
      let wrote = carried.offered.idle (rw taken_so unwritten) in
      let server : after.server ≡ v = carried.server ∙ ap (server_wrote carried.taken.server id) wrote.0 ∙ taken_so in (
        same_state after (visit_state v rest wire) server
            (carried.rest ∙ rw (carried.took.0, carried.took.1) kept_so) wrote.1,
        carried.outcome ∙ rw (wrote.0, server, on) refl,
        ap (λ h. h.events) carried.history
            ∙ rw (wrote.0, append-nil, ap (λ h. h.events) carried.took.2) left.refused,
      )

-- A connection on which nothing can be done may be skipped.
pub passed_over : (v : ServerValue) (id i : ℕ) (rest : List ℕ) (ready : Readiness) → LiesAt id i v.sessions
    → AreSettled v.shared v.sessions → can_go_on (interest_of v id rest) ready ≡ false → IsNoOp ready v id rest
passed_over v id i rest ready lies settled idle =
    let there = there_at (values_of v.sessions) i (rw (length-values_of v.sessions) lies.within) in
    let s = there.0 in
    let here : session_of id v.sessions ≡ Some s = lies.found ∙ there.1 in
    let w = interest_of v id rest in
    let write = or_parts (w.visit || (w.read && ready.read)) (w.write && ready.write) idle in
    let read = or_parts w.visit (w.read && ready.read) write.0 in
    let on : is_over_in (work_of v id) ≡ false =
    rw here (or_parts (not (length rest == 0) && (session_takes s || is_over s.link.phase)) _ (rw here at read.0)).1 in
    let unread : is_read_due ready.read v id rest ≡ false =
    rw here (not_read ready.read (length rest == 0) (session_takes s) (rw here at read.1)) in
    let unwritten : waiting_once ready.write id v ≡ [] =
    rw here (not_written ready.write s.link.waiting (rw here at write.1)) in
    let left = left_alone v lies here settled rest read.0 in
    record {
      unread = unread;
      unwritten = unwritten;
      there_is_one = λ wire. record {
        received = Later;
        bytes = rest;
        between = wire;
        laid = rw unread (refl, refl, refl);
        later = calls_only (refused_events id rest);
        carried = record {
          taken = record {
            server = (in_result v id rest).server;
            count = (in_result v id rest).count;
            history = calls_only (took v id rest);
          };
          took = (refl, refl, refl);
          rest = sym (kept_so left);
          wrote = Later;
          offered = rw left.fed.server (record { idle = λ e. (refl, refl); busy = λ some. absurd (some unwritten) });
          server = sym left.fed.server;
          outcome = rw on refl;
          history = ap calls_only (sym (append-nil (took v id rest) ∙ left.refused));
        };
        history = refl;
      };
      always = λ wire after outcome events part.
          let laid : (part.received ≡ Later) × (part.bytes ≡ rest) × (part.between ≡ wire) = rw unread at part.laid in
          let carried : IsTakenAndWritten {W = Unit {0}} IsTakenAlone ready.write id (visit_state v rest wire) after
          (record { outcome = outcome; history = part.later }) = rw (laid.0, laid.1, laid.2) at part.carried in
          let all : calls_only {W = Unit {0}} events ≡ part.later =
          part.history ∙ ap (λ got. record (part.later) { events = read_events id got ++ part.later.events }) laid.0 in
          nothing_carried left ready.write wire after outcome events unwritten on (rw (← all) at carried);
    }
