use Rattle.std.proofs.Common.{◌≡◌, Some, IfSome, refl, sym, ap, ◌∙◌, is_some, take, arith, Ok, Result, slice_get}
use Rattle.std.proofs.Common.{Option, List}
use Rattle.std.proofs.lemmas.List.{length-map}
use Rattle.coap_server_engine.specs.Prelude.{takes, Shows, AcceptedCall, stop_of, is_there, session_takes}
use Rattle.coap_server_engine.specs.Prelude.{taking as session_taking, Taken, TakeFault, LiesAt, unmarked_entry}
use Rattle.coap_server_engine.specs.Prelude.{server_value, values_of, frame_back, completed, config_with, unmarked}
use Rattle.coap_server_engine.specs.Prelude.{set_value_at, RefusesPieceOn, session_of, ServerState}
use Rattle.coap_server_session.proofs.values.CauseLemmas.{hash_where_changed}
use Rattle.coap_server_session.proofs.values.ConcernLemmas.{AddsNone, AddsLast, same_adds, taking_adds_last}
use Rattle.coap_server_session.proofs.values.TakenLemmas.{refused_kept}
use Rattle.coap_server_engine.proofs.values.ServerLemmas.{one_of_all, set_unmarked, unmarked_at, within_unmarked}
use Rattle.coap_server_engine.proofs.values.ServerLemmas.{all_written, read_written, same_split, same_session}
use Rattle.coap_server_engine.proofs.values.ServerLemmas.{length-written, Entries}
use Rattle.coap_server_engine.proofs.values.ConcernedLemmas.{others_settled, marked_after_take, covered_kept}
use Rattle.coap_server_engine.proofs.values.ConcernedLemmas.{covered_taken}
use Rattle.coap_server_engine.proofs.values.ChangedLemmas.{IsTaken, count_is, taken, taken_handled, taken_request}
use Rattle.coap_server_engine.proofs.values.ChangedLemmas.{taken_change, refused, applications_stay, handed_given}
use Rattle.coap_server_engine.proofs.values.ChangedLemmas.{changing_given, take_alters}
use Rattle.coap_server_engine.proofs.values.WorkLemmas.{taken_adds}
use Rattle.coap_server_engine.proofs.world.ShowLaws.{take_shows, refused_take_shows, takes_shown}
use Rattle.coap_server_engine.proofs.world.HandledLaws.{take_says, take_hands_over}
use Rattle.coap_server_engine.proofs.world.RefusedLaws.{refused_for}
use Rattle.coap_model.specs.declared.answers.TakeFault.TheVariants as taking
use Rattle.coap_server_engine.proofs.server.Server.take_request_at.Goals.{After-take, After-settle_after}
use Rattle.coap_server_engine.proofs.server.Server.take_request_at.Goals as goal
use Rattle.coap_path.specs.Applications.{ApplicationsValue}

pub take-requires : goal.take-requires
take-requires c =
    one_of_all _ c.args.index.at _ _ c.self.invariant.marked c.index_mut.ensures.value

-- The connection before the take.
lies : (c : After-take) → LiesAt c.args.index.id c.args.index.at (server_value c.self.inside).sessions
lies c = rw (← c.self.view_is) at c.requires

here : (c : After-take) → slice_get (values_of (unmarked c.self.inside.sessions.entries)) c.args.index.at
    ≡ Some c.index_mut.result.now.session
here c = unmarked_at _ c.args.index.at _ c.index_mut.ensures.value

-- The connections when it has taken.
written : (c : After-take) → unmarked (set_value_at c.self.inside.sessions.entries c.args.index.at c.take.new.self)
    ≡ set_value_at (unmarked c.self.inside.sessions.entries) c.args.index.at c.take.new.self.session
written c = set_unmarked _ c.args.index.at _ _ refl

-- ---- allocation failed

pub invariant_of-self : goal.invariant_of-self
invariant_of-self c =
    let e = c.in-Err.ensures in
    let es = c.self.inside.sessions.entries in
    let at = c.args.index.at in
    let s = c.index_mut.result.now.session in
    let t = (goal.at.invariant_of-self c).After-take in
    let adds : AddsNone s _ = rw e.kept
    (refused_kept c.self.inside.shared s c.args.piece.now _ e.refused (AddsNone s) (same_adds s)) in
    let server = (refused c.self.invariant.server (lies t) (here t) e.refused e.kept e.unchanged).server in
    record {
      server = rw (written t) (record { settled = server.settled; numbered = server.numbered; few = server.few });
      marked =
          rw e.unchanged (all_written _ es at c.take.new.self c.self.invariant.marked
          (rw e.unchanged at c.take.ensures.marked));
      covered = rw (written t) (covered_kept c.self.inside.sets at _ _ _ (here t) adds c.self.invariant.covered);
    }

pub returns-in-Err : goal.returns-in-Err
returns-in-Err c =
    let e = c.in-Err.ensures in
    let id = c.args.index.id in
    let piece = c.args.piece.now in
    let es = c.self.inside.sessions.entries in
    let v = server_value c.self.inside in
    let t = (goal.at.returns-in-Err c).After-take in
    let is = refused c.self.invariant.server (lies t) (here t) e.refused e.kept e.unchanged in
    let refuses : RefusesPieceOn v piece c.in-Err.field-0.bytes (session_of id v.sessions) = rw is.was e.refused in
    let value = ap (λ (k : Option ApplicationsValue). record v {
      config = config_with c.self.inside.config k;
      shared = c.take.new.shared;
      sessions = unmarked (set_value_at es c.args.index.at c.take.new.self);
    }) (ap (λ (h : ServerState). h.store.applications) e.unchanged)
    ∙ ap (λ (fs : Entries). record v { shared = c.take.new.shared; sessions = fs }) (written t) ∙ is.value in
    rw (← c.self.view_is) (assumption (
      refuses,
      value,
      refused_take_shows (taking.Memory c.in-Err.field-0.bytes) _ _ id piece (refuses, value),
      refused_for (taking.Memory c.in-Err.field-0.bytes) _ _ id piece (refuses, value),
    ))

-- ---- bytes were accepted

pub settle_after-requires : goal.settle_after-requires
settle_after-requires c =
    let e = c.in-Ok.ensures in
    let es = c.self.inside.sessions.entries in
    let at = c.args.index.at in
    let new = c.take.new.self in
    let shared = c.self.inside.shared in
    let t = (goal.at.settle_after-requires c).After-take in
    let s = c.index_mut.result.now.session in
    let adds : AddsLast s new.session = rw e.after (taking_adds_last shared s c.args.piece.now) in
    record {
      within = omega (arith, length-written es at new, length-map es unmarked_entry, (lies t).within);
      covered = rw (written t) (covered_taken c.self.inside.sets at _ s new.session (here t) adds
          c.self.invariant.covered);
      others = rw (written t, e.shared) (others_settled shared _ at _ new.session c.in-Ok.taking.changed e.changed
          c.self.invariant.server.settled);
      marked =
          rw e.shared (marked_after_take shared _ at es new c.in-Ok.taking.changed e.changed c.self.invariant.marked
          (rw e.shared at c.take.ensures.marked));
      own = rw (read_written es at _ new c.index_mut.ensures.value) c.take.ensures.marked;
    }

left : (c : After-settle_after) → IsTaken (server_value c.self.inside) c.args.index.id c.args.index.at
    c.index_mut.result.now.session c.args.piece.now c.take.new.shared (unmarked c.settle_after.new.sessions.entries)
left c =
    let e = c.in-Ok.ensures in
    let es = c.self.inside.sessions.entries in
    let at = c.args.index.at in
    taken _ c.self.invariant.server (rw (← c.self.view_is) at c.requires)
    (unmarked_at es at _ c.index_mut.ensures.value) e.after e.shared (ap is_some e.changed ∙ hash_where_changed _)
    (rw (set_unmarked es at c.take.new.self _ refl) at c.settle_after.ensures.after)

pub index-session-requires : goal.index-session-requires
index-session-requires c = within_unmarked _ _ _ (left (goal.at.index-session-requires c).After-settle_after).lies

pub invariant_of-self-in-Ok : goal.invariant_of-self-in-Ok
invariant_of-self-in-Ok c =
    let server = (left (goal.at.invariant_of-self-in-Ok c).After-settle_after).server in
    record {
      server = record { settled = server.settled; numbered = server.numbered; few = server.few };
      marked = c.settle_after.ensures.marked;
      covered = c.settle_after.ensures.covered;
    }

pub returns-in-Ok : goal.returns-in-Ok
returns-in-Ok c =
    let e = c.in-Ok.ensures in
    let id = c.args.index.id in
    let at = c.args.index.at in
    let piece = c.args.piece.now in
    let es = c.self.inside.sessions.entries in
    let v = server_value c.self.inside in
    let t = (goal.at.returns-in-Ok c).After-take in
    let is = left (goal.at.returns-in-Ok c).After-settle_after in
    let accepts = c.takes-takes.ensures ∙ ap session_takes (same_session _ _ _ (unmarked_at es at _ c.index.ensures)
    (here t)) in
    let count = e.count ∙ sym (count_is piece c.self.invariant.server (lies t) (here t)) in
    let kept = ap (λ (h : ServerState). h.store.applications) e.shared ∙ applications_stay c.self.inside.shared _ in
    let ok = ap (λ (k : Option ApplicationsValue). record v {
      config = config_with c.self.inside.config k;
      shared = c.take.new.shared;
      sessions = unmarked c.settle_after.new.sessions.entries;
    }) kept ∙ is.value in
    let now = unmarked_at c.settle_after.new.sessions.entries at c.index-session.result.now c.index-session.ensures in
    let stop = c.stop-stop.ensures ∙ ap stop_of c.phase.ensures in
    let handled = c.what_was_handled.ensures ∙ taken_handled is accepts e.handled now stop in
    let there = ap is_there is.was in
    let split = same_split (set_value_at es at c.take.new.self) c.settle_after.new.sessions.entries at c.take.new.self
    c.index-session.result.now (read_written es at _ c.take.new.self c.index_mut.ensures.value) c.index-session.ensures
    c.settle_after.ensures.splits in
    let given : c.frame_of-frame.result.now ≡ frame_back c.take.new.self.split (take c.in-Ok.taking.count piece) =
    rw (c.frame_of-frame.ensures, c.split_frame.ensures, split) in
    let shown : IfSome (completed c.index_mut.result.now.session piece) (λ f. c.frame_of-frame.result.now ≡ f) =
    rw given e.frame in
    let frame = c.lent_unless_stopped-handed.ensures
    ∙ handed_given v piece _ _ shown c.in-Ok.taking.handed c.stop-stop.result e.handed ∙ taken_request is now stop in
    let alters = c.lent_if-changed.ensures ∙ changing_given v piece _ _ shown _
    (c.is_some.ensures ∙ ap is_some e.changed
    ∙ hash_where_changed (session_taking v.shared c.index_mut.result.now.session piece).change) ∙ taken_change is in
    let shows = take_shows v _ id piece c.in-Ok.taking.count count there ok in
    let affected = taken_adds v id at c.index_mut.result.now.session piece c.self.invariant.server.settled (lies t)
    (here t) c.take.new.self.session c.in-Ok.taking.changed _ _ e.after e.changed
    (rw (written t) at c.settle_after.ensures.affected) in
    let result : Result Taken TakeFault =
    Ok (record { bytes = c.in-Ok.taking.count; handled = c.what_was_handled.result }) in
    let by_events : (events : List AcceptedCall) → Shows v events
    → c.in-Ok.taking.count ≡ takes v.config events id piece =
    λ events shown. count ∙ takes_shown v events id piece shown in
    rw (← c.self.view_is) (assumption (
      ok,
      shows,
      e.within,
      count,
      by_events,
      handled,
      take_says result v id piece count handled,
      there,
      frame,
      take_hands_over v id piece c.in-Ok.taking.count _ count frame,
      alters,
      take_alters v _ id piece c.in-Ok.taking.count _ alters ok shows,
      affected,
    ))
