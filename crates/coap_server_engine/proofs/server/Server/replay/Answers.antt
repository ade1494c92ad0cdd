use Rattle.std.proofs.Common.{map, rules, refl}
use Rattle.std.proofs.lemmas.List.{length-map, take_all}
use Rattle.coap_io.proofs.streams.DeviceLemmas.{bytes_none}
use Rattle.coap_server_engine.specs.Prelude.{event_value, replayed, events_ran}
use Rattle.coap_server_engine.proofs.scripting.ReplayLemmas.{is_at, refused_at, refused_shown, cut_at, one_replayed}
use Rattle.coap_server_engine.proofs.scripting.ShownLemmas.{shows_same}
use Rattle.coap_server_engine.proofs.server.Server.replay.Goals as goal

pub loop-index-init : goal.loop-index-init
unfolding events_ran replayed
loop-index-init g c = record {
  replays = record { server_is = refl; written = bytes_none _; shown = shows_same _ _ refl };
  works = c.requires;
}

pub returns-in_default : goal.returns-in_default
returns-in_default g c =
    let here = is_at _ _ _ c.loop-index-test.true c.index-events-index.is in
    let so_far = c.loop-index.invariant.replays in
    search (
      rules,
      refused_at so_far here _ _ refl c.in_default.ensures.run,
      refused_shown so_far here,
      c.in_default.ensures,
    )

pub returns-in_default-write_parts-clause-replayed : goal.returns-in_default-write_parts-clause-replayed
returns-in_default-write_parts-clause-replayed g c =
    cut_at c.loop-index.invariant.replays
    (is_at _ _ _ c.loop-index-test.true c.index-events-index.is) _ _ _ c.in-Ok.ensures.run
    c.in-Ok.ensures.shows (rw c.parts.ensures at c.in_default-write_parts.ensures.part)

pub loop-index-preserved : goal.loop-index-preserved
loop-index-preserved g c = record {
  replays =
      one_replayed c.loop-index.invariant.replays
      (is_at _ _ _ c.loop-index-test.true c.index-events-index.is) _ _ _ c.in-Ok.ensures.run
      c.in-Ok.ensures.shows (rw c.parts.ensures at c.in-Ok-write_parts.ensures.ok);
  works = c.in-Ok-write_parts.ensures.failure;
}

pub returns : goal.returns
returns g c =
    let e = c.loop-index.invariant.replays in
    let whole =
    take_all c.loop-index.index (map event_value c.args.events.now) (rw length-map c.loop-index-test.false) in
    search (rules, rw whole at e.server_is, rw whole at e.written, rw whole at e.shown)
