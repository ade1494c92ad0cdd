use Rattle.coap_server_engine.specs.Prelude.{AddsBytes}
use Rattle.coap_server_engine.proofs.values.ServerLemmas.{unmarked_at, within_unmarked}
use Rattle.coap_server_engine.proofs.values.ConcernedLemmas.{turned}
use Rattle.coap_server_engine.proofs.server.Server.flush_once_at.Goals as goal

pub index-requires-2 : goal.index-requires-2
index-requires-2 g c =
    let here = unmarked_at c.self.inside.sessions.entries c.args.index.at _ c.index.ensures in
    within_unmarked _ _ _ (turned (AddsBytes _ _) _ c.self.invariant (rw (← c.self.view_is) at c.requires.at) here
    (c.in_ok-waited.ensures.ok _ here)).lies

pub invariant_of-self-2 : goal.invariant_of-self-2
invariant_of-self-2 g c =
    let here = unmarked_at c.self.inside.sessions.entries c.args.index.at _ c.index.ensures in
    assumption (
      turned (AddsBytes _ _) _ c.self.invariant (rw (← c.self.view_is) at c.requires.at) here
          (c.in_ok-waited.ensures.ok _ here),
      c.in_ok-waited.ensures,
    )

pub returns : goal.returns
returns g c =
    let lies = rw (← c.self.view_is) at c.requires.at in
    let here = unmarked_at c.self.inside.sessions.entries c.args.index.at _ c.index.ensures in
    let is = turned (AddsBytes _ _) _ c.self.invariant lies here (c.in_ok-waited.ensures.ok _ here) in
    record {
      ok = rw (← c.self.view_is) is.value;
      more = rw (← c.self.view_is, lies.found, here) c.settle_bound-more.ensures;
      stop = rw (
        c.stop-stop.ensures,
        c.phase.ensures,
        is.lies.found,
        unmarked_at c.flush_at.new.sessions.entries
            c.args.index.at _ c.index-2.ensures,
      );
      part = tt;
      err = tt;
      failure = c.in_ok-waited.ensures.failure;
      lies = is.lies;
    }
