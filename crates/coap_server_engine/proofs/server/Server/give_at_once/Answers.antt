use Rattle.std.proofs.Common.{◌≡◌, [], refl, sym, ◌∙◌, arith}
use Rattle.std.proofs.lemmas.Bool.{eqb-true}
use Rattle.std.proofs.lemmas.List.{nil_from_length}
use Rattle.coap_server_engine.proofs.values.ResponseLemmas.{ok_none, err_some, nothing_offered, offers_nothing}
use Rattle.coap_server_engine.proofs.values.ResponseLemmas.{response_if_accepted, refused_response, server_if_refused}
use Rattle.coap_server_engine.proofs.values.ResponseLemmas.{refused_events, offered_lies}
use Rattle.coap_server_engine.proofs.values.ServerLemmas.{is_there_at}
use Rattle.coap_server_engine.proofs.scripting.ShownLemmas.{shows_same}
use Rattle.coap_server_engine.proofs.scripting.FollowLemmas.{followed_none, followed_then}
use Rattle.coap_server_engine.proofs.server.Server.give_at_once.Goals as goal

-- The application wrote no byte.
pub returns-then-is_empty : goal.returns-then-is_empty
returns-then-is_empty g c =
    let none =
    nil_from_length c.args.response.now (eqb-true _ 0 (sym c.is_empty.ensures ∙ c.if-is_empty.true)) in
    rw (none, nothing_offered _ c.args.id, offers_nothing _ c.args.id) (record {
      after = refl;
      shows = shows_same _ _ refl;
      reported = followed_none (g.M.Monitor.follows c.args.monitor.now);
      lies = c.requires;
    })

pub offer-given-requires : goal.offer-given-requires
offer-given-requires g c = record {
  there = is_there_at _ c.args.at _ c.requires;
  lies = c.requires;
}

-- The server accepts the response.
pub returns-then-is_ok-clause-shows : goal.returns-then-is_ok-clause-shows
returns-then-is_ok-clause-shows g c =
    let e = c.offer-given.ensures in
    let none = ok_none _ _ e.answer (sym c.is_ok.ensures.value ∙ c.if-is_ok.true) in
    rw (response_if_accepted c.args.self.now _ c.args.token.now.items _ none) e.shows

pub returns-then-is_ok-clause-lies : goal.returns-then-is_ok-clause-lies
returns-then-is_ok-clause-lies g c =
    rw c.offer-given.ensures.after (offered_lies _ c.args.id _ c.args.at c.requires)

-- The server sends 5.00.
pub offer-requires : goal.offer-requires
offer-requires g c =
    let v = c.args.self.now in
    let e = c.offer-given.ensures in
    let some = err_some _ _ e.answer (sym c.is_ok.ensures.value ∙ c.if-is_ok.false) in
    rw (e.after, server_if_refused v c.args.id _ some.0 some.1)
    (record { there = is_there_at c.args.id _ v.sessions c.requires; lies = c.requires })

pub returns : goal.returns
returns g c =
    let v = c.args.self.now in
    let bytes = c.args.response.now in
    let e = c.offer-given.ensures in
    let some = err_some _ _ e.answer (sym c.is_ok.ensures.value ∙ c.if-is_ok.false) in
    let same = e.after ∙ server_if_refused v c.args.id bytes some.0 some.1 in
    let written : bytes ≡ [] → ⊥ = grind (arith, c.is_empty.ensures, c.if-is_empty.false) in
    let sent = rw (same, c.as_slice.ensures.value, c.failure_frame-failure.ensures) at c.offer.ensures in
    rw (refused_response v _ c.args.token.now.items bytes some.0 some.1 written) (record {
      after = sent.after;
      shows = sent.shows;
      reported =
          followed_then _ (g.M.Monitor.follows c.offer-given.new.monitor)
          _ [] _
          (rw (refused_events v c.args.id bytes some.0 some.1) at e.reported) sent.reported;
      lies =
          rw c.offer.ensures.after (offered_lies _ c.args.id _ c.args.at
          (rw same c.requires));
    })
