use Rattle.std.proofs.Common.{ap, false, is_ok, sym, true, ◌≡◌, ◌∙◌, refl, Some, [], ◌∷◌}
use Rattle.std.proofs.lemmas.Option.{slice_get-map}
use Rattle.coap_server_engine.proofs.values.ServerLemmas.{is_there_at}
use Rattle.coap_serve.specs.Prelude.{Closed, session_of}
use Rattle.coap_serve.proofs.listener.ServingLemmas.{reason_left}
use Rattle.coap_serve.proofs.listener.SleepLemmas.{lies_there, paired_without}
use Rattle.coap_serve.proofs.door.removal.drop_at.Goals as goal

-- The connection exists, and the reason is that of its entry.
pub accepted-requires : goal.accepted-requires
accepted-requires g c =
    let lies = lies_there c.requires.paired _ (sym c.in-Some.ensures.entry) in
    reason_left _ (session_of _ _) _ (sym (is_there_at c.in-Some.id _ c.args.server.now.sessions lies))
    (rw (← c.in-Some.ensures.entry) at c.requires.reason)

pub unreachable-requires-in_default-drop_conn : goal.unreachable-requires-in_default-drop_conn
unreachable-requires-in_default-drop_conn g c =
    let lies = lies_there c.requires.paired _ (sym c.in-Some.ensures.entry) in
    let never : true ≡ false = is_there_at c.in-Some.id _ c.args.server.now.sessions lies
    ∙ sym c.drop_conn.ensures.answer ∙ ap is_ok c.in_default-drop_conn.is in
    cc never

pub returns-clause-paired : goal.returns-clause-paired
returns-clause-paired g c =
    paired_without c.requires.paired _ _ c.drop_conn.ensures.settled
    (rw (slice_get-map, ← c.in-Some.ensures.entry) refl) c.in-Ok.ensures.ok c.shift_remove_index.ensures.entries
    c.shift_remove_index.ensures.unique

pub returns-clause-dropped : goal.returns-clause-dropped
returns-clause-dropped g c =
    rw (← c.in-Some.ensures.entry) (record {
      server = c.in-Ok.ensures.ok;
      accepted = record {
        shows = c.in-Ok.ensures.shows;
        known = record {
          calls = c.accepted.ensures;
          exchanged = c.gone.ensures;
          called = ap (λ w. Some (Closed w ∷ [])) c.into_wire.ensures;
        };
      };
    })
