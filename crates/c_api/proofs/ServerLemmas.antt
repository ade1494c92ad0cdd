-- Results of the calls of a server on its handle.
use Rattle.std.proofs.Common.{◌≡◌, ℕ, List, [], ◌∷◌, ◌++◌, Option, Some, None, refl, sym, ◌∙◌}
use Rattle.coap_model.specs.world.Events.{AcceptedCall, Wrote}
use Rattle.coap_server_engine.specs.values.ServerAnswers.{written_refusal}
use Rattle.coap_server_engine.specs.values.Servers.{server_written}
use Rattle.coap_server_engine.specs.world.Shows.{Shows}
use Rattle.coap_server_polled.specs.Reports.{KeepsReported, Reports}
use Rattle.coap_server_polled.specs.declared.polled_server.PolledServer.{PolledServer}
use Rattle.coap_server_polled.proofs.ReportLemmas.{keeps_handle, keeps_none}
use Rattle.c_api.specs.ServerCalls.{IsWritten}

-- A `written` that succeeds, on the server `x` of the handle.
pub written_ok : (id count : ℕ) (h h' : Option PolledServer) (v x v' : PolledServer) → h ≡ Some v → x ≡ v
    → h' ≡ Some v' → written_refusal x.engine id count ≡ None → v'.engine ≡ server_written x.engine id count
    → ((events : List AcceptedCall) → Shows x.engine events → Shows v'.engine (events ++ Wrote id count ∷ []))
    → IsWritten id count h h' 0
written_ok id count h h' v x v' is same put none does shows = rw (is, put, ← same, none) (refl, (does, shows))

-- The handle has no server after the call.
pub keeps_empty : (h h' : Option PolledServer) → h' ≡ None → KeepsReported h h'
keeps_empty h h' none = rw none (keeps_none h)

-- The server was put back as it was.
pub keeps_back : (h h' : Option PolledServer) (v : PolledServer) → h ≡ Some v → h' ≡ Some v → KeepsReported h h'
keeps_back h h' v is put = keeps_handle h h' (put ∙ sym is)

pub ruleset keeps = (keeps_empty, keeps_back)

-- The handle has a new server.
pub keeps_made : (h h' : Option PolledServer) (v : PolledServer) → h' ≡ Some v
    → ((k : Option PolledServer) → KeepsReported k (Some v)) → KeepsReported h h'
keeps_made h h' v put keeps = rw put (keeps h)

nothing_reported : (yielded : Option ℕ) (h : Option PolledServer) → Reports yielded h None
unfolding Reports
nothing_reported yielded h id reported = absurd reported

-- A call that finds no server yields nothing.
pub reports_empty : (yielded : Option ℕ) (h h' : Option PolledServer) → h' ≡ None → Reports yielded h h'
reports_empty yielded h h' none = rw none (nothing_reported yielded h)
