use Rattle.std.proofs.Common.{◌≡◌, length, Option, Some, sym, ap, ◌∙◌, slice_get}
use Rattle.std.proofs.lemmas.Option.{slice_get-map}
use Rattle.coap_server_engine.specs.Prelude.{SessionValue, values_of}
use Rattle.coap_server_engine.specs.values.Flushes.{waiting_in}
use Rattle.coap_server_engine.proofs.values.ServerLemmas.{lies_at_key, unmarked_at}
use Rattle.coap_server_engine.proofs.server.Server.queued_at.Goals as goal

pub returns : goal.returns
returns c =
    let es = c.self.inside.sessions.entries in
    let there : slice_get es c.args.at ≡ Some (c.in-Some.id.now, c.in-Some.session.now) =
    rw c.as_slice.ensures.entries at (sym c.in-Some.ensures.entry) in
    let value : slice_get (values_of es) c.args.at ≡ Some c.in-Some.session.now = rw (slice_get-map, there) in
    let lies = lies_at_key c.in-Some.id.now c.args.at c.in-Some.session.now es c.as_slice.ensures.unique there in
    let found = lies.found ∙ unmarked_at es c.args.at _ value in
    rw (← c.self.view_is) (record {
      lies = lies;
      count = c.waiting.ensures ∙ ap (λ (s : Option SessionValue). length (waiting_in s)) (sym found);
    })
