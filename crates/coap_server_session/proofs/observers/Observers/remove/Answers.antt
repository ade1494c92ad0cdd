use Rattle.std.proofs.Common.{refl}
use Rattle.indexmap.proofs.SetLemmas.{map-remove}
use Rattle.coap_server_session.specs.Prelude.{observer_value, mark_in}
use Rattle.coap_server_session.proofs.observers.Observers.remove.Goals as goal

pub returns : goal.returns
returns c =
    let items = c.self.inside.entries.items in
    let e = c.find_anew.ensures in
    rw (
      ← c.self.view_is,
      e.entries,
      e.marks,
      c.remove.ensures.items,
      map-remove observer_value items c.args.index,
      map-remove mark_in items c.args.index,
    ) refl
