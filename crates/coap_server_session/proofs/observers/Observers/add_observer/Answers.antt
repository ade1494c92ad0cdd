use Rattle.std.proofs.Common.{◌≡◌, length, map, None, ap, ◌∙◌, arith}
use Rattle.std.proofs.lemmas.List.{length-map, length_push, map_push}
use Rattle.coap_server_session.specs.Prelude.{observer_value, mark_in, IsTagged}
use Rattle.coap_server_session.proofs.values.ChainLemmas.{entered_chained}
use Rattle.coap_server_session.proofs.values.FlagLemmas.{entered_flagged}
use Rattle.coap_model.proofs.world.EntryLemmas.{all_append}
use Rattle.coap_server_session.proofs.observers.Observers.add_observer.Goals as goal

pub invariant_of-self : goal.invariant_of-self
invariant_of-self c =
    let items = c.self.inside.entries.items in
    let y = c.link.new.observer in
    let e = c.link.ensures in
    let room = rw (← c.self.view_is) at c.requires.room in
    let unmarked : mark_in y ≡ None = e.mark ∙ c.requires.unmarked in
    record {
      few = omega (
        arith,
        ap length c.push_reserved.ensures.items,
        length_push items y,
        length-map items observer_value,
        room,
      );
      reserved = omega (arith, c.push_reserved.ensures.capacity, c.self.invariant.reserved);
      least = c.self.invariant.least;
      tagged = rw c.push_reserved.ensures.items (all_append IsTagged items _ c.self.invariant.tagged (e.tagged, tt));
      chained =
          rw c.push_reserved.ensures.items (entered_chained items c.args.observer y c.self.invariant.chained e.value
          e.previous (rw (c.len.ensures, c.self.inside.entries.ok.0) at e.last));
      flagged = rw (c.push_reserved.ensures.items, map_push mark_in items y, unmarked)
          (entered_flagged c.self.inside.marked (map mark_in items) c.self.invariant.flagged);
    }
