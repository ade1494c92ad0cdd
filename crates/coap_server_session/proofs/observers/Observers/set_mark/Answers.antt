use Rattle.std.proofs.Common.{arith, ◌<◌, None, map, ap, length}
use Rattle.std.proofs.Math.Seq.{map-set_same}
use Rattle.std.proofs.lemmas.List.{length-set, length-map, map-set}
use Rattle.coap_server_session.specs.Prelude.{IsTagged, observer_value, mark_in, linked}
use Rattle.coap_server_session.specs.declared.observer.Observer.{Observer}
use Rattle.coap_server_session.proofs.values.FlagLemmas.{put_flagged}
use Rattle.coap_server_session.proofs.values.TagLemmas.{all_at, all_set, notified_value}
use Rattle.coap_server_session.proofs.observers.Observers.set_mark.Goals as goal

pub invariant_of-self : goal.invariant_of-self
invariant_of-self c =
    let items = c.self.inside.entries.items in
    let index = c.args.index in
    let old : Observer = c.index_mut-observer.result.now in
    let reported : Observer = record old { mark = c.args.mark; index = c.args.place; changed = None } in
    let within = rw (← c.self.view_is) at c.requires in
    let inside : index < length items = omega (arith, within, length-map items observer_value) in
    let tag = all_at IsTagged items index old c.self.invariant.tagged inside c.index_mut-observer.ensures.value in
    record {
      few = omega (arith, length-set items index reported, c.self.invariant.few);
      reserved = c.self.invariant.reserved;
      least = c.self.invariant.least;
      tagged =
          all_set IsTagged items index reported c.self.invariant.tagged
          (record { hash = tag.hash; of_time = tag.of_time });
      chained = rw (
        length-set items index reported,
        map-set_same linked items index reported old (ap linked c.index_mut-observer.ensures.value),
      ) c.self.invariant.chained;
      flagged =
          rw (map-set mark_in items index reported, c.put.ensures.value)
          (put_flagged c.self.inside.marked (map mark_in items) index None (omega (
            arith,
            within,
            length-map items observer_value,
            c.put.ensures.many,
            c.self.invariant.few,
            c.self.invariant.least,
          ))
          (omega (arith, within, length-map items observer_value, length-map items mark_in)) c.self.invariant.flagged);
    }

pub returns : goal.returns
returns c = λ o at.
    let items = c.self.inside.entries.items in
    let within = rw (← c.self.view_is) at c.requires in
    rw (← c.self.view_is)
    (notified_value c.self.inside.room items c.args.index c.args.mark c.args.place c.index_mut-observer.result.now o
    (omega (arith, within, length-map items observer_value)) c.index_mut-observer.ensures.value
    (rw (← c.self.view_is) at at))
