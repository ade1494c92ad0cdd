use Rattle.std.proofs.Common.{sym, arith, ap, ◌∙◌}
use Rattle.coap_server_engine.proofs.values.ServerLemmas.{is_there_at}
use Rattle.coap_serve.specs.Prelude.{session_of}
use Rattle.coap_serve.proofs.listener.ServingLemmas.{work_left}
use Rattle.coap_serve.proofs.listener.RoundLemmas.{found_there}
use Rattle.coap_serve.proofs.listener.SleepLemmas.{none_asleep, paired_left}
use Rattle.coap_serve.proofs.listener.ConfigLemmas.{keeps_room}
use Rattle.coap_serve.proofs.door.service.Service.drop_conn.Goals as goal

pub accepted-requires : goal.accepted-requires
accepted-requires g c =
    let sessions = c.args.self.now.server.sessions in
    work_left _ (session_of _ sessions) (sym (is_there_at c.args.id _ sessions c.in-Some.ensures.at))

pub unreachable-requires-in_default-shift_remove : goal.unreachable-requires-in_default-shift_remove
unreachable-requires-in_default-shift_remove g c =
    found_there c.args.id _ c.args.self.now.paired c.in-Some.ensures.at
    (sym c.shift_remove.ensures.value ∙ c.in_default-shift_remove.is)

pub invariant_of-self : goal.invariant_of-self
invariant_of-self g c = record {
  paired = paired_left c.args.self.now.paired _ _ c.drop_conn.ensures.settled
      c.in-Some.ensures.at c.in-Ok.ensures.ok c.shift_remove.ensures.entries c.shift_remove.ensures.unique;
  room = keeps_room (ap (λ v. v.config) c.in-Ok.ensures.ok) (omega arith) c.args.self.now.room;
  asleep = λ ready. none_asleep c.wake_all.ensures;
}
