use Rattle.std.proofs.Common.{[], refl}
use Rattle.coap_conn.specs.Prelude.{answers}
use Rattle.coap_conn.proofs.FirstLaws.{first_stays, guarded_first, call_first}
use Rattle.coap_conn.proofs.laws.own_announcement_comes_first.Goals as goal

pub returns : goal.returns
returns c = record {
  new = λ role limits tokens. ([], refl);
  call = call_first;
  sent = λ h m less first. guarded_first (answers h.phase) h _ (first_stays h _ first) first;
}
