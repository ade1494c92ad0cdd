use Rattle.std.proofs.Common.{refl}
use Rattle.coap_conn.proofs.AnnounceLaws.{announced_after, own_stays}
use Rattle.coap_conn.proofs.laws.own_size_is_announced.Goals as goal

pub returns : goal.returns
returns c = record {
  new = λ role limits tokens. refl;
  announced = announced_after;
  others = own_stays;
}
