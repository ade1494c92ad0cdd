use Rattle.std.proofs.Common.{◌+◌, refl}
use Rattle.coap_conn.proofs.OutstandingLaws.{tokens_differ, token_left, tokens_stay}
use Rattle.coap_wire.proofs.UintLaws.{eight_bytes_at_most}
use Rattle.coap_conn.proofs.laws.tokens_are_new.Goals as goal

pub returns : goal.returns
returns c = record {
  different = tokens_differ;
  requested = token_left;
  given = λ h m e none. rw none refl;
  others = tokens_stay;
  short = λ n. eight_bytes_at_most (n + 1);
}
