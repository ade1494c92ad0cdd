use Rattle.std.proofs.Common.{false, arith, sym, ◌∙◌}
use Rattle.std.proofs.lemmas.Bool.{true≢false}
use Rattle.coap_server_session.proofs.values.FlagLemmas.{all_default}
use Rattle.coap_server_session.proofs.flags.Flags.new.Goals as goal

pub invariant_of-result : goal.invariant_of-result
invariant_of-result c = record {
  within = omega arith;
  before = λ i low high. all_default 256 i false;
  end = omega arith;
  after = λ i low high. all_default 256 i false;
  blocks = λ i set. absurd (true≢false (sym set ∙ all_default 256 i false));
}

pub returns : goal.returns
returns c = λ i. all_default 256 i false
