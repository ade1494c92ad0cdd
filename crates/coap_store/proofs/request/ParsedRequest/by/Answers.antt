use Rattle.std.proofs.Common.{sym, subst}
use Rattle.coap_store.specs.Prelude.{AreOptionsOf}
use Rattle.coap_store.proofs.OptionScanLemmas as noting
use Rattle.coap_store.proofs.request.ParsedRequest.by.Goals as goal

pub invariant_of-result : goal.invariant_of-result
invariant_of-result c = record {
  known =
      subst (λ n. AreOptionsOf c.args.request.now n) (sym c.scan_options-has_bad_option.ensures.known)
      (noting.scan_options c.args.request.now);
  bad = c.scan_options-has_bad_option.ensures.bad;
}
