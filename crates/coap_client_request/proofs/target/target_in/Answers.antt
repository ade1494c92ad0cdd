use Rattle.coap_client_request.specs.Prelude.{named_value}
use Rattle.coap_client_request.proofs.TargetLemmas.{form_has_host, named_is_target}
use Rattle.coap_client_request.proofs.target.target_in.Goals as goal

pub named_by-requires : goal.named_by-requires
named_by-requires c = form_has_host c.args.url.now (cc)

pub invariant_of-result : goal.invariant_of-result
invariant_of-result c = named_is_target (named_value c.in_ok-named.named) (cc) (cc) c.in_ok-named.ensures.some
