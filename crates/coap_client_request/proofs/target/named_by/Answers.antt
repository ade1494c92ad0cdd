use Rattle.coap_client_request.proofs.TargetLemmas.{some_host}
use Rattle.coap_client_request.proofs.target.named_by.Goals as goal

pub returns-clause-some : goal.returns-clause-some
returns-clause-some c =
    rw (c.in_ok-host_bytes.ensures, c.host_in-host.ensures) (some_host _ c.requires c.path.ensures.valid)
