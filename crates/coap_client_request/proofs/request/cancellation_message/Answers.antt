use Rattle.std.proofs.Common.{refl}
use Rattle.coap_client_request.specs.Prelude.{cancel_of}
use Rattle.coap_client_request.proofs.request.cancellation_message.Goals as goal

pub returns : goal.returns
unfolding cancel_of
returns c =
    rw (← c.has_long_extra.ensures, c.if-has_long_extra.false, c.built.ensures, c.as_slice.ensures.value)
    (rw c.all_options-options.ensures.value refl)
