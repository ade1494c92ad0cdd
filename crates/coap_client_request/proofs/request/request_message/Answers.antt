use Rattle.std.proofs.Common.{refl}
use Rattle.coap_client_request.specs.Prelude.{extras_value, request_of}
use Rattle.coap_client_request.proofs.RequestLemmas.{short_extras, payload_taken}
use Rattle.coap_client_request.proofs.request.request_message.Goals as goal

pub all_options-options-requires-clause-short : goal.all_options-options-requires-clause-short
all_options-options-requires-clause-short c = (short_extras (extras_value c.args.extras.now) cc).extra

pub unreachable-requires : goal.unreachable-requires
unreachable-requires c =
    payload_taken _ _ (short_extras (extras_value c.args.extras.now) cc).payload c.in_default.ensures.answer

pub returns : goal.returns
unfolding request_of
returns c =
    rw (← c.is_too_long.ensures, c.if-is_too_long.false, c.in-Ok.ensures.ok, c.built-request.ensures, c.code_of.ensures)
    (rw (c.as_slice.ensures.value, c.all_options-options.ensures.value, c.observe_sent.ensures.value) refl)
