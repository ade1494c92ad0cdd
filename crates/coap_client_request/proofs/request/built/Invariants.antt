use Rattle.std.proofs.Common.{◌≡◌, [], take}
use Rattle.coap_client_request.specs.Prelude.{coap_options}
use Rattle.coap_client_request.proofs.request.built.Given as goal

-- The options so far are in the message.
abbrev pub invariant-loop-option : goal.invariant-loop-option
invariant-loop-option l =
    l.message
    ≡ record { code = l.fn.code; token = []; options = coap_options (take l.option-index l.options); payload = [] }
