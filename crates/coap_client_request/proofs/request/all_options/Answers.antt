use Rattle.std.proofs.Common.{ap}
use Rattle.coap_client_request.specs.Prelude.{option_map, given_option, extras_value}
use Rattle.coap_client_request.proofs.RequestLemmas.{short_extra}
use Rattle.coap_client_request.proofs.request.all_options.Goals as goal

pub insert-requires-clause-short : goal.insert-requires-clause-short
insert-requires-clause-short c =
    short_extra (extras_value c.args.extras.now) (record { number = c.in-Some.number; value = c.in-Some.value.now })
    (ap (option_map given_option) c.in-Some.is) c.requires.short
