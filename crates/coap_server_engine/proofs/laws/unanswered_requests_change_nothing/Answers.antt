use Rattle.std.proofs.Common.{◌≡◌}
use Rattle.coap_server_engine.proofs.values.ServingLemmas.{unanswered_is_alone}
use Rattle.coap_server_engine.proofs.laws.unanswered_requests_change_nothing.Goals as goal

pub returns : goal.returns
returns c v after id count bytes events part = unanswered_is_alone v after id count bytes (λ all. events ≡ all) part
