use Rattle.coap_server_polled.proofs.RunLemmas.{no_output_lost, others_report}
use Rattle.coap_server_polled.proofs.laws.no_output_is_lost.Goals as goal

pub returns : goal.returns
returns c = record { yielded = no_output_lost; others = others_report }
