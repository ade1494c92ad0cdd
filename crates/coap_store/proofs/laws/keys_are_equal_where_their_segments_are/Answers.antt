use Rattle.coap_path.proofs.PathLemmas.{keys_equal}
use Rattle.coap_store.proofs.laws.keys_are_equal_where_their_segments_are.Goals as goal

pub returns : goal.returns
returns c = keys_equal
