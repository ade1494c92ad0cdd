use Rattle.coap_server_engine.proofs.values.ServerLemmas.{none_where_none, one_where_some}
use Rattle.coap_server_engine.proofs.server.sessions.search.Goals as goal

pub returns-clause-none : goal.returns-clause-none
returns-clause-none c = none_where_none _ _ _ c.get_index_of.ensures.found

pub returns-clause-some : goal.returns-clause-some
returns-clause-some c = let e = c.get_index_of.ensures in one_where_some _ _ _ e.unique e.index e.within e.value
