use Rattle.std.proofs.Common.{rules}
use Rattle.coap_conn.proofs.LinkLemmas.{new_shown}
use Rattle.coap_conn.proofs.link.Link.open.Goals as goal

pub returns-clause-shows : goal.returns-clause-shows
returns-clause-shows c = new_shown c.args.role c.args.limits c.args.tokens_from _ (search rules)
