use Rattle.coap_wire.proofs.SpellingLaws.{spelled_as}
use Rattle.coap_conn.proofs.link.Link.respond.Goals as goal

pub respond_with-requires : goal.respond_with-requires
respond_with-requires c = spelled_as c.args.response.now c.in-Ok.message c.in-Ok.ensures.found
