use Rattle.std.proofs.lemmas.List.{append-nil}
use Rattle.coap_server_session.proofs.response.respond_code.Goals as goal

pub returns : goal.returns
returns g c =
    rw (c.reply_compact.ensures.after, c.add_location.ensures.added, c.new-response.ensures, c.copy.ensures.token)
    (simp append-nil)
