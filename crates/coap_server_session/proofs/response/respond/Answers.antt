use Rattle.std.proofs.Common.{◌≡◌, append_assoc}
use Rattle.coap_server_session.specs.Prelude.{Message, response_with_observe}
use Rattle.coap_server_session.proofs.response.respond.Goals as goal

pub returns : goal.returns
returns c =
    let whole : Message = c.payload-2.new.self in
    let built : whole ≡ response_with_observe c.args.token.now c.args.observes c.args.plan.now.response = rw (
      c.payload-2.ensures,
      c.payload.ensures,
      c.add_number-3.ensures.added,
      c.size1.ensures,
      c.add_number-2.ensures.added,
      c.max_age.ensures,
      c.add_number.ensures.added,
      c.wide.ensures,
      c.format.ensures,
      c.add_observe.ensures.added,
      c.add_etag.ensures.added,
      c.etag_number.ensures,
      c.new-response.ensures,
      c.copy.ensures.token,
      c.code.ensures,
      c.requires.located,
    ) (simp append_assoc) in
    record { reply = rw built at c.reply_compact.ensures.reply; after = rw built at c.reply_compact.ensures.after }
