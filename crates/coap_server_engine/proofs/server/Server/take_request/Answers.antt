use Rattle.std.proofs.Common.{◌≡◌, None, refl}
use Rattle.coap_server_engine.specs.Prelude.{session_of}
use Rattle.coap_model.specs.declared.answers.TakeFault.TheVariants as taking
use Rattle.coap_server_engine.proofs.server.Server.take_request.Goals as goal
use Rattle.coap_server_engine.proofs.world.RefusedLaws.{refused_for}

-- No connection has this id.
pub returns-in_default : goal.returns-in_default
returns-in_default c =
    let none : session_of c.args.id c.args.self.now.sessions ≡ None = rw (← c.self.view_is) c.in_default.ensures.none in
    assumption (
      none,
      refused_for taking.NoSuch c.args.self.now c.args.self.now c.args.id c.args.piece.now
          (none, refl),
    )
