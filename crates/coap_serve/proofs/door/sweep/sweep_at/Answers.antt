use Rattle.std.proofs.Common.{arith, refl, sym, ◌∙◌}
use Rattle.coap_server_engine.proofs.values.WorkLemmas.{keeps_others}
use Rattle.coap_serve.specs.Prelude.{loop_state, released_at, session_released}
use Rattle.coap_serve.specs.declared.door.silence.SilenceAction.TheVariants.{Keep, Release, Drop}
use Rattle.coap_serve.proofs.listener.ServingLemmas.{calls_known}
use Rattle.coap_serve.proofs.listener.RoundLemmas.{acted_here, as_many_recorded, kept_here, paired_released}
use Rattle.coap_serve.proofs.listener.RoundLemmas.{released_here}
use Rattle.coap_serve.proofs.door.sweep.sweep_at.Goals as goal

pub returns-in_default-status-clause-part : goal.returns-in_default-status-clause-part
returns-in_default-status-clause-part g c =
    let there = sym c.in-Some.ensures.entry in
    acted_here _ _ {s = loop_state c.args.server.now c.args.peers.now.entries} Keep there
    (rw (← c.status.ensures, c.in_default-status.is) refl) refl (kept_here there)

pub returns-in-Keep-clause-part : goal.returns-in-Keep-clause-part
returns-in-Keep-clause-part g c =
    let there = sym c.in-Some.ensures.entry in
    acted_here _ _ {s = loop_state c.args.server.now c.args.peers.now.entries} Keep there
    (rw (← c.status.ensures, c.in-Some-status.is) (sym c.in-Keep.is ∙ c.silence_action.ensures)) refl (kept_here there)

-- The connection was released.
pub returns-in-Ok-clause-part : goal.returns-in-Ok-clause-part
returns-in-Ok-clause-part g c =
    let there = sym c.in-Some.ensures.entry in
    acted_here _ _ Release there
    (rw (← c.status.ensures, c.in-Some-status.is) (sym c.in-Release.is ∙ c.silence_action.ensures))
    (sym c.in-Ok.ensures.answer)
    (released_here _ _ there c.in-Ok.ensures.ok (rw there at c.release_at.ensures) (record {
      shows = c.in-Ok.ensures.shows;
      known = calls_known c.accepted.ensures;
    }))

pub returns-in-Ok-clause-paired : goal.returns-in-Ok-clause-paired
returns-in-Ok-clause-paired g c =
    let keeps = keeps_others c.args.server.now _ session_released c.release.ensures.settled in
    paired_released _ _ (rw c.in-Ok.ensures.ok keeps.keys) c.requires.there c.release_at.ensures c.requires.paired

pub returns-in-Ok-clause-within : goal.returns-in-Ok-clause-within
returns-in-Ok-clause-within g c =
    omega (
      arith,
      c.requires.there,
      as_many_recorded (λ e. released_at c.args.limit.now e.1) _
          _ _ c.requires.there c.release_at.ensures,
    )

pub returns-in-Ok-clause-fewer : goal.returns-in-Ok-clause-fewer
returns-in-Ok-clause-fewer g c =
    omega (
      arith,
      c.requires.there,
      as_many_recorded (λ e. released_at c.args.limit.now e.1) _
          _ _ c.requires.there c.release_at.ensures,
    )

-- The release was refused, and the connection was dropped.
pub returns-in_default-release-clause-part : goal.returns-in_default-release-clause-part
returns-in_default-release-clause-part g c =
    let there = sym c.in-Some.ensures.entry in
    acted_here _ _ Release there
    (rw (← c.status.ensures, c.in-Some-status.is) (sym c.in-Release.is ∙ c.silence_action.ensures))
    (sym c.in_default-release.ensures.answer) (rw (there, c.in_default-release.ensures.err) at c.drop_at.ensures.part)

pub returns-in-Drop-clause-part : goal.returns-in-Drop-clause-part
returns-in-Drop-clause-part g c =
    let there = sym c.in-Some.ensures.entry in
    acted_here _ _ Drop there
    (rw (← c.status.ensures, c.in-Some-status.is) (sym c.in-Drop.is ∙ c.silence_action.ensures)) refl
    (rw there at c.drop_at-in-Drop.ensures.part)
