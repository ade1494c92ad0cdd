use Rattle.coap_serve.specs.Prelude.{Resting, Silent, AddsCalls, Unlimited, clock_and_door, environment, plain_config}
use Rattle.coap_serve.specs.Prelude.{some_waits, views_of}
use Rattle.coap_serve.proofs.listener.RunLemmas.{is_plain, run_too}
use Rattle.coap_serve.proofs.door.serve_door.Goals as goal

pub returns-clause-run : goal.returns-clause-run
returns-clause-run g c =
    run_too (environment Silent Resting (some_waits Unlimited) (views_of _ _ _ _ _ _)) (plain_config _) _
    (clock_and_door (AddsCalls _ _) (AddsCalls _ _)) (λ l is. is) (λ l is. tt) (λ h is. is.called) _
    (rw (is_plain c.args.config c.new-config.ensures) at c.run.ensures.run)
