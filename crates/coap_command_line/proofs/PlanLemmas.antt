-- From the options that `clap` found to the plan.
use Rattle.std.proofs.Common.{◌≡◌, List, [], ◌∷◌, Result, refl}
use Rattle.coap_command_line.specs.Prelude.{Kinds, Row, WordsFaultValue, IsTurnedDown, WordsFault}
use Rattle.coap_command_line.specs.CommandLines.{unless_refused}
use Rattle.coap_command_line.specs.declared.arguments.WordsFault.TheVariants as faults
use Rattle.coap_command_line.specs.PlanViews.{IsRefused}

-- The result for arguments that `clap` accepts.
pub accepted : {A : Type 0} (kinds : Kinds) (rows found : List Row) (read : List Row → Result A WordsFaultValue)
    → kinds ≡ [] → rows ≡ found → read rows ≡ unless_refused kinds (read found)
accepted kinds rows found read none is = rw (none, is) refl

pub turned_down : {A : Type 0} (kinds : Kinds) (answer : Result A WordsFaultValue) (fault : WordsFault)
    → IsTurnedDown kinds fault → IsRefused (unless_refused kinds answer) fault
turned_down [] answer (faults.Usage error) h = absurd h
turned_down (kind ∷ kinds) answer (faults.Usage error) h = (kind ∷ kinds, refl, h)
turned_down kinds answer (faults.Target refusal) h = absurd h
turned_down kinds answer (faults.Value name) h = absurd h
turned_down kinds answer faults.Clash h = absurd h
turned_down kinds answer faults.Memory h = tt
