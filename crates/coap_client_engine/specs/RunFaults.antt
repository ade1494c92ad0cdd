-- Defined by this project: the results of a run of a client.
use Rattle.std.specs.Prelude.{◌≡◌, ◌==◌, ◌||◌, ℕ, Bool, true, false, Result, Ok, Err}
use Rattle.coap_client_engine.specs.declared.run.state.ClientFault.{ClientFault}
use Rattle.coap_client_engine.specs.declared.run.state.ClientFault.TheVariants.{Output, Memory}
use Rattle.coap_client_engine.specs.declared.run.state.EventOutcome.{EventOutcome}
use Rattle.coap_client_engine.specs.declared.run.state.EventOutcome.TheVariants.{Nothing, Notified, Ended}

-- Says that a number is an exit status of a run. Status 1 is that of an invalid command line.
abbrev pub IsStatus : ℕ → Type 0
IsStatus status = (status == 0 || status == 2 || status == 3 || status == 4) ≡ true

-- True if the run ended because an outlet failed.
abbrev pub is_output_fault : {T : Type 0} → Result T ClientFault → Bool
is_output_fault (Ok x) = false
is_output_fault (Err Output) = true
is_output_fault (Err Memory) = false

-- Says that `P` holds if the run ended because allocation failed.
abbrev pub IfMemory : {T : Type 0} → Result T ClientFault → Type 0 → Type 0
IfMemory (Ok x) P = Unit {0}
IfMemory (Err Output) P = Unit {0}
IfMemory (Err Memory) P = P

-- Says that an event that ends the run gives an exit status.
abbrev pub EndsWithStatus : EventOutcome → Type 0
EndsWithStatus Nothing = Unit {0}
EndsWithStatus Notified = Unit {0}
EndsWithStatus (Ended status) = IsStatus status
