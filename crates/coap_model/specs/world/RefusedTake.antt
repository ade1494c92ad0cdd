-- Defined by this project: the messages for which allocation may fail, determined from the events before the call.
use Rattle.std.specs.Prelude.{◌≡◌, ℕ, ◌+◌, List, [], ◌∷◌, take, None}
use Rattle.std.specs.List.{AllByRecursion}
use Rattle.coap_wire.specs.Message.{Message}
use Rattle.coap_store.specs.Changes.{IsPut}
use Rattle.coap_model.specs.Configs.{ConfigValues}
use Rattle.coap_model.specs.world.World.{side_of, Handled}
use Rattle.coap_model.specs.world.Events.{AcceptedCall, Took, steps_by, takes, world_after}
use Rattle.coap_model.specs.world.View.{change_made, change_by}
use Rattle.coap_model.specs.declared.answers.TakeFault.{TakeFault}
use Rattle.coap_model.specs.declared.answers.TakeFault.TheVariants as fault

-- Allocation failed for a message after `bytes` bytes of an input slice were accepted: all that `take` would accept but
-- one. They make no step. With the next byte, the message is complete and stores a representation.
pub record IsRefusedStored (c : ConfigValues) (events : List AcceptedCall) (id : ℕ) (piece : List ℕ)
    (bytes : ℕ) : Type 0 where
  pub last : bytes + 1 ≡ takes c events id piece
  pub quiet : steps_by c.limits.max_message events (Took id (take bytes piece)) ≡ []
  pub message : Message
  pub ends : steps_by c.limits.max_message events (Took id (take (bytes + 1) piece)) ≡ Handled id message ∷ []
  pub stores : IsPut (change_made (world_after c events) id message)

-- The condition that an error of `take` guarantees: no connection has the id, or allocation failed for a message that
-- stores a representation.
abbrev pub IsRefusedFor : ConfigValues → List AcceptedCall → ℕ → List ℕ → TakeFault → Type 0
IsRefusedFor c events id piece fault.NoSuch = side_of id (world_after c events).sides ≡ None
IsRefusedFor c events id piece (fault.Memory bytes) = IsRefusedStored c events id piece bytes

-- No message that `take` would handle of an input slice stores a representation.
abbrev pub StoresNothing : ConfigValues → List AcceptedCall → ℕ → List ℕ → Type 0
StoresNothing c events id piece =
    AllByRecursion (λ s. IsPut (change_by (world_after c events) s) → ⊥)
    (steps_by c.limits.max_message events (Took id (take (takes c events id piece) piece)))
