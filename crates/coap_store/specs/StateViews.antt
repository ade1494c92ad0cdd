-- Defined by this project: the type `State` as a value of the model.
use Rattle.std.specs.Prelude.{Option, Some, None}
use Rattle.coap_store.specs.Store.{Representation}
use Rattle.coap_store.specs.declared.states.State.{State}
use Rattle.coap_store.specs.declared.states.State.TheVariants.{Absent, Present}

-- The representation, if there is one.
abbrev pub state_value : State → Option Representation
state_value Absent = None
state_value (Present representation) = Some representation
