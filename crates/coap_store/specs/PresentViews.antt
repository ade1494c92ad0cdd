-- Defined by this project: the model value and the invariant of the type `Present`.
use Rattle.coap_store.specs.Store.{Representation}
use Rattle.coap_store.specs.PlanViews.{IsTextOf}
use Rattle.coap_store.specs.RequestTargetViews.{found_value}
use Rattle.coap_store.specs.declared.states.Present.TheInside.{Inside}

abbrev pub present_value : Inside → Representation
present_value p = found_value p.found

-- The text is that of the bytes.
abbrev pub is_present : Inside → Type 0
is_present p = IsTextOf p.found.bytes p.text.items
