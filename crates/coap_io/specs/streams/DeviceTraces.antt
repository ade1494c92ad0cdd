-- Defined by this project: the calls that devices record.
use Rattle.std.specs.Prelude.{◌≡◌, Bool, List, ◌++◌, Option, Some, None}
use Rattle.coap_io.specs.declared.wire.Wait.{Wait}

-- Holds if a device that records its calls has added these to its record, in order. Nothing is claimed of a device that
-- records none.
abbrev pub AddsCalls : {A : Type 0} → Option (List A) → Option (List A) → List A → Type 0
AddsCalls None new more = Unit {0}
AddsCalls (Some before) new more = new ≡ Some (before ++ more)

-- A call of a door: `next` handed out this wire or none, `wait` was called with these arguments, or `closed` took back
-- this wire.
pub data DoorCall (W : Type 0) : Type 0 where
  Requested : (handed : Option W) → DoorCall W
  Waited : (wait : Wait) (opens : Bool) → DoorCall W
  Closed : (wire : W) → DoorCall W
