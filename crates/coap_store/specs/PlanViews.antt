-- Defined by this project: the types of plans as values of the model.
use Rattle.std.specs.Prelude.{decimal, ◌≡◌, ◌≢◌, ℕ, Bool, true, false, List, [], Option, Some, None}
use Rattle.coap_path.specs.Paths.{Path, is_path}
use Rattle.coap_path.specs.UriPaths.{body_path}
use Rattle.coap_store.specs.Answer as answer
use Rattle.coap_store.specs.declared.found.Payload.{Payload}
use Rattle.coap_store.specs.declared.found.Payload.TheVariants.{Stored, Decimal}
use Rattle.coap_store.specs.declared.plan.Change.{Change}
use Rattle.coap_store.specs.declared.plan.Change.TheVariants as changes
use Rattle.coap_store.specs.declared.plan.PlannedChange.{PlannedChange}
use Rattle.coap_store.specs.declared.plan.PlannedChange.TheVariants as planned

-- The bytes, which are borrowed or computed.
abbrev pub bytes_in : Payload → List ℕ
bytes_in (Stored bytes) = bytes.now
bytes_in (Decimal number) = decimal number

-- The bytes are the text of the payload, if it is a number.
abbrev pub IsTextOf : Payload → List ℕ → Type 0
IsTextOf (Stored bytes) text = Unit {0}
IsTextOf (Decimal number) text = text ≡ decimal number

-- The model value of a change.
abbrev pub change_value : Change → answer.Change
change_value changes.Nothing = answer.Nothing
change_value (changes.Put path format bytes) = answer.Put path format bytes.now
change_value (changes.Delete path) = answer.Delete path

-- The model value of a change, whose path is in the options of the request.
abbrev pub planned_value : PlannedChange → answer.Change
planned_value planned.Nothing = answer.Nothing
planned_value (planned.Put body format bytes) = answer.Put (body_path body) format bytes.now
planned_value (planned.Delete body) = answer.Delete (body_path body)

-- A resource can have that path.
abbrev pub IsAtPath : PlannedChange → Type 0
IsAtPath planned.Nothing = Unit {0}
IsAtPath (planned.Put body format bytes) = is_path (body_path body) ≡ true
IsAtPath (planned.Delete body) = is_path (body_path body) ≡ true

-- With the flag, the path of a stored representation is not the root.
abbrev pub IsNamedPath : Bool → PlannedChange → Type 0
IsNamedPath false change = Unit {0}
IsNamedPath true planned.Nothing = Unit {0}
IsNamedPath true (planned.Put body format bytes) = body_path body ≢ []
IsNamedPath true (planned.Delete body) = Unit {0}

-- The path, or the root if there is none.
abbrev pub path_or_root : Option Path → Path
path_or_root None = []
path_or_root (Some path) = path

-- The path of a stored representation, if the flag is true.
abbrev pub location_in : Bool → answer.Change → Path
location_in false change = []
location_in true answer.Nothing = []
location_in true (answer.Put path format bytes) = path
location_in true (answer.Delete path) = []
