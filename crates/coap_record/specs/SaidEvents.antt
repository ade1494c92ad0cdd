-- Defined by this project: the events of a script that the line of a call says.
use Rattle.std.specs.Prelude.{◌≡◌, ℕ, ◌<◌, ◌≤◌, ◌^◌, true, All, List, [], ◌∷◌, ◌++◌, length, Option, Some, None, Ok}
use Rattle.coap_wire.specs.Reading.{message_of}
use Rattle.coap_wire.specs.Spelling.{spelling}
use Rattle.coap_path.specs.Paths.{Path, is_path}
use Rattle.coap_script.specs.script.Events.{ScriptEventValue, Open, In, Drain, Tick, Put, Remove, End, Release, Respond}
use Rattle.coap_script.specs.script.Events.{Drop}
use Rattle.coap_model.specs.world.Events.{AcceptedCall, Opened, Took, Wrote, Ticked, Stored, Removed, Ended, Released}
use Rattle.coap_model.specs.world.Events.{Announced, Responded, Dropped}
use Rattle.coap_record.specs.RecordLines.{path_word}

-- The event of accepted bytes; none for no bytes.
abbrev pub took_events : ℕ → List ℕ → List ScriptEventValue
took_events id [] = []
took_events id (byte ∷ bytes) = In id (byte ∷ bytes) ∷ []

-- The events of a call: one, but none for accepted bytes if there are none, and none for an announced size.
unfoldable pub events_said : AcceptedCall → List ScriptEventValue
events_said (Opened id) = Open ∷ []
events_said (Took id bytes) = took_events id bytes
events_said (Wrote id count) = Drain id (Some count) ∷ []
events_said (Ticked now) = Tick now ∷ []
events_said (Stored path format bytes) = Put path format bytes ∷ []
events_said (Removed path) = Remove path (path_word path) ∷ []
events_said (Ended id) = End id ∷ []
events_said (Released id) = Release id ∷ []
events_said (Announced id size) = []
events_said (Responded id m) = Respond id (spelling m) ∷ []
events_said (Dropped id) = Drop id ∷ []

-- The events of calls, in order.
unfoldable pub all_events_said : List AcceptedCall → List ScriptEventValue
all_events_said [] = []
all_events_said (c ∷ cs) = events_said c ++ all_events_said cs

-- ---- calls whose values are those of the server's types

-- The number fits in 64 bits.
abbrev pub IsNumber : ℕ → Type 0
IsNumber n = n < 2 ^ 64

-- Each of these is a byte.
abbrev pub AreBytes : List ℕ → Type 0
AreBytes bytes = All (λ b. b < 256) bytes

-- A resource can have this path, and its segments are bytes.
abbrev pub IsPathOfBytes : Path → Type 0
IsPathOfBytes path = (is_path path ≡ true) × All AreBytes path

-- The format, if any, fits in 16 bits.
abbrev pub IsFormat : Option ℕ → Type 0
IsFormat None = Unit {0}
IsFormat (Some format) = format < 65536

-- The values of a call are in the range of their types.
unfoldable pub IsInRange : AcceptedCall → Type 0
IsInRange (Opened id) = IsNumber id
IsInRange (Took id bytes) = IsNumber id × AreBytes bytes
IsInRange (Wrote id count) = IsNumber id × IsNumber count
IsInRange (Ticked now) = IsNumber now
IsInRange (Stored path format bytes) = IsPathOfBytes path × (IsFormat format × AreBytes bytes)
IsInRange (Removed path) = IsPathOfBytes path
IsInRange (Ended id) = IsNumber id
IsInRange (Released id) = IsNumber id
IsInRange (Announced id size) = IsNumber id × IsNumber size
IsInRange (Responded id m) = IsNumber id × (AreBytes (spelling m) × (1 ≤ length (spelling m)))
IsInRange (Dropped id) = IsNumber id

-- The encoding of a response of the application is read back as the response.
abbrev pub IsReadBack : AcceptedCall → Type 0
IsReadBack (Responded id m) = message_of (spelling m) ≡ Ok m
IsReadBack c = Unit {0}

-- The values of a call are in range, and the encoding of a response is read back.
abbrev pub IsRecordable : AcceptedCall → Type 0
IsRecordable c = IsInRange c × IsReadBack c

-- The call announces no message size. So a script has an event for it.
abbrev pub AnnouncesNoSize : AcceptedCall → Type 0
AnnouncesNoSize (Announced id size) = ⊥
AnnouncesNoSize c = Unit {0}

-- A script can make this call again: it has an event for the call, and the encoding of a response is read back.
abbrev pub CanReplay : AcceptedCall → Type 0
CanReplay c = AnnouncesNoSize c × IsReadBack c
