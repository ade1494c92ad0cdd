-- Defined by this project: the model value and the invariant of the type `ApplicationEntry`.
use Rattle.coap_path.specs.Applications.{ApplicationEntryValue}
use Rattle.coap_path.specs.Invariant.{IsEntry}
use Rattle.coap_path.specs.declared.entry.ApplicationEntry.TheInside.{Inside}

abbrev pub entry_value : Inside → ApplicationEntryValue
entry_value e = record { prefix = e.prefix; methods = e.methods.items; attributes = e.attributes.items }

abbrev pub is_entry : Inside → Type 0
is_entry e = IsEntry (entry_value e)
