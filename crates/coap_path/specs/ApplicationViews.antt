-- Defined by this project: the model value and the invariant of the type `Applications`.
use Rattle.std.specs.Prelude.{◌≤◌}
use Rattle.std.specs.Vec.{vec_capacity}
use Rattle.coap_path.specs.Applications.{ApplicationsValue}
use Rattle.coap_path.specs.Invariant.{AreEntries}
use Rattle.coap_path.specs.declared.applications.Applications.TheInside.{Inside}

abbrev pub applications_value : Inside → ApplicationsValue
applications_value a = record { deadline = a.deadline; entries = a.entries.items }

-- The invariant: the entries are valid, there is memory for 16 of them, and the deadline is at least one second.
pub record IsApplications (a : Inside) : Type 0 where
  pub entries : AreEntries a.entries.items
  pub reserved : 16 ≤ vec_capacity a.entries
  pub deadline : 1 ≤ a.deadline
