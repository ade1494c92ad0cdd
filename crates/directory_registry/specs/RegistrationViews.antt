-- Defined by this project: the values that contracts see for the types of this crate.
use Rattle.std.specs.Prelude.{List, map}
use Rattle.directory_registry.specs.Registrations.{RegistrationValue}
use Rattle.directory_registry.specs.Matching.{CriterionValue}
use Rattle.directory_registry.specs.declared.criterion.Criterion.{Criterion}
use Rattle.directory_registry.specs.declared.registration.Registration.{Registration}

-- The criterion that contracts see for a borrowed one.
abbrev pub criterion_of : Criterion → CriterionValue
criterion_of c = record { name = c.name.now; pattern = c.pattern.now }

-- The same for a list of criteria.
abbrev pub criteria_of : List Criterion → List CriterionValue
criteria_of criteria = map criterion_of criteria

-- The registration that contracts see.
abbrev pub registration_of : Registration → RegistrationValue
registration_of r = record {
  number = r.number;
  lifetime = r.lifetime;
  deadline = r.deadline;
  base = r.base.items;
  attributes = r.attributes;
  links = r.links;
}
