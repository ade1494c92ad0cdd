use Rattle.directory_core.proofs.LookupLemmas.{endpoints_written, resources_written}
use Rattle.directory_core.proofs.laws.lookups_are_in_link_format.Goals as goal

pub returns-clause-endpoints : goal.returns-clause-endpoints
returns-clause-endpoints c = endpoints_written

pub returns-clause-resources : goal.returns-clause-resources
returns-clause-resources c = resources_written
