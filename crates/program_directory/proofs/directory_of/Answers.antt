use Rattle.coap_wire.specs.declared.sizes.TheConstants.{LARGEST_SENT_MESSAGE}
use Rattle.program_directory.proofs.directory_of.Goals as goal

pub returns : goal.returns
returns g c = c.new-2.ensures.begins c.args.plan.now.registrations LARGEST_SENT_MESSAGE c.in_ok-directory.ensures
