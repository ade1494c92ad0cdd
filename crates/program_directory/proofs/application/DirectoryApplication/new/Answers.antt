use Rattle.program_directory.proofs.AnswerLemmas.{begun}
use Rattle.program_directory.proofs.application.DirectoryApplication.new.Goals as goal

pub returns : goal.returns
returns g c = record { begins = begun _ }
