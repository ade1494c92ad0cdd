use Rattle.coap_server_engine.specs.values.Exchanges.{AnswersMore}
use Rattle.program_directory.specs.Answers.{ResultGiven}
use Rattle.program_directory.proofs.application.DirectoryApplicationApplication.responded.Goals as goal

pub returns : goal.returns
unfolding AnswersMore
returns g c = λ earlier all. ResultGiven earlier _ _ _ all
