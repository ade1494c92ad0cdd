use Rattle.coap_server_engine.specs.values.Exchanges.{AnswersMore}
use Rattle.program_directory.specs.Answers.{ConnectionGone}
use Rattle.program_directory.proofs.application.DirectoryApplicationApplication.gone.Goals as goal

pub returns : goal.returns
unfolding AnswersMore
returns g c = λ earlier all. ConnectionGone earlier _ _ all
