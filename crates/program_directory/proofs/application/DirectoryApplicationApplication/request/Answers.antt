use Rattle.std.proofs.Common.{◌∙◌, arith}
use Rattle.coap_server_engine.specs.values.Exchanges.{AnswersMore}
use Rattle.program_directory.proofs.AnswerLemmas.{answered, response_alone}
use Rattle.program_directory.proofs.application.DirectoryApplicationApplication.request.Goals as goal

pub returns : goal.returns
unfolding AnswersMore
returns g c =
    let made = c.answer.ensures.answered in
    let token = c.to_token-token.ensures ∙ c.token.ensures in
    let is = response_alone _ _ _ _ _ c.args.request.now _ made.0 _ _ token c.requires.empty made.1 made.2 in
    record {
      follows = λ earlier all. answered _ earlier _ _ _ _ _ _ _ is all;
      answered = is;
      capacity = omega (arith, c.answer.ensures.capacity);
    }
