use Rattle.coap_model.proofs.world.AnsweredLaws.{pong_follows_answers}
use Rattle.coap_model.proofs.laws.a_pong_with_custody_follows_all_answers.Goals as goal

pub returns : goal.returns
returns c = pong_follows_answers
