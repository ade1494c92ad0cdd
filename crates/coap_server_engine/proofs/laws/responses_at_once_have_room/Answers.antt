use Rattle.coap_server_engine.proofs.world.AtOnceLaws.{at_once_refused, at_once_accepted, at_once_answered}
use Rattle.coap_server_engine.proofs.laws.responses_at_once_have_room.Goals as goal

pub returns : goal.returns
returns c = record {
  refused = λ v events id piece bytes m fault shows requested. at_once_refused v events id piece m shows requested bytes
      fault;
  accepted = λ v events id piece bytes m response shows early requested. at_once_accepted v events id piece m
      shows requested early bytes response;
  answered =
      λ v events id piece bytes m shows early requested. at_once_answered v events id piece m shows requested early
      bytes;
}
