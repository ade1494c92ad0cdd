use Rattle.std.proofs.Common.{refl}
use Rattle.coap_wire.proofs.SpellingLaws.{spelled_as}
use Rattle.coap_record.proofs.WriteLemmas.{none_encoded, none_read_back, some_encoded}
use Rattle.coap_record.proofs.lines.response_of.Goals as goal

pub returns-in-Ok-clause-encoded : goal.returns-in-Ok-clause-encoded
returns-in-Ok-clause-encoded c = rw (← c.in-Ok.ensures.exact) (spelled_as _ _ c.in-Ok.ensures.found)

pub returns-in-Ok-clause-some : goal.returns-in-Ok-clause-some
returns-in-Ok-clause-some c = some_encoded _ _ (spelled_as _ _ c.in-Ok.ensures.found)

pub returns-in-Err-clause-encoded : goal.returns-in-Err-clause-encoded
returns-in-Err-clause-encoded c = rw (← c.in-Err.ensures.exact) none_encoded

pub returns-in-Ok-clause-read_back : goal.returns-in-Ok-clause-read_back
returns-in-Ok-clause-read_back c = rw (← c.in-Ok.ensures.exact) refl

pub returns-in-Err-clause-read_back : goal.returns-in-Err-clause-read_back
returns-in-Err-clause-read_back c = rw (← c.in-Err.ensures.exact) none_read_back
